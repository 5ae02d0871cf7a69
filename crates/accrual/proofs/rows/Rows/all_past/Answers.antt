use Rattle.class_rules.specs.declared.class.Class.{Class}
use Rattle.accrual.proofs.rows.Rows.all_past.Goals as goal

pub past-requires-clause-before : goal.past-requires-clause-before
past-requires-clause-before c = c.requires.before Class.Standard

pub past-requires-2-clause-before : goal.past-requires-2-clause-before
past-requires-2-clause-before c = c.requires.before Class.StandardIa

pub past-requires-3-clause-before : goal.past-requires-3-clause-before
past-requires-3-clause-before c = c.requires.before Class.OnezoneIa

pub past-requires-4-clause-before : goal.past-requires-4-clause-before
past-requires-4-clause-before c = c.requires.before Class.GlacierIr

pub past-requires-5-clause-before : goal.past-requires-5-clause-before
past-requires-5-clause-before c = c.requires.before Class.Glacier

pub past-requires-6-clause-before : goal.past-requires-6-clause-before
past-requires-6-clause-before c = c.requires.before Class.DeepArchive
