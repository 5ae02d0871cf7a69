use Rattle.class_rules.specs.declared.class.Class.{Class}
use Rattle.accrual.proofs.rows.Rows.all_ended.Goals as goal

pub ended-requires-clause-before : goal.ended-requires-clause-before
ended-requires-clause-before c = c.requires.before Class.Standard

pub ended-requires-2-clause-before : goal.ended-requires-2-clause-before
ended-requires-2-clause-before c = c.requires.before Class.StandardIa

pub ended-requires-3-clause-before : goal.ended-requires-3-clause-before
ended-requires-3-clause-before c = c.requires.before Class.OnezoneIa

pub ended-requires-4-clause-before : goal.ended-requires-4-clause-before
ended-requires-4-clause-before c = c.requires.before Class.GlacierIr

pub ended-requires-5-clause-before : goal.ended-requires-5-clause-before
ended-requires-5-clause-before c = c.requires.before Class.Glacier

pub ended-requires-6-clause-before : goal.ended-requires-6-clause-before
ended-requires-6-clause-before c = c.requires.before Class.DeepArchive
