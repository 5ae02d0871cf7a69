use Rattle.std.proofs.Common.{◌++◌, ◌∷◌, [], ℕ, subst, arith}
use Rattle.disk_core.proofs.Time.{started}
use Rattle.entry_codec.proofs.Sizes.{entry_small}
use Rattle.meter_journal.specs.History.{IsAtRest, IsNoLonger}
use Rattle.meter_journal.proofs.journal.Journal.append.Goals as goal

pub commit-requires-clause-size : goal.commit-requires-clause-size
commit-requires-clause-size g c = entry_small c.args.entry.now c.requires.entry

pub returns-in-Err-clause-any_moment : goal.returns-in-Err-clause-any_moment
returns-in-Err-clause-any_moment g c told head entries e fits is = rw (← c.self.view_is) (c.commit.ensures.any_moment told head entries e fits is)

pub returns-in-Ok-clause-any_moment : goal.returns-in-Ok-clause-any_moment
returns-in-Ok-clause-any_moment g c told head entries e fits is = rw (← c.self.view_is) (c.commit.ensures.any_moment told head entries e fits is)

pub returns-in-Ok-clause-acknowledged : goal.returns-in-Ok-clause-acknowledged
returns-in-Ok-clause-acknowledged g c told head entries e fits is = rw (← c.self.view_is) (λ rest.
    subst (λ (k : ℕ). IsAtRest head (g.D.Disk.state c.commit.new.disk) k (entries ++ e ∷ [])) (omega arith) (c.in-Ok.ensures.acknowledged told head entries e fits is rest))

pub returns-in-Err-clause-room : goal.returns-in-Err-clause-room
returns-in-Err-clause-room g c told n = rw (← c.self.view_is) (λ le room. c.commit.ensures.room told n (omega arith) le room)

pub returns-in-Ok-clause-room : goal.returns-in-Ok-clause-room
returns-in-Ok-clause-room g c told n = rw (← c.self.view_is) (λ le room. c.commit.ensures.room told n (omega arith) le room)

pub returns-then-saturating_add-self-clause-room : goal.returns-then-saturating_add-self-clause-room
returns-then-saturating_add-self-clause-room g c told n le room =
    started g.D.Disk c.args.self.now.disk (IsNoLonger n) (g.met.D.Disk.only_now c.args.self.now.disk) room
