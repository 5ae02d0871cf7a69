use Rattle.std.proofs.Common.{length}
use Rattle.std.specs.Prelude.{option_map}
use Rattle.http_front.specs.Session.{sides}
use Rattle.http_front.proofs.TalkLemmas.{ahead_none, session_of, last_words, gave_all, gave_some, gave_none}
use Rattle.http_front.proofs.talking.session.Goals as goal

pub returns-clause-session : goal.returns-clause-session
returns-clause-session g c =
    session_of g.T.Teller.moves g.W.Replies (g.R.Source.left c.go_on.new.source) c.in-Ok.reader.taken c.in-Ok.reader.bytes
    (sides c.args.teller.now c.args.out.now) (sides c.go_on.new.teller c.go_on.new.out)
    (g.R.Source.left c.args.source.now) c.go_on.result c.in-Ok.ensures.taken c.in-Ok.ensures.bytes c.go_on.ensures.session

pub returns-clause-taken : goal.returns-clause-taken
returns-clause-taken g c =
    gave_some c.in-Ok.reader.taken c.go_on.new.reader.taken (g.R.Source.left c.args.source.now) (g.R.Source.left c.go_on.new.source) c.go_on.ensures.given c.in-Ok.ensures.taken c.go_on.ensures.limit

pub returns-clause-spent : goal.returns-clause-spent
returns-clause-spent g c spent =
    gave_all c.in-Ok.reader.taken c.go_on.new.reader.taken (g.R.Source.left c.args.source.now)
    (g.R.Source.left c.go_on.new.source) c.go_on.ensures.given c.in-Ok.ensures.taken (c.go_on.ensures.spent spent)

pub returns-in_default-clause-session : goal.returns-in_default-clause-session
returns-in_default-clause-session g c =
    last_words g.T.Teller.moves g.W.Replies (g.R.Source.left c.args.source.now) c.args.teller.now c.args.out.now c.say_no_memory.new.out (g.R.Source.left c.args.source.now)
    (option_map length (g.R.Source.left c.args.source.now))
    c.say_no_memory.result c.say_no_memory.ensures.said (ahead_none (g.R.Source.left c.args.source.now))

pub returns-in_default-clause-taken : goal.returns-in_default-clause-taken
returns-in_default-clause-taken g c = gave_none (g.R.Source.left c.args.source.now)

pub returns-in_default-vec-clause-session : goal.returns-in_default-vec-clause-session
returns-in_default-vec-clause-session g c =
    last_words g.T.Teller.moves g.W.Replies (g.R.Source.left c.args.source.now) c.args.teller.now c.args.out.now c.say_no_memory-in_default-vec.new.out (g.R.Source.left c.args.source.now)
    (option_map length (g.R.Source.left c.args.source.now))
    c.say_no_memory-in_default-vec.result c.say_no_memory-in_default-vec.ensures.said (ahead_none (g.R.Source.left c.args.source.now))

pub returns-in_default-vec-clause-taken : goal.returns-in_default-vec-clause-taken
returns-in_default-vec-clause-taken g c = gave_none (g.R.Source.left c.args.source.now)
