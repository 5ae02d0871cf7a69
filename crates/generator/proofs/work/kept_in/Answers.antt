use Rattle.generator.proofs.Made.{keeps_next}
use Rattle.generator.proofs.work.kept_in.Goals as goal

pub loop-bucket-preserved : goal.loop-bucket-preserved
loop-bucket-preserved c =
    keeps_next c.loop-bucket.bucket c.args.desk.now c.loop-bucket.desk c.ask_bucket.new.desk c.loop-bucket.kept c.add.new.self c.in_ok-bucket_name.field-0 c.in_ok-said.said
    c.loop-bucket-test.true c.in_ok-bucket_name.ensures c.loop-bucket.invariant c.in_ok-said.ensures c.add.ensures.versions c.add.ensures.uploads c.add.ensures.position c.add.ensures.small
