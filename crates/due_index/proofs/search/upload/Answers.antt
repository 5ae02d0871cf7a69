use Rattle.std.proofs.Common.{◌-◌, ◌≤◌, get_or, length, subst, sym, ◌∙◌, arith}
use Rattle.due_index.specs.Search.{Among, on_key, IsFirstOf, asked_of_one_upload, asked_at}
use Rattle.due_index.specs.Table.{IsNotBelow, NoneBegins}
use Rattle.due_index.proofs.ByRule.{all_rules, upload_asks}
use Rattle.due_index.proofs.Tables.{IsAskedFrom, none_asked, one_asked, all_asked}
use Rattle.due_index.proofs.search.upload.Goals as goal

pub loop-next-init : goal.loop-next-init
loop-next-init c =
    let rules = c.args.rules.now in
    let order = c.args.table.now.order in record {
      within = c.start-next.ensures.within;
      below = subst (λ t. IsNotBelow rules order t c.start-next.result) (c.bytes.ensures.same ∙ c.key.ensures) c.start-next.ensures.below;
      first = none_asked rules c.args.table.now c.requires.table c.args.upload.now.key (asked_at (asked_of_one_upload c.args.setting.now c.args.number c.args.upload.now) rules)
          (upload_asks c.args.setting.now c.args.rules.now c.args.number c.args.upload.now) (on_key c.args.upload.now.key c.args.best.now) c.start-next.result
          (subst (λ t. NoneBegins rules order t c.start-next.result (length order)) (c.bytes.ensures.same ∙ c.key.ensures) c.start-next.ensures.none);
    }

pub loop-next-preserved : goal.loop-next-preserved
loop-next-preserved c =
    let rules = c.args.rules.now in
    let size = c.requires.table.size in
    let test = c.loop-next-test.true in
    let within = c.loop-next.invariant.within in
    let lower : get_or c.args.table.now.parents (c.loop-next.next - 1) 0 ≤ c.loop-next.next - 1 = c.requires.table.linked.down (c.loop-next.next - 1) (omega arith) in
    let parent = c.parent-next.ensures in
    let turned = one_asked rules c.args.table.now c.requires.table c.args.upload.now.key (asked_at (asked_of_one_upload c.args.setting.now c.args.number c.args.upload.now) rules)
    (upload_asks c.args.setting.now c.args.rules.now c.args.number c.args.upload.now) (on_key c.args.upload.now.key c.args.best.now) c.loop-next.next
    (on_key c.args.upload.now.key c.loop-next.best) (on_key c.args.upload.now.key c.place_of_upload.new.best) (omega arith) within c.loop-next.invariant.below c.loop-next.invariant.first
    (subst (λ place. IsFirstOf (on_key c.args.upload.now.key c.loop-next.best) (λ d. Among (asked_at (asked_of_one_upload c.args.setting.now c.args.number c.args.upload.now) rules place) d) (on_key c.args.upload.now.key c.place_of_upload.new.best)) c.rule.ensures c.place_of_upload.ensures) in record {
      within = omega arith;
      below = λ k less. c.loop-next.invariant.below k (omega arith);
      first = subst (λ n. IsFirstOf (on_key c.args.upload.now.key c.args.best.now) (IsAskedFrom (asked_at (asked_of_one_upload c.args.setting.now c.args.number c.args.upload.now) rules) c.args.table.now.order n) (on_key c.args.upload.now.key c.place_of_upload.new.best)) (sym parent) turned;
    }

pub returns : goal.returns
returns c =
    let rules = c.args.rules.now in
    all_rules rules (asked_of_one_upload c.args.setting.now c.args.number c.args.upload.now) (on_key c.args.upload.now.key c.args.best.now) (on_key c.args.upload.now.key c.loop-next.best)
    (all_asked rules c.args.table.now c.requires.table c.args.upload.now.key (asked_at (asked_of_one_upload c.args.setting.now c.args.number c.args.upload.now) rules)
    (upload_asks c.args.setting.now c.args.rules.now c.args.number c.args.upload.now) (on_key c.args.upload.now.key c.args.best.now) c.loop-next.next
    (on_key c.args.upload.now.key c.loop-next.best) c.loop-next-test.false c.loop-next.invariant.first)
