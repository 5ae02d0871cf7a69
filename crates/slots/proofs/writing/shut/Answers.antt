use Rattle.std.proofs.Common.{◌≡◌, ◌∷◌, [], ℕ, List, sym, ap, subst, ◌∙◌, arith}
use Rattle.std.proofs.lemmas.Bool.{false≢true}
use Rattle.std.proofs.lemmas.Result.{on_ok_weaker}
use Rattle.disk_core.specs.Files.{File, State, put, file_in, seen_in, with_file, synced_file}
use Rattle.disk_core.proofs.Time.{joined}
use Rattle.slots.specs.Saving.{OnlyIn, HasOldOrNew, IsInPart, IsToShut}
use Rattle.slots.proofs.OneFile.{only_same, only_weaker}
use Rattle.slots.proofs.Parts.{old_start, while_shut, shut_by}
use Rattle.slots.proofs.Tallied.{keeps_same, keeps_then, keeps_fewer}
use Rattle.slots.proofs.writing.shut.Goals as goal

pub returns-clause-any_moment : goal.returns-clause-any_moment
returns-clause-any_moment g c told bytes new is =
    let d = g.D.Disk in
    let first = d.state c.args.disk.now in
    let mid = d.state c.is_shut.new.disk in
    let file = c.args.file in
    let P = IsInPart 0 1 bytes in
    let Q = HasOldOrNew bytes new in
    let tells = g.met.D.Disk.honest_tells told in
    let looked = c.is_shut.ensures.untouched.files tells in
    let same : mid ≡ first = looked.now in
    let is_mid : file_in file mid ≡ synced_file bytes = ap (file_in file) same ∙ is in
    let open_or_none : IsToShut bytes =
    subst (λ (f : File). IsToShut f.seen) is
    (c.in_ok-is_shut.ensures.no tells (λ yes. false≢true (sym c.if-branch.false ∙ yes))) in
    joined (OnlyIn file Q first) looked (c.put_synced.ensures.any_moment told bytes is_mid)
    (λ s still. only_same Q file first s still (old_start bytes new (file_in file first) is))
    (λ s keeps. subst (λ (x : State). OnlyIn file Q x s) same
    (only_weaker P Q file mid s (λ f part. while_shut bytes new f open_or_none part) keeps))

pub returns-clause-done : goal.returns-clause-done
returns-clause-done g c told bytes is =
    let d = g.D.Disk in
    let mid = d.state c.is_shut.new.disk in
    let file = c.args.file in
    let same = (c.is_shut.ensures.untouched.files (g.met.D.Disk.honest_tells told)).now in
    let seen : seen_in file mid ≡ bytes = ap (λ (s : State). seen_in file s) same ∙ ap (λ (f : File). f.seen) is in
    on_ok_weaker c.put_synced.result
    (λ now. (
      put 0 (0 ∷ []) bytes,
      shut_by bytes,
      now
          ∙ ap (λ (l : List ℕ). with_file file (synced_file (put 0 (0 ∷ []) l)) mid) seen
          ∙ ap (with_file file (synced_file (put 0 (0 ∷ []) bytes))) same,
    ))
    (c.put_synced.ensures.done told)

pub returns-then-branch-clause-synced : goal.returns-then-branch-clause-synced
returns-then-branch-clause-synced g c = keeps_same c.is_shut.ensures.untouched.tally

pub returns-clause-synced : goal.returns-clause-synced
returns-clause-synced g c =
    on_ok_weaker c.put_synced.result
    (λ put. keeps_fewer 0 1 (omega arith) (keeps_then 0 1 (keeps_same c.is_shut.ensures.untouched.tally) put)) c.put_synced.ensures.synced
