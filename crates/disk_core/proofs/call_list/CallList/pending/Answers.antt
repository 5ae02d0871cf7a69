use Rattle.std.proofs.Common.{◌≡◌, ◌≤◌, ◌∙◌, ap, sym, subst, arith, List, ℕ, length, take, IfOk}
use Rattle.std.proofs.lemmas.List.{length-take-le}
use Rattle.disk_core.specs.declared.call_list.DiskCall.{DiskCall}
use Rattle.disk_core.specs.Files.{file_in}
use Rattle.disk_core.specs.Kept.{Call, calls_of, count_all}
use Rattle.disk_core.specs.Pending.{file_of}
use Rattle.disk_core.specs.Replay.{after}
use Rattle.disk_core.proofs.Kept.{length-calls_of, take-calls_of, count_all-take}
use Rattle.disk_core.proofs.call_list.CallList.pending.Goals as goal

pub slice_bounds-of-end : goal.slice_bounds-of-end
slice_bounds-of-end c =
    let inside = c.self.inside in
    let all : length c.deref.result.now ≡ length inside.calls.items = ap (λ (l : List DiskCall). length l) c.deref.ensures.value in
    let seen : length (calls_of inside.calls.items inside.bytes.items) ≡ length c.args.self.now = ap (λ (l : List Call). length l) c.self.view_is in
    let within : c.args.count ≤ length c.deref.result.now =
    omega (arith, c.requires, all, seen, length-calls_of inside.calls.items inside.bytes.items) in
    sym (length-take-le c.args.count c.deref.result.now within)

pub of-requires : goal.of-requires
of-requires c =
    let inside = c.self.inside in
    let counts : count_all c.deref.result.now ≡ count_all inside.calls.items = ap count_all c.deref.ensures.value in
    let size : length c.deref-2.result.now ≡ length inside.bytes.items = ap (λ (l : List ℕ). length l) c.deref-2.ensures.value in
    let whole : count_all inside.calls.items ≡ length inside.bytes.items = c.self.invariant in
    omega (arith, counts, size, whole, count_all-take c.args.count c.deref.result.now)

pub returns : goal.returns
returns c =
    let inside = c.self.inside in
    let first : calls_of (take c.args.count c.deref.result.now) c.deref-2.result.now ≡ take c.args.count c.args.self.now =
    ap (λ (l : List DiskCall). calls_of (take c.args.count l) c.deref-2.result.now) c.deref.ensures.value
    ∙ ap (λ (l : List ℕ). calls_of (take c.args.count inside.calls.items) l) c.deref-2.ensures.value
    ∙ take-calls_of c.args.count inside.calls.items inside.bytes.items
    ∙ ap (λ (l : List Call). take c.args.count l) c.self.view_is in
    subst (λ (l : List Call). IfOk c.of.result (λ pending. file_of pending ≡ file_in c.args.file (after l))) first c.of.ensures
