use Rattle.std.proofs.Common.{◌≡◌, ◌∙◌, ◌+◌, ◌≤◌, ◌++◌, ◌∷◌, [], ℕ, List, take, length, get_or, refl, sym, ap, arith, append_assoc}
use Rattle.std.specs.List.{flat_map, list_all}
use Rattle.std.proofs.lemmas.Bool.{and_from}
use Rattle.std.proofs.lemmas.Bool.Decides.{nat_tests}
use Rattle.std.proofs.lemmas.Grind.{flat_map-append}
use Rattle.std.proofs.lemmas.List.{take_all, append-nil}
use Rattle.std.proofs.lemmas.List.Folds.{list_all-append}
use Rattle.entry_codec.specs.Formats.{pair}
use Rattle.checkpoint.specs.Parts.{sixteen, eight, Triple, triples}
use Rattle.checkpoint.proofs.Triples.{take_triple, length_triples}
use Rattle.checkpoint.proofs.sum_writers.put_triples.Goals as goal

abbrev w : Triple → List ℕ
w = (pair sixteen (pair sixteen eight)).written

pub loop-class-preserved : goal.loop-class-preserved
loop-class-preserved c =
    let i = c.loop-class.class in
    let xs : List ℕ = c.args.ended.now in
    let ys : List ℕ = c.args.early.now in
    let zs : List ℕ = c.args.moves.now in
    let before : List Triple = take i (triples xs ys zs) in
    let one : Triple = (get_or xs i 0, (get_or ys i 0, get_or zs i 0)) in
    let more : take (i + 1) (triples xs ys zs) ≡ before ++ one ∷ [] =
    take_triple i xs ys zs (omega (arith, c.loop-class-test.true)) (omega (arith, c.loop-class-test.true)) (omega (arith, c.loop-class-test.true)) in
    let written : flat_map w (before ++ one ∷ []) ≡ flat_map w before ++ w one =
    flat_map-append w before (one ∷ []) ∙ ap (λ (l : List ℕ). flat_map w before ++ l) (append-nil (w one)) in
    rw more (record {
      bytes = c.in_ok-put_numbers.ensures.bytes ∙ ap (λ (l : List ℕ). l ++ w one) c.loop-class.invariant.bytes
          ∙ append_assoc c.args.out.now.items (flat_map w before) (w one) ∙ ap (λ (l : List ℕ). c.args.out.now.items ++ l) (sym written);
      has = list_all-append _ before (one ∷ []) ∙ and_from _ _ c.loop-class.invariant.has (and_from _ _ c.in_ok-put_numbers.ensures.has refl);
    })

pub returns-clause-bytes : goal.returns-clause-bytes
returns-clause-bytes c =
    let xs : List ℕ = c.args.ended.now in
    let ys : List ℕ = c.args.early.now in
    let zs : List ℕ = c.args.moves.now in
    let six : length (triples xs ys zs) ≡ length xs = length_triples xs ys zs (omega arith) (omega arith) in
    let past : length (triples xs ys zs) ≤ c.loop-class.class = omega (arith, six, c.loop-class-test.false) in
    c.loop-class.invariant.bytes ∙ ap (λ (l : List Triple). c.args.out.now.items ++ flat_map w l) (take_all c.loop-class.class (triples xs ys zs) past)

pub returns-clause-has : goal.returns-clause-has
returns-clause-has c =
    let xs : List ℕ = c.args.ended.now in
    let ys : List ℕ = c.args.early.now in
    let zs : List ℕ = c.args.moves.now in
    let six : length (triples xs ys zs) ≡ length xs = length_triples xs ys zs (omega arith) (omega arith) in
    let past : length (triples xs ys zs) ≤ c.loop-class.class = omega (arith, six, c.loop-class-test.false) in
    and_from _ _ (grind (arith, nat_tests)) (ap (list_all (pair sixteen (pair sixteen eight)).has) (sym (take_all c.loop-class.class (triples xs ys zs) past)) ∙ c.loop-class.invariant.has)
