-- What a reader of a body finds, and what it then spells.
use Rattle.std.proofs.Common.{◌≡◌, ℕ, Bool, true, false, List, [], ◌∷◌, length, Some, None, refl, sym, ap, subst, ◌∙◌, arith}
use Rattle.std.specs.Prelude.{◌==◌}
use Rattle.std.proofs.lemmas.Bool.{false≢true, eqb-true}
use Rattle.std.proofs.lemmas.Option.{same_Some}
use Rattle.office_snapshot.specs.Snapshots.{SnapshotRecord}
use Rattle.office_snapshot.specs.Restorable.{IsRestorable}
use Rattle.entry_codec.proofs.Bytes.{IsBytes}
use Rattle.checkpoint.specs.Bodies.{body_format, Spells}
use Rattle.checkpoint.proofs.BodyLaws.{body_again, body_takes}

-- what is read with nothing after it, and restored from, is spelled
pub spelled_by : (bytes : List ℕ) (s : SnapshotRecord) → IsBytes bytes → body_format.front bytes ≡ Some (s, []) → IsRestorable s → Spells bytes s
spelled_by bytes s fits e restorable = let t = body_takes bytes s fits e in record { bytes_are = t.0; in_range = t.1; restorable = restorable }

-- a body that is spelled is read, with nothing after it
reads : (bytes : List ℕ) (s : SnapshotRecord) → Spells bytes s → body_format.front bytes ≡ Some (s, [])
reads bytes s spelled = ap (λ (l : List ℕ). body_format.front l) spelled.bytes_are ∙ body_again s spelled.in_range

-- whether bytes are left
pub nothing_left : (none : Bool) (rest : List ℕ) → none ≡ (length rest == 0) → none ≡ true → rest ≡ []
nothing_left none [] is t = refl
nothing_left none (b ∷ rest) is t = let e : length (b ∷ rest) ≡ 0 = eqb-true _ _ (sym is ∙ t) in absurd (omega (arith, e))

pub some_left : (none : Bool) (rest : List ℕ) → none ≡ (length rest == 0) → none ≡ false → rest ≡ [] → ⊥
some_left none rest is f empty = false≢true (sym f ∙ is ∙ ap (λ (l : List ℕ). length l == 0) empty)

-- bytes that spell none: nothing is read, more is left after it, or no office is restored from it
none_some : {A : Type 0} {x : A} → None ≡ Some x → ⊥
none_some is = absurd cc

pub nothing_read : (bytes : List ℕ) → body_format.front bytes ≡ None → (s : SnapshotRecord) → Spells bytes s → ⊥
nothing_read bytes e s spelled = none_some (sym e ∙ reads bytes s spelled)

pub more_read : (bytes : List ℕ) (read : SnapshotRecord) (rest : List ℕ) → body_format.front bytes ≡ Some (read, rest) → (rest ≡ [] → ⊥) → (s : SnapshotRecord) → Spells bytes s → ⊥
more_read bytes read rest e more s spelled = more (ap (λ (x : SnapshotRecord × List ℕ). x.1) (same_Some (read, rest) (s, []) (sym e ∙ reads bytes s spelled)))

pub not_restored : (bytes : List ℕ) (read : SnapshotRecord) (rest : List ℕ) → body_format.front bytes ≡ Some (read, rest) → (IsRestorable read → ⊥) → (s : SnapshotRecord) → Spells bytes s → ⊥
not_restored bytes read rest e not s spelled =
    let same : read ≡ s = ap (λ (x : SnapshotRecord × List ℕ). x.0) (same_Some (read, rest) (s, []) (sym e ∙ reads bytes s spelled)) in
    not (subst IsRestorable (sym same) spelled.restorable)
