-- Which slot is loaded, by the heads of both.
use Rattle.std.proofs.Common.{◌≡◌, inl, inr, ℕ, ◌<◌, ◌≤◌, true, false, List, Option, Some, None, refl, subst, arith}
use Rattle.std.proofs.lemmas.Bool.{ltb-true, ltb-false}
use Rattle.disk_core.specs.declared.disk.FileNo.{FileNo}
use Rattle.disk_core.specs.declared.disk.FileNo.TheVariants.{Journal, Slot0, Slot1}
use Rattle.slots.specs.Slots.{Keeps}
use Rattle.slots.specs.Heads.{HasHead, body_at, is_below}
use Rattle.slots.specs.Loading.{Pair, IsFirst, IsSecond, IsLoadedFrom, KeepsNone, SparesLoaded}
use Rattle.slots.specs.declared.heads.Head.{Head}
use Rattle.slots.proofs.Texts.{one_position, one_body}

module _ {V : Type 0} {spells : List ℕ → V → Type 0} where
  -- the position that a slot keeps something at is that of its head
  pub at_head : (head : Head) (file : List ℕ) (value : V) (position : ℕ) → HasHead (Some head) file → Keeps spells value position file → position ≡ head.position
  at_head head file value position is keeps =
      one_position position head.position keeps.body (body_at head.size file) file keeps.holds is.1

  -- without a head it keeps nothing
  pub no_head : (file : List ℕ) (value : V) (position : ℕ) → HasHead None file → Keeps spells value position file → ⊥
  no_head file value position none keeps = none position keeps.body keeps.holds

  -- the body that it keeps is that after its head
  pub body_of_head : (head : Head) (file : List ℕ) (value : V) (position : ℕ) → HasHead (Some head) file
      → (keeps : Keeps spells value position file) → keeps.body ≡ body_at head.size file
  body_of_head head file value position is keeps =
      one_body position head.position keeps.body (body_at head.size file) file keeps.holds is.1

  not_below : (zero one : Option Head) (slots : Pair) (a b : V) (p q : ℕ) → HasHead zero slots.slot0 → HasHead one slots.slot1
      → is_below zero one ≡ false → Keeps spells a p slots.slot0 → Keeps spells b q slots.slot1 → q ≤ p
  not_below None one slots a b p q is_zero is_one order first second = absurd (is_zero p first.body first.holds)
  not_below (Some zero) None slots a b p q is_zero is_one order first second = absurd (is_one q second.body second.holds)
  not_below (Some zero) (Some one) slots a b p q is_zero is_one order first second =
      omega (arith, ltb-false zero.position one.position order, at_head zero slots.slot0 a p is_zero first, at_head one slots.slot1 b q is_one second)

  below : (zero one : Option Head) (slots : Pair) (a b : V) (p q : ℕ) → HasHead zero slots.slot0 → HasHead one slots.slot1
      → is_below zero one ≡ true → Keeps spells a p slots.slot0 → Keeps spells b q slots.slot1 → p < q
  below None one slots a b p q is_zero is_one order first second = absurd (is_zero p first.body first.holds)
  below (Some zero) None slots a b p q is_zero is_one order first second = absurd (is_one q second.body second.holds)
  below (Some zero) (Some one) slots a b p q is_zero is_one order first second =
      omega (arith, ltb-true zero.position one.position order, at_head zero slots.slot0 a p is_zero first, at_head one slots.slot1 b q is_one second)

  -- the first is read first
  pub first_before : (zero one : Option Head) (slots : Pair) (value : V) (position : ℕ) → HasHead zero slots.slot0 → HasHead one slots.slot1
      → is_below zero one ≡ false → Keeps spells value position slots.slot0 → IsFirst spells value position slots
  first_before zero one slots value position is_zero is_one order keeps = record {
    kept = keeps;
    greatest = λ other place second. not_below zero one slots value other position place is_zero is_one order keeps second;
  }

  -- the second is read first
  pub second_before : (zero one : Option Head) (slots : Pair) (value : V) (position : ℕ) → HasHead zero slots.slot0 → HasHead one slots.slot1
      → is_below zero one ≡ true → Keeps spells value position slots.slot1 → IsSecond spells value position slots
  second_before zero one slots value position is_zero is_one order keeps = record {
    kept = keeps;
    greatest = λ other place first. below zero one slots other value place position is_zero is_one order first keeps;
  }

  -- one keeps nothing
  pub first_alone : (slots : Pair) (value : V) (position : ℕ) → Keeps spells value position slots.slot0
      → ((other : V) (place : ℕ) → Keeps spells other place slots.slot1 → ⊥) → IsFirst spells value position slots
  first_alone slots value position keeps none = record { kept = keeps; greatest = λ other place second. absurd (none other place second) }

  pub second_alone : (slots : Pair) (value : V) (position : ℕ) → Keeps spells value position slots.slot1
      → ((other : V) (place : ℕ) → Keeps spells other place slots.slot0 → ⊥) → IsSecond spells value position slots
  second_alone slots value position keeps none = record { kept = keeps; greatest = λ other place first. absurd (none other place first) }

  -- ---- the slot that is not loaded

  pub spares_none : (slots : Pair) → KeepsNone spells slots → SparesLoaded spells Slot0 slots
  spares_none slots none value position (inl first) = absurd (none.slot0 value position first.kept)
  spares_none slots none value position (inr second) = absurd (none.slot1 value position second.kept)

  pub spares_first : (slots : Pair) (found : V) (place : ℕ) → IsFirst spells found place slots → SparesLoaded spells Slot1 slots
  spares_first slots found place is value position (inl first) = first.kept
  spares_first slots found place is value position (inr second) =
      absurd (omega (arith, second.greatest found place is.kept, is.greatest value position second.kept))

  pub spares_second : (slots : Pair) (found : V) (place : ℕ) → IsSecond spells found place slots → SparesLoaded spells Slot0 slots
  spares_second slots found place is value position (inl first) =
      absurd (omega (arith, first.greatest found place is.kept, is.greatest value position first.kept))
  spares_second slots found place is value position (inr second) = second.kept

  -- by the file that was found
  pub spares_from : (file : FileNo) (slots : Pair) (found : V) (place : ℕ) → (file ≡ Slot0 → ⊥) → IsLoadedFrom spells file found place slots → SparesLoaded spells Slot0 slots
  spares_from Slot0 slots found place not is = absurd (not refl)
  spares_from Slot1 slots found place not is = spares_second slots found place is
  spares_from Journal slots found place not is = absurd is

  pub spares_other : (file : FileNo) (slots : Pair) (found : V) (place : ℕ) → file ≡ Slot0 → IsLoadedFrom spells file found place slots → SparesLoaded spells Slot1 slots
  spares_other file slots found place same is =
      spares_first slots found place (subst (λ (x : FileNo). IsLoadedFrom spells x found place slots) same is)
