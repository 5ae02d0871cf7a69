-- One image more among those that a disk in memory gives.
use Rattle.std.proofs.Common.{◌≡◌, ⊎_elim, ℕ, ◌+◌, ◌<◌, ◌≤◌, List, [], ◌∷◌, ◌++◌, get_or, sym, ◌∙◌, ap, subst, arith, Result, Ok, Err, OnOk}
use Rattle.std.proofs.lemmas.List.{get_or_default}
use Rattle.std.proofs.lemmas.List.Elements.{All-push, Contains-append_left, Contains-push}
use Rattle.std.specs.Global.{Vec}
use Rattle.std.specs.List.{Contains}
use Rattle.disk_core.specs.declared.pending.Choice.{Choice}
use Rattle.disk_core.specs.declared.pending.Filling.{Filling}
use Rattle.disk_core.specs.declared.pending.Filling.TheVariants.{Old, New, Mark}
use Rattle.disk_core.specs.Choices.{IsChosen, Gives}
use Rattle.disk_core.specs.Files.{File, IsImage}
use Rattle.disk_core.specs.Pending.{AreImages, KeepsGiven}

-- the image of a choice is an image
pub chosen_image : (file : File) (choice : Choice) (image : List ℕ) → Contains file.lengths choice.size → IsChosen file choice image
    → IsImage file image
chosen_image file choice image has chosen = record {
  one_length = subst (Contains file.lengths) (sym chosen.size) has;
  others_stay = λ i lt old out. chosen.others i (omega (arith, lt, chosen.size))
      (λ pending. ⊎_elim (λ past. absurd (omega (arith, past, old))) out pending);
}

module _ (file : File) (old new : List (Vec ℕ)) (image : Vec ℕ) (is : new ≡ old ++ image ∷ []) where
  pub added_images : AreImages file old → IsImage file image.items → AreImages file new
  added_images all one = subst (AreImages file) (sym is) (All-push (λ (image : Vec ℕ). IsImage file image.items) old image all one)

  pub added_kept : KeepsGiven file old new
  added_kept choice given =
      (given.0, subst (λ (l : List (Vec ℕ)). Contains l given.0) (sym is) (Contains-append_left old (image ∷ []) given.0 given.1), given.2)

  pub added_given : (choice : Choice) → IsChosen file choice image.items → Gives file new choice
  added_given choice chosen = (image, subst (λ (l : List (Vec ℕ)). Contains l image) (sym is) (Contains-push old image), chosen)

-- the last of the lengths so far
pub size_at : (lengths items : List ℕ) (k n index : ℕ) → items ≡ lengths → n ≡ get_or lengths k 0 → k < index + 1 → index ≤ k
    → n ≡ get_or items index 0
size_at lengths items k n index same is lt le =
    let at : k ≡ index = omega (arith, lt, le) in
    is ∙ ap (λ (i : ℕ). get_or lengths i 0) at ∙ ap (λ (l : List ℕ). get_or l index 0) (sym same)

-- a choice by its parts
pub same_choice : (file : File) (images : List (Vec ℕ)) (size place : ℕ) (choice : Choice) → choice.size ≡ size → choice.place ≡ place
    → Gives file images (record { size = size; place = place; before = choice.before; behind = choice.behind }) → Gives file images choice
same_choice file images size place choice size_is place_is given =
    subst (λ (n : ℕ). Gives file images (record { size = n; place = choice.place; before = choice.before; behind = choice.behind })) (sym size_is)
    (subst (λ (p : ℕ). Gives file images (record { size = size; place = p; before = choice.before; behind = choice.behind })) (sym place_is) given)

pub then_ok : {T E A B : Type 0} (result : Result T E) → (A → B) → OnOk result A → OnOk result B
then_ok (Ok x) f a = f a
then_ok (Err e) f a = tt

pub then_both : {T E A B C : Type 0} (result : Result T E) → (A → B → C) → OnOk result A → OnOk result B → OnOk result C
then_both (Ok x) f a b = f a b
then_both (Err e) f a b = tt

-- the pairs of fillings
abbrev pub pairs : List (Filling × Filling)
pairs = (Old, Old) ∷ (Old, New) ∷ (Old, Mark) ∷ (New, Old) ∷ (New, New) ∷ (New, Mark) ∷ (Mark, Old) ∷ (Mark, New) ∷ (Mark, Mark) ∷ []

-- each of them is there
pub at_pair : (P : Filling × Filling → Type 0) (index : ℕ) → 9 ≤ index → ((k : ℕ) (d : Filling × Filling) → k < index → P (get_or pairs k d))
    → (before behind : Filling) → P (before, behind)
at_pair P index le all Old Old = all 0 (Old, Old) (omega (arith, le))
at_pair P index le all Old New = all 1 (Old, Old) (omega (arith, le))
at_pair P index le all Old Mark = all 2 (Old, Old) (omega (arith, le))
at_pair P index le all New Old = all 3 (Old, Old) (omega (arith, le))
at_pair P index le all New New = all 4 (Old, Old) (omega (arith, le))
at_pair P index le all New Mark = all 5 (Old, Old) (omega (arith, le))
at_pair P index le all Mark Old = all 6 (Old, Old) (omega (arith, le))
at_pair P index le all Mark New = all 7 (Old, Old) (omega (arith, le))
at_pair P index le all Mark Mark = all 8 (Old, Old) (omega (arith, le))

-- the last of those so far
pub last_pair : (P : Filling × Filling → Type 0) (k index : ℕ) (d e : Filling × Filling) → k < index + 1 → index ≤ k → index < 9
    → P (get_or pairs index e) → P (get_or pairs k d)
last_pair P k index d e lt le inside given =
    let at : index ≡ k = omega (arith, lt, le) in
    subst (λ (i : ℕ). P (get_or pairs i d)) at (subst P (get_or_default pairs index e d inside) given)
