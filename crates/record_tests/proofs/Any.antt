use Rattle.std.proofs.Common.{◌≡◌, List, [], ◌∷◌, refl, Bool, true, false}
use Rattle.std.specs.Prelude.{is_some}
use Rattle.std.specs.List.{list_any, find}
use Rattle.stacks.specs.declared.version.Version.{Version}

pub any_found : (p : Version → Bool) (versions : List Version) → is_some (find p versions) ≡ list_any p versions
any_found p [] = refl
any_found p (v ∷ versions) = by (p v) refl (any_found p versions) where
  by : (b : Bool) → p v ≡ b → is_some (find p versions) ≡ list_any p versions → is_some (find p (v ∷ versions)) ≡ list_any p (v ∷ versions)
  by true is more = rw is refl
  by false is more = rw is more
