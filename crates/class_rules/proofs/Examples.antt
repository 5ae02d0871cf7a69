-- Classes and lines computed on examples.
use Rattle.std.specs.Prelude.{◌≡◌, [], ◌∷◌, refl, false}
use Rattle.class_rules.specs.Classes.{may_move}
use Rattle.class_rules.specs.Lines.{object_lines, part_line}
use Rattle.class_rules.specs.declared.class.Class.TheVariants.{Standard, StandardIa, OnezoneIa, GlacierIr, Glacier}

empty_object : object_lines StandardIa 0 ≡ (StandardIa, 131_072) ∷ []
empty_object = refl

object_above_the_least_size : object_lines StandardIa 131_073 ≡ (StandardIa, 131_073) ∷ []
object_above_the_least_size = refl

archived_object : object_lines Glacier 6_144 ≡ (Glacier, 38_912) ∷ (Standard, 8_192) ∷ []
archived_object = refl

archived_part : part_line Glacier 1_000 ≡ (Standard, 1_000) ∷ []
archived_part = refl

one_move_is_left_out : may_move OnezoneIa GlacierIr ≡ false
one_move_is_left_out = refl
