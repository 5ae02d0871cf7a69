-- Which texts are tokens, and which commands may carry one.
use Rattle.std.specs.Prelude.{◌≡◌, ℕ, Bool, true, false, ◌&&◌, nat_le, List, length, Option, Some, None, IsTrue}
use Rattle.std.specs.List.{list_all}
use Rattle.office_types.specs.declared.command.Command.{Command}
use Rattle.office_types.specs.declared.command.Command.TheVariants as command

-- a visible ASCII character (RFC 9110, "Field Values")
abbrev pub is_visible : ℕ → Bool
is_visible b = nat_le 0x21 b && nat_le b 0x7E

-- 1 to 64 visible ASCII characters (own)
unfoldable pub is_token : List ℕ → Bool
is_token bytes = nat_le 1 (length bytes) && nat_le (length bytes) 64 && list_all is_visible bytes

-- the bytes are a token
abbrev pub IsToken : List ℕ → Type 0
IsToken bytes = IsTrue (is_token bytes)

-- the command may carry a token (own). It may if doing it twice would do more, or would be refused. Rules and prices
-- may be set twice with the same result. An act that is repeated does what is due then.
abbrev pub takes_token : Command → Bool
takes_token (command.SetRules bucket rules) = false
takes_token (command.Act bucket) = false
takes_token (command.SetTariff tariff) = false
takes_token other = true

-- the command has no token, or may carry one
abbrev pub MayCarry : Option (List ℕ) → Command → Type 0
MayCarry None command = Unit {0}
MayCarry (Some token) command = takes_token command ≡ true
