-- Numbers drawn one after another from a number: a linear congruential generator (own: its multiplier and increment).
use Rattle.std.specs.Prelude.{ℕ, zero, suc, ◌+◌, ◌*◌, ◌/◌, ◌%◌, ◌^◌}

-- the state after a draw
unfoldable pub next_state : ℕ → ℕ
next_state x = (x * 6_364_136_223_846_793_005 + 1_442_695_040_888_963_407) % 2 ^ 64

-- the state after this many draws
abbrev pub state_after : ℕ → ℕ → ℕ
state_after zero x = x
state_after (suc n) x = next_state (state_after n x)

-- the number that is drawn after this many draws
abbrev pub draw : ℕ → ℕ → ℕ
draw n x = state_after (n + 1) x / 2 ^ 33
