-- More ways to build a format from formats (own).
use Rattle.std.specs.Prelude.{ℕ, Bool, true, false, ◌&&◌, ◌==◌, List, [], ◌++◌, length, Option, Some, None, if◌then◌else◌}
use Rattle.std.specs.List.{flat_map, list_all}
use Rattle.std.specs.Int.{w8}
use Rattle.entry_codec.specs.Formats.{Format, ◌>>=◌, number, front_items, Code, coded}

-- one value after another; the format of the second depends on the first
abbrev pub after : {X Y : Type 0} → Format X → (X → Format Y) → Format (X × Y)
after first second = record {
  written = λ p. first.written p.0 ++ (second p.0).written p.1;
  has = λ p. first.has p.0 && (second p.0).has p.1;
  front = λ bytes. first.front bytes >>= λ x. (second x.0).front x.1 >>= λ y. Some ((x.0, y.0), y.1);
}

-- a list of n values, without a count
abbrev pub exactly : {X : Type 0} → ℕ → Format X → Format (List X)
exactly n format = record {
  written = flat_map format.written;
  has = λ xs. (length xs == n) && list_all format.has xs;
  front = front_items format n;
}

-- what is written of a value: nothing if there is none
abbrev pub some_written : {X : Type 0} → Format X → Option X → List ℕ
some_written format None = []
some_written format (Some x) = format.written x

-- there is a value, and the format has it
abbrev pub some_has : {X : Type 0} → Format X → Option X → Bool
some_has format None = false
some_has format (Some x) = format.has x

-- a value that is there
abbrev pub as_some : {X : Type 0} → Format X → Format (Option X)
as_some format = record {
  written = some_written format;
  has = some_has format;
  front = λ bytes. format.front bytes >>= λ x. Some (Some x.0, x.1);
}

-- there is no value
abbrev pub is_nothing : {X : Type 0} → Option X → Bool
is_nothing None = true
is_nothing (Some x) = false

-- a value that is not there, of which nothing is written
abbrev pub as_none : {X : Type 0} → Format (Option X)
as_none = record { written = λ o. []; has = is_nothing; front = λ bytes. Some (None, bytes) }

-- values that are written as others, one for one
abbrev pub renamed : {X Y : Type 0} → (Y → X) → (X → Y) → Code X Y
renamed code value = record { code = code; has = λ y. true; value = λ x. Some (value x) }

-- a flag: 0 or 1
abbrev pub flag_code : Bool → ℕ
flag_code false = 0
flag_code true = 1

-- the flag that is written so
abbrev pub flag_value : ℕ → Option Bool
flag_value n = if n == 0 then Some false else if n == 1 then Some true else None

-- flags by numbers
abbrev pub flags : Code ℕ Bool
flags = record { code = flag_code; has = λ b. true; value = flag_value }

-- a flag
unfoldable pub flag_format : Format Bool
flag_format = coded (number w8) flags
