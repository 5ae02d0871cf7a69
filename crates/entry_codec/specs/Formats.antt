-- Formats: how values are written in bytes (own). The most significant byte of a number comes first.
use Rattle.std.specs.Prelude.{ℕ, zero, suc, ◌^◌, Bool, ◌&&◌, List, [], ◌∷◌, ◌++◌, length, take, drop, Option, Some, None, nat_lt}
use Rattle.std.specs.Prelude.{if◌then◌else◌}
use Rattle.std.specs.List.{flat_map, list_all}
use Rattle.std.specs.Int.{Width, byte_len, from_be_bytes, to_be_bytes}

-- how a value is written; which values the format has; and the value at the front of bytes, with the bytes after it, or
-- none if no value of the format is there
pub record Format (X : Type 0) : Type 0 where
  pub written : X → List ℕ
  pub has : X → Bool
  pub front : List ℕ → Option (X × List ℕ)

-- the next step, if the one before it gave something
infixl 10 ◌>>=◌
abbrev pub ◌>>=◌ : {A B : Type 0} → Option A → (A → Option B) → Option B
None >>= f = None
(Some x) >>= f = f x

-- the first n bytes, and the bytes after them; none if there are fewer than n
abbrev pub split : ℕ → List ℕ → Option (List ℕ × List ℕ)
split n bytes = if nat_lt (length bytes) n then None else Some (take n bytes, drop n bytes)

-- a number of this width
abbrev pub number : Width → Format ℕ
number w = record {
  written = to_be_bytes w;
  has = λ n. nat_lt n (256 ^ byte_len w);
  front = λ bytes. split (byte_len w) bytes >>= λ parts. Some (from_be_bytes w parts.0, parts.1);
}

-- a text of bytes after its length
abbrev pub counted_text : Format ℕ → Format (List ℕ)
counted_text count = record {
  written = λ t. count.written (length t) ++ t;
  has = λ t. count.has (length t);
  front = λ bytes. count.front bytes >>= λ n. split n.0 n.1;
}

-- the values of a format that pass a test
infixl 8 ◌such_that◌
abbrev pub ◌such_that◌ : {X : Type 0} → Format X → (X → Bool) → Format X
format such_that test = record {
  written = format.written;
  has = λ x. format.has x && test x;
  front = λ bytes. format.front bytes >>= λ x. if test x.0 then Some x else None;
}

-- one value after another
abbrev pub pair : {X Y : Type 0} → Format X → Format Y → Format (X × Y)
pair first second = record {
  written = λ p. first.written p.0 ++ second.written p.1;
  has = λ p. first.has p.0 && second.has p.1;
  front = λ bytes. first.front bytes >>= λ x. second.front x.1 >>= λ y. Some ((x.0, y.0), y.1);
}

-- n values at the front, one after the other, and the bytes after them
unfoldable pub front_items : {X : Type 0} → Format X → ℕ → List ℕ → Option (List X × List ℕ)
front_items format zero bytes = Some ([], bytes)
front_items format (suc n) bytes =
    format.front bytes >>= λ x. front_items format n x.1 >>= λ xs. Some (x.0 ∷ xs.0, xs.1)

-- a list after its length
abbrev pub list : {X : Type 0} → Format ℕ → Format X → Format (List X)
list count format = record {
  written = λ xs. count.written (length xs) ++ flat_map format.written xs;
  has = λ xs. count.has (length xs) && list_all format.has xs;
  front = λ bytes. count.front bytes >>= λ n. front_items format n.0 n.1;
}

-- values that are written as others: what each is written as, which of them there are, and the one that is written as
-- this
pub record Code (X Y : Type 0) : Type 0 where
  pub code : Y → X
  pub has : Y → Bool
  pub value : X → Option Y

-- values that are written as those of a format
abbrev pub coded : {X Y : Type 0} → Format X → Code X Y → Format Y
coded format as_code = record {
  written = λ y. format.written (as_code.code y);
  has = λ y. format.has (as_code.code y) && as_code.has y;
  front = λ bytes. format.front bytes >>= λ x. as_code.value x.0 >>= λ y. Some (y, x.1);
}
