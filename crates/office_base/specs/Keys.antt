-- The keys of objects (S3 User Guide, "Naming Amazon S3 objects": 1 to 1,024 bytes of UTF-8).
use Rattle.std.specs.Prelude.{ℕ, Bool, ◌&&◌, nat_le, List, length, IsTrue}
use Rattle.std.specs.Str.{is_utf8}

-- bytes that are a key: 1 to 1,024, in UTF-8
unfoldable pub is_key : List ℕ → Bool
is_key bytes = nat_le 1 (length bytes) && nat_le (length bytes) 1_024 && is_utf8 bytes

-- an object may have this key
abbrev pub IsKey : List ℕ → Type 0
IsKey bytes = IsTrue (is_key bytes)
