-- The key that a part of a path spells (RFC 3986, "Percent-Encoding"). A percent sign and two hexadecimal digits are
-- one byte; any other percent sign stays as it is (own).
use Rattle.std.specs.Prelude.{ℕ, List}
use Rattle.percent_encoding.specs.Percent.{percent_decode}

-- the bytes of the key
abbrev pub key_of : List ℕ → List ℕ
key_of part = percent_decode part
