-- The names of buckets (S3 User Guide, "General purpose bucket naming rules"; adjacent dots and address forms are not
-- checked).
use Rattle.std.specs.Prelude.{ℕ, Bool, ◌&&◌, ◌||◌, nat_le, ◌==◌, List, length, get_or, ◌-◌}
use Rattle.std.specs.Bool.{IsTrue}
use Rattle.std.specs.List.{list_all}

-- a lower-case letter or a digit
abbrev pub is_name_end : ℕ → Bool
is_name_end c = (nat_le 97 c && nat_le c 122) || (nat_le 48 c && nat_le c 57)

-- a lower-case letter, a digit, a dot or a hyphen
abbrev pub is_name_char : ℕ → Bool
is_name_char c = is_name_end c || (c == 46) || (c == 45)

-- 3 to 63 such characters, of which the first and the last are letters or digits
unfoldable pub is_bucket_name : List ℕ → Bool
is_bucket_name text =
    nat_le 3 (length text) && nat_le (length text) 63 && list_all is_name_char text && is_name_end (get_or text 0 0)
    && is_name_end (get_or text (length text - 1) 0)

-- a bucket may have this name
abbrev pub IsBucketName : List ℕ → Type 0
IsBucketName text = IsTrue (is_bucket_name text)
