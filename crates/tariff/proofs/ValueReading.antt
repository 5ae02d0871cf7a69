-- What values say, by their integers.
use Rattle.std.proofs.Common.{◌≡◌, Bool, true, false, cond, ℕ, ℤ, pos, negsuc, Option, Some, None, refl}
use Rattle.toml.specs.Data.{Data, string, integer, float, boolean, datetime, array, table, as_integer, as_str}
use Rattle.tariff.specs.Prices.{is_price}
use Rattle.tariff.specs.Opened.{price_by, upto_by}
use Rattle.tariff.specs.Reading.{price_of, upto_of, month_said}

pub price_is : (d : Data) → price_of d ≡ price_by (as_integer d)
price_is (integer (pos p)) = refl
price_is (integer (negsuc p)) = refl
price_is (string s) = refl
price_is (float x) = refl
price_is (boolean b) = refl
price_is (datetime dt) = refl
price_is (array ds) = refl
price_is (table ms) = refl

pub upto_is : (d : Data) → upto_of d ≡ upto_by (as_integer d)
upto_is (integer (pos p)) = refl
upto_is (integer (negsuc p)) = refl
upto_is (string s) = refl
upto_is (float x) = refl
upto_is (boolean b) = refl
upto_is (datetime dt) = refl
upto_is (array ds) = refl
upto_is (table ms) = refl

pub month_none : (d : Data) → as_str d ≡ None → month_said d ≡ None
month_none (string s) h = absurd cc
month_none (integer z) h = refl
month_none (float x) h = refl
month_none (boolean b) h = refl
month_none (datetime dt) h = refl
month_none (array ds) h = refl
month_none (table ms) h = refl

in_range : (b : Bool) (p q : ℕ) → is_price p ≡ b → cond b (Some p) None ≡ Some q → is_price q ≡ true
in_range true p q ok is = let same : p ≡ q = cc in rw (← same) ok
in_range false p q ok is = absurd cc

-- the price that an integer is, is in range
pub price_in_range : (n : Option ℤ) (q : ℕ) → price_by n ≡ Some q → is_price q ≡ true
price_in_range None q h = absurd cc
price_in_range (Some (negsuc m)) q h = absurd cc
price_in_range (Some (pos p)) q h = in_range (is_price p) p q refl h
