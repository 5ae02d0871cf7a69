-- A line, and what it defines.
use Rattle.std.proofs.Common.{◌≡◌, ℕ, ◌==◌, false, List, [], ◌∷◌, ◌++◌, Some, None, option_map, ap}
use Rattle.toml_parser.specs.Lexical.{first}
use Rattle.toml_parser.specs.Strings.{Key, recursion_limit}
use Rattle.toml.specs.Data.{Data}
use Rattle.toml.specs.Tables.{Nodes, key_value, std_table, array_table, put, at_key, along_header, define}
use Rattle.toml.specs.Parse.{expression, key_equals, val}

pub pair_read : (text at_value after : List ℕ) (key : Key) (d : Data) → (first text == 91) ≡ false → key_equals text ≡ Some (key, at_value)
    → val recursion_limit at_value ≡ Some (d, after) → expression text ≡ Some ((key, key_value d), after)
unfolding expression
pair_read text at_value after key d other one two = rw (other, one, two)

pub pair_no_key : (text : List ℕ) → (first text == 91) ≡ false → key_equals text ≡ None → expression text ≡ None
unfolding expression
pair_no_key text other one = rw (other, one)

pub pair_no_value : (text at_value : List ℕ) (key : Key) → (first text == 91) ≡ false → key_equals text ≡ Some (key, at_value)
    → val recursion_limit at_value ≡ None → expression text ≡ None
unfolding expression
pair_no_value text at_value key other one two = rw (other, one, two)

pub define_pair : (p : List (List ℕ)) (key : Key) (d : Data) (top new : Nodes) → along_header p (put key d) top ≡ Some new → define (top, p) (key, key_value d) ≡ Some (new, p)
unfolding define
define_pair p key d top new h = ap (option_map (λ root. (root, p))) h

pub define_no_pair : (p : List (List ℕ)) (key : Key) (d : Data) (top : Nodes) → along_header p (put key d) top ≡ None → define (top, p) (key, key_value d) ≡ None
unfolding define
define_no_pair p key d top h = ap (option_map (λ root. (root, p))) h

pub define_std : (p : List (List ℕ)) (key : Key) (top new : Nodes) → along_header key.0 (at_key key.1 std_table) top ≡ Some new
    → define (top, p) (key, std_table) ≡ Some (new, key.0 ++ key.1 ∷ [])
unfolding define
define_std p key top new h = ap (option_map (λ root. (root, key.0 ++ key.1 ∷ []))) h

pub define_no_std : (p : List (List ℕ)) (key : Key) (top : Nodes) → along_header key.0 (at_key key.1 std_table) top ≡ None → define (top, p) (key, std_table) ≡ None
unfolding define
define_no_std p key top h = ap (option_map (λ root. (root, key.0 ++ key.1 ∷ []))) h

pub define_array : (p : List (List ℕ)) (key : Key) (top new : Nodes) → along_header key.0 (at_key key.1 array_table) top ≡ Some new
    → define (top, p) (key, array_table) ≡ Some (new, key.0 ++ key.1 ∷ [])
unfolding define
define_array p key top new h = ap (option_map (λ root. (root, key.0 ++ key.1 ∷ []))) h

pub define_no_array : (p : List (List ℕ)) (key : Key) (top : Nodes) → along_header key.0 (at_key key.1 array_table) top ≡ None → define (top, p) (key, array_table) ≡ None
unfolding define
define_no_array p key top h = ap (option_map (λ root. (root, key.0 ++ key.1 ∷ []))) h
