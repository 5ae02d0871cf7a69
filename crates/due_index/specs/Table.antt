-- The enabled rules of a configuration in the order of their prefixes.
use Rattle.std.specs.Prelude.{◌≡◌, ℕ, ◌<◌, ◌≤◌, Bool, true, false, List, [], length, All, Contains, nat_eq, Option, Some, None, slice_get, slice_index_or}
use Rattle.std.specs.List.{starts_with}
use Rattle.std.specs.Ordering.{is_lt}
use Rattle.office_base.specs.Maps.{bytes_cmp}
use Rattle.rules_core.specs.Configurations.{Configuration}
use Rattle.rules_core.specs.declared.rule.Rule.{Rule}

-- a table as contracts see it: the places of its rules in the configuration, from 0, and a parent for each of them. A
-- parent is a place in the table, from 1; every rule before this one whose prefix begins its own is below that place.
pub record TableRecord : Type 0 where
  pub order : List ℕ
  pub parents : List ℕ

-- the rules of a configuration; no rules without one
abbrev pub rules_of : Option Configuration → List Rule
rules_of None = []
rules_of (Some configuration) = configuration.rules

abbrev pub enabled_of : Option Rule → Bool
enabled_of None = false
enabled_of (Some rule) = rule.enabled

abbrev pub prefix_of : Option Rule → List ℕ
prefix_of None = []
prefix_of (Some rule) = rule.filter.prefix

-- the rule at this place is enabled
abbrev pub is_enabled : List Rule → ℕ → Bool
is_enabled rules place = enabled_of (slice_get rules place)

-- the prefix of the rule at this place
abbrev pub prefix_at : List Rule → ℕ → List ℕ
prefix_at rules place = prefix_of (slice_get rules place)

-- the prefix of the rule at place k of the table
abbrev pub prefix_in : List Rule → List ℕ → ℕ → List ℕ
prefix_in rules order k = prefix_at rules (slice_index_or order k 0)

-- the text begins with start
abbrev pub begins : List ℕ → List ℕ → Bool
begins start text = starts_with nat_eq text start

-- the order has only enabled rules, and all of them
pub record AreEnabled (rules : List Rule) (order : List ℕ) : Type 0 where
  pub own : All (λ place. is_enabled rules place ≡ true) order
  pub all : (place : ℕ) → is_enabled rules place ≡ true → Contains order place

-- the prefixes are in ascending order; equal ones are allowed
abbrev pub IsByPrefix : List Rule → List ℕ → Type 0
IsByPrefix rules order = (i j : ℕ) → i ≤ j → j < length order
    → is_lt (bytes_cmp (prefix_in rules order j) (prefix_in rules order i)) ≡ false

-- no prefix before this place of the table is above the text
abbrev pub IsNotBelow : List Rule → List ℕ → List ℕ → ℕ → Type 0
IsNotBelow rules order text end = (k : ℕ) → k < end → is_lt (bytes_cmp text (prefix_in rules order k)) ≡ false

-- from one place up to another, the text begins with no prefix
abbrev pub NoneBegins : List Rule → List ℕ → List ℕ → ℕ → ℕ → Type 0
NoneBegins rules order text from end = (k : ℕ) → from ≤ k → k < end → begins (prefix_in rules order k) text ≡ false

-- between a rule and its parent, no prefix begins the rule's own; so the parents lead to all that do
pub record IsLinked (rules : List Rule) (order parents : List ℕ) : Type 0 where
  pub down : (i : ℕ) → i < length parents → slice_index_or parents i 0 ≤ i
  pub begun : (i : ℕ) → i < length parents
      → NoneBegins rules order (prefix_in rules order i) (slice_index_or parents i 0) i

-- the table is that of these rules
pub record IsTable (table : TableRecord) (rules : List Rule) : Type 0 where
  pub enabled : AreEnabled rules table.order
  pub by_prefix : IsByPrefix rules table.order
  pub linked : IsLinked rules table.order table.parents
  pub size : length table.parents ≡ length table.order
