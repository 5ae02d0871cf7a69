-- A search may go rule by rule, and skip rules that are disabled or whose prefix does not begin the key.
use Rattle.std.proofs.Common.{◌≡◌, ℕ, ◌+◌, ◌<◌, ◌≤◌, ◌⊎◌, inl, inr, List, [], ◌∷◌, length, get_or, refl, sym, ap, ◌∙◌, subst, Bool, true, false, cond, ◌&&◌, ◌||◌, not, flat_map, arith, zero, suc}
use Rattle.std.specs.Prelude.{Option, Some, None, slice_get}
use Rattle.std.specs.List.{enumerate_from, list_all}
use Rattle.std.proofs.lemmas.Option.{slice_get-get_or, slice_get_past, get_or_from_slice_get}
use Rattle.rules_core.specs.Matching.{matches_upload, has_prefix, has_tag, has_tags, has_bound, is_above, is_below}
use Rattle.rules_core.specs.Configurations.{Configuration}
use Rattle.rules_core.specs.declared.rule.Rule.{Rule}
use Rattle.rules_core.specs.declared.rule.Filter.{Filter}
use Rattle.stacks.specs.Stacks.{StackRecord}
use Rattle.stacks.specs.declared.version.Kind.{Kind}
use Rattle.stacks.specs.declared.version.Kind.TheVariants.{Object, Marker as DeleteMarker}
use Rattle.office_base.specs.declared.version_id.VersionId.{VersionId}
use Rattle.uploads.specs.Uploads.{UploadRecord}
use Rattle.due_core.specs.Buckets.{BucketRecord}
use Rattle.due_core.specs.Candidates.{stack_candidates, upload_candidates}
use Rattle.due_core.specs.Choice.{comes_before, least}
use Rattle.due_core.specs.RuleActions.{Placed, placed_from, matches_version}
use Rattle.due_core.specs.declared.action.Candidate.{Candidate}
use Rattle.due_index.specs.Search.{Among, IsFirstOf, IsFirstOfList, setting_of, asked_of_version, version_candidates, key_candidates, asked_by_rule, asked_by_rules}
use Rattle.due_index.specs.Search.{asked_of_place, asked_at, asked_of_one_upload, number_candidates}
use Rattle.due_index.specs.Table.{enabled_of, prefix_of, is_enabled, prefix_at, begins}
use Rattle.due_index.specs.declared.asked.Setting.{Setting}
use Rattle.due_index.proofs.Among.{among_flat_map, flat_mapped}
use Rattle.due_index.proofs.Firsts.{none_looked, same_looked, first_least}
use Rattle.due_index.proofs.Noncurrents.{hold}
use Rattle.due_index.proofs.Oldest.{in_true}
use Rattle.due_index.proofs.Searching.{same_versions, same_upload}
use Rattle.due_index.proofs.Tables.{IsAskedAt, below_or}
use Rattle.due_index.proofs.Ties.{on_key, on_upload, tied_on_key, tied_on_upload, neither_before}

-- ---- a rule that asks something is enabled, and its prefix begins the key

both_true : (a b : Bool) → (a && b) ≡ true → a ≡ true
both_true true b is = refl
both_true false b is = absurd cc

prefix_by : (filter : Filter) (key : List ℕ) (id : VersionId) (kind : Kind) (created ceased : ℕ)
    → matches_version filter key (record { id = id; kind = kind; created = created; ceased = ceased }) ≡ true → has_prefix filter key ≡ true
prefix_by filter key id (Object size class tags entered) created ceased fits =
    let tagged = has_prefix filter key && list_all (has_tag tags) filter.tags in
    both_true (has_prefix filter key) (list_all (has_tag tags) filter.tags)
    (both_true tagged (is_above filter.greater size) (both_true (tagged && is_above filter.greater size) (is_below filter.less size) fits))
prefix_by filter key id DeleteMarker created ceased fits = both_true (has_prefix filter key) (not (has_tags filter || has_bound filter)) fits

asks_by : (setting : Setting) (key : List ℕ) (changed : ℕ) (placed : Placed) (numbered : ℕ × Rule) (c : Candidate)
    → Among (asked_of_version setting key changed placed numbered) c → (numbered.1.enabled ≡ true) × (has_prefix numbered.1.filter key ≡ true)
asks_by setting key changed placed numbered c h =
    let enabled = in_true numbered.1.enabled _ c h in
    let fits = in_true (matches_version numbered.1.filter key placed.version) _ c enabled.1 in
    (enabled.0, prefix_by numbered.1.filter key placed.version.id placed.version.kind placed.version.created placed.version.ceased fits.0)

-- ---- rule by rule, or version by version

module _ (setting : Setting) (rules : List Rule) (key : List ℕ) (stack : StackRecord) where
  by_versions : (c : Candidate) → Among (asked_by_rules setting rules (key, stack)) c → Among (key_candidates setting rules (key, stack)) c
  by_versions c h =
      let of_rule = among_flat_map (asked_by_rule setting (key, stack)) (enumerate_from 1 rules) c h in
      let enabled = in_true of_rule.0.1.enabled _ c of_rule.2 in
      let begins = in_true (has_prefix of_rule.0.1.filter key) _ c enabled.1 in
      let of_version = among_flat_map (λ placed. asked_of_version setting key stack.changed placed of_rule.0) (placed_from 0 stack.versions) c begins.1 in
      flat_mapped (version_candidates setting rules key stack.changed) (placed_from 0 stack.versions) of_version.0 c of_version.1
      (flat_mapped (asked_of_version setting key stack.changed of_version.0) (enumerate_from 1 rules) of_rule.0 c of_rule.1 of_version.2)

  by_rules : (c : Candidate) → Among (key_candidates setting rules (key, stack)) c → Among (asked_by_rules setting rules (key, stack)) c
  by_rules c h =
      let of_version = among_flat_map (version_candidates setting rules key stack.changed) (placed_from 0 stack.versions) c h in
      let of_rule = among_flat_map (asked_of_version setting key stack.changed of_version.0) (enumerate_from 1 rules) c of_version.2 in
      let asks = asks_by setting key stack.changed of_version.0 of_rule.0 c of_rule.2 in
      flat_mapped (asked_by_rule setting (key, stack)) (enumerate_from 1 rules) of_rule.0 c of_rule.1
      (hold of_rule.0.1.enabled _ c asks.0 (hold (has_prefix of_rule.0.1.filter key) _ c asks.1
      (flat_mapped (λ placed. asked_of_version setting key stack.changed placed of_rule.0) (placed_from 0 stack.versions) of_version.0 c of_version.1 of_rule.2)))

pub first_of_key : (bucket : BucketRecord) (rules : Configuration) (key : List ℕ) (stack : StackRecord) (first : Option Candidate)
    → IsFirstOfList None (asked_by_rules (setting_of bucket rules) rules.rules (key, stack)) first → first ≡ least comes_before (stack_candidates bucket rules (key, stack))
first_of_key bucket rules key stack first is =
    let setting = setting_of bucket rules in
    first_least (stack_candidates bucket rules (key, stack))
    (λ c d h k forth back. tied_on_key key stack c d (on_key bucket rules key stack c h) (on_key bucket rules key stack d k) (neither_before c d forth back)) first
    (subst (λ asked. IsFirstOfList None asked first) (same_versions bucket rules key stack)
    (same_looked None first (Among (asked_by_rules setting rules.rules (key, stack))) (Among (key_candidates setting rules.rules (key, stack))) is
    (by_versions setting rules.rules key stack) (by_rules setting rules.rules key stack)))

-- a rule that is disabled or whose prefix doesn't begin the key asks nothing
pub not_asked : (a b : Bool) (asked : List Candidate) (old : Option Candidate) → (a ≡ false) ⊎ (b ≡ false) → IsFirstOfList old (cond a (cond b asked []) []) old
not_asked true true asked old (inl is) = absurd cc
not_asked true true asked old (inr is) = absurd cc
not_asked true false asked old no_one = none_looked old (Among []) (λ c h. h)
not_asked false b asked old no_one = none_looked old (Among []) (λ c h. h)

-- ---- the rules at their places

pub record IsNumbered (m : ℕ) (rules : List Rule) (numbered : ℕ × Rule) : Type 0 where
  pub n : ℕ
  pub is : numbered.0 ≡ m + n
  pub within : n < length rules
  pub at : get_or rules n numbered.1 ≡ numbered.1

pub numbered_at : (m : ℕ) (rules : List Rule) (numbered : ℕ × Rule) → Among (enumerate_from m rules) numbered → IsNumbered m rules numbered
numbered_at m [] numbered h = absurd h
numbered_at m (r ∷ rs) numbered (inl e) = subst (λ x. IsNumbered m (r ∷ rs) x) e (record { n = 0; is = omega arith; within = omega arith; at = refl })
numbered_at m (r ∷ rs) numbered (inr h) =
    let rest = numbered_at (m + 1) rs numbered h in
    record { n = suc rest.n; is = let is = rest.is in omega arith; within = let within = rest.within in omega arith; at = rest.at }

pub at_number_of : (m n number : ℕ) (rules : List Rule) (rule : Rule) → n < length rules → get_or rules n rule ≡ rule → number ≡ m + n
    → Among (enumerate_from m rules) (number, rule)
at_number_of m n number [] rule within at is = absurd (omega arith)
at_number_of m zero number (r ∷ rs) rule within at is = let same : m ≡ number = omega arith in inl (ap (λ x. (x, r)) same ∙ ap (λ x. (number, x)) at)
at_number_of m (suc n) number (r ∷ rs) rule within at is = inr (at_number_of (m + 1) n number rs rule (omega arith) at (omega arith))

-- ---- each at its place

module _ (rules : List Rule) (asked : ℕ × Rule → List Candidate) where
  asked_there : (place : ℕ) (c : Candidate) (o : Option Rule) → slice_get rules place ≡ o → Among (asked_of_place asked place o) c
      → (length rules ≤ place) ⊎ (place < length rules) → Among (flat_map asked (enumerate_from 1 rules)) c
  asked_there place c None at h over = absurd h
  asked_there place c (Some rule) at h (inl over) = let gone : None ≡ Some rule = sym (slice_get_past rules place over) ∙ at in absurd cc
  asked_there place c (Some rule) at h (inr less) = flat_mapped asked (enumerate_from 1 rules) (place + 1, rule) c
      (at_number_of 1 place (place + 1) rules rule less (get_or_from_slice_get rules place rule rule at) (omega arith)) h

  pub in_rules : (c : Candidate) → IsAskedAt (asked_at asked rules) c → Among (flat_map asked (enumerate_from 1 rules)) c
  in_rules c h = asked_there h.place c (slice_get rules h.place) refl h.one (below_or h.place (length rules))

  pub at_places : (c : Candidate) → Among (flat_map asked (enumerate_from 1 rules)) c → IsAskedAt (asked_at asked rules) c
  at_places c h =
      let found = among_flat_map asked (enumerate_from 1 rules) c h in
      let at = numbered_at 1 rules found.0 found.1 in
      let number : found.0.0 ≡ at.n + 1 = let is = at.is in omega arith in
      let there : slice_get rules at.n ≡ Some found.0.1 = slice_get-get_or rules at.n found.0.1 at.within ∙ ap Some at.at in record {
        place = at.n;
        one = subst (λ o. Among (asked_of_place asked at.n o) c) (sym there) (subst (λ k. Among (asked (k, found.0.1)) c) number found.2);
      }

  pub all_rules : (old new : Option Candidate) → IsFirstOf old (IsAskedAt (asked_at asked rules)) new → IsFirstOfList old (flat_map asked (enumerate_from 1 rules)) new
  all_rules old new first = same_looked old new (IsAskedAt (asked_at asked rules)) (Among (flat_map asked (enumerate_from 1 rules))) first in_rules at_places

-- a rule that asks something of a key is enabled, and its prefix begins the key
stack_asks_by : (setting : Setting) (key : List ℕ) (stack : StackRecord) (place : ℕ) (o : Option Rule) (c : Candidate) → Among (asked_of_place (asked_by_rule setting (key, stack)) place o) c
    → (enabled_of o ≡ true) × (begins (prefix_of o) key ≡ true)
stack_asks_by setting key stack place None c h = absurd h
stack_asks_by setting key stack place (Some rule) c h =
    let enabled = in_true rule.enabled _ c h in (enabled.0, (in_true (has_prefix rule.filter key) _ c enabled.1).0)

pub stack_asks : (setting : Setting) (rules : List Rule) (key : List ℕ) (stack : StackRecord) (place : ℕ) (c : Candidate)
    → Among (asked_at (asked_by_rule setting (key, stack)) rules place) c → (is_enabled rules place ≡ true) × (begins (prefix_at rules place) key ≡ true)
stack_asks setting rules key stack place c h = stack_asks_by setting key stack place (slice_get rules place) c h

-- and of an upload
upload_asks_by : (setting : Setting) (number : ℕ) (upload : UploadRecord) (place : ℕ) (o : Option Rule) (c : Candidate)
    → Among (asked_of_place (asked_of_one_upload setting number upload) place o) c → (enabled_of o ≡ true) × (begins (prefix_of o) upload.key ≡ true)
upload_asks_by setting number upload place None c h = absurd h
upload_asks_by setting number upload place (Some rule) c h =
    let enabled = in_true rule.enabled _ c h in (enabled.0, (in_true (matches_upload rule.filter upload.key) _ c enabled.1).0)

pub upload_asks : (setting : Setting) (rules : List Rule) (number : ℕ) (upload : UploadRecord) (place : ℕ) (c : Candidate)
    → Among (asked_at (asked_of_one_upload setting number upload) rules place) c → (is_enabled rules place ≡ true) × (begins (prefix_at rules place) upload.key ≡ true)
upload_asks setting rules number upload place c h = upload_asks_by setting number upload place (slice_get rules place) c h

-- ---- the rule at a place

pub here_asked : (rules : List Rule) (asked : ℕ × Rule → List Candidate) (place : ℕ) (x : Rule) (old new : Option Candidate) → place < length rules → x ≡ get_or rules place x
    → IsFirstOfList old (asked (place + 1, x)) new → IsFirstOfList old (asked_at asked rules place) new
here_asked rules asked place x old new less here first =
    let there : slice_get rules place ≡ Some x = slice_get-get_or rules place x less ∙ ap Some (sym here) in
    subst (λ o. IsFirstOfList old (asked_of_place asked place o) new) (sym there) first

pub nothing_asked : (rules : List Rule) (asked : ℕ × Rule → List Candidate) (place : ℕ) (old : Option Candidate) → length rules ≤ place → IsFirstOfList old (asked_at asked rules place) old
nothing_asked rules asked place old over =
    subst (λ o. IsFirstOfList old (asked_of_place asked place o) old) (sym (slice_get_past rules place over)) (none_looked old (Among []) (λ c h. h))

-- ---- the first of an upload

pub first_of_upload : (bucket : BucketRecord) (rules : Configuration) (number : ℕ) (upload : UploadRecord) (first : Option Candidate)
    → IsFirstOfList None (number_candidates (setting_of bucket rules) rules.rules (number, upload)) first → first ≡ least comes_before (upload_candidates bucket rules (number, upload))
first_of_upload bucket rules number upload first is =
    first_least (upload_candidates bucket rules (number, upload))
    (λ c d h k forth back. tied_on_upload number upload c d (on_upload bucket rules number upload c h) (on_upload bucket rules number upload d k) (neither_before c d forth back)) first
    (subst (λ asked. IsFirstOfList None asked first) (same_upload bucket rules number upload) is)
