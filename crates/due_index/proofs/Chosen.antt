-- The head of the slots is the first action that the rules ask for in the bucket, so it is the choice once its moment
-- has come.
use Rattle.std.proofs.Common.{◌≡◌, ℕ, ◌<◌, ◌≤◌, inl, inr, List, [], ◌∷◌, refl, sym, ap, ◌∙◌, subst, Bool, true, false, cond, filter, flat_map, arith}
use Rattle.std.specs.Prelude.{Option, Some, None, option_map, IsTrue}
use Rattle.std.specs.Cmp.{IsStrictWeakOrder, IsTotalOrder, ranked, tied_itself}
use Rattle.std.specs.Map.{lookup}
use Rattle.std.specs.BTreeMap.{is_at}
use Rattle.std.specs.declared.cmp.Ordering.{Ordering}
use Rattle.std.specs.declared.cmp.Ordering.TheVariants.{Less, Equal, Greater}
use Rattle.std.specs.Ordering.{nat_cmp, ordering_then, ordering_reverse, is_lt, is_eq}
use Rattle.std.specs.FinMap.{slice_cmp-IsAntisymmetric, nat_cmp-IsAntisymmetric}
use Rattle.std.proofs.lemmas.Cmp.{nat_list_cmp_total, nat_cmp_total}
use Rattle.std.proofs.lemmas.Bool.Decides.{nat_tests}
use Rattle.std.specs.List.{AllByRecursion}
use Rattle.std.proofs.lemmas.List.MinMax.{ranks_by}
use Rattle.office_base.specs.Maps.{bytes_cmp, at_name, at_number, Rises}
use Rattle.rules_core.specs.Configurations.{Configuration}
use Rattle.stacks.specs.Stacks.{StackRecord}
use Rattle.uploads.specs.Uploads.{UploadRecord}
use Rattle.due_core.specs.Buckets.{BucketRecord}
use Rattle.due_core.specs.Candidates.{eligible, eligible_by, candidates, stack_candidates, upload_candidates}
use Rattle.due_core.specs.Choice.{precedence, comes_before, kind_place, coldness, least, IsLeast, choice}
use Rattle.due_core.specs.declared.action.Action.{Action}
use Rattle.due_core.specs.declared.action.Target.{Target}
use Rattle.due_core.specs.declared.action.Target.TheVariants as target
use Rattle.due_core.specs.declared.action.Candidate.{Candidate}
use Rattle.due_core.proofs.Precedence.{precedence_total, first_candidate}
use Rattle.due_core.proofs.Pass.{has_come}
use Rattle.due_index.specs.Firsts.{asked_of_key, asked_of_upload, first_on_key, first_on_upload}
use Rattle.due_index.specs.Queue.{slot_at, IsHead, IsFirstAction}
use Rattle.due_index.specs.Actions.{ActionsRecord, slot_of, IsOwned, IsTied, ActionsStand, IsBucket, due_by}
use Rattle.due_index.specs.Search.{Among}
use Rattle.due_index.proofs.Among.{among_append, among_front, among_back, among_filter, filtered, among_flat_map, flat_mapped, among_at, place_of}
use Rattle.due_index.proofs.Ties.{IsOnKey, IsOnUpload, on_key, on_upload, tied_on_key, tied_on_upload, neither_before, tied_key, tied_age, tied_kind}

pub candidate_order : IsStrictWeakOrder comes_before
candidate_order = ranks_by precedence_total (λ (c : Candidate). c)

-- ---- the least of a list

-- it is one of the list, and none of the list comes before it
pub record IsFirst (xs : List Candidate) (c : Candidate) : Type 0 where
  pub one : Among xs c
  pub none_before : (x : Candidate) → Among xs x → comes_before x c ≡ false

found_by : (xs : List Candidate) (o : Option Candidate) (c : Candidate) → IsLeast comes_before xs o → o ≡ Some c → IsFirst xs c
found_by xs None c h is = absurd cc
found_by xs (Some d) c h is =
    let same : d ≡ c = cc in
    let at = h.0 in
    subst (λ e. IsFirst xs e) same (record {
      one = among_at xs at.0 d d at.1 at.2;
      none_before = λ x k. let place = place_of xs x k in subst (λ y. comes_before y d ≡ false) place.2 (h.1 place.0 x place.1);
    })

pub least_first : (xs : List Candidate) (c : Candidate) → least comes_before xs ≡ Some c → IsFirst xs c
least_first xs c is = found_by xs (least comes_before xs) c (first_candidate xs) is

pub some_least : (xs : List Candidate) (x : Candidate) → Among xs x → (c : Candidate) × (least comes_before xs ≡ Some c)
some_least [] x h = absurd h
some_least (y ∷ ys) x h = (_, refl)

pub no_least : (xs : List Candidate) → ((x : Candidate) → Among xs x → ⊥) → least comes_before xs ≡ None
no_least [] h = refl
no_least (y ∷ ys) h = absurd (h y (inl refl))

-- the least of a list is the one that only itself ties with
pub least_is : (xs : List Candidate) (c : Candidate) → IsFirst xs c
    → ((x : Candidate) → Among xs x → comes_before x c ≡ false → comes_before c x ≡ false → x ≡ c) → least comes_before xs ≡ Some c
least_is xs c first only =
    let found = some_least xs c first.one in
    let is = least_first xs found.0 found.1 in
    found.1 ∙ ap Some (only found.0 is.one (first.none_before found.0 is.one) (is.none_before c first.one))

-- ---- maps

pub same_name : (a b : List ℕ) → bytes_cmp a b ≡ Equal → a ≡ b
same_name a b is = slice_cmp-IsAntisymmetric nat_cmp-IsAntisymmetric a b is

same_number : (a b : ℕ) → nat_cmp a b ≡ Equal → a ≡ b
same_number a b is = ranked a b Equal (sym is)

pub equal_is : (o : Ordering) → is_eq o ≡ true → o ≡ Equal
equal_is Less is = absurd cc
equal_is Equal is = refl
equal_is Greater is = absurd cc

less_is : (o : Ordering) → is_lt o ≡ true → o ≡ Less
less_is Less is = refl
less_is Equal is = absurd cc
less_is Greater is = absurd cc

module _ {K X : Type 0} (cmp : K → K → Ordering) (total : IsTotalOrder cmp) (same : (a b : K) → cmp a b ≡ Equal → a ≡ b) where
  there_by : (key : K) (x : X) (e : K × X) (es : List (K × X)) (b : Bool) → is_eq (cmp key e.0) ≡ b
      → (lookup (is_at (cmp key)) es ≡ Some x → Among es (key, x)) → cond b (Some e.1) (lookup (is_at (cmp key)) es) ≡ Some x → Among (e ∷ es) (key, x)
  there_by key x e es true at rest is =
      let here : key ≡ e.0 = same key e.0 (equal_is (cmp key e.0) at) in let value : e.1 ≡ x = cc in
      inl (ap (λ k. (k, e.1)) (sym here) ∙ ap (λ v. (key, v)) value)
  there_by key x e es false at rest is = inr (rest is)

  -- what is found under a key stands there
  pub found_there : (key : K) (x : X) (entries : List (K × X)) → lookup (is_at (cmp key)) entries ≡ Some x → Among entries (key, x)
  found_there key x [] is = absurd cc
  found_there key x (e ∷ es) is = there_by key x e es (is_eq (cmp key e.0)) refl (λ h. found_there key x es h) is

  above_all : (key : K) (x : X) (e : K × X) (es : List (K × X)) → AllByRecursion (λ other. IsTrue (is_lt (cmp e.0 other.0))) es → Among es (key, x) → cmp e.0 key ≡ Less
  above_all key x e [] all h = absurd h
  above_all key x e (f ∷ fs) all (inl is) = less_is (cmp e.0 key) (subst (λ (g : K × X). is_lt (cmp e.0 g.0) ≡ true) is all.0)
  above_all key x e (f ∷ fs) all (inr h) = above_all key x e fs all.1 h

  -- what stands under a key is found there
  pub there_found : (key : K) (x : X) (entries : List (K × X)) → Rises cmp entries → Among entries (key, x) → lookup (is_at (cmp key)) entries ≡ Some x
  there_found key x [] rise h = absurd h
  there_found key x (e ∷ es) rise (inl is) =
      subst (λ (g : K × X). cond (is_eq (cmp key g.0)) (Some g.1) (lookup (is_at (cmp key)) es) ≡ Some x) (sym is)
      (ap (λ o. cond (is_eq o) (Some x) (lookup (is_at (cmp key)) es)) (tied_itself total key))
  there_found key x (e ∷ es) rise (inr h) =
      let above : cmp key e.0 ≡ Greater = total.antisymm key e.0 ∙ ap ordering_reverse (above_all key x e es rise.0 h) in
      ap (λ o. cond (is_eq o) (Some e.1) (lookup (is_at (cmp key)) es)) above ∙ there_found key x es rise.1 h

-- ---- moments

first_greater : (o rest : Ordering) → o ≡ Less → is_lt (ordering_then o rest) ≡ true
first_greater o rest is = rw is refl

since_by : (x head : Candidate) (o : Ordering) → nat_cmp x.action.since head.action.since ≡ o → comes_before x head ≡ false → head.action.since ≤ x.action.since
since_by x head Less is no_less = let yes : comes_before x head ≡ true = first_greater (nat_cmp x.action.since head.action.since)
    (ordering_then (nat_cmp (kind_place x.action.kind) (kind_place head.action.kind)) (ordering_then (bytes_cmp x.action.key head.action.key)
    (ordering_then (nat_cmp x.age head.age) (ordering_then (nat_cmp (coldness head.action.kind) (coldness x.action.kind)) (nat_cmp x.action.rule head.action.rule))))) is in absurd cc
since_by x head Equal is no_less = let same = ranked x.action.since head.action.since Equal (sym is) in omega arith
since_by x head Greater is no_less = let more = ranked x.action.since head.action.since Greater (sym is) in omega arith

since_from : (x head : Candidate) → comes_before x head ≡ false → head.action.since ≤ x.action.since
since_from x head no_less = since_by x head (nat_cmp x.action.since head.action.since) refl no_less

come_less : (t : ℕ) (x head : Candidate) → has_come t x ≡ true → has_come t head ≡ false → head.action.since ≤ x.action.since → ⊥
come_less t x head come not_come later = grind (arith, nat_tests)

-- ---- the first of all

some_slot : (o : Option ℕ) (slots : List (Option Candidate)) (c : Candidate) → slot_of o slots ≡ Some c → (slot : ℕ) × (o ≡ Some slot) × (slot_at slot slots ≡ Some c)
some_slot None slots c is = absurd cc
some_slot (Some slot) slots c is = (slot, refl, is)

module _ (index : ActionsRecord) (bucket : BucketRecord) (whole : IsBucket bucket) (tied : IsTied index) (stands : ActionsStand index bucket) where
  -- a candidate that stands in a slot and that comes first of some list in which only itself ties with it
  pub record IsLed (r : Candidate) : Type 0 where
    pub lead : Candidate
    pub slot : ℕ
    pub holds : slot_at slot index.slots ≡ Some lead
    pub not_after : comes_before r lead ≡ false
    pub alone : comes_before lead r ≡ false → lead ≡ r

  led_on_key : (rules : Configuration) (key : List ℕ) (stack : StackRecord) (r : Candidate) → bucket.rules ≡ Some rules
      → Among bucket.stacks (key, stack) → Among (stack_candidates bucket rules (key, stack)) r → IsLed r
  unfolding first_on_key
  led_on_key rules key stack r own there among =
      let at : at_name key bucket.stacks ≡ Some stack = there_found bytes_cmp nat_list_cmp_total same_name key stack bucket.stacks whole.stacks there in
      let asked : asked_of_key bucket key bucket.rules (at_name key bucket.stacks) ≡ stack_candidates bucket rules (key, stack) =
      ap (λ o. asked_of_key bucket key o (at_name key bucket.stacks)) own ∙ ap (λ s. asked_of_key bucket key (Some rules) s) at in
      let least_of = some_least (stack_candidates bucket rules (key, stack)) r among in
      let first = least_first (stack_candidates bucket rules (key, stack)) least_of.0 least_of.1 in
      let place = some_slot (at_name key index.keys) index.slots least_of.0 (stands.keys key ∙ ap (least comes_before) asked ∙ least_of.1) in
      record {
        lead = least_of.0;
        slot = place.0;
        holds = place.2;
        not_after = first.none_before r among;
        alone = λ back. tied_on_key key stack least_of.0 r (on_key bucket rules key stack least_of.0 first.one) (on_key bucket rules key stack r among)
            (neither_before least_of.0 r back (first.none_before r among));
      }

  led_on_upload : (rules : Configuration) (number : ℕ) (upload : UploadRecord) (r : Candidate) → bucket.rules ≡ Some rules
      → Among bucket.uploads (number, upload) → Among (upload_candidates bucket rules (number, upload)) r → IsLed r
  unfolding first_on_upload
  led_on_upload rules number upload r own there among =
      let at : at_number number bucket.uploads ≡ Some upload = there_found nat_cmp nat_cmp_total same_number number upload bucket.uploads whole.uploads there in
      let asked : asked_of_upload bucket number bucket.rules (at_number number bucket.uploads) ≡ upload_candidates bucket rules (number, upload) =
      ap (λ o. asked_of_upload bucket number o (at_number number bucket.uploads)) own ∙ ap (λ s. asked_of_upload bucket number (Some rules) s) at in
      let least_of = some_least (upload_candidates bucket rules (number, upload)) r among in
      let first = least_first (upload_candidates bucket rules (number, upload)) least_of.0 least_of.1 in
      let place = some_slot (at_number number index.uploads) index.slots least_of.0 (stands.uploads number ∙ ap (least comes_before) asked ∙ least_of.1) in
      record {
        lead = least_of.0;
        slot = place.0;
        holds = place.2;
        not_after = first.none_before r among;
        alone = λ back. tied_on_upload number upload least_of.0 r (on_upload bucket rules number upload least_of.0 first.one) (on_upload bucket rules number upload r among)
            (neither_before least_of.0 r back (first.none_before r among));
      }

  led_by : (o : Option Configuration) (r : Candidate) → bucket.rules ≡ o → Among (eligible_by bucket o) r → IsLed r
  led_by None r own h = absurd h
  led_by (Some rules) r own h =
      elim (among_append (flat_map (stack_candidates bucket rules) bucket.stacks) (flat_map (upload_candidates bucket rules) bucket.uploads) r h) [
        | inl a ↦ let found = among_flat_map (stack_candidates bucket rules) bucket.stacks r a in led_on_key rules found.0.0 found.0.1 r own found.1 found.2
        | inr b ↦ let found = among_flat_map (upload_candidates bucket rules) bucket.uploads r b in led_on_upload rules found.0.0 found.0.1 r own found.1 found.2
      ]

  pub led : (r : Candidate) → Among (eligible bucket) r → IsLed r
  unfolding eligible
  led r h = led_by bucket.rules r refl h

  -- ---- what stands in a slot is eligible

  on_key_by : (key : List ℕ) (o : Option Configuration) (s : Option StackRecord) (c : Candidate) → at_name key bucket.stacks ≡ s
      → least comes_before (asked_of_key bucket key o s) ≡ Some c → Among (eligible_by bucket o) c × ((stack : StackRecord) × IsOnKey key stack c)
  on_key_by key None s c at is = absurd cc
  on_key_by key (Some rules) None c at is = absurd cc
  on_key_by key (Some rules) (Some stack) c at is =
      let first = least_first (stack_candidates bucket rules (key, stack)) c is in
      let there = found_there bytes_cmp nat_list_cmp_total same_name key stack bucket.stacks at in
      (among_front _ _ c (flat_mapped (stack_candidates bucket rules) bucket.stacks (key, stack) c there first.one), (stack, on_key bucket rules key stack c first.one))

  on_upload_by : (number : ℕ) (o : Option Configuration) (s : Option UploadRecord) (c : Candidate) → at_number number bucket.uploads ≡ s
      → least comes_before (asked_of_upload bucket number o s) ≡ Some c → Among (eligible_by bucket o) c × ((upload : UploadRecord) × IsOnUpload number upload c)
  on_upload_by number None s c at is = absurd cc
  on_upload_by number (Some rules) None c at is = absurd cc
  on_upload_by number (Some rules) (Some upload) c at is =
      let first = least_first (upload_candidates bucket rules (number, upload)) c is in
      let there = found_there nat_cmp nat_cmp_total same_number number upload bucket.uploads at in
      (among_back _ _ c (flat_mapped (upload_candidates bucket rules) bucket.uploads (number, upload) c there first.one), (upload, on_upload bucket rules number upload c first.one))

  -- its kind tells whether it is on a version or on an upload
  abbrev Side : ℕ → Candidate → Target → Type 0
  Side slot c (target.Version id) = (at_name c.action.key index.keys ≡ Some slot) × (kind_place c.action.kind < 3)
  Side slot c (target.Upload number) = (at_number number index.uploads ≡ Some slot) × (kind_place c.action.kind ≡ 3) × (c.age ≡ number)

  side_by : (slot : ℕ) (c : Candidate) (t : Target) → c.action.target ≡ t → slot_at slot index.slots ≡ Some c → IsOwned index slot c t
      → Among (eligible bucket) c × Side slot c t
  unfolding eligible first_on_key first_on_upload
  side_by slot c (target.Version id) on is owned =
      let next : first_on_key bucket c.action.key ≡ Some c = sym (stands.keys c.action.key) ∙ ap (λ o. slot_of o index.slots) owned ∙ is in
      let known = on_key_by c.action.key bucket.rules (at_name c.action.key bucket.stacks) c refl next in
      (known.0, (owned, known.1.1.kind))
  side_by slot c (target.Upload number) on is owned =
      let next : first_on_upload bucket number ≡ Some c = sym (stands.uploads number) ∙ ap (λ o. slot_of o index.slots) owned ∙ is in
      let known = on_upload_by number bucket.rules (at_number number bucket.uploads) c refl next in
      (known.0, (owned, known.1.1.kind, known.1.1.older))

  pub side : (slot : ℕ) (c : Candidate) → slot_at slot index.slots ≡ Some c → Among (eligible bucket) c × Side slot c c.action.target
  side slot c is = side_by slot c c.action.target refl is (tied.owned slot c is)

  one_slot : (a b : ℕ) (c d : Candidate) → a ≡ b → slot_at a index.slots ≡ Some c → slot_at b index.slots ≡ Some d → c ≡ d
  one_slot a b c d same h k = let both : Some c ≡ Some d = sym h ∙ ap (λ n. slot_at n index.slots) same ∙ k in cc

  -- two in slots that tie are the same
  apart_by : (a b : ℕ) (c d : Candidate) (t u : Target) → Side a c t → Side b d u → precedence c d ≡ Equal
      → slot_at a index.slots ≡ Some c → slot_at b index.slots ≡ Some d → c ≡ d
  apart_by a b c d (target.Version i) (target.Version j) h k tie on_a on_b =
      let both : Some a ≡ Some b = sym h.0 ∙ ap (λ key. at_name key index.keys) (tied_key c d tie) ∙ k.0 in one_slot a b c d (cc) on_a on_b
  apart_by a b c d (target.Upload m) (target.Upload n) h k tie on_a on_b =
      let number : m ≡ n = sym h.2 ∙ tied_age c d tie ∙ k.2 in
      let both : Some a ≡ Some b = sym h.0 ∙ ap (λ x. at_number x index.uploads) number ∙ k.0 in one_slot a b c d (cc) on_a on_b
  apart_by a b c d (target.Version i) (target.Upload n) h k tie on_a on_b =
      let kinds = ap kind_place (tied_kind c d tie) in let less = h.1 in let three = k.1 in absurd (omega arith)
  apart_by a b c d (target.Upload m) (target.Version j) h k tie on_a on_b =
      let kinds = ap kind_place (tied_kind c d tie) in let less = k.1 in let three = h.1 in absurd (omega arith)

  module _ (head : Candidate) (heads : IsHead index.slots (Some head)) where
    -- nothing eligible comes before the head, and only itself ties with it
    pub none_before_head : (r : Candidate) → Among (eligible bucket) r → comes_before r head ≡ false
    none_before_head r h =
        let l = led r h in candidate_order.chain r l.lead head l.not_after (heads.1 l.slot l.lead l.holds)

    pub only_head : (r : Candidate) → Among (eligible bucket) r → comes_before r head ≡ false → comes_before head r ≡ false → r ≡ head
    only_head r h forth back =
        let l = led r h in
        let under : comes_before l.lead head ≡ false = heads.1 l.slot l.lead l.holds in
        let over : comes_before head l.lead ≡ false = candidate_order.chain head r l.lead back l.not_after in
        let tie = neither_before l.lead head under over in
        let same : l.lead ≡ head = apart_by l.slot heads.0.0 l.lead head l.lead.action.target head.action.target (side l.slot l.lead l.holds).1
        (side heads.0.0 head heads.0.1).1 tie l.holds heads.0.1 in
        sym (l.alone (candidate_order.chain l.lead head r under back)) ∙ same

    pub head_eligible : Among (eligible bucket) head
    head_eligible = (side heads.0.0 head heads.0.1).0

    first_come : (t : ℕ) → has_come t head ≡ true → least comes_before (filter (has_come t) (eligible bucket)) ≡ Some head
    first_come t come =
        least_is (filter (has_come t) (eligible bucket)) head
        (record {
          one = filtered (has_come t) (eligible bucket) head head_eligible come;
          none_before = λ x h. none_before_head x (among_filter (has_come t) (eligible bucket) x h).0;
        })
        (λ x h. only_head x (among_filter (has_come t) (eligible bucket) x h).0)

    none_come : (t : ℕ) → has_come t head ≡ false → least comes_before (filter (has_come t) (eligible bucket)) ≡ None
    none_come t come =
        no_least (filter (has_come t) (eligible bucket)) (λ x h.
        let found = among_filter (has_come t) (eligible bucket) x h in
        let later = since_from x head (none_before_head x found.0) in
        absurd (come_less t x head found.1 come later))

    by_come : (t : ℕ) (b : Bool) → has_come t head ≡ b → option_map (λ (c : Candidate). c.action) (least comes_before (filter (has_come t) (eligible bucket)))
        ≡ cond b (Some head.action) None
    by_come t true come = ap (option_map (λ (c : Candidate). c.action)) (first_come t come)
    by_come t false come = ap (option_map (λ (c : Candidate). c.action)) (none_come t come)

  -- the choice of the bucket
  choice_of_head : (t : ℕ) (head : Option Candidate) → IsHead index.slots head
      → choice bucket t ≡ due_by t (option_map (λ (c : Candidate). c.action) head)
  unfolding choice candidates
  choice_of_head t None heads =
      ap (option_map (λ (c : Candidate). c.action)) (no_least (filter (has_come t) (eligible bucket)) (λ x h.
      let l = led x (among_filter (has_come t) (eligible bucket) x h).0 in absurd (heads l.slot l.lead l.holds)))
  choice_of_head t (Some head) heads = by_come head heads t (has_come t head) refl

  pub choice_of_first : (t : ℕ) (first : Option Action) → IsFirstAction index.slots first → choice bucket t ≡ due_by t first
  choice_of_first t first (head, heads, is) = choice_of_head t head heads ∙ ap (due_by t) is
