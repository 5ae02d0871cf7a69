-- Two candidates on the same key, or on the same upload, are equal if neither comes before the other.
use Rattle.std.proofs.Common.{◌≡◌, ℕ, ◌+◌, ◌-◌, ◌<◌, ◌++◌, cond, inl, inr, List, [], ◌∷◌, length, refl, sym, ap, ◌∙◌, subst, Bool, true, false, arith}
use Rattle.std.specs.Prelude.{max, ◌==◌, filter, nat_lt}
use Rattle.std.specs.declared.cmp.Ordering.{Ordering}
use Rattle.std.specs.declared.cmp.Ordering.TheVariants.{Less, Equal, Greater}
use Rattle.std.specs.Ordering.{nat_cmp, ordering_then, ordering_reverse, is_lt}
use Rattle.std.specs.Cmp.{ranked}
use Rattle.std.specs.FinMap.{slice_cmp-IsAntisymmetric, nat_cmp-IsAntisymmetric}
use Rattle.moments.specs.Time.{end_of_time}
use Rattle.class_rules.specs.Classes.{rank_of}
use Rattle.class_rules.specs.declared.class.Class.{Class}
use Rattle.class_rules.specs.declared.class.Class.TheVariants.{Standard, StandardIa, OnezoneIa, GlacierIr, Glacier, DeepArchive}
use Rattle.office_base.specs.Maps.{bytes_cmp}
use Rattle.rules_core.specs.Matching.{matches_upload}
use Rattle.rules_core.specs.Configurations.{Configuration}
use Rattle.rules_core.specs.declared.rule.Rule.{Rule}
use Rattle.stacks.specs.Stacks.{StackRecord}
use Rattle.stacks.specs.declared.version.Version.{Version}
use Rattle.uploads.specs.Uploads.{UploadRecord}
use Rattle.due_core.specs.Buckets.{BucketRecord}
use Rattle.due_core.specs.RuleActions.{DueAction, Placed, placed_from, version_actions, matches_version, upload_actions, noncurrent_removals, noncurrent_transitions}
use Rattle.due_core.specs.RuleActions.{object_actions, expiration_actions, transition_actions, expiring, lone_marker_actions, marker_expirations, lone_marker_removals}
use Rattle.rules_core.specs.declared.rule.SizeMode.{SizeMode}
use Rattle.stacks.specs.declared.version.Versioning.{Versioning}
use Rattle.stacks.specs.declared.version.Versioning.TheVariants.{Unversioned, Enabled, Suspended}
use Rattle.stacks.specs.declared.version.Kind.{Kind}
use Rattle.stacks.specs.declared.version.Kind.TheVariants.{Object, Marker as DeleteMarker}
use Rattle.office_base.specs.declared.version_id.VersionId.{VersionId}
use Rattle.due_core.specs.Candidates.{enabled_rules, timely, stack_candidates, upload_candidates}
use Rattle.due_core.specs.Choice.{precedence, comes_before, kind_place, coldness}
use Rattle.due_core.specs.declared.action.ActionKind.{ActionKind}
use Rattle.due_core.specs.declared.action.ActionKind.TheVariants.{Remove, Transition, Marker, Abort}
use Rattle.due_core.specs.declared.action.Target.{Target}
use Rattle.due_core.specs.declared.action.Target.TheVariants as target
use Rattle.due_core.specs.declared.action.Candidate.{Candidate}
use Rattle.due_core.proofs.Precedence.{precedence_total}
use Rattle.due_index.specs.Search.{Among}
use Rattle.due_index.proofs.Among.{among_append, among_map, among_filter, among_flat_map}

-- ---- what a tie says

then_equal : (a b : Ordering) → ordering_then a b ≡ Equal → (a ≡ Equal) × (b ≡ Equal)
then_equal Less b is = absurd cc
then_equal Equal b is = (refl, is)
then_equal Greater b is = absurd cc

same_rank : (a b : Class) → rank_of a ≡ rank_of b → a ≡ b
same_rank Standard Standard is = refl
same_rank Standard StandardIa is = absurd (omega arith)
same_rank Standard OnezoneIa is = absurd (omega arith)
same_rank Standard GlacierIr is = absurd (omega arith)
same_rank Standard Glacier is = absurd (omega arith)
same_rank Standard DeepArchive is = absurd (omega arith)
same_rank StandardIa Standard is = absurd (omega arith)
same_rank StandardIa StandardIa is = refl
same_rank StandardIa OnezoneIa is = absurd (omega arith)
same_rank StandardIa GlacierIr is = absurd (omega arith)
same_rank StandardIa Glacier is = absurd (omega arith)
same_rank StandardIa DeepArchive is = absurd (omega arith)
same_rank OnezoneIa Standard is = absurd (omega arith)
same_rank OnezoneIa StandardIa is = absurd (omega arith)
same_rank OnezoneIa OnezoneIa is = refl
same_rank OnezoneIa GlacierIr is = absurd (omega arith)
same_rank OnezoneIa Glacier is = absurd (omega arith)
same_rank OnezoneIa DeepArchive is = absurd (omega arith)
same_rank GlacierIr Standard is = absurd (omega arith)
same_rank GlacierIr StandardIa is = absurd (omega arith)
same_rank GlacierIr OnezoneIa is = absurd (omega arith)
same_rank GlacierIr GlacierIr is = refl
same_rank GlacierIr Glacier is = absurd (omega arith)
same_rank GlacierIr DeepArchive is = absurd (omega arith)
same_rank Glacier Standard is = absurd (omega arith)
same_rank Glacier StandardIa is = absurd (omega arith)
same_rank Glacier OnezoneIa is = absurd (omega arith)
same_rank Glacier GlacierIr is = absurd (omega arith)
same_rank Glacier Glacier is = refl
same_rank Glacier DeepArchive is = absurd (omega arith)
same_rank DeepArchive Standard is = absurd (omega arith)
same_rank DeepArchive StandardIa is = absurd (omega arith)
same_rank DeepArchive OnezoneIa is = absurd (omega arith)
same_rank DeepArchive GlacierIr is = absurd (omega arith)
same_rank DeepArchive Glacier is = absurd (omega arith)
same_rank DeepArchive DeepArchive is = refl

same_kind : (a b : ActionKind) → kind_place a ≡ kind_place b → coldness a ≡ coldness b → a ≡ b
same_kind Remove Remove p c = refl
same_kind Remove (Transition to) p c = absurd (omega arith)
same_kind Remove Marker p c = absurd (omega arith)
same_kind Remove Abort p c = absurd (omega arith)
same_kind (Transition to) Remove p c = absurd (omega arith)
same_kind (Transition to) (Transition other) p c = ap Transition (same_rank to other c)
same_kind (Transition to) Marker p c = absurd (omega arith)
same_kind (Transition to) Abort p c = absurd (omega arith)
same_kind Marker Remove p c = absurd (omega arith)
same_kind Marker (Transition to) p c = absurd (omega arith)
same_kind Marker Marker p c = refl
same_kind Marker Abort p c = absurd (omega arith)
same_kind Abort Remove p c = absurd (omega arith)
same_kind Abort (Transition to) p c = absurd (omega arith)
same_kind Abort Marker p c = absurd (omega arith)
same_kind Abort Abort p c = refl

-- ---- candidates on a key

placed_below : (n : ℕ) (versions : List Version) (p : Placed) → Among (placed_from n versions) p → p.older < length versions
placed_below n [] p h = absurd h
placed_below n (v ∷ vs) p (inl e) = let is = ap (λ (q : Placed). q.older) e in omega arith
placed_below n (v ∷ vs) p (inr h) = let less = placed_below (n + 1) vs p h in omega arith

pub placed_once : (n : ℕ) (versions : List Version) (p q : Placed) → Among (placed_from n versions) p → Among (placed_from n versions) q → p.older ≡ q.older → p ≡ q
placed_once n [] p q h k is = absurd h
placed_once n (v ∷ vs) p q (inl e) (inl f) is = sym e ∙ f
placed_once n (v ∷ vs) p q (inl e) (inr k) is =
    let less = placed_below (n + 1) vs q k in let here = ap (λ (r : Placed). r.older) e in absurd (omega arith)
placed_once n (v ∷ vs) p q (inr h) (inl f) is =
    let less = placed_below (n + 1) vs p h in let here = ap (λ (r : Placed). r.older) f in absurd (omega arith)
placed_once n (v ∷ vs) p q (inr h) (inr k) is = placed_once (n + 1) vs p q h k is

-- a candidate on a version of the key
pub record IsOnKey (key : List ℕ) (stack : StackRecord) (c : Candidate) : Type 0 where
  pub own : c.action.key ≡ key
  pub placed : Placed
  pub there : Among (placed_from 0 stack.versions) placed
  pub on : c.action.target ≡ target.Version placed.version.id
  pub older : c.age ≡ placed.older
  pub kind : kind_place c.action.kind < 3

-- what the rules ask of versions is no abort, and of uploads nothing else
removal_kinds : (rule : Rule) (newer ceased : ℕ) (due : DueAction) → Among (noncurrent_removals rule newer ceased) due → kind_place due.0 < 3
removal_kinds rule newer ceased due h = let found = among_map _ _ due h in subst (λ (d : DueAction). kind_place d.0 < 3) found.2 (omega arith)

move_kinds : (mode : SizeMode) (rule : Rule) (size : ℕ) (class : Class) (newer ceased : ℕ) (due : DueAction)
    → Among (noncurrent_transitions mode rule size class newer ceased) due → kind_place due.0 < 3
move_kinds mode rule size class newer ceased due h = let found = among_map _ _ due h in subst (λ (d : DueAction). kind_place d.0 < 3) found.2 (omega arith)

expiring_kind : (versioning : Versioning) → kind_place (expiring versioning) < 3
expiring_kind Unversioned = omega arith
expiring_kind Enabled = omega arith
expiring_kind Suspended = omega arith

object_kinds : (versioning : Versioning) (mode : SizeMode) (rule : Rule) (size : ℕ) (class : Class) (created : ℕ) (due : DueAction)
    → Among (object_actions versioning mode rule size class created) due → kind_place due.0 < 3
object_kinds versioning mode rule size class created due h =
    elim (among_append (expiration_actions versioning rule created) (transition_actions mode rule size class created) due h) [
      | inl a ↦ let found = among_map _ _ due a in subst (λ (d : DueAction). kind_place d.0 < 3) found.2 (expiring_kind versioning)
      | inr b ↦ let found = among_map _ _ due b in subst (λ (d : DueAction). kind_place d.0 < 3) found.2 (omega arith)
    ]

noncurrent_kinds : (mode : SizeMode) (rule : Rule) (size : ℕ) (class : Class) (newer ceased : ℕ) (due : DueAction)
    → Among (noncurrent_removals rule newer ceased ++ noncurrent_transitions mode rule size class newer ceased) due → kind_place due.0 < 3
noncurrent_kinds mode rule size class newer ceased due h =
    elim (among_append (noncurrent_removals rule newer ceased) (noncurrent_transitions mode rule size class newer ceased) due h) [
      | inl a ↦ removal_kinds rule newer ceased due a
      | inr b ↦ move_kinds mode rule size class newer ceased due b
    ]

lone_kinds : (rule : Rule) (created changed : ℕ) (due : DueAction) → Among (lone_marker_actions rule created changed) due → kind_place due.0 < 3
lone_kinds rule created changed due h =
    elim (among_append (marker_expirations rule created) (lone_marker_removals rule changed) due h) [
      | inl a ↦ let found = among_map _ _ due a in subst (λ (d : DueAction). kind_place d.0 < 3) found.2 (omega arith)
      | inr b ↦ let found = among_map _ _ due b in subst (λ (d : DueAction). kind_place d.0 < 3) found.2 (omega arith)
    ]

in_either : (b : Bool) (xs ys : List DueAction) (due : DueAction) → ((d : DueAction) → Among xs d → kind_place d.0 < 3)
    → ((d : DueAction) → Among ys d → kind_place d.0 < 3) → Among (cond b xs ys) due → kind_place due.0 < 3
in_either true xs ys due f g h = f due h
in_either false xs ys due f g h = g due h

kinds_by : (versioning : Versioning) (mode : SizeMode) (changed : ℕ) (rule : Rule) (id : VersionId) (kind : Kind) (created ceased newer older : ℕ) (due : DueAction)
    → Among (version_actions versioning mode changed rule (record { version = record { id = id; kind = kind; created = created; ceased = ceased }; newer = newer; older = older })) due
    → kind_place due.0 < 3
unfolding version_actions
kinds_by versioning mode changed rule id (Object size class tags entered) created ceased newer older due h =
    in_either (newer == 0) _ _ due (object_kinds versioning mode rule size class created) (noncurrent_kinds mode rule size class (newer - 1) ceased) h
kinds_by versioning mode changed rule id DeleteMarker created ceased newer older due h =
    in_either (newer == 0) _ _ due (λ d k. in_either (older == 0) _ _ d (lone_kinds rule created changed) (λ e l. absurd l) k) (removal_kinds rule (newer - 1) ceased) h

version_kinds : (versioning : Versioning) (mode : SizeMode) (changed : ℕ) (rule : Rule) (placed : Placed) (due : DueAction)
    → Among (version_actions versioning mode changed rule placed) due → kind_place due.0 < 3
version_kinds versioning mode changed rule placed due h =
    kinds_by versioning mode changed rule placed.version.id placed.version.kind placed.version.created placed.version.ceased placed.newer placed.older due h

upload_kind : (rule : Rule) (upload : UploadRecord) (due : DueAction) → Among (upload_actions rule upload) due → Abort ≡ due.0
upload_kind rule upload due h = let found = among_map _ _ due h in ap (λ (d : DueAction). d.0) found.2

from_timely : (key : List ℕ) (t : Target) (rule age not_before : ℕ) (asked : List DueAction) (c : Candidate)
    → Among (timely key t rule age not_before asked) c
    → (c.action.key ≡ key) × (c.action.target ≡ t) × (c.action.rule ≡ rule) × (c.age ≡ age) × ((due : DueAction) × Among asked due × (c.action.kind ≡ due.0))
from_timely key t rule age not_before asked c h =
    let found = among_map _ (filter (λ due. nat_lt due.1 end_of_time) asked) c h in
    let is = sym found.2 in (
      ap (λ (x : Candidate). x.action.key) is,
      ap (λ (x : Candidate). x.action.target) is,
      ap (λ (x : Candidate). x.action.rule) is,
      ap (λ (x : Candidate). x.age) is,
      (found.0, (among_filter _ asked found.0 found.1).0, ap (λ (x : Candidate). x.action.kind) is),
    )

pub on_key : (bucket : BucketRecord) (rules : Configuration) (key : List ℕ) (stack : StackRecord) (c : Candidate)
    → Among (stack_candidates bucket rules (key, stack)) c → IsOnKey key stack c
on_key bucket rules key stack c h =
    let of_version = among_flat_map _ (placed_from 0 stack.versions) c h in
    let of_rule = among_flat_map _ (filter (λ numbered. matches_version numbered.1.filter key of_version.0.version) (enabled_rules rules)) c of_version.2 in
    let fields = from_timely key (target.Version of_version.0.version.id) of_rule.0.0 of_version.0.older (max stack.changed bucket.rules_since)
    (version_actions bucket.versioning rules.mode stack.changed of_rule.0.1 of_version.0) c of_rule.2 in
    record {
      own = fields.0;
      placed = of_version.0;
      there = of_version.1;
      on = fields.1;
      older = fields.3;
      kind = subst (λ k. kind_place k < 3) (sym fields.4.2)
          (version_kinds bucket.versioning rules.mode stack.changed of_rule.0.1 of_version.0 fields.4.0 fields.4.1);
    }

-- ---- candidates on an upload

pub record IsOnUpload (number : ℕ) (upload : UploadRecord) (c : Candidate) : Type 0 where
  pub own : c.action.key ≡ upload.key
  pub on : c.action.target ≡ target.Upload number
  pub older : c.age ≡ number
  pub kind : kind_place c.action.kind ≡ 3

pub on_upload : (bucket : BucketRecord) (rules : Configuration) (number : ℕ) (upload : UploadRecord) (c : Candidate)
    → Among (upload_candidates bucket rules (number, upload)) c → IsOnUpload number upload c
on_upload bucket rules number upload c h =
    let of_rule = among_flat_map _ (filter (λ numbered. matches_upload numbered.1.filter upload.key) (enabled_rules rules)) c h in
    let fields = from_timely upload.key (target.Upload number) of_rule.0.0 number (max upload.changed bucket.rules_since)
    (upload_actions of_rule.0.1 upload) c of_rule.2 in
    record {
      own = fields.0;
      on = fields.1;
      older = fields.3;
      kind = ap kind_place (fields.4.2 ∙ sym (upload_kind of_rule.0.1 upload fields.4.0 fields.4.1));
    }

-- ---- ties

abbrev made : ActionKind → List ℕ → Target → ℕ → ℕ → ℕ → Candidate
made k key t r s a = record { action = record { kind = k; key = key; target = t; rule = r; since = s }; age = a }

all_same : (k k' : ActionKind) (key key' : List ℕ) (t t' : Target) (r r' s s' a a' : ℕ) → k ≡ k' → key ≡ key' → t ≡ t' → r ≡ r' → s ≡ s' → a ≡ a'
    → made k key t r s a ≡ made k' key' t' r' s' a'
all_same k k' key key' t t' r r' s s' a a' hk hkey ht hr hs ha = cc

-- what decides in the order is equal
record AreTied (c d : Candidate) : Type 0 where
  since : c.action.since ≡ d.action.since
  kind : c.action.kind ≡ d.action.kind
  age : c.age ≡ d.age
  rule : c.action.rule ≡ d.action.rule

are_equal : (a b : ℕ) → nat_cmp a b ≡ Equal → a ≡ b
are_equal a b is = ranked a b Equal (sym is)

tied : (c d : Candidate) → precedence c d ≡ Equal → AreTied c d
tied c d is =
    let since = then_equal (nat_cmp c.action.since d.action.since) _ is in
    let kind = then_equal (nat_cmp (kind_place c.action.kind) (kind_place d.action.kind)) _ since.1 in
    let key = then_equal (bytes_cmp c.action.key d.action.key) _ kind.1 in
    let age = then_equal (nat_cmp c.age d.age) _ key.1 in
    let cold = then_equal (nat_cmp (coldness d.action.kind) (coldness c.action.kind)) _ age.1 in
    record {
      since = are_equal c.action.since d.action.since since.0;
      kind = same_kind c.action.kind d.action.kind (are_equal (kind_place c.action.kind) (kind_place d.action.kind) kind.0)
          (sym (are_equal (coldness d.action.kind) (coldness c.action.kind) cold.0));
      age = are_equal c.age d.age age.0;
      rule = are_equal c.action.rule d.action.rule cold.1;
    }

pub tied_on_key : (key : List ℕ) (stack : StackRecord) (c d : Candidate) → IsOnKey key stack c → IsOnKey key stack d → precedence c d ≡ Equal → c ≡ d
tied_on_key key stack c d on_c on_d is =
    let equal = tied c d is in
    let placed = placed_once 0 stack.versions on_c.placed on_d.placed on_c.there on_d.there (sym on_c.older ∙ equal.age ∙ on_d.older) in
    all_same c.action.kind d.action.kind c.action.key d.action.key c.action.target d.action.target c.action.rule d.action.rule
    c.action.since d.action.since c.age d.age equal.kind (on_c.own ∙ sym on_d.own)
    (on_c.on ∙ ap (λ (p : Placed). target.Version p.version.id) placed ∙ sym on_d.on) equal.rule equal.since equal.age

pub tied_on_upload : (number : ℕ) (upload : UploadRecord) (c d : Candidate) → IsOnUpload number upload c → IsOnUpload number upload d → precedence c d ≡ Equal → c ≡ d
tied_on_upload number upload c d on_c on_d is =
    let equal = tied c d is in
    all_same c.action.kind d.action.kind c.action.key d.action.key c.action.target d.action.target c.action.rule d.action.rule
    c.action.since d.action.since c.age d.age equal.kind (on_c.own ∙ sym on_d.own) (on_c.on ∙ sym on_d.on) equal.rule equal.since equal.age

by_orders : (a b : Ordering) → a ≡ ordering_reverse b → is_lt a ≡ false → is_lt b ≡ false → a ≡ Equal
by_orders Less b turned forth back = absurd cc
by_orders Equal b turned forth back = refl
by_orders Greater Less turned forth back = absurd cc
by_orders Greater Equal turned forth back = absurd cc
by_orders Greater Greater turned forth back = absurd cc

-- two of which neither comes before the other
pub neither_before : (c d : Candidate) → comes_before c d ≡ false → comes_before d c ≡ false → precedence c d ≡ Equal
neither_before c d forth back = by_orders (precedence c d) (precedence d c) (precedence_total.antisymm c d) forth back

pub tied_key : (c d : Candidate) → precedence c d ≡ Equal → c.action.key ≡ d.action.key
tied_key c d is =
    let since = then_equal (nat_cmp c.action.since d.action.since) _ is in
    let kind = then_equal (nat_cmp (kind_place c.action.kind) (kind_place d.action.kind)) _ since.1 in
    let key = then_equal (bytes_cmp c.action.key d.action.key) _ kind.1 in
    slice_cmp-IsAntisymmetric nat_cmp-IsAntisymmetric c.action.key d.action.key key.0

pub tied_age : (c d : Candidate) → precedence c d ≡ Equal → c.age ≡ d.age
tied_age c d is = (tied c d is).age

pub tied_kind : (c d : Candidate) → precedence c d ≡ Equal → c.action.kind ≡ d.action.kind
tied_kind c d is = (tied c d is).kind
