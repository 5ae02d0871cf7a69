-- The buckets of a load are four.
use Rattle.std.proofs.Common.{◌≡◌, ℕ, zero, suc, ◌+◌, ◌%◌, ◌<◌, ◌≤◌, Bool, true, false, cond, List, [], ◌∷◌, map, Option, Some, None, Ok, Err, refl, ap, ◌∙◌, subst, arith}
use Rattle.std.specs.Prelude.{is_some, nat_lt, ◌==◌}
use Rattle.std.specs.Option.{ok_or}
use Rattle.std.specs.Fmt.{digits}
use Rattle.std.specs.declared.cmp.Ordering.{Ordering}
use Rattle.std.specs.declared.cmp.Ordering.TheVariants.{Less, Equal, Greater}
use Rattle.std.specs.Ordering.{match_ordering}
use Rattle.std.proofs.lemmas.Bool.Decides.{nat_tests}
use Rattle.class_rules.specs.declared.class.Class.TheVariants.{Standard}
use Rattle.office_base.specs.Maps.{bytes_cmp, at_name, with_name}
use Rattle.office_base.specs.Results.{◌>>=◌}
use Rattle.due_core.specs.Buckets.{BucketRecord}
use Rattle.office_types.specs.declared.reply.Reply.{Reply}
use Rattle.office_types.specs.declared.reply.Reply.TheVariants.{NothingDue}
use Rattle.office_types.specs.declared.refusal.Refusal.{Refusal}
use Rattle.office_types.specs.declared.refusal.Refusal.TheVariants.{NoSuchBucket, BucketExists}
use Rattle.office_types.specs.declared.refusal.What.{What}
use Rattle.office_types.specs.declared.refusal.What.TheVariants.{Buckets, Versions, Uploads, Parts, Names, Rules, Tariffs}
use Rattle.plain_office.specs.Office.{Office, Account, empty_office}
use Rattle.plain_office.specs.Counts.{count_of, first_full, over_buckets, version_count}
use Rattle.plain_office.specs.Step.{Change, Outcome, refuse_if, unless_full, within_limits, on_bucket, new_account, create_bucket, settled, outcome, step, put_object, delete, set_versioning, set_tariff}
use Rattle.plain_office.specs.Step.{set_rules, delete_version, start_upload, put_part, complete, act}
use Rattle.generator.specs.Drafts.{name_of, key_named, drafted_id, rules_set, draft_command, prices}
use Rattle.generator.specs.Draws.{draw, state_after}
use Rattle.generator.specs.Places.{class_ranked, first_draft, draft_of, kind_drawn, drawn, draft_at, place_after}
use Rattle.generator.specs.Generated.{Progress, after_entry, after_entries, generated, progress}
use Rattle.generator.specs.Working.{counted_in_first, upload_count}
use Rattle.generator.specs.declared.draft.Draft.{Draft}
use Rattle.generator.specs.declared.draft.Draft.TheVariants as draft
use Rattle.generator.specs.declared.place.Place.{Place}
use Rattle.generator.proofs.PlaceLemmas.{made_after}
use Rattle.generator.proofs.Progress.{office_next, progress_next, entry_at_place}

-- ---- the names of buckets

abbrev pub names : List (List ℕ × Account) → List (List ℕ)
names accounts = map (λ (entry : List ℕ × Account). entry.0) accounts

-- a name among others, in their order
insert_name : List (List ℕ) → List ℕ → List (List ℕ)
insert_name [] name = name ∷ []
insert_name (other ∷ others) name =
    match_ordering (bytes_cmp name other) (name ∷ other ∷ others) (other ∷ others) (other ∷ insert_name others name)

written_by : (o : Ordering) (name other : List ℕ) (account before : Account) (accounts : List (List ℕ × Account)) → names (with_name name account accounts) ≡ insert_name (names accounts) name
    → names (match_ordering o ((name, account) ∷ (other, before) ∷ accounts) ((other, account) ∷ accounts) ((other, before) ∷ with_name name account accounts))
    ≡ match_ordering o (name ∷ other ∷ names accounts) (other ∷ names accounts) (other ∷ insert_name (names accounts) name)
written_by Less name other account before accounts more = refl
written_by Equal name other account before accounts more = refl
written_by Greater name other account before accounts more = ap (λ (ns : List (List ℕ)). other ∷ ns) more

names_written : (name : List ℕ) (account : Account) (accounts : List (List ℕ × Account)) → names (with_name name account accounts) ≡ insert_name (names accounts) name
unfolding insert_name
names_written name account [] = refl
names_written name account (entry ∷ accounts) =
    written_by (bytes_cmp name entry.0) name entry.0 account entry.1 accounts (names_written name account accounts)

-- those of a load
abbrev pub four : List (List ℕ)
four = name_of 0 ∷ name_of 1 ∷ name_of 2 ∷ name_of 3 ∷ []

four_written : (bucket : ℕ) → bucket < 4 → insert_name four (name_of bucket) ≡ four
unfolding insert_name digits
four_written zero small = refl
four_written (suc zero) small = refl
four_written (suc (suc zero)) small = refl
four_written (suc (suc (suc zero))) small = refl
four_written (suc (suc (suc (suc bucket)))) small = absurd (omega (arith, small))

-- ---- the commands name no other bucket

abbrev IsWithin : Draft → Type 0
IsWithin (draft.CreateBucket bucket) = bucket < 4
IsWithin (draft.Enable bucket) = bucket < 4
IsWithin (draft.SetRules bucket) = bucket < 4
IsWithin draft.SetTariff = Unit {0}
IsWithin (draft.Put bucket key size class) = bucket < 4
IsWithin (draft.Delete bucket key) = bucket < 4
IsWithin (draft.DeleteVersion bucket key id) = bucket < 4
IsWithin (draft.StartUpload bucket key) = bucket < 4
IsWithin (draft.PutPart bucket upload part size) = bucket < 4
IsWithin (draft.Complete bucket upload) = bucket < 4
IsWithin (draft.Act bucket) = bucket < 4

first_within : (made : ℕ) → 4 ≤ made → nat_lt made 8 ≡ true → IsWithin (first_draft made)
first_within zero from small = absurd (omega (arith, from))
first_within (suc zero) from small = absurd (omega (arith, from))
first_within (suc (suc zero)) from small = absurd (omega (arith, from))
first_within (suc (suc (suc zero))) from small = absurd (omega (arith, from))
first_within (suc (suc (suc (suc zero)))) from small = omega arith
first_within (suc (suc (suc (suc (suc zero))))) from small = omega arith
first_within (suc (suc (suc (suc (suc (suc zero)))))) from small = omega arith
first_within (suc (suc (suc (suc (suc (suc (suc zero))))))) from small = tt
first_within (suc (suc (suc (suc (suc (suc (suc (suc made)))))))) from small = absurd (grind (arith, nat_tests))

within_if : (b0 b1 b2 b3 b4 b5 : Bool) (d0 d1 d2 d3 d4 d5 d6 : Draft)
    → IsWithin d0 → IsWithin d1 → IsWithin d2 → IsWithin d3 → IsWithin d4 → IsWithin d5 → IsWithin d6
    → IsWithin (cond b0 d0 (cond b1 d1 (cond b2 d2 (cond b3 d3 (cond b4 d4 (cond b5 d5 d6))))))
within_if true b1 b2 b3 b4 b5 d0 d1 d2 d3 d4 d5 d6 x0 x1 x2 x3 x4 x5 x6 = x0
within_if false true b2 b3 b4 b5 d0 d1 d2 d3 d4 d5 d6 x0 x1 x2 x3 x4 x5 x6 = x1
within_if false false true b3 b4 b5 d0 d1 d2 d3 d4 d5 d6 x0 x1 x2 x3 x4 x5 x6 = x2
within_if false false false true b4 b5 d0 d1 d2 d3 d4 d5 d6 x0 x1 x2 x3 x4 x5 x6 = x3
within_if false false false false true b5 d0 d1 d2 d3 d4 d5 d6 x0 x1 x2 x3 x4 x5 x6 = x4
within_if false false false false false true d0 d1 d2 d3 d4 d5 d6 x0 x1 x2 x3 x4 x5 x6 = x5
within_if false false false false false false d0 d1 d2 d3 d4 d5 d6 x0 x1 x2 x3 x4 x5 x6 = x6

later_within : (kind bucket key x : ℕ) → bucket < 4 → IsWithin (draft_of kind bucket key x)
later_within kind bucket key x small =
    within_if (nat_lt kind 7) (kind == 7) (kind == 8) (kind == 9) (kind == 10) (kind == 11)
    (draft.Put bucket key (draw 0 x % 1_048_576) (class_ranked (draw 1 x % 6))) (draft.Delete bucket key)
    (draft.DeleteVersion bucket key (draw 0 x % 8)) (draft.StartUpload bucket key)
    (draft.PutPart bucket (1 + draw 0 x % 8) (1 + draw 1 x % 4) (draw 2 x % 1_048_576))
    (draft.Complete bucket (1 + draw 0 x % 8)) (draft.Act bucket) small small small small small small small

drawn_within : (x : ℕ) → IsWithin (drawn x)
drawn_within x = later_within (kind_drawn x) (draw 1 x % 4) (draw 3 x % 500) (state_after 4 x) (omega arith)

draft_within_by : (place : Place) (b : Bool) → nat_lt place.made 8 ≡ b → 4 ≤ place.made → IsWithin (cond b (first_draft place.made) (drawn place.state))
draft_within_by place true is from = first_within place.made from is
draft_within_by place false is from = drawn_within place.state

draft_within : (place : Place) → 4 ≤ place.made → IsWithin (draft_at place)
draft_within place from = draft_within_by place (nat_lt place.made 8) refl from

-- ---- if the four are there, they stay

module _ (p : Office) (same : names p.accounts ≡ four) where
  abbrev Keeps : Outcome → Type 0
  Keeps (Ok done) = names done.0.accounts ≡ four
  Keeps (Err refusal) = Unit {0}

  unless_keeps : (o : Option What) (done : Office × Reply) → Keeps (Ok done) → Keeps (unless_full o done)
  unless_keeps None done k = k
  unless_keeps (Some what) done k = tt

  within_keeps : (whats : List What) (o : Outcome) → Keeps o → Keeps (within_limits whats o)
  within_keeps whats (Ok done) k = unless_keeps (first_full whats done.0) done k
  within_keeps whats (Err refusal) k = tt

  refuse_keeps : (b : Bool) (refusal : Refusal) (done : Office × Reply) → Keeps (Ok done) → Keeps (refuse_if b refusal done)
  refuse_keeps true refusal done k = tt
  refuse_keeps false refusal done k = k

  module _ (bucket : ℕ) (small : bucket < 4) where
    written : (account : Account) → names (with_name (name_of bucket) account p.accounts) ≡ four
    written account =
        names_written (name_of bucket) account p.accounts ∙ ap (λ (ns : List (List ℕ)). insert_name ns (name_of bucket)) same
        ∙ four_written bucket small

    done_keeps : (change : Change) → Keeps (change >>= λ done. Ok (record p { accounts = with_name (name_of bucket) done.0 p.accounts }, done.1))
    done_keeps (Ok done) = written done.0
    done_keeps (Err refusal) = tt

    found_keeps : (change : Account → Change) (o : Option Account)
        → Keeps (ok_or o NoSuchBucket >>= λ account. change account >>= λ done. Ok (record p { accounts = with_name (name_of bucket) done.0 p.accounts }, done.1))
    found_keeps change None = tt
    found_keeps change (Some account) = done_keeps (change account)

    bucket_keeps : (change : Account → Change) → Keeps (on_bucket (name_of bucket) change p)
    bucket_keeps change = found_keeps change (at_name (name_of bucket) p.accounts)

    create_keeps : (t : ℕ) → Keeps (create_bucket t (name_of bucket) p)
    create_keeps t = refuse_keeps (is_some (at_name (name_of bucket) p.accounts)) BucketExists _ (written (new_account t))

  outcome_keeps : (t : ℕ) (d : Draft) → IsWithin d → Keeps (outcome t (draft_command d) p)
  unfolding outcome
  outcome_keeps t (draft.CreateBucket bucket) h = within_keeps (Buckets ∷ []) _ (create_keeps bucket h t)
  outcome_keeps t (draft.Enable bucket) h = bucket_keeps bucket h (set_versioning t true)
  outcome_keeps t (draft.SetRules bucket) h = within_keeps (Rules ∷ []) _ (bucket_keeps bucket h (set_rules t rules_set))
  outcome_keeps t draft.SetTariff h = within_keeps (Tariffs ∷ []) (set_tariff prices p) same
  outcome_keeps t (draft.Put bucket key size class) h =
      within_keeps (Versions ∷ Names ∷ []) _ (bucket_keeps bucket h (put_object t (key_named key) size class []))
  outcome_keeps t (draft.Delete bucket key) h = within_keeps _ _ (bucket_keeps bucket h (delete t (key_named key)))
  outcome_keeps t (draft.DeleteVersion bucket key id) h = bucket_keeps bucket h (delete_version t (key_named key) (drafted_id id))
  outcome_keeps t (draft.StartUpload bucket key) h =
      within_keeps (Uploads ∷ Names ∷ []) _ (bucket_keeps bucket h (start_upload t (key_named key) Standard []))
  outcome_keeps t (draft.PutPart bucket upload part size) h = within_keeps (Parts ∷ []) _ (bucket_keeps bucket h (put_part t upload part size))
  outcome_keeps t (draft.Complete bucket upload) h = within_keeps (Versions ∷ Names ∷ []) _ (bucket_keeps bucket h (complete t upload))
  outcome_keeps t (draft.Act bucket) h = bucket_keeps bucket h (act t)

  settled_keeps : (t : ℕ) (o : Outcome) → Keeps o → names (settled t p o).0.accounts ≡ four
  settled_keeps t (Err refusal) k = same
  settled_keeps t (Ok (after, NothingDue)) k = same
  settled_keeps t (Ok (after, reply)) k = k

  step_keeps : (t : ℕ) (d : Draft) → IsWithin d → names (step t (draft_command d) p).0.accounts ≡ four
  unfolding step
  step_keeps t d h = settled_keeps t (outcome t (draft_command d) p) (outcome_keeps t d h)

-- ---- after the first four commands they are there

made_four : (number : ℕ) → names (progress number 4).office.accounts ≡ four
unfolding generated after_entries after_entry place_after step outcome count_of digits
made_four number = refl

four_after : (number n : ℕ) → names (progress number (n + 4)).office.accounts ≡ four
four_after number zero = made_four number
four_after number (suc n) =
    let e = entry_at_place number (n + 4) in
    let p = progress number (n + 4) in
    let next : suc n + 4 ≡ suc (n + 4) = omega arith in
    let kept : names (step e.moment e.command p.office).0.accounts ≡ four =
    step_keeps p.office (four_after number n) e.moment (draft_at (place_after number (n + 4)))
    (draft_within (place_after number (n + 4)) (omega (arith, made_after number (n + 4)))) in
    ap (λ (m : ℕ). names (progress number m).office.accounts) next
    ∙ ap (λ (o : Office). names o.accounts) (ap (λ (x : Progress). x.office) (progress_next number (n + 4)) ∙ office_next p e) ∙ kept

-- ---- what they hold is what the office holds

abbrev with_accounts : List (List ℕ × Account) → Office
with_accounts accounts = record empty_office { accounts = accounts }

sum_named : (count : BucketRecord → ℕ) (n0 n1 n2 n3 : List ℕ) (a b c d : Account)
    → n0 ≡ name_of 0 → n1 ≡ name_of 1 → n2 ≡ name_of 2 → n3 ≡ name_of 3
    → counted_in_first count 4 (with_accounts ((n0, a) ∷ (n1, b) ∷ (n2, c) ∷ (n3, d) ∷ []))
    ≡ over_buckets count (with_accounts ((n0, a) ∷ (n1, b) ∷ (n2, c) ∷ (n3, d) ∷ []))
unfolding digits
sum_named count n0 n1 n2 n3 a b c d is0 is1 is2 is3 = rw (is0, is1, is2, is3) (omega arith)

abbrev tail_of : List (List ℕ) → List (List ℕ)
tail_of [] = []
tail_of (n ∷ ns) = ns

head_is : (n m : List ℕ) (ns ms : List (List ℕ)) → n ∷ ns ≡ m ∷ ms → n ≡ m
head_is n m ns ms e = cc

sum_all : (count : BucketRecord → ℕ) (accounts : List (List ℕ × Account)) → names accounts ≡ four
    → counted_in_first count 4 (with_accounts accounts) ≡ over_buckets count (with_accounts accounts)
sum_all count [] is = absurd cc
sum_all count (a ∷ []) is = let h = ap tail_of is in absurd cc
sum_all count (a ∷ b ∷ []) is = let h = ap (λ (ns : List (List ℕ)). tail_of (tail_of ns)) is in absurd cc
sum_all count (a ∷ b ∷ c ∷ []) is = let h = ap (λ (ns : List (List ℕ)). tail_of (tail_of (tail_of ns))) is in absurd cc
sum_all count (a ∷ b ∷ c ∷ d ∷ []) is =
    sum_named count a.0 b.0 c.0 d.0 a.1 b.1 c.1 d.1 (head_is _ _ _ _ is) (head_is _ _ _ _ (ap tail_of is))
    (head_is _ _ _ _ (ap (λ (ns : List (List ℕ)). tail_of (tail_of ns)) is)) (head_is _ _ _ _ (ap (λ (ns : List (List ℕ)). tail_of (tail_of (tail_of ns))) is))
sum_all count (a ∷ b ∷ c ∷ d ∷ e ∷ accounts) is =
    let h = ap (λ (ns : List (List ℕ)). tail_of (tail_of (tail_of (tail_of ns)))) is in absurd cc

versions_by : (number n : ℕ) → counted_in_first version_count 4 (progress number (n + 4)).office ≡ count_of Versions (progress number (n + 4)).office
unfolding count_of
versions_by number n = sum_all version_count (progress number (n + 4)).office.accounts (four_after number n)

uploads_by : (number n : ℕ) → counted_in_first upload_count 4 (progress number (n + 4)).office ≡ count_of Uploads (progress number (n + 4)).office
unfolding count_of
uploads_by number n = sum_all upload_count (progress number (n + 4)).office.accounts (four_after number n)

plus_four : (n : ℕ) → n + 4 ≡ suc (suc (suc (suc n)))
plus_four n = omega arith

pub all_versions : (number n : ℕ) → counted_in_first version_count 4 (progress number n).office ≡ count_of Versions (progress number n).office
unfolding generated after_entries after_entry place_after step outcome count_of digits
all_versions number zero = refl
all_versions number (suc zero) = refl
all_versions number (suc (suc zero)) = refl
all_versions number (suc (suc (suc zero))) = refl
all_versions number (suc (suc (suc (suc n)))) =
    subst (λ (m : ℕ). counted_in_first version_count 4 (progress number m).office ≡ count_of Versions (progress number m).office) (plus_four n) (versions_by number n)

pub all_uploads : (number n : ℕ) → counted_in_first upload_count 4 (progress number n).office ≡ count_of Uploads (progress number n).office
unfolding generated after_entries after_entry place_after step outcome count_of digits
all_uploads number zero = refl
all_uploads number (suc zero) = refl
all_uploads number (suc (suc zero)) = refl
all_uploads number (suc (suc (suc zero))) = refl
all_uploads number (suc (suc (suc (suc n)))) =
    subst (λ (m : ℕ). counted_in_first upload_count 4 (progress number m).office ≡ count_of Uploads (progress number m).office) (plus_four n) (uploads_by number n)
