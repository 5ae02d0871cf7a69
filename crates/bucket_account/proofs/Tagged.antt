-- A bucket after the tags of an object were replaced.
use Rattle.std.proofs.Common.{◌≡◌, ◌⊎◌, inl, inr, ℕ, ◌+◌, ◌≤◌, ◌<◌, List, [], ◌∷◌, length, refl, ap, sym, ◌∙◌, subst, Bool, true, false, not, cond, arith}
use Rattle.std.specs.Prelude.{Option, Some, None, Result, Ok, Err, IfOk, unwrap_or, sum_by}
use Rattle.std.specs.List.{list_any}
use Rattle.std.specs.Option.{ok_or}
use Rattle.std.proofs.lemmas.Bool.{and_parts, not-true}
use Rattle.std.proofs.lemmas.Bool.Decides.{nat_tests}
use Rattle.std.proofs.lemmas.List.Sums.{sum_by-cons}
use Rattle.office_base.specs.Maps.{at_name, with_name}
use Rattle.office_base.specs.Results.{◌>>=◌}
use Rattle.office_base.specs.Tags.{Tag}
use Rattle.office_base.specs.declared.version_id.VersionId.{VersionId}
use Rattle.rules_core.specs.Matching.{is_empty}
use Rattle.stacks.specs.Stacks.{StackRecord, new_stack, has_id, version_at, ids_differ, changed_at, with_tags, after_tags, tags_of_kind, tags_of_version, told_of, tags_at}
use Rattle.stacks.specs.declared.refusal.StackRefusal.{StackRefusal}
use Rattle.stacks.specs.declared.refusal.StackRefusal.TheVariants as stack
use Rattle.stacks.specs.declared.version.Kind.{Kind}
use Rattle.stacks.specs.declared.version.Kind.TheVariants.{Object, Marker}
use Rattle.stacks.specs.declared.version.Version.{Version}
use Rattle.stacks.proofs.Sole.{none_changed, same_id_is}
use Rattle.accrual.specs.Totals.{Totals, AreTotalsOf}
use Rattle.due_core.specs.Buckets.{BucketRecord}
use Rattle.plain_office.specs.Office.{Account, Books, book_of}
use Rattle.plain_office.specs.Changes.{with_stack}
use Rattle.plain_office.specs.Counts.{tag_bytes, tag_bytes_of, name_bytes}
use Rattle.plain_office.specs.Step.{Change, of_stack, set_tags}
use Rattle.office_types.specs.declared.reply.Reply.TheVariants.{TagsSet}
use Rattle.office_types.specs.declared.refusal.Refusal.{Refusal}
use Rattle.office_types.specs.declared.refusal.Refusal.TheVariants.{NoMemory, NoSuchKey}
use Rattle.office_types.specs.declared.refusal.What.TheVariants.{Buckets, Versions, Uploads, Parts, Names, Rules, Tariffs}
use Rattle.office_laws.proofs.Buckets.{weight_with}
use Rattle.office_laws.proofs.Versions.{tags_change, changed_length}
use Rattle.bucket_account.specs.declared.change.Done.{Done}
use Rattle.bucket_account.specs.declared.counts.Counts.{Counts}
use Rattle.bucket_account.specs.Booking.{stack_under}
use Rattle.bucket_account.specs.Changing.{IsOrderlyAccount, IsFullAfter, DoesTold}
use Rattle.bucket_account.specs.Counting.{AccountRecord, account_of, AreCountsOver, HaveMoved, IsFullOf}
use Rattle.bucket_account.specs.Standing.{StandsForAccount}
use Rattle.bucket_account.specs.Tagging.{counts_tagged, AreTaggable, CountsTags, CountsTagsUnder}
use Rattle.bucket_account.proofs.Doing.{ready_at}
use Rattle.bucket_account.proofs.Under.{ids_under, by_length, by_names, length_weight, names_some}

-- ---- the bytes of the tags

module _ (id : VersionId) (tags : List Tag) where
  tagged_object : (v : Version) (before : List Tag) → tags_of_version v ≡ Ok before → (tag_bytes_of v ≡ tag_bytes before) × (tag_bytes_of (with_tags tags v) ≡ tag_bytes tags)
  tagged_object v before h = by v.kind h where
    by : (kind : Kind) → tags_of_kind kind ≡ Ok before → (tag_bytes_of (record v { kind = kind }) ≡ tag_bytes before) × (tag_bytes_of (with_tags tags (record v { kind = kind })) ≡ tag_bytes tags)
    by Marker h = absurd cc
    by (Object size class old entered) h = let same : old ≡ before = cc in (ap (λ (l : List Tag). tag_bytes l) same, refl)

  sum_tagged : (versions : List Version) → ids_differ versions ≡ true → (before : List Tag) → tags_at id versions ≡ Ok before
      → sum_by tag_bytes_of (changed_at id (with_tags tags) versions) + tag_bytes before ≡ sum_by tag_bytes_of versions + tag_bytes tags
  sum_tagged [] differ before h = absurd cc
  sum_tagged (v ∷ versions) differ before h = by (has_id id v) refl h (sum_tagged versions) where
    parts : (not (list_any (has_id v.id) versions) ≡ true) × (ids_differ versions ≡ true)
    parts = and_parts (not (list_any (has_id v.id) versions)) (ids_differ versions) differ

    by : (b : Bool) → has_id id v ≡ b → told_of tags_of_version (cond b (Some v) (version_at id versions)) ≡ Ok before
        → (ids_differ versions ≡ true → (before : List Tag) → tags_at id versions ≡ Ok before
        → sum_by tag_bytes_of (changed_at id (with_tags tags) versions) + tag_bytes before ≡ sum_by tag_bytes_of versions + tag_bytes tags)
        → sum_by tag_bytes_of (cond b (with_tags tags v) v ∷ changed_at id (with_tags tags) versions) + tag_bytes before ≡ sum_by tag_bytes_of (v ∷ versions) + tag_bytes tags
    by true is told more =
        let same = same_id_is id v.id is in
        let none = subst (λ (i : VersionId). list_any (has_id i) versions ≡ false) (sym same) (not-true _ parts.0) in
        let left = ap (λ (l : List Version). sum_by tag_bytes_of l) (none_changed id (with_tags tags) versions none) in
        let both = tagged_object v before told in
        let new = sum_by-cons tag_bytes_of (with_tags tags v) (changed_at id (with_tags tags) versions) in
        let old = sum_by-cons tag_bytes_of v versions in
        omega (arith, left, both.0, both.1, new, old)
    by false is told more =
        let rest = more parts.1 before told in
        let new = sum_by-cons tag_bytes_of v (changed_at id (with_tags tags) versions) in
        let old = sum_by-cons tag_bytes_of v versions in
        omega (arith, rest, new, old)

some_tagged : (id : VersionId) (versions : List Version) (before : List Tag) → tags_at id versions ≡ Ok before → 0 < length versions
some_tagged id [] before h = absurd cc
some_tagged id (v ∷ versions) before h = omega arith

not_empty : (versions : List Version) → 0 < length versions → is_empty versions ≡ false
not_empty versions some = grind (arith, nat_tests)

-- ---- the bucket

module _ (b : BucketRecord) (books : Books) (key : List ℕ) (id : VersionId) (tags : List Tag) (t : ℕ) (orderly : IsOrderlyAccount t (record { bucket = b; books = books })) where
  abbrev account : Account
  account = record { bucket = b; books = books }

  abbrev under : StackRecord
  under = stack_under key b.stacks

  differ : ids_differ under.versions ≡ true
  differ = ids_under b key t orderly.bucket

  abbrev changed : List Version
  changed = changed_at id (with_tags tags) under.versions

  abbrev after : BucketRecord
  after = with_stack key (after_tags id tags t under) b

  module _ (before : List Tag) (told : tags_at id under.versions ≡ Ok before) where
    some : 0 < length under.versions
    some = some_tagged id under.versions before told

    same_length : length changed ≡ length under.versions
    same_length = changed_length id (with_tags tags) (tags_change tags) under.versions

    some_after : 0 < length changed
    some_after = let same = same_length in let many = some in omega (arith, same, many)

    before_most : tag_bytes before ≤ name_bytes b
    before_most =
        let none = sum_tagged id [] under.versions differ before told in
        let sum = weight_with b key by_names t t orderly.bucket [] in
        let weight = names_some b key under.versions some in
        omega (arith, none, sum, weight)

    written : with_stack key (after_tags id tags t under) b ≡ record b { stacks = with_name key (after_tags id tags t under) b.stacks }
    written = let no = not_empty changed some_after in rw no refl

    module _ (counts : Counts) (over : AreCountsOver b counts) where
      have_moved : HaveMoved b after counts (counts_tagged tags before counts)
      have_moved Buckets = refl
      have_moved Versions =
          let sum = weight_with b key by_length t t orderly.bucket changed in
          let old = length_weight b key under.versions in
          let new = length_weight b key changed in
          let same = same_length in
          omega (arith, sum, old, new, same)
      have_moved Uploads = refl
      have_moved Parts = refl
      have_moved Names =
          let sum = weight_with b key by_names t t orderly.bucket changed in
          let old = names_some b key under.versions some in
          let new = names_some b key changed some_after in
          let bytes = sum_tagged id tags under.versions differ before told in
          let most = before_most in
          let n = over Names in
          omega (arith, sum, old, new, bytes, most, n.0)
      have_moved Rules = refl
      have_moved Tariffs = refl

  module _ (counts : Counts) (over : AreCountsOver b counts) where
    pub taggable : AreTaggable id under counts
    taggable = record { names = let n = over Names in omega (arith, n.1); before = by (tags_at id under.versions) refl } where
      by : (r : Result (List Tag) StackRefusal) → tags_at id under.versions ≡ r → IfOk r (λ before. tag_bytes before ≤ counts.names)
      by (Ok before) told = let most = before_most before told in let n = over Names in omega (arith, most, n.0)
      by (Err refused) told = tt

    -- what is told, by what stands under the key
    abbrev told_under : Option StackRecord → Change
    told_under o =
        ok_or o NoSuchKey
        >>= λ found.
        (of_stack (tags_at id found.versions)
        >>= λ before. Ok (
          record account { bucket = with_stack key (after_tags id tags t found) b },
          TagsSet (length tags),
        ))

    module _ (stacks : List (List ℕ × StackRecord)) (meters : Totals) (stands : AreTotalsOf meters (book_of books)) where
      abbrev new : AccountRecord
      new = account_of (record b { stacks = stacks }) meters

      module _ (done : Done) (replied : done.reply ≡ TagsSet (length tags)) (is : stacks ≡ with_name key (after_tags id tags t under) b.stacks) where
        done_kind : (r : Result (List Tag) StackRefusal) → tags_at id under.versions ≡ r → CountsTags r tags counts (Ok done.counts)
            → DoesTold (Names ∷ []) (of_stack r >>= λ before. Ok (record account { bucket = after }, TagsSet (length tags))) account counts new (Ok done)
        done_kind (Ok before) told h = (
          replied,
          record { bucket = ap (λ (l : List (List ℕ × StackRecord)). record b { stacks = l }) is ∙ sym (written before told); meters = stands },
          subst (HaveMoved b after counts) (sym h.0) (have_moved before told counts over),
          h.1,
        )
        done_kind (Err refused) told h = absurd h

        done_under : (o : Option StackRecord) → at_name key b.stacks ≡ o → CountsTagsUnder id o tags counts (Ok done.counts) → DoesTold (Names ∷ []) (told_under o) account counts new (Ok done)
        done_under None found h = absurd cc
        done_under (Some stack) found h =
            let here : under ≡ stack = ap (λ (o : Option StackRecord). unwrap_or o (new_stack 0)) found in
            subst (λ (s : StackRecord). CountsTags (tags_at id s.versions) tags counts (Ok done.counts)
            → DoesTold (Names ∷ []) (of_stack (tags_at id s.versions)
            >>= λ before. Ok
            (record account { bucket = with_stack key (after_tags id tags t s) b }, TagsSet (length tags)))
            account counts new (Ok done))
            here (done_kind (tags_at id under.versions) refl) h

        pub tagged : CountsTagsUnder id (at_name key b.stacks) tags counts (Ok done.counts) → DoesTold (Names ∷ []) (set_tags t key id tags account) account counts new (Ok done)
        tagged = done_under (at_name key b.stacks) refl

      module _ (refusal : Refusal) (is : stacks ≡ b.stacks) where
        standing : StandsForAccount new account
        standing = record { bucket = ap (λ (l : List (List ℕ × StackRecord)). record b { stacks = l }) is; meters = stands }

        refused_as : (refused : StackRefusal) → of_stack {X = Counts} (Err refused) ≡ Err refusal
            → DoesTold (Names ∷ []) (of_stack {X = List Tag} (Err refused) >>= λ before. Ok (record account { bucket = after }, TagsSet (length tags))) account counts new (Err refusal)
        refused_as stack.NoSuchVersion h = (inr cc, standing)
        refused_as stack.IsMarker h = (inr cc, standing)

        refused_kind : (r : Result (List Tag) StackRefusal) → tags_at id under.versions ≡ r → CountsTags r tags counts (Err refusal)
            → DoesTold (Names ∷ []) (of_stack r >>= λ before. Ok (record account { bucket = after }, TagsSet (length tags))) account counts new (Err refusal)
        refused_kind (Ok before) told why = (because why, standing) where
          because : (refusal ≡ NoMemory) ⊎ IsFullOf (Names ∷ []) (counts_tagged tags before counts) refusal → (refusal ≡ NoMemory) ⊎ IsFullAfter (Names ∷ []) b after counts refusal
          because (inl wanting) = inl wanting
          because (inr full) = inr (record { moved = counts_tagged tags before counts; follow = have_moved before told counts over; full = full })
        refused_kind (Err refused) told why = refused_as refused why

        refused_under : (o : Option StackRecord) → at_name key b.stacks ≡ o → CountsTagsUnder id o tags counts (Err refusal) → DoesTold (Names ∷ []) (told_under o) account counts new (Err refusal)
        refused_under None found h = (inr cc, standing)
        refused_under (Some stack) found h =
            let here : under ≡ stack = ap (λ (o : Option StackRecord). unwrap_or o (new_stack 0)) found in
            subst (λ (s : StackRecord). CountsTags (tags_at id s.versions) tags counts (Err refusal)
            → DoesTold (Names ∷ []) (of_stack (tags_at id s.versions)
            >>= λ before. Ok
            (record account { bucket = with_stack key (after_tags id tags t s) b }, TagsSet (length tags)))
            account counts new (Err refusal))
            here (refused_kind (tags_at id under.versions) refl) h

        pub refused : CountsTagsUnder id (at_name key b.stacks) tags counts (Err refusal) → DoesTold (Names ∷ []) (set_tags t key id tags account) account counts new (Err refusal)
        refused = refused_under (at_name key b.stacks) refl

-- ---- of any account that the bucket stands for

module _ (b : BucketRecord) (of : Account) (same : b ≡ of.bucket) (key : List ℕ) (id : VersionId) (tags : List Tag)
    (t : ℕ) (orderly : IsOrderlyAccount t of) (counts : Counts) (over : AreCountsOver b counts) where
  here : IsOrderlyAccount t (record { bucket = b; books = of.books })
  here = subst (λ (x : BucketRecord). IsOrderlyAccount t (record { bucket = x; books = of.books })) (sym same) orderly

  pub later_for : (stack_under key b.stacks).changed ≤ t
  later_for = (ready_at key t (record { bucket = b; books = of.books }) here).changed

  pub taggable_for : AreTaggable id (stack_under key b.stacks) counts
  taggable_for = taggable b of.books key id tags t here counts over

  of_account : (after : AccountRecord) (result : Result Done Refusal)
      → DoesTold (Names ∷ []) (set_tags t key id tags (record { bucket = b; books = of.books })) (record { bucket = b; books = of.books }) counts after result
      → DoesTold (Names ∷ []) (set_tags t key id tags of) of counts after result
  of_account after result h =
      subst (λ (x : BucketRecord). DoesTold (Names ∷ []) (set_tags t key id tags (record { bucket = x; books = of.books })) (record { bucket = x; books = of.books }) counts after result) same h

  module _ (stacks : List (List ℕ × StackRecord)) (meters : Totals) (stands : AreTotalsOf meters (book_of of.books)) where
    pub tagged_for : (done : Done) → done.reply ≡ TagsSet (length tags) → stacks ≡ with_name key (after_tags id tags t (stack_under key b.stacks)) b.stacks
        → CountsTagsUnder id (at_name key b.stacks) tags counts (Ok done.counts)
        → DoesTold (Names ∷ []) (set_tags t key id tags of) of counts (account_of (record b { stacks = stacks }) meters)
        (Ok done)
    tagged_for done replied is h = of_account (account_of (record b { stacks = stacks }) meters) (Ok done) (tagged b of.books key id tags t here counts over stacks meters stands done replied is h)

    pub refused_for : (refusal : Refusal) → stacks ≡ b.stacks → CountsTagsUnder id (at_name key b.stacks) tags counts (Err refusal)
        → DoesTold (Names ∷ []) (set_tags t key id tags of) of counts (account_of (record b { stacks = stacks }) meters) (Err refusal)
    refused_for refusal is h = of_account (account_of (record b { stacks = stacks }) meters) (Err refusal) (refused b of.books key id tags t here counts over stacks meters stands refusal is h)
