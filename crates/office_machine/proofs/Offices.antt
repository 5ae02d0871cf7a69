-- What the office in memory stands for after each command, and the replies to queries.
use Rattle.std.proofs.Common.{◌≡◌, ◌⊎◌, inl, inr, ℕ, ◌+◌, ◌≤◌, List, [], ◌∷◌, ◌++◌, length, map, refl, ap, sym, ◌∙◌, Bool, true, false, subst, arith, flat_map}
use Rattle.std.specs.Prelude.{Result, Option, Some, None, Ok, Err, is_some, ◌==◌, unwrap_or}
use Rattle.std.specs.List.{AllByRecursion}
use Rattle.std.specs.Map.{set_value}
use Rattle.std.specs.BTreeMap.{is_at}
use Rattle.moments.specs.Months.{month_at, month_end}
use Rattle.class_rules.specs.Classes.{all_classes}
use Rattle.office_base.specs.Maps.{bytes_cmp, at_name, with_name, at_number}
use Rattle.accrual.specs.Books.{IsBookedBy}
use Rattle.tariff.specs.Prices.{Prices}
use Rattle.due_core.specs.Buckets.{BucketRecord}
use Rattle.plain_office.specs.Office.{Office, Account, empty_office, book_of}
use Rattle.plain_office.specs.Counts.{count_of, limit_of, version_count}
use Rattle.plain_office.specs.Orderly.{IsOrderly, SizeFits}
use Rattle.plain_office.specs.Run.{is_not_before}
use Rattle.plain_office.specs.Step.{Change, close, refuse_if, step, accepted, is_accepted, new_account, with_tariff}
use Rattle.plain_office.specs.Answers.{answer, rule_count, rules_told, stack_told, upload_told, due_told, tariffs_told}
use Rattle.office_types.specs.declared.command.Command.{Command}
use Rattle.office_types.specs.declared.command.Command.TheVariants as command
use Rattle.office_types.specs.declared.command.Query.TheVariants as query
use Rattle.office_types.specs.declared.reply.Reply.{Reply}
use Rattle.office_types.specs.declared.reply.Reply.TheVariants.{BucketMade, NothingDue, TariffSet, Closed, BucketShown, MetersShown, TariffShown, Report}
use Rattle.office_types.specs.declared.reply.ReportLine.{ReportLine}
use Rattle.office_types.specs.declared.refusal.Refusal.{Refusal}
use Rattle.office_types.specs.declared.refusal.Refusal.TheVariants.{BucketExists, NoSuchBucket, NoTariff, Full}
use Rattle.office_types.specs.declared.refusal.What.{What}
use Rattle.office_types.specs.declared.refusal.What.TheVariants.{Buckets, Versions, Uploads, Parts, Names, Rules, Tariffs}
use Rattle.office_laws.proofs.Lists.{Added, Replaced}
use Rattle.office_laws.proofs.Maps.{by_name, added, replaced}
use Rattle.office_laws.proofs.Offices.{kept_now, booked_now}
use Rattle.office_laws.proofs.Steps.{step_orderly, empty_orderly}
use Rattle.bucket_account.specs.declared.change.Done.{Done}
use Rattle.bucket_account.specs.declared.counts.Counts.{Counts}
use Rattle.bucket_account.specs.Changing.{change_of, limits_of, IsOnBucket, IsOrderlyAccount, DoesTold}
use Rattle.bucket_account.specs.Counting.{AccountRecord, IsWithinBy, AreCountsOver, amount, in_bucket, HaveMoved, first_over}
use Rattle.office_machine.specs.Standing.{Records, StandForAccounts, StandsForOffice, IsOfAnOffice, Does}
use Rattle.bucket_account.specs.Standing.{StandsForAccount}
use Rattle.bucket_account.proofs.Accepted.{told_is, FindsNothing, told_or_nothing, something_by, refusal_fits}
use Rattle.office_types.specs.Fits.{RefusalFits}
use Rattle.office_machine.proofs.Accounts.{StandsForOption, stand_length, stand_at, stand_with, stand_set, stand_one}
use Rattle.office_machine.proofs.Rows.{closed_is}
use Rattle.office_machine.proofs.Sums.{AreCountsOf, full_is, moved_is, added_is, counts_over, same_counts}
use Rattle.plain_office.specs.Charges.{class_meters, in_force, kept_or, tariff_for, report_lines}
use Rattle.office_machine.specs.AnswerParts.{closed_at, entry_lines, IsBookedIn}
use Rattle.office_machine.specs.Closing.{closing_with, first_due, due_refusal}
use Rattle.office_machine.proofs.Months.{closed_office, close_refused, close_due, close_done, due_same, due_of, none_due}
use Rattle.plain_office.proofs.Runs.{Answer}
use Rattle.office_machine.proofs.Steps.{step_missing, step_refused, step_full, step_done, step_nothing, placed, made, create_exists, create_full, create_made, priced, tariff_full, tariff_set}

-- ---- an answer that is the step's

pub does : (expected : Office × Answer) (before q : Office) (after : Records) (result : Answer) → expected ≡ (q, result) → StandsForOffice after q → Does expected before after result
does expected before q after result is stands =
    inl (sym (ap (λ (x : Office × Answer). x.1) is), subst (StandsForOffice after) (sym (ap (λ (x : Office × Answer). x.0) is)) stands)

-- the tariffs that are told
pub none_told : (tariffs : List Prices) → (length tariffs == 0) ≡ true → tariffs_told tariffs ≡ Err NoTariff
none_told tariffs is = ap (λ (b : Bool). refuse_if b NoTariff (TariffShown tariffs)) is

pub some_told : (tariffs : List Prices) → (length tariffs == 0) ≡ false → tariffs_told tariffs ≡ Ok (TariffShown tariffs)
some_told tariffs is = ap (λ (b : Bool). refuse_if b NoTariff (TariffShown tariffs)) is

-- the reply that is not accepted
pub nothing_of : (r : Reply) → is_accepted (Ok r) ≡ false → r ≡ NothingDue
nothing_of NothingDue is = refl
nothing_of other is = absurd cc

-- ---- the buckets on both sides

none_of : (q : Option Account) → StandsForOption None q → q ≡ None
none_of None h = refl
none_of (Some account) h = absurd h

some_of : (held : AccountRecord) (q : Option Account) → StandsForOption (Some held) q → (account : Account) × (q ≡ Some account) × StandsForAccount held account
some_of held None h = absurd h
some_of held (Some account) h = (account, refl, h)

there_too : (o : Option AccountRecord) (q : Option Account) → StandsForOption o q → is_some o ≡ is_some q
there_too None None h = refl
there_too None (Some account) h = absurd h
there_too (Some held) None h = absurd h
there_too (Some held) (Some account) h = refl

is_some_none : {X : Type 0} (o : Option X) → is_some o ≡ false → o ≡ None
is_some_none None h = refl
is_some_none (Some x) h = absurd cc

-- the records after an accepted command
abbrev pub accepted_records : ℕ → Records → List (List ℕ × AccountRecord) → Counts → ℕ → Records
accepted_records t records accounts counts number = record {
  last = Some t;
  tariffs = records.tariffs;
  first_month = Some (unwrap_or records.first_month (month_at t));
  closed = records.closed;
  accounts = accounts;
  counts = counts;
  accepted = number;
}

abbrev pub with_accounts : Records → List (List ℕ × AccountRecord) → Records
with_accounts records accounts = record records { accounts = accounts }

module _ (records : Records) (p : Office) (stands : StandsForOffice records p) where
  -- another order of the accounts' values, which stand for the same
  pub still : (accounts : List (List ℕ × AccountRecord)) → StandForAccounts accounts p.accounts → StandsForOffice (with_accounts records accounts) p
  still accounts same = record {
    orderly = stands.orderly;
    last = stands.last;
    tariffs = stands.tariffs;
    first_month = stands.first_month;
    closed = stands.closed;
    accounts = same;
    counts = stands.counts;
  }

  module _ (t : ℕ) (later : is_not_before records.last t ≡ true) where
    pub later_plain : is_not_before p.last t ≡ true
    later_plain = subst (λ (last : Option ℕ). is_not_before last t ≡ true) stands.last later

    -- an accepted command that changed only accounts and counts
    moved_on : (q : Office) (accounts : List (List ℕ × AccountRecord)) (counts : Counts) (number : ℕ) → q.tariffs ≡ p.tariffs → q.first_month ≡ p.first_month → q.closed ≡ p.closed
        → StandForAccounts accounts q.accounts → AreCountsOf (accepted t q) counts → IsOrderly (accepted t q)
        → StandsForOffice (accepted_records t records accounts counts number) (accepted t q)
    moved_on q accounts counts number tariff first closed same are orderly = record {
      orderly = orderly;
      last = refl;
      tariffs = stands.tariffs ∙ sym tariff;
      first_month = ap (λ (month : Option ℕ). Some (unwrap_or month (month_at t))) (stands.first_month ∙ sym first);
      closed = stands.closed ∙ sym closed;
      accounts = same;
      counts = are;
    }

    -- an accepted command that changed only the tariffs or the closed months
    office_on : (q : Office) (tariffs : List Prices) (closed : List (ℕ × Prices)) (counts : Counts) (number : ℕ) → tariffs ≡ q.tariffs
        → q.first_month ≡ p.first_month → closed ≡ q.closed → q.accounts ≡ p.accounts → AreCountsOf (accepted t q) counts → IsOrderly (accepted t q)
        → StandsForOffice (accepted_records t (record records { tariffs = tariffs; closed = closed }) records.accounts counts number) (accepted t q)
    office_on q tariffs closed counts number set first months same are orderly = record {
      orderly = orderly;
      last = refl;
      tariffs = set;
      first_month = ap (λ (month : Option ℕ). Some (unwrap_or month (month_at t))) (stands.first_month ∙ sym first);
      closed = months;
      accounts = subst (λ (l : List (List ℕ × Account)). StandForAccounts records.accounts l) (sym same) stands.accounts;
      counts = are;
    }

    -- ---- a tariff is set

    module _ (tariff : Prices) (tariffs : List Prices) (is : tariffs ≡ with_tariff tariff records.tariffs) where
      set_plain : tariffs ≡ with_tariff tariff p.tariffs
      set_plain = is ∙ ap (with_tariff tariff) stands.tariffs

      abbrev counted : Counts
      counted = record records.counts { tariffs = length tariffs }

      priced_counts : AreCountsOf (priced t p tariff) counted
      unfolding count_of
      priced_counts Buckets = stands.counts Buckets
      priced_counts Versions = stands.counts Versions
      priced_counts Uploads = stands.counts Uploads
      priced_counts Parts = stands.counts Parts
      priced_counts Names = stands.counts Names
      priced_counts Rules = stands.counts Rules
      priced_counts Tariffs = ap (λ (l : List Prices). length l) set_plain

      accepted_counts : AreCountsOf (accepted t (priced t p tariff)) counted
      accepted_counts what = priced_counts what ∙ same_counts what (priced t p tariff) (accepted t (priced t p tariff)) refl refl

      pub does_overprice : (what : What) → first_over (Tariffs ∷ []) counted ≡ Some what → Does (step t (command.SetTariff tariff) p) p records (Err (Full what (limit_of what)))
      does_overprice what full =
          does (step t (command.SetTariff tariff) p) p p records (Err (Full what (limit_of what)))
          (tariff_full t p tariff what (full_is (Tariffs ∷ []) (priced t p tariff) counted priced_counts ∙ full)) stands

      pub does_price : (counts : Counts) → counts ≡ counted → first_over (Tariffs ∷ []) counts ≡ None → (number : ℕ)
          → Does (step t (command.SetTariff tariff) p) p
          (accepted_records t (record records { tariffs = tariffs }) records.accounts counts number)
          (Ok TariffSet)
      does_price counts same free number =
          let none = subst (λ (k : Counts). first_over (Tariffs ∷ []) k ≡ None) same free in
          let told = tariff_set t p tariff (full_is (Tariffs ∷ []) (priced t p tariff) counted priced_counts ∙ none) in
          does (step t (command.SetTariff tariff) p) p (accepted t (priced t p tariff))
          (accepted_records t (record records { tariffs = tariffs }) records.accounts counts number)
          (Ok TariffSet) told
          (office_on (priced t p tariff) tariffs records.closed counts number set_plain refl stands.closed refl
          (subst (λ (k : Counts). AreCountsOf (accepted t (priced t p tariff)) k) (sym same) accepted_counts)
          (subst IsOrderly (ap (λ (x : Office × Answer). x.0) told) (step_orderly t (command.SetTariff tariff) p tt stands.orderly later_plain)))

    -- ---- a month is closed

    module _ (month : ℕ) where
      pub does_stay_open : (refusal : Refusal) → close t month p ≡ closing_with t month p (Err refusal) → Does (step t (command.Close month) p) p records (Err refusal)
      does_stay_open refusal is = does (step t (command.Close month) p) p p records (Err refusal) (close_refused t month p refusal is) stands

      module _ (tariff : Prices) (is : close t month p ≡ closing_with t month p (Ok tariff)) where
        pub does_wait : (refusal : Refusal) → due_refusal (first_due t (month_end month) records.accounts) ≡ Some refusal → Does (step t (command.Close month) p) p records (Err refusal)
        does_wait refusal due =
            let first = due_of (first_due t (month_end month) records.accounts) refusal due in
            does (step t (command.Close month) p) p p records (Err refusal)
            (close_due t month p tariff is first.0 (sym (due_same t (month_end month) records.accounts p.accounts stands.accounts) ∙ first.1)
            ∙ ap (λ (r : Refusal). (p, Err r)) first.2) stands

        pub does_close : due_refusal (first_due t (month_end month) records.accounts) ≡ None → (closed : List (ℕ × Prices)) → closed ≡ records.closed ++ (month, tariff) ∷ [] → (number : ℕ)
            → Does (step t (command.Close month) p) p (accepted_records t (record records { closed = closed }) records.accounts records.counts number) (Ok (Closed month))
        does_close none closed pushed number =
            let told =
            close_done t month p tariff is (sym (due_same t (month_end month) records.accounts p.accounts stands.accounts) ∙ none_due (first_due t (month_end month) records.accounts) none) in
            does (step t (command.Close month) p) p (accepted t (closed_office t month p tariff))
            (accepted_records t (record records { closed = closed }) records.accounts records.counts number)
            (Ok (Closed month)) told
            (office_on (closed_office t month p tariff) records.tariffs closed records.counts number stands.tariffs refl (pushed ∙ ap (λ (l : List (ℕ × Prices)). l ++ (month, tariff) ∷ []) stands.closed) refl
            (λ what. stands.counts what ∙ same_counts what p (accepted t (closed_office t month p tariff)) refl refl)
            (subst IsOrderly (ap (λ (x : Office × Answer). x.0) told) (step_orderly t (command.Close month) p tt stands.orderly later_plain)))

  module _ (name : List ℕ) where
    side_by_side : StandsForOption (at_name name records.accounts) (at_name name p.accounts)
    side_by_side = stand_at name records.accounts p.accounts stands.accounts

    pub absent : at_name name records.accounts ≡ None → at_name name p.accounts ≡ None
    absent none = none_of (at_name name p.accounts) (subst (λ (o : Option AccountRecord). StandsForOption o (at_name name p.accounts)) none side_by_side)

    pub present : (held : AccountRecord) → at_name name records.accounts ≡ Some held → (account : Account) × (at_name name p.accounts ≡ Some account) × StandsForAccount held account
    present held found = some_of held (at_name name p.accounts) (subst (λ (o : Option AccountRecord). StandsForOption o (at_name name p.accounts)) found side_by_side)

    there_is : (b : Bool) → is_some (at_name name records.accounts) ≡ b → is_some (at_name name p.accounts) ≡ b
    there_is b is = sym (there_too (at_name name records.accounts) (at_name name p.accounts) side_by_side) ∙ is

    -- ---- a new bucket

    module _ (t : ℕ) (later : is_not_before records.last t ≡ true) where
      pub does_exist : is_some (at_name name records.accounts) ≡ true → Does (step t (command.CreateBucket name) p) p records (Err BucketExists)
      does_exist there = does (step t (command.CreateBucket name) p) p p records (Err BucketExists) (create_exists t p name (there_is true there)) stands

      module _ (none : is_some (at_name name records.accounts) ≡ false) (counts : Counts) (more : (what : What)
          → amount what counts ≡ amount what records.counts + in_bucket what (new_account t).bucket) where
        one : Added (name, new_account t) p.accounts (made t p name).accounts
        one = added by_name name (new_account t) p.accounts (absent (is_some_none (at_name name records.accounts) none))

        made_counts : AreCountsOf (made t p name) counts
        made_counts = added_is p (made t p name) name (new_account t) one refl records.counts counts stands.counts more

        pub does_fill : (what : What) → first_over (Buckets ∷ []) counts ≡ Some what → Does (step t (command.CreateBucket name) p) p records (Err (Full what (limit_of what)))
        does_fill what full =
            does (step t (command.CreateBucket name) p) p p records (Err (Full what (limit_of what)))
            (create_full t p name (there_is false none) what (full_is (Buckets ∷ []) (made t p name) counts made_counts ∙ full)) stands

        pub does_make : first_over (Buckets ∷ []) counts ≡ None → (held : AccountRecord)
            → StandsForAccount held (new_account t) → (accounts : List (List ℕ × AccountRecord))
            → accounts ≡ with_name name held records.accounts
            → (number : ℕ) → Does (step t (command.CreateBucket name) p) p (accepted_records t records accounts counts number) (Ok (BucketMade name))
        does_make free held same accounts is number =
            let told = create_made t p name (there_is false none) (full_is (Buckets ∷ []) (made t p name) counts made_counts ∙ free) in
            does (step t (command.CreateBucket name) p) p (accepted t (made t p name)) (accepted_records t records accounts counts number) (Ok (BucketMade name)) told
            (moved_on t later (made t p name) accounts counts number refl refl refl
            (subst (λ (l : List (List ℕ × AccountRecord)). StandForAccounts l
            (with_name name (new_account t) p.accounts)) (sym is)
            (stand_with name held (new_account t) same records.accounts p.accounts stands.accounts))
            (added_is p (accepted t (made t p name)) name (new_account t) one refl records.counts counts stands.counts more)
            (subst IsOrderly (ap (λ (x : Office × Answer). x.0) told) (step_orderly t (command.CreateBucket name) p tt stands.orderly (later_plain t later))))

    -- ---- a command on the bucket

    module _ (t : ℕ) (later : is_not_before records.last t ≡ true) (asked : Command) (on : IsOnBucket name asked) where
      pub does_miss : at_name name records.accounts ≡ None → Does (step t asked p) p records (Err NoSuchBucket)
      does_miss none = does (step t asked p) p p records (Err NoSuchBucket) (step_missing t p name asked on (absent none)) stands

      module _ (held : AccountRecord) (found : at_name name records.accounts ≡ Some held) where
        abbrev account : Account
        account = (present held found).0

        there : at_name name p.accounts ≡ Some account
        there = (present held found).1

        holds : StandsForAccount held account
        holds = (present held found).2

        orderly_account : IsOrderlyAccount t account
        orderly_account =
            let kept = kept_now t p stands.orderly (later_plain t later) name account there in
            record { bucket = kept.bucket; stays = kept.stays }

        -- what the change has to know
        pub for_account : (account : Account) × StandsForAccount held account × IsOrderlyAccount t account
        for_account = (account, holds, orderly_account)

        pub for_counts : AreCountsOver held.bucket records.counts
        for_counts =
            subst (λ (bucket : BucketRecord). AreCountsOver bucket records.counts) (sym holds.bucket) (counts_over p records.counts name account stands.orderly.records stands.counts there)

        module _ (written : AccountRecord) (accounts : List (List ℕ × AccountRecord)) (set : accounts ≡ set_value (is_at (bytes_cmp name)) records.accounts written) where
          abbrev whats : List What
          whats = limits_of asked account.bucket

          -- what the call tells, whatever it stands for
          abbrev Told : Result Done Refusal → Type 0
          Told result =
              (account : Account) → StandsForAccount held account → IsOrderlyAccount t account
              → DoesTold (limits_of asked held.bucket) (change_of t asked account) account records.counts written result

          told_of : (result : Result Done Refusal) → Told result → DoesTold whats (change_of t asked account) account records.counts written result
          told_of result told =
              subst (λ (bucket : BucketRecord). DoesTold (limits_of asked bucket) (change_of t asked account) account records.counts written result) holds.bucket
              (told account holds orderly_account)

          set_standing : (after : Account) → StandsForAccount written after → StandForAccounts accounts (with_name name after p.accounts)
          set_standing after same =
              subst (λ (l : List (List ℕ × AccountRecord)). StandForAccounts l (with_name name after p.accounts)) (sym set)
              (stand_set name written after same records.accounts p.accounts account stands.accounts stands.orderly.records.names there)

          one_after : (after : Account) → Replaced (name, account) (name, after) p.accounts (with_name name after p.accounts)
          one_after after = replaced by_name name after account p.accounts stands.orderly.records.names there

          counts_are : (after : Account) (moved : Counts) → HaveMoved account.bucket after.bucket records.counts moved → AreCountsOf (placed t p name after) moved
          counts_are after moved follow = moved_is p (placed t p name after) name account after (one_after after) refl records.counts moved stands.counts follow

          done_by : (told : Change) (done : Done) (number : ℕ) → change_of t asked account ≡ told → SizeFits asked
              → is_accepted (Ok done.reply) ≡ true → DoesTold whats told account records.counts written (Ok done)
              → Does (step t asked p) p (accepted_records t records accounts done.counts number) (Ok done.reply)
          done_by (Err refusal) done number is fits accepts h = absurd h
          done_by (Ok (after, reply)) done number is fits accepts h =
              let free = full_is whats (placed t p name after) done.counts (counts_are after done.counts h.2) ∙ h.3 in
              let stepped = step_done t p name asked on account there after reply is free (ap (λ (r : Reply). is_accepted (Ok r)) (sym h.0) ∙ accepts) in
              does (step t asked p) p (accepted t (placed t p name after)) (accepted_records t records accounts done.counts number) (Ok done.reply)
              (stepped ∙ ap (λ (r : Reply). (accepted t (placed t p name after), Ok r)) (sym h.0))
              (moved_on t later (placed t p name after) accounts done.counts number refl refl refl (set_standing after h.1)
              (moved_is p (accepted t (placed t p name after)) name account after (one_after after) refl records.counts done.counts stands.counts h.2)
              (subst IsOrderly (ap (λ (x : Office × Answer). x.0) stepped) (step_orderly t asked p fits stands.orderly (later_plain t later))))

          -- a change that was done
          pub does_done : (done : Done) (number : ℕ) → SizeFits asked → is_accepted (Ok done.reply) ≡ true → Told (Ok done)
              → Does (step t asked p) p (accepted_records t records accounts done.counts number) (Ok done.reply)
          does_done done number fits accepts told = done_by (change_of t asked account) done number refl fits accepts (told_of (Ok done) told)

          kept : (written_for : StandsForAccount written account) → StandsForOffice (with_accounts records accounts) p
          kept written_for =
              still accounts
              (subst (λ (l : List (List ℕ × AccountRecord)). StandForAccounts l p.accounts) (sym set)
              (stand_one name written account written_for records.accounts p.accounts stands.accounts stands.orderly.records.names there))

          nothing_by : (done : Done) → done.reply ≡ NothingDue → (told_is (change_of t asked account) ≡ true) ⊎ FindsNothing account (change_of t asked account)
              → DoesTold whats (change_of t asked account) account records.counts written (Ok done) → Does (step t asked p) p (with_accounts records accounts) (Ok done.reply)
          nothing_by done nothing (inl told) h =
              something_by whats account records.counts written (change_of t asked account) told (Ok done) h (Does (step t asked p) p (with_accounts records accounts) (Ok done.reply)) nothing
          nothing_by done nothing (inr is) h =
              let same = subst (λ (told : Change). DoesTold whats told account records.counts written (Ok done)) is h in
              let free = full_is whats (placed t p name account) done.counts (counts_are account done.counts same.2) ∙ same.3 in
              does (step t asked p) p p (with_accounts records accounts) (Ok done.reply)
              (step_nothing t p name asked on account there account is free ∙ ap (λ (r : Reply). (p, Ok r)) (sym nothing)) (kept same.1)

          -- an act that found nothing due
          pub does_nothing : (done : Done) → is_accepted (Ok done.reply) ≡ false → Told (Ok done) → Does (step t asked p) p (with_accounts records accounts) (Ok done.reply)
          does_nothing done refused told = nothing_by done (nothing_of done.reply refused) (told_or_nothing t account asked) (told_of (Ok done) told)

          refused_by : (told : Change) (refusal : Refusal) → change_of t asked account ≡ told → DoesTold whats told account records.counts written (Err refusal)
              → Does (step t asked p) p (with_accounts records accounts) (Err refusal)
          refused_by (Err refused) refusal is (inl wanting, same) = inr (ap (λ (r : Refusal). Err r) wanting, kept same)
          refused_by (Err refused) refusal is (inr told, same) =
              does (step t asked p) p p (with_accounts records accounts) (Err refusal)
              (step_refused t p name asked on account there refused is ∙ ap (λ (r : Refusal). (p, Err r)) (sym told)) (kept same)
          refused_by (Ok (after, reply)) refusal is (inl wanting, same) = inr (ap (λ (r : Refusal). Err r) wanting, kept same)
          refused_by (Ok (after, reply)) refusal is (inr after_all, same) =
              let full = after_all.full in
              let first = full_is whats (placed t p name after) after_all.moved (counts_are after after_all.moved after_all.follow) ∙ full.1 in
              does (step t asked p) p p (with_accounts records accounts) (Err refusal)
              (step_full t p name asked on account there after reply full.0 is first ∙ ap (λ (r : Refusal). (p, Err r)) (sym full.2)) (kept same)

          -- a change that was refused
          pub does_refuse : (refusal : Refusal) → Told (Err refusal) → Does (step t asked p) p (with_accounts records accounts) (Err refusal)
          does_refuse refusal told = refused_by (change_of t asked account) refusal refl (told_of (Err refusal) told)

          pub refuses_fitly : (refusal : Refusal) → Told (Err refusal) → RefusalFits refusal
          refuses_fitly refusal told = refusal_fits whats account records.counts written (change_of t asked account) refusal (told_or_nothing t account asked) (told_of (Err refusal) told)

    -- ---- queries

    pub shows_none : (t : ℕ) → at_name name records.accounts ≡ None → answer t (query.Bucket name) p ≡ Err NoSuchBucket
    unfolding answer
    shows_none t none = let nothing = absent none in rw nothing refl

    pub meters_none : (t month : ℕ) → at_name name records.accounts ≡ None → answer t (query.Meters name month) p ≡ Err NoSuchBucket
    unfolding answer
    meters_none t month none = let nothing = absent none in rw nothing refl

    pub rules_none : (t : ℕ) → at_name name records.accounts ≡ None → answer t (query.Rules name) p ≡ Err NoSuchBucket
    unfolding answer
    rules_none t none = let nothing = absent none in rw nothing refl

    pub stack_none : (t : ℕ) (key : List ℕ) → at_name name records.accounts ≡ None → answer t (query.Stack name key) p ≡ Err NoSuchBucket
    unfolding answer
    stack_none t key none = let nothing = absent none in rw nothing refl

    pub upload_none : (t number : ℕ) → at_name name records.accounts ≡ None → answer t (query.Upload name number) p ≡ Err NoSuchBucket
    unfolding answer
    upload_none t number none = let nothing = absent none in rw nothing refl

    pub due_none : (t : ℕ) → at_name name records.accounts ≡ None → answer t (query.Due name) p ≡ Err NoSuchBucket
    unfolding answer
    due_none t none = let nothing = absent none in rw nothing refl

    module _ (held : AccountRecord) (found : at_name name records.accounts ≡ Some held) where
      abbrev pub shown_account : Account
      shown_account = (present held found).0

      shown_there : at_name name p.accounts ≡ Some shown_account
      shown_there = (present held found).1

      pub shown_stands : StandsForAccount held shown_account
      shown_stands = (present held found).2

      over : AreCountsOver held.bucket records.counts
      over =
          subst (λ (bucket : BucketRecord). AreCountsOver bucket records.counts) (sym shown_stands.bucket)
          (counts_over p records.counts name shown_account stands.orderly.records stands.counts shown_there)

      pub few_versions : version_count held.bucket ≤ 400_000
      few_versions = let most = over Versions in omega (arith, most.0, most.1)

      pub few_uploads : length held.bucket.uploads ≤ 40_000
      few_uploads = let most = over Uploads in omega (arith, most.0, most.1)

      pub shows : (t : ℕ) → answer t (query.Bucket name) p ≡ Ok (BucketShown name (rule_count held.bucket.rules) (length held.bucket.uploads) held.bucket.versioning (version_count held.bucket))
      unfolding answer
      shows t =
          let there = shown_there in
          rw there (ap (λ (bucket : BucketRecord). Ok (BucketShown name (rule_count bucket.rules) (length bucket.uploads) bucket.versioning (version_count bucket))) (sym shown_stands.bucket))

      pub shows_rules : (t : ℕ) → answer t (query.Rules name) p ≡ rules_told held.bucket
      unfolding answer
      shows_rules t = let there = shown_there in rw there (ap rules_told (sym shown_stands.bucket))

      pub shows_stack : (t : ℕ) (key : List ℕ) → answer t (query.Stack name key) p ≡ stack_told key held.bucket
      unfolding answer
      shows_stack t key = let there = shown_there in rw there (ap (stack_told key) (sym shown_stands.bucket))

      pub shows_upload : (t number : ℕ) → answer t (query.Upload name number) p ≡ upload_told number held.bucket
      unfolding answer
      shows_upload t number = let there = shown_there in rw there (ap (upload_told number) (sym shown_stands.bucket))

      pub shows_due : (t : ℕ) → answer t (query.Due name) p ≡ due_told t held.bucket
      unfolding answer
      shows_due t = let there = shown_there in rw there (ap (due_told t) (sym shown_stands.bucket))

      pub shows_meters : (t month : ℕ) → answer t (query.Meters name month) p ≡ Ok (MetersShown name month (map (class_meters month t (book_of shown_account.books)) all_classes))
      unfolding answer
      shows_meters t month = let there = shown_there in rw there refl

      pub shown_booked : (t : ℕ) → is_not_before records.last t ≡ true → IsBookedBy t (book_of shown_account.books)
      shown_booked t later = (kept_now t p stands.orderly (later_plain t later) name shown_account shown_there).booked

module _ (records : Records) (p : Office) (stands : StandsForOffice records p) where
  -- ---- queries on the whole office

  pub shows_tariff : (t : ℕ) → answer t query.Tariff p ≡ tariffs_told records.tariffs
  unfolding answer
  shows_tariff t = ap tariffs_told (sym stands.tariffs)

  prices_by : (month : ℕ) (o : Option Prices) → at_number month p.closed ≡ o → tariff_for month p ≡ kept_or o (in_force month p.tariffs)
  prices_by month None is = rw is refl
  prices_by month (Some prices) is = rw is refl

  pub shows_prices : (month : ℕ) → tariff_for month p ≡ kept_or (closed_at month records.closed) (in_force month records.tariffs)
  shows_prices month =
      prices_by month (closed_at month p.closed) (sym (closed_is month p.closed))
      ∙ ap (λ (closed : List (ℕ × Prices)). kept_or (closed_at month closed) (in_force month p.tariffs)) (sym stands.closed)
      ∙ ap (λ (tariffs : List Prices). kept_or (closed_at month records.closed) (in_force month tariffs)) (sym stands.tariffs)

  pub shows_report : (t month : ℕ) (prices : Prices) → tariff_for month p ≡ Some prices → answer t (query.Report month) p ≡ Ok (Report (report_lines prices month t p))
  unfolding answer
  shows_report t month prices is = rw is refl

  pub shows_no_report : (t month : ℕ) → tariff_for month p ≡ None → answer t (query.Report month) p ≡ Err NoTariff
  unfolding answer
  shows_no_report t month is = rw is refl

  module _ (t : ℕ) (later : is_not_before records.last t ≡ true) where
    -- the lines that are listed of the buckets in memory
    pub listed : (prices : Prices) (month : ℕ) (lines : List ReportLine)
        → ((plainly : List (List ℕ × Account)) → StandForAccounts records.accounts plainly → AllByRecursion (IsBookedIn t) plainly → lines ≡ flat_map (entry_lines prices month t) plainly)
        → lines ≡ report_lines prices month t p
    unfolding report_lines
    listed prices month lines told = told p.accounts stands.accounts (booked_now t p stands.orderly (subst (λ (last : Option ℕ). is_not_before last t ≡ true) stands.last later))

  pub few_accounts : length records.accounts ≤ 1_000
  unfolding count_of
  few_accounts = let few = stands.orderly.records.counts.0 in let same = stand_length records.accounts p.accounts stands.accounts in omega (arith, few, same)

-- ---- the office before the first command

none_counted : (what : What) → count_of what empty_office ≡ 0
unfolding count_of
none_counted Buckets = refl
none_counted Versions = refl
none_counted Uploads = refl
none_counted Parts = refl
none_counted Names = refl
none_counted Rules = refl
none_counted Tariffs = refl

pub empty_stands : (tariffs : List Prices) (closed : List (ℕ × Prices)) (accounts : List (List ℕ × AccountRecord)) (counts : Counts) (number : ℕ) → tariffs ≡ [] → closed ≡ [] → accounts ≡ [] → ((what : What) → amount what counts ≡ 0)
    → StandsForOffice (record { last = None; tariffs = tariffs; first_month = None; closed = closed; accounts = accounts; counts = counts; accepted = number }) empty_office
empty_stands tariffs closed accounts counts number no_tariff no_month no_account none = record {
  orderly = empty_orderly;
  last = refl;
  tariffs = no_tariff;
  first_month = refl;
  closed = no_month;
  accounts = subst (λ (l : List (List ℕ × AccountRecord)). StandForAccounts l []) (sym no_account) tt;
  counts = λ what. none what ∙ sym (none_counted what);
}

-- ---- what is kept

-- whatever it stood for, it stands for some office after an answer that is the step's
pub stands_on : (expected : Office × Answer) (before : Office) (after : Records) (result : Answer) → Does expected before after result → (p : Office) × StandsForOffice after p
stands_on expected before after result (inl done) = (expected.0, done.1)
stands_on expected before after result (inr wanting) = (before, wanting.1)

pub kept_on : (expected : Office × Answer) (before : Office) (after : Records) (result : Answer)
    → Does expected before after result → AllByRecursion (λ account. IsWithinBy after.accepted account.1) after.accounts
    → IsOfAnOffice after
kept_on expected before after result does_it room =
    let stands = stands_on expected before after result does_it in
    record { office = stands.0; stands = stands.1; room = room }

pub empty_kept : (tariffs : List Prices) (closed : List (ℕ × Prices)) (accounts : List (List ℕ × AccountRecord)) (counts : Counts) (number : ℕ) → tariffs ≡ [] → closed ≡ [] → accounts ≡ [] → ((what : What) → amount what counts ≡ 0)
    → IsOfAnOffice (record { last = None; tariffs = tariffs; first_month = None; closed = closed; accounts = accounts; counts = counts; accepted = number })
empty_kept tariffs closed accounts counts number no_tariff no_month no_account none = record {
  office = empty_office;
  stands = empty_stands tariffs closed accounts counts number no_tariff no_month no_account none;
  room = subst (λ (l : List (List ℕ × AccountRecord)). AllByRecursion (λ account. IsWithinBy number account.1) l) (sym no_account) tt;
}

-- ---- with what the calls give

-- a bucket more
pub one_more : (counts : Counts) (t : ℕ) (what : What) → amount what (record counts { buckets = counts.buckets + 1 }) ≡ amount what counts + in_bucket what (new_account t).bucket
one_more counts t Buckets = refl
one_more counts t Versions = omega arith
one_more counts t Uploads = omega arith
one_more counts t Parts = omega arith
one_more counts t Names = omega arith
one_more counts t Rules = omega arith
one_more counts t Tariffs = omega arith

-- the first month that a call gives
pub with_month : (t : ℕ) (records : Records) (accounts : List (List ℕ × AccountRecord)) (counts : Counts)
    (number month : ℕ)
    → month ≡ unwrap_or records.first_month (month_at t) → (P : Records → Type 0)
    → P (accepted_records t records accounts counts number)
    → P (record { last = Some t; tariffs = records.tariffs; first_month = Some month; closed = records.closed; accounts = accounts; counts = counts; accepted = number })
with_month t records accounts counts number month is P h =
    subst (λ (m : ℕ). P (record { last = Some t; tariffs = records.tariffs; first_month = Some m; closed = records.closed; accounts = accounts; counts = counts; accepted = number })) (sym is) h
