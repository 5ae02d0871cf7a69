-- What an accepted command does to the tables of the office's stays.
use Rattle.std.proofs.Common.{◌≡◌, ℕ, List, map, refl, ap, sym, ◌∙◌, subst, true}
use Rattle.std.specs.Prelude.{Option, Some, None, Ok, option_map, IfSome}
use Rattle.std.specs.List.{AllByRecursion}
use Rattle.std.specs.Map.{set_value}
use Rattle.std.specs.BTreeMap.{is_at}
use Rattle.std.proofs.lemmas.Map.Steps.{set_value_same}
use Rattle.office_base.specs.Maps.{bytes_cmp, at_name, with_name, Rises}
use Rattle.office_types.specs.declared.command.Command.{Command}
use Rattle.office_types.specs.declared.command.Command.TheVariants as command
use Rattle.office_types.specs.declared.reply.Reply.{Reply}
use Rattle.plain_office.specs.Office.{Office, Account, Booked}
use Rattle.plain_office.specs.Orderly.{HasOpenStays}
use Rattle.plain_office.specs.Step.{step, is_accepted, new_account}
use Rattle.plain_office.proofs.Runs.{Answer, done}
use Rattle.office_laws.proofs.Maps.{by_name, found_every, at_written}
use Rattle.bucket_account.specs.Changing.{IsOnBucket}
use Rattle.bucket_account.specs.Counting.{AccountRecord}
use Rattle.bucket_account.specs.Standing.{StandsForAccount}
use Rattle.bucket_account.proofs.SetAt.{set_is_with}
use Rattle.office_machine.specs.Standing.{Records, StandsForOffice}
use Rattle.office_machine.proofs.Accounts.{StandsForOption, stand_at}
use Rattle.stay_explain.specs.Plans.{Plan, plan_of, stays_after, BeginsFree}
use Rattle.stay_explain.specs.Table.{stays_of}
use Rattle.stay_explain.specs.Ledgers.{plan_at, plan_in, planned, table_by, tables_by, tables_after, IsFreeIn, IsBookable}
use Rattle.stay_explain.proofs.Tables.{map_with, set_map, at_map, free_by}
use Rattle.stay_explain.proofs.Told.{plan_tells}
use Rattle.stay_explain.proofs.Changed.{changes, bucket_made, tariff_keeps, closed_keeps}

-- ---- the tables after it

some_of : (o : Option AccountRecord) (q : Option Account) (account : Account) → StandsForOption o q → q ≡ Some account → (held : AccountRecord) × (o ≡ Some held) × StandsForAccount held account
some_of None None account h is = absurd cc
some_of None (Some other) account h is = absurd h
some_of (Some held) None account h is = absurd cc
some_of (Some held) (Some other) account h is = let same : other ≡ account = cc in (held, refl, subst (StandsForAccount held) same h)

-- each account has the open stays that its records ask for
abbrev pub AllOpen : List (List ℕ × Account) → Type 0
AllOpen accounts = AllByRecursion (λ (e : List ℕ × Account). HasOpenStays e.1) accounts

module _ (records : Records) (p : Office) (stands : StandsForOffice records p) (t : ℕ) where
  abbrev Booking : Command → Option (List ℕ) → Type 0
  Booking asked named =
      (map stays_of (step t asked p).0.accounts ≡ tables_by named (plan_in t asked named records.accounts) (map stays_of p.accounts))
      × IsFreeIn named (plan_in t asked named records.accounts) (map stays_of p.accounts)

  module _ (name : List ℕ) (before after : Account) (there : at_name name p.accounts ≡ Some before) where
    rises : Rises bytes_cmp p.accounts
    rises = stands.orderly.records.names

    table_there : at_name name (map stays_of p.accounts) ≡ Some before.books.stays
    table_there = at_map name p.accounts ∙ ap (option_map (λ (a : Account). a.books.stays)) there

    set_in_place : set_value (is_at (bytes_cmp name)) (map stays_of p.accounts) after.books.stays ≡ map stays_of (with_name name after p.accounts)
    set_in_place = set_map (is_at (bytes_cmp name)) after p.accounts ∙ ap (map stays_of) (set_is_with name after before p.accounts rises there)

    by_plan : (plan : Option Plan) → after.books.stays ≡ stays_after plan before.books.stays → HasOpenStays after
        → (map stays_of (with_name name after p.accounts) ≡ tables_by (Some name) plan (map stays_of p.accounts)) × IsFreeIn (Some name) plan (map stays_of p.accounts)
    by_plan None tells has = (
      sym set_in_place
          ∙ set_value_same (is_at (bytes_cmp name)) (map stays_of p.accounts) after.books.stays (table_there ∙ ap (λ (l : List Booked). Some l) (sym tells)),
      tt,
    )
    by_plan (Some plan) tells has = (
      sym set_in_place
          ∙ ap (λ (l : List Booked). set_value (is_at (bytes_cmp name)) (map stays_of p.accounts) l) tells
          ∙ ap (λ (o : Option (List Booked)). table_by plan o name (map stays_of p.accounts)) (sym table_there),
      subst (λ (o : Option (List Booked)). IfSome o (λ stays. BeginsFree plan stays)) (sym table_there) (free_by plan before.books.stays after has tells),
    )

  module _ (said : Reply) (accepts : is_accepted (done said) ≡ true) where
    on_bucket : (name : List ℕ) (asked : Command) → IsOnBucket name asked → done said ≡ (step t asked p).1 → AllOpen (step t asked p).0.accounts → Booking asked (Some name)
    on_bucket name asked on told stay =
        let c = changes t p said accepts name asked on told in
        let held = some_of (at_name name records.accounts) (at_name name p.accounts) c.before (stand_at name records.accounts p.accounts stands.accounts) c.there in
        let plan_is : plan_in t asked (Some name) records.accounts ≡ plan_of t asked c.before.bucket =
        ap (plan_at t asked) held.1 ∙ ap (plan_of t asked) held.2.bucket in
        let has : HasOpenStays c.before = found_every by_name (λ (e : List ℕ × Account). HasOpenStays e.1) name c.before p.accounts stands.orderly.stays c.there in
        let tells = plan_tells t asked c.before has (c.after, c.reply_of) c.change in
        let has_after : HasOpenStays c.after =
        found_every by_name (λ (e : List ℕ × Account). HasOpenStays e.1) name c.after (with_name name c.after p.accounts)
        (subst AllOpen c.accounts stay) (at_written by_name name c.after p.accounts) in
        subst (λ (plan : Option Plan).
        (map stays_of (step t asked p).0.accounts ≡ tables_by (Some name) plan (map stays_of p.accounts))
        × IsFreeIn (Some name) plan (map stays_of p.accounts)) (sym plan_is)
        (subst (λ (l : List (List ℕ × Account)).
        (map stays_of l ≡ tables_by (Some name) (plan_of t asked c.before.bucket) (map stays_of p.accounts))
        × IsFreeIn (Some name) (plan_of t asked c.before.bucket) (map stays_of p.accounts)) (sym c.accounts)
        (by_plan name c.before c.after c.there (plan_of t asked c.before.bucket) tells has_after))

    abbrev Steps : Command → Type 0
    Steps asked =
        done said ≡ (step t asked p).1 → AllOpen (step t asked p).0.accounts
        → (map stays_of (step t asked p).0.accounts ≡ tables_after asked (planned t asked records.accounts) (map stays_of p.accounts))
        × IsBookable asked (planned t asked records.accounts) (map stays_of p.accounts)

    steps : (asked : Command) → Steps asked
    steps (command.CreateBucket name) told stay = (ap (map stays_of) (bucket_made t p said accepts name told) ∙ map_with name (new_account t) p.accounts, tt)
    steps (command.SetVersioning name enabled) told stay = on_bucket name (command.SetVersioning name enabled) refl told stay
    steps (command.SetRules name rules) told stay = on_bucket name (command.SetRules name rules) refl told stay
    steps (command.DropRules name) told stay = on_bucket name (command.DropRules name) refl told stay
    steps (command.Put name key size class tags) told stay = on_bucket name (command.Put name key size class tags) refl told stay
    steps (command.Delete name key) told stay = on_bucket name (command.Delete name key) refl told stay
    steps (command.DeleteVersion name key id) told stay = on_bucket name (command.DeleteVersion name key id) refl told stay
    steps (command.SetTags name key id tags) told stay = on_bucket name (command.SetTags name key id tags) refl told stay
    steps (command.StartUpload name key class tags) told stay = on_bucket name (command.StartUpload name key class tags) refl told stay
    steps (command.PutPart name upload part size) told stay = on_bucket name (command.PutPart name upload part size) refl told stay
    steps (command.Complete name upload) told stay = on_bucket name (command.Complete name upload) refl told stay
    steps (command.Abort name upload) told stay = on_bucket name (command.Abort name upload) refl told stay
    steps (command.Act name) told stay = on_bucket name (command.Act name) refl told stay
    steps (command.SetTariff tariff) told stay = (ap (map stays_of) (tariff_keeps t p said accepts tariff), tt)
    steps (command.Close month) told stay = (ap (map stays_of) (closed_keeps t p said accepts month), tt)

-- the tables after a command are those of the office after it, and what it begins has no open stay
pub tables_step : (records : Records) (p : Office) (stands : StandsForOffice records p) (t : ℕ) (asked : Command) (said : Reply) → is_accepted (Ok said) ≡ true
    → Ok said ≡ (step t asked p).1 → AllOpen (step t asked p).0.accounts
    → (map stays_of (step t asked p).0.accounts
    ≡ tables_after asked (planned t asked records.accounts) (map stays_of p.accounts))
    × IsBookable asked (planned t asked records.accounts) (map stays_of p.accounts)
tables_step records p stands t asked said accepts told stay = steps records p stands t said accepts asked told stay
