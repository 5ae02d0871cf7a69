-- The ledger after one entry more.
use Rattle.std.proofs.Common.{◌≡◌, true, List, [], ◌∷◌, ◌++◌, map, Option, Some, None, Result, Ok, Err, refl, sym, ap, ◌∙◌, subst}
use Rattle.std.specs.Prelude.{IsTrue}
use Rattle.plain_office.specs.Office.{Office, empty_office}
use Rattle.plain_office.specs.Once.{kept_for, keeping}
use Rattle.plain_office.specs.Step.{step, is_accepted}
use Rattle.plain_office.specs.Run.{is_not_before}
use Rattle.plain_office.proofs.Runs.{Token, step_new, keeping_told}
use Rattle.office_types.specs.declared.command.Command.{Command}
use Rattle.office_types.specs.declared.command.Entry.{Entry}
use Rattle.office_types.specs.declared.reply.Reply.{Reply}
use Rattle.office_types.specs.declared.reply.Reply.TheVariants.{NothingDue}
use Rattle.office_types.specs.declared.refusal.Refusal.{Refusal}
use Rattle.office_machine.specs.Standing.{accepted_after}
use Rattle.office_machine.specs.Once.{OfficeView, StandsFor, DoesOnce}
use Rattle.desk_core.proofs.Offices.{Done, reply_is, more_after, none_after}
use Rattle.stay_explain.specs.Ledgers.{LedgerRecord, IsLedgerOf, Tables, planned, tables_after, IsBookable}
use Rattle.stay_explain.specs.Table.{stays_of}
use Rattle.stay_explain.proofs.Ledgers.{AllOpen, tables_step}

-- keeping a reply changes no account
keeping_accounts : (token : Token) (c : Command) (done : Office × Result Reply Refusal) → (keeping token c done).0.accounts ≡ done.0.accounts
keeping_accounts None c done = refl
keeping_accounts (Some token) c (office, Err refusal) = refl
keeping_accounts (Some token) c (office, Ok NothingDue) = refl
keeping_accounts (Some token) c (office, Ok reply) = refl

module _ (history : List Entry) (e : Entry) (old : LedgerRecord) (office : OfficeView) (reply : Reply) (is : IsLedgerOf history old) (made : is_accepted (Ok reply) ≡ true)
    (fresh : kept_for e.token is.office.plain ≡ None) (does : (p : Office) → StandsFor old.office p → DoesOnce (Done p e) p office (Ok reply)) where
  abbrev plain : Office
  plain = is.office.plain

  abbrev stepped : Office × Result Reply Refusal
  stepped = step e.moment e.command plain

  done_is : Done plain e ≡ keeping e.token e.command stepped
  done_is = step_new e.moment e.token e.command plain fresh

  told : (Ok reply ≡ (Done plain e).1) × StandsFor office (Done plain e).0
  told = reply_is (Done plain e) plain office reply (does plain is.office.stands)

  answered : Ok reply ≡ stepped.1
  answered = told.0 ∙ ap (λ (x : Office × Result Reply Refusal). x.1) done_is ∙ keeping_told e.token e.command stepped

  same_accounts : (Done plain e).0.accounts ≡ stepped.0.accounts
  same_accounts = ap (λ (x : Office × Result Reply Refusal). x.0.accounts) done_is ∙ keeping_accounts e.token e.command stepped

  booked : (map stays_of stepped.0.accounts ≡ tables_after e.command (planned e.moment e.command old.office.records.accounts) (map stays_of plain.accounts))
      × IsBookable e.command (planned e.moment e.command old.office.records.accounts) (map stays_of plain.accounts)
  booked = tables_step old.office.records plain is.office.stands.records e.moment e.command reply made answered (subst AllOpen same_accounts told.1.records.orderly.stays)

  pub bookable : IsBookable e.command (planned e.moment e.command old.office.records.accounts) old.tables
  bookable = subst (IsBookable e.command (planned e.moment e.command old.office.records.accounts)) (sym is.tables) booked.1

  pub ledger_more : IsTrue (is_not_before old.office.records.last e.moment) → office.records.accepted ≡ accepted_after (Ok reply) old.office.records.accepted
      → (tables : Tables) → tables ≡ tables_after e.command (planned e.moment e.command old.office.records.accounts) old.tables
      → IsLedgerOf (history ++ e ∷ []) (record { office = office; tables = tables })
  unfolding more_after
  ledger_more later counted tables after =
      record {
        office = more_after history e old.office office reply is.office made later fresh (does plain is.office.stands) counted;
        tables = after ∙ ap (tables_after e.command (planned e.moment e.command old.office.records.accounts)) is.tables ∙ sym booked.0 ∙ ap (map stays_of) (sym same_accounts);
      }

pub none_yet : (view : OfficeView) → StandsFor view empty_office → view.records.accepted ≡ 0 → IsLedgerOf [] (record { office = view; tables = [] })
unfolding none_after
none_yet view stands none = record { office = none_after view stands none; tables = refl }
