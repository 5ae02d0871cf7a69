-- The lines that are read of the meters are those of the forecast.
use Rattle.std.proofs.Common.{◌≡◌, ◌⊎◌, inl, inr, ℕ, ◌≤◌, List, [], ◌∷◌, refl, ap, sym, ◌∙◌, subst, true, false, map, flat_map, eqb, arith, length}
use Rattle.std.proofs.lemmas.Option.{same_Some}
use Rattle.std.specs.Prelude.{Option, Some, None, Err, ◌==◌}
use Rattle.std.proofs.lemmas.Bool.Decides.{eqb_tells}
use Rattle.class_rules.specs.Classes.{all_classes}
use Rattle.office_base.specs.Maps.{at_name}
use Rattle.accrual.specs.Books.{IsBookedBy}
use Rattle.accrual.specs.Totals.{AreTotalsOf}
use Rattle.tariff.specs.Prices.{Prices}
use Rattle.due_core.specs.declared.action.Action.{Action}
use Rattle.office_types.specs.declared.reply.ClassMeters.{ClassMeters}
use Rattle.plain_office.specs.Office.{Office, Account, book_of}
use Rattle.plain_office.specs.Answers.{answer, tariffs_told}
use Rattle.office_types.specs.declared.command.Query.TheVariants as query
use Rattle.office_types.specs.declared.reply.Reply.TheVariants.{TariffShown}
use Rattle.office_types.specs.declared.refusal.Refusal.TheVariants.{NoTariff, NoMemory}
use Rattle.plain_office.proofs.Runs.{Answer, done, refused, no_reply}
use Rattle.plain_office.specs.Charges.{class_meters, in_force, kept_or, tariff_for}
use Rattle.plain_office.specs.Run.{is_not_before}
use Rattle.plain_office.specs.Sweep.{IsSwept}
use Rattle.bucket_account.specs.Counting.{AccountRecord}
use Rattle.office_machine.specs.Once.{OfficeView, StandsFor}
use Rattle.office_machine.proofs.Offices.{absent, present, shown_booked, some_told}
use Rattle.forecast.specs.Forecasts.{Outlook, replies_of}
use Rattle.forecast.specs.Lines.{class_lines, book_lines}
use Rattle.forecast.specs.Telling.{ForecastView, Foretells}

-- ---- what was used

module _ (view : OfficeView) (name : List ℕ) (t : ℕ) (later : is_not_before view.records.last t ≡ true) (p : Office) (account : Account) (stands : StandsFor view p)
    (there : at_name name p.accounts ≡ Some account) where
  pub never_absent : at_name name view.records.accounts ≡ None → ⊥
  never_absent none = let wrong = sym there ∙ absent view.records p stands.records name none in absurd cc

  module _ (held : AccountRecord) (found : at_name name view.records.accounts ≡ Some held) where
    shown_is : (present view.records p stands.records name held found).0 ≡ account
    shown_is = let shown = present view.records p stands.records name held found in same_Some shown.0 account (sym shown.1 ∙ there)

    pub read_totals : AreTotalsOf held.meters (book_of account.books)
    read_totals = subst (λ (a : Account). AreTotalsOf held.meters (book_of a.books)) shown_is (present view.records p stands.records name held found).2.meters

    pub read_booked : IsBookedBy t (book_of account.books)
    read_booked = subst (λ (a : Account). IsBookedBy t (book_of a.books)) shown_is (shown_booked view.records p stands.records name held found t later)

-- the moment of the sweep is not before the last one
pub later_than : (view : ForecastView) (outlook : Outlook) → Foretells view outlook → is_not_before view.office.records.last view.until ≡ true
later_than view outlook is = subst (λ (last : Option ℕ). is_not_before last view.until ≡ true) (sym is.stands.records.last) is.later

-- ---- the lines

module _ (view : ForecastView) (outlook : Outlook) (is : Foretells view outlook) (none : outlook.replies ≡ []) where
  -- if nothing is left the account is the last one
  end_is : outlook.end ≡ is.account
  end_is = by is.actions is.swept is.replies where
    by : (actions : List Action) → IsSwept view.until actions is.account outlook.end → outlook.replies ≡ replies_of actions is.account → outlook.end ≡ is.account
    by [] swept replies = swept.1
    by (a ∷ rest) swept replies = let wrong = sym none ∙ replies in absurd cc

  module _ (month : ℕ) (le : view.first ≤ month) (tariff : Option Prices) (tariff_is : tariff ≡ in_force month is.office.tariffs) (used : List ClassMeters)
      (used_is : used ≡ map (class_meters month view.until (book_of is.account.books)) all_classes) where
    same_tariff : tariff ≡ tariff_for month is.office
    same_tariff = tariff_is ∙ sym (ap (λ (o : Option Prices). kept_or o (in_force month is.office.tariffs)) (is.open_months month le))

    all_lines : flat_map (class_lines tariff month) (map (class_meters month view.until (book_of is.account.books)) all_classes)
        ≡ book_lines tariff month view.until (book_of is.account.books)
    unfolding book_lines
    all_lines = refl

    pub lines_are : flat_map (class_lines tariff month) used ≡ outlook.lines month
    lines_are =
        ap (λ (l : List ClassMeters). flat_map (class_lines tariff month) l) used_is ∙ all_lines
        ∙ ap (λ (o : Option Prices). book_lines o month view.until (book_of is.account.books)) same_tariff
        ∙ ap (λ (a : Account). book_lines (tariff_for month is.office) month view.until (book_of a.books)) (sym end_is)
        ∙ sym (is.lines month)

-- ---- the tariffs that are told

never_empty : (x : Prices) (all : List Prices) → (length (x ∷ all) == 0) ≡ false
never_empty x all = by (eqb_tells (length (x ∷ all)) 0) where
  by : ((eqb (length (x ∷ all)) 0 ≡ true) × (length (x ∷ all) ≡ 0)) ⊎ ((eqb (length (x ∷ all)) 0 ≡ false) × (length (x ∷ all) ≡ 0 → ⊥)) → (length (x ∷ all) == 0) ≡ false
  by (inl told) = let wrong = told.1 in absurd (omega (arith, wrong))
  by (inr told) = told.0

module _ (t : ℕ) (p : Office) where
  all_told : (all tariffs : List Prices) → tariffs_told all ≡ done (TariffShown tariffs) → tariffs ≡ all
  all_told [] tariffs told = absurd cc
  all_told (x ∷ all) tariffs told = let same : done (TariffShown (x ∷ all)) ≡ done (TariffShown tariffs) = sym (some_told (x ∷ all) (never_empty x all)) ∙ told in cc

  none_told : (all : List Prices) → tariffs_told all ≡ refused NoTariff → all ≡ []
  none_told [] told = refl
  none_told (x ∷ all) told = absurd (no_reply (TariffShown (x ∷ all)) NoTariff (sym (some_told (x ∷ all) (never_empty x all)) ∙ told))

  pub tariffs_are : (tariffs : List Prices) (result : Answer) → result ≡ done (TariffShown tariffs) → (result ≡ answer t query.Tariff p) ⊎ (result ≡ Err NoMemory) → tariffs ≡ p.tariffs
  unfolding answer
  tariffs_are tariffs result is (inl told) = all_told p.tariffs tariffs (sym told ∙ is)
  tariffs_are tariffs result is (inr wanting) = absurd (no_reply (TariffShown tariffs) NoMemory (sym is ∙ wanting))

  pub none_in_force : (month : ℕ) (result : Answer) → result ≡ refused NoTariff → (result ≡ answer t query.Tariff p) ⊎ (result ≡ Err NoMemory) → None ≡ in_force month p.tariffs
  unfolding answer
  none_in_force month result is (inl told) = ap (in_force month) (sym (none_told p.tariffs (sym told ∙ is)))
  none_in_force month result is (inr wanting) = let wrong : refused NoTariff ≡ refused NoMemory = sym is ∙ wanting in absurd cc
