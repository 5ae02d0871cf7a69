use Rattle.std.proofs.Common.{◌≡◌, [], ◌∷◌, ap, sym, ◌∙◌, subst, map}
use Rattle.std.specs.Prelude.{Some, option_copied}
use Rattle.class_rules.specs.Classes.{all_classes}
use Rattle.office_base.specs.Maps.{at_name}
use Rattle.plain_office.specs.Office.{book_of}
use Rattle.plain_office.specs.Charges.{class_meters}
use Rattle.office_machine.specs.Once.{StandsFor}
use Rattle.forecast.specs.Telling.{ForecastView}
use Rattle.forecast.proofs.Shown.{never_absent, read_totals, read_booked, later_than}
use Rattle.forecast.proofs.forecast.Forecast.used_in.Goals as goal

pub unreachable-requires : goal.unreachable-requires
unreachable-requires c =
    let told = c.self.invariant.0.foretells in
    never_absent c.self.inside.office c.self.inside.bucket c.self.inside.until (later_than _ _ told) told.office told.account told.stands told.there
    (sym c.account.ensures.same ∙ ap option_copied c.in_default.is)

pub returns : goal.returns
returns c = λ p account stands there.
    let later = later_than _ _ c.self.invariant.0.foretells in
    let stood = subst (λ (v : ForecastView). StandsFor v.office p) (sym c.self.view_is) stands in
    let found = subst (λ (v : ForecastView). at_name v.bucket p.accounts ≡ Some account) (sym c.self.view_is) there in
    let held = sym c.in-Some.ensures.same in
    let totals = read_totals c.self.inside.office c.self.inside.bucket c.self.inside.until later p account stood found c.in-Some.account.now held in
    let booked = read_booked c.self.inside.office c.self.inside.bucket c.self.inside.until later p account stood found c.in-Some.account.now held in
    let a = c.used.ensures (book_of account.books) totals booked in
    let b = c.used-2.ensures (book_of account.books) totals booked in
    let d = c.used-3.ensures (book_of account.books) totals booked in
    let e = c.used-4.ensures (book_of account.books) totals booked in
    let f = c.used-5.ensures (book_of account.books) totals booked in
    let g = c.used-6.ensures (book_of account.books) totals booked in
    subst (λ (v : ForecastView). (c.used.result ∷ c.used-2.result ∷ c.used-3.result ∷ c.used-4.result ∷ c.used-5.result ∷ c.used-6.result ∷ [])
    ≡ map (class_meters c.args.month v.until (book_of account.books)) all_classes) c.self.view_is
    (λ i. a i ∷ b i ∷ d i ∷ e i ∷ f i ∷ g i ∷ [])
