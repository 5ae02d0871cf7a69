-- The rows of a table, one after another.
use Rattle.std.proofs.Common.{◌≡◌, ◌∙◌, ℕ, ◌+◌, ◌-◌, ◌≤◌, ◌<◌, zero, suc, arith, List, [], ◌∷◌, ◌++◌, map, ap, sym, refl, subst, Option, Some, None, Result, Ok, Err, IfOk, append-nil}
use Rattle.std.specs.Prelude.{OnOk}
use Rattle.std.specs.Global.{Vec}
use Rattle.std.specs.List.{flat_map}
use Rattle.std.specs.Io.KnownBytes.{append_known}
use Rattle.std.proofs.lemmas.Grind.{flat_map-append}
use Rattle.std.proofs.lemmas.List.{append_assoc}
use Rattle.csv.specs.Writing.{default_writer, row_text}
use Rattle.office_types.specs.declared.reply.Reply.{Reply}
use Rattle.forecast.specs.declared.lines.ForecastLine.{ForecastLine}
use Rattle.forecast.specs.Forecasts.{Outlook}
use Rattle.forecast.specs.Telling.{ForecastView, Foretells}
use Rattle.forecast_text.specs.Tables.{text_of_rows, actions_header, action_rows, actions_csv, lines_header, line_row, month_rows, months_from, lines_csv}

-- what stands there, and then the rows of these lines, of these replies, or of these months
abbrev pub and_lines : Option (List ℕ) → ℕ → List ForecastLine → Option (List ℕ)
and_lines text month lines = append_known text (text_of_rows (map (line_row month) lines))

abbrev pub and_actions : Option (List ℕ) → List Reply → Option (List ℕ)
and_actions text replies = append_known text (text_of_rows (flat_map action_rows replies))

abbrev pub and_months : Option (List ℕ) → (ℕ → List ForecastLine) → List ℕ → Option (List ℕ)
and_months text lines months = append_known text (text_of_rows (flat_map (month_rows lines) months))

-- ---- rows of an item come first

more : {X : Type 0} (rows : X → List (List (List ℕ))) (text : Option (List ℕ)) (x : X) (xs : List X)
    → append_known (append_known text (text_of_rows (rows x))) (text_of_rows (flat_map rows xs)) ≡ append_known text (text_of_rows (flat_map rows (x ∷ xs)))
more rows None x xs = refl
more rows (Some held) x xs =
    ap Some (append_assoc held (text_of_rows (rows x)) (text_of_rows (flat_map rows xs))
    ∙ ap (λ (t : List ℕ). held ++ t) (sym (flat_map-append (row_text default_writer) (rows x) (flat_map rows xs))))

none_more : (text : Option (List ℕ)) → append_known text [] ≡ text
none_more None = refl
none_more (Some held) = ap Some (append-nil held)

some_injective : {a b : List ℕ} → Some a ≡ Some b → a ≡ b
some_injective is = cc

-- what a writer of CSV held is what it gives
pub written_text : {E : Type 0} (result : Result (Vec ℕ) E) {held : Option (List ℕ)} {text : List ℕ} → held ≡ Some text → IfOk result (λ v. held ≡ Some v.items) → IfOk result (λ v. v.items ≡ text)
written_text (Ok v) is ok = some_injective (sym ok ∙ is)
written_text (Err e) is ok = tt

-- ---- actions

-- the replies that are left to be told come after those that stand there, and the text is this one in the end
abbrev pub AreLeft : Option (List ℕ) → ForecastView → Outlook → Type 0
AreLeft text view outlook =
    (rest : List Reply) × Foretells view (record outlook { replies = rest }) × (and_actions text rest ≡ Some (actions_csv outlook.replies))

pub all_left : (text empty : Option (List ℕ)) (view : ForecastView) (outlook : Outlook) → Foretells view outlook → empty ≡ Some []
    → text ≡ append_known empty (row_text default_writer actions_header) → AreLeft text view outlook
all_left text empty view outlook foretells none is =
    (outlook.replies, foretells, ap (λ (t : Option (List ℕ)). and_actions t outlook.replies) (is ∙ ap (λ (t : Option (List ℕ)). append_known t (row_text default_writer actions_header)) none))

pub one_told : (old new : Option (List ℕ)) (view : ForecastView) (outlook : Outlook) (reply : Reply) (rest behind : List Reply) → rest ≡ reply ∷ behind
    → Foretells view (record outlook { replies = behind }) → and_actions old rest ≡ Some (actions_csv outlook.replies)
    → new ≡ append_known old (text_of_rows (action_rows reply)) → AreLeft new view outlook
one_told old new view outlook reply rest behind is foretells left put =
    (behind, foretells, ap (λ (t : Option (List ℕ)). and_actions t behind) put ∙ more action_rows old reply behind ∙ ap (and_actions old) (sym is) ∙ left)

pub none_left : (text : Option (List ℕ)) (outlook : Outlook) (rest : List Reply) → rest ≡ [] → and_actions text rest ≡ Some (actions_csv outlook.replies) → text ≡ Some (actions_csv outlook.replies)
none_left text outlook rest is left = sym (none_more text) ∙ ap (and_actions text) (sym is) ∙ left

-- ---- months

-- the months that are left come after those that stand there, and the text is this one in the end
abbrev pub MonthsAreLeft : Option (List ℕ) → ℕ → ℕ → ℕ → Outlook → Type 0
MonthsAreLeft text first last month outlook =
    and_months text outlook.lines (months_from month (last + 1 - month)) ≡ Some (lines_csv first last outlook.lines)

pub all_months : (text empty : Option (List ℕ)) (first last : ℕ) (outlook : Outlook) → empty ≡ Some [] → text ≡ append_known empty (row_text default_writer lines_header)
    → MonthsAreLeft text first last first outlook
all_months text empty first last outlook none is =
    ap (λ (t : Option (List ℕ)). and_months t outlook.lines (months_from first (last + 1 - first))) (is ∙ ap (λ (t : Option (List ℕ)). append_known t (row_text default_writer lines_header)) none)

months_step : (month last : ℕ) → month < last + 1 → months_from month (last + 1 - month) ≡ month ∷ months_from (month + 1) (last + 1 - (month + 1))
months_step month last inside =
    ap (months_from month) {x = last + 1 - month} {y = suc (last + 1 - (month + 1))} (omega (arith, inside))

pub one_month : (old new : Option (List ℕ)) (first last month : ℕ) (outlook : Outlook) → month < last + 1 → MonthsAreLeft old first last month outlook
    → new ≡ append_known old (text_of_rows (month_rows outlook.lines month)) → MonthsAreLeft new first last (month + 1) outlook
one_month old new first last month outlook inside left put =
    ap (λ (t : Option (List ℕ)). and_months t outlook.lines (months_from (month + 1) (last + 1 - (month + 1)))) put
    ∙ more (month_rows outlook.lines) old month (months_from (month + 1) (last + 1 - (month + 1)))
    ∙ ap (and_months old outlook.lines) (sym (months_step month last inside)) ∙ left

pub no_months : (text : Option (List ℕ)) (first last month : ℕ) (outlook : Outlook) → last + 1 ≤ month → MonthsAreLeft text first last month outlook
    → text ≡ Some (lines_csv first last outlook.lines)
no_months text first last month outlook over left =
    sym (none_more text) ∙ ap (λ (n : ℕ). and_months text outlook.lines (months_from month n)) {x = 0} {y = last + 1 - month} (omega (arith, over)) ∙ left

pub on_ok : {T E P : Type 0} (r : Result T E) → P → OnOk r P
on_ok (Ok x) holds = holds
on_ok (Err e) holds = tt
