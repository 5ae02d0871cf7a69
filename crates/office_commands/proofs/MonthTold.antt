-- What the office answers to the query for a report.
use Rattle.std.proofs.Common.{◌≡◌, inl, inr, ⊎_elim, refl, sym, subst, ℕ, List, Option, Some, None, Result, Ok, Err}
use Rattle.tariff.specs.Prices.{Prices}
use Rattle.office_types.specs.declared.command.Query.TheVariants as query
use Rattle.office_types.specs.declared.reply.Reply.{Reply}
use Rattle.office_types.specs.declared.reply.Reply.TheVariants as reply
use Rattle.office_types.specs.declared.refusal.Refusal.{Refusal}
use Rattle.office_types.specs.declared.refusal.Refusal.TheVariants.{NoTariff}
use Rattle.plain_office.specs.Answers.{answer}
use Rattle.plain_office.specs.Charges.{tariff_for, report_lines}
use Rattle.plain_office.specs.Office.{Office}
use Rattle.desk_core.specs.Looking.{IsReplyOf}
use Rattle.desk_core.specs.Calls.{moment_after}
use Rattle.office_commands.specs.Reporting.{IsReportReply}

no_prices : (t month : ℕ) (p : Office) → tariff_for month p ≡ None → answer t (query.Report month) p ≡ Err NoTariff
unfolding answer
no_prices t month p none = rw none refl

pub with_prices : (t month : ℕ) (p : Office) (tariff : Prices) → tariff_for month p ≡ Some tariff → answer t (query.Report month) p ≡ Ok (reply.Report (report_lines tariff month t p))
unfolding answer
with_prices t month p tariff some = rw some refl

by_prices : (t month : ℕ) (p : Office) (o : Option Prices) → tariff_for month p ≡ o → IsReportReply (answer t (query.Report month) p)
by_prices t month p None is = inr (inl (no_prices t month p is))
by_prices t month p (Some tariff) is = inl (report_lines tariff month t p, with_prices t month p tariff is)

-- it is a report, or that there is no tariff, or that memory ran out
pub report_reply : (told month : ℕ) (p : Office) (r : Result Reply Refusal) → IsReplyOf told (query.Report month) p r → IsReportReply r
report_reply told month p r answered = ⊎_elim
    (λ is. subst IsReportReply (sym is) (by_prices (moment_after told p.last) month p (tariff_for month p) refl))
    (λ lacks. inr (inr lacks)) answered
