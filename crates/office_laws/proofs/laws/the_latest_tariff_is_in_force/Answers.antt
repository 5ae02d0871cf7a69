use Rattle.office_laws.proofs.Tariffs.{none_holds, latest_holds}
use Rattle.office_laws.proofs.laws.the_latest_tariff_is_in_force.Goals as goal

pub returns : goal.returns
returns c = record {
  found = λ p month tariff h is. latest_holds month p.tariffs tariff h.records.tariffs is;
  none = λ p month is. none_holds month p.tariffs is;
}
