use Rattle.std.proofs.Common.{◌≡◌, sym, true}
use Rattle.std.proofs.lemmas.Bool.{and_from}
use Rattle.tariff.specs.Prices.{are_tiers}
use Rattle.tariff.proofs.RoomLemmas.{put_in_room}
use Rattle.tariff.proofs.tiers.Tiers.from_slice.Goals as goal

pub invariant_of-result : goal.invariant_of-result
invariant_of-result c =
    let all : are_tiers c.args.tiers.now ≡ true = and_from _ _ (sym c.if-not-have_ends.ensures) (sym c.if-not-are_priced.ensures) in
    put_in_room c.args.tiers.now all c.copy_from_slice.new.self c.copy_from_slice.ensures.after
