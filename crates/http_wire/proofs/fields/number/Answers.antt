use Rattle.std.proofs.Common.{arith, rules, sym, ◌∙◌, get_or}
use Rattle.std.specs.Char.{is_ascii_digit}
use Rattle.std.proofs.lemmas.Bool.{and_from}
use Rattle.std.proofs.lemmas.Int.Digits.{digits_value_more}
use Rattle.std.proofs.lemmas.List.Folds.{list_all_more}
use Rattle.std.proofs.lemmas.Str.{digit_value_digit}
use Rattle.http_wire.proofs.fields.number.Goals as goal

pub loop-byte-preserved : goal.loop-byte-preserved
loop-byte-preserved c =
    let text = c.args.text.now in
    let i = c.loop-byte.byte-index in
    record {
      value = omega (arith, digits_value_more 10 text i (search rules), digit_value_digit (get_or text i 0) (search rules));
      digits = list_all_more is_ascii_digit text i 0 (search rules) ∙ and_from _ _ c.loop-byte.invariant.digits (sym c.is_ascii_digit.ensures.value ∙ c.if-not-is_ascii_digit.false);
    }
