use Rattle.std.proofs.Common.{sym, subst, option_map}
use Rattle.rules_json.specs.Faults.{told_fault}
use Rattle.rules_json.specs.declared.fault.RulesFault.{RulesFault}
use Rattle.http_asks.specs.Meaning.{in_rules}
use Rattle.http_text.specs.Room.{Puts}
use Rattle.http_front.specs.Texts.{told_body}
use Rattle.http_front.proofs.refusing.put_rules_fault.Goals as goal

pub returns-in-UnknownField : goal.returns-in-UnknownField
returns-in-UnknownField c =
    let put = c.put_named in
    subst (λ (fault : RulesFault). Puts c.args.room.now c.args.at put.new.room put.result (told_body (option_map in_rules (told_fault fault)))) (sym c.in-UnknownField.is)
    (rw c.as_str.ensures.same at put.ensures)

pub returns-in-UnsupportedClass : goal.returns-in-UnsupportedClass
returns-in-UnsupportedClass c =
    let put = c.put_named-in-UnsupportedClass in
    subst (λ (fault : RulesFault). Puts c.args.room.now c.args.at put.new.room put.result (told_body (option_map in_rules (told_fault fault)))) (sym c.in-UnsupportedClass.is)
    (rw c.as_str-in-UnsupportedClass.ensures.same at put.ensures)
