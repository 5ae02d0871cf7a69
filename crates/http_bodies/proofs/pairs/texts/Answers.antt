use Rattle.std.proofs.Common.{◌≡◌, true, false, None, sym, ap, ◌∙◌, rules}
use Rattle.serde_json.specs.Data.{no_members, put}
use Rattle.serde_json.specs.Find.{as_str}
use Rattle.json_fields.specs.Elements.{data_of, fields_left}
use Rattle.http_bodies.specs.Bodies.{text_members}
use Rattle.http_bodies.proofs.PairLemmas.{has_name, over, over_hidden, over_new, over-insert, text_members-over, text_members-put, string_of}
use Rattle.http_bodies.proofs.pairs.texts.Goals as goal

pub fields-preserved : goal.fields-preserved
fields-preserved c =
    let name = c.in-Some.name.now in
    let es = c.fields.texts.entries in
    let has : true ≡ has_name name es = sym c.if-not-contains_key.false ∙ c.contains_key.ensures in (
      c.fields.invariant.0 ∙ ap (over es) c.in-Some.ensures.value
          ∙ over_hidden name (data_of c.in-Some.value) es (fields_left c.next.new.self) has,
      c.fields.invariant.1,
    )

pub fields-preserved-in-Some-as_str : goal.fields-preserved-in-Some-as_str
fields-preserved-in-Some-as_str c =
    let name = c.in-Some.name.now in
    let es = c.fields.texts.entries in
    let rest = fields_left c.next.new.self in
    let none : false ≡ has_name name es = sym c.if-not-contains_key.true ∙ c.contains_key.ensures in (
      c.fields.invariant.0
          ∙ ap (over es) (c.in-Some.ensures.value
          ∙ ap (λ d. put name d rest) (string_of (data_of c.in-Some.value) c.in-Some-as_str.text.now c.in-Some-as_str.ensures))
          ∙ sym (over-insert c.in-Some.name c.in-Some-as_str.text es rest none)
          ∙ ap (λ entries. over entries rest) (sym c.in_ok-_old-in-Some-as_str.ensures.entries),
      c.in_ok-_old-in-Some-as_str.ensures.ordered,
    )

pub returns-in-None : goal.returns-in-None
returns-in-None c =
    let name = c.in-Some.name.now in
    let es = c.fields.texts.entries in
    let rest = fields_left c.next.new.self in
    let d = data_of c.in-Some.value in
    let none : false ≡ has_name name es = sym c.if-not-contains_key.true ∙ c.contains_key.ensures in
    let missing : as_str d ≡ None = sym c.in-None.ensures in
    sym (ap text_members (c.fields.invariant.0 ∙ ap (over es) c.in-Some.ensures.value ∙ over_new name d es rest none)
    ∙ text_members-put name d (over es rest) missing)

pub returns : goal.returns
returns c =
    let es = c.fields.texts.entries in
    let none : fields_left c.fields.fields ≡ no_members = search rules in
    sym (ap text_members (c.fields.invariant.0 ∙ ap (over es) none) ∙ text_members-over es c.fields.invariant.1)
