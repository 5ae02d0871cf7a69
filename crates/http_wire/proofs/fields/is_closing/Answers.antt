use Rattle.std.proofs.Common.{◌≡◌, ◌||◌, ◌==◌, ℕ, Bool, false, codes, sym, ap, ◌∙◌}
use Rattle.std.specs.List.{list_any}
use Rattle.httparse.specs.Grammar.{Field, field_value}
use Rattle.http_wire.specs.Messages.{same_word, fields_named}
use Rattle.std.proofs.lemmas.Bool.{ne_eqb}
use Rattle.http_wire.proofs.FieldLemmas.{closing}
use Rattle.http_wire.proofs.fields.is_closing.Goals as goal

pub returns-else-version-eq0 : goal.returns-else-version-eq0
returns-else-version-eq0 c h version covers =
    let later : (h.minor == 0) ≡ false = ap (λ (n : ℕ). n == 0) (sym version) ∙ ne_eqb c.args.version 0 c.if-version-eq0.false in
    c.any_closes.ensures ∙ closing c.args.bytes.now c.args.headers.now h covers
    ∙ ap (λ (b : Bool). b
    || list_any (λ (f : Field). same_word (field_value f) (codes "close"))
    (fields_named (codes "Connection") h.fields)) (sym later)
