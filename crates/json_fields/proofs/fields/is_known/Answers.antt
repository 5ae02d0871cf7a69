use Rattle.std.proofs.Common.{◌∙◌}
use Rattle.std.specs.Str.{bytes_eq}
use Rattle.json_fields.proofs.FieldLemmas.{any_of_names}
use Rattle.json_fields.proofs.fields.is_known.Goals as goal

pub returns : goal.returns
returns c = c.any_is.ensures ∙ any_of_names (bytes_eq c.args.name.now) (λ k. k.now) c.args.known.now
