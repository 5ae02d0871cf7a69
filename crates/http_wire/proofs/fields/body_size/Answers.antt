use Rattle.std.proofs.Common.{arith, sym, ◌∙◌, ap, List, ℕ, min, ◌^◌, ◌-◌}
use Rattle.std.specs.Prelude.{option_map}
use Rattle.http_wire.specs.Messages.{number_of}
use Rattle.http_wire.proofs.FieldLemmas.{is_coded, no_length, two_lengths, fit_length, great_length, bad_length, value_within}
use Rattle.http_wire.proofs.fields.body_size.Goals as goal

pub returns-in_default : goal.returns-in_default
returns-in_default c h covers =
    is_coded c.args.bytes.now c.args.headers.now h (λ is. c.in_default.not-Absent (c.named.ensures ∙ is)) covers

pub returns-in-Absent-named : goal.returns-in-Absent-named
returns-in-Absent-named c h covers =
    no_length c.args.bytes.now c.args.headers.now h (sym c.named.ensures ∙ c.in-Absent.is) (sym c.named-2.ensures ∙ c.in-Absent-named.is) covers

pub returns-in-Repeated : goal.returns-in-Repeated
returns-in-Repeated c h covers =
    two_lengths c.args.bytes.now c.args.headers.now h (sym c.named.ensures ∙ c.in-Absent.is) (sym c.named-2.ensures ∙ c.in-Repeated.is) covers

pub of-requires-clause-ordered : goal.of-requires-clause-ordered
of-requires-clause-ordered c = (value_within _ _ c.args.headers.now c.in-Once.value c.requires.within (sym c.named-2.ensures ∙ c.in-Once.is)).0

pub of-requires-clause-in_range : goal.of-requires-clause-in_range
of-requires-clause-in_range c = (value_within _ _ c.args.headers.now c.in-Once.value c.requires.within (sym c.named-2.ensures ∙ c.in-Once.is)).1

pub returns-in-Some : goal.returns-in-Some
returns-in-Some c h covers =
    fit_length c.args.bytes.now c.args.headers.now h c.in-Once.value c.in-Some.size (sym c.named.ensures ∙ c.in-Absent.is) (sym c.named-2.ensures ∙ c.in-Once.is)
    (sym c.in-Some.is ∙ c.number.ensures ∙ ap (λ (t : List ℕ). option_map (λ (m : ℕ). min m (2 ^ 64 - 1)) (number_of t)) c.of.ensures) (omega arith) covers

pub returns-in-Some-2 : goal.returns-in-Some-2
returns-in-Some-2 c h covers =
    great_length c.args.bytes.now c.args.headers.now h c.in-Once.value c.in-Some.size (sym c.named.ensures ∙ c.in-Absent.is) (sym c.named-2.ensures ∙ c.in-Once.is)
    (sym c.in-Some.is ∙ c.number.ensures ∙ ap (λ (t : List ℕ). option_map (λ (m : ℕ). min m (2 ^ 64 - 1)) (number_of t)) c.of.ensures) (omega arith) covers

pub returns-in-None : goal.returns-in-None
returns-in-None c h covers =
    bad_length c.args.bytes.now c.args.headers.now h c.in-Once.value (sym c.named.ensures ∙ c.in-Absent.is) (sym c.named-2.ensures ∙ c.in-Once.is)
    (sym c.in-None.is ∙ c.number.ensures ∙ ap (λ (t : List ℕ). option_map (λ (m : ℕ). min m (2 ^ 64 - 1)) (number_of t)) c.of.ensures) covers
