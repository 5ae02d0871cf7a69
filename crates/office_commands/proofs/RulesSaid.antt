-- What the input says as a configuration.
use Rattle.std.proofs.Common.{◌≡◌, ◌⊎◌, ◌∙◌, inl, inr, refl, sym, ap, subst, arith, ℕ, ◌≤◌, ◌+◌, List, ◌++◌, length, length-append, Option, Result, Ok, Err, IfOk}
use Rattle.std.specs.Io.KnownBytes.{Consumes, IsAtEnd}
use Rattle.std.proofs.KnownBytes.{Consumes-trans}
use Rattle.office_base.specs.Faults.{Rose}
use Rattle.rules_core.specs.Configurations.{Configuration}
use Rattle.rules_json.specs.Reading.{rules_of}
use Rattle.rules_json.specs.declared.fault.RulesFault.{RulesFault}
use Rattle.http_front.specs.Counts.{StreamEnds, stream_ends}
use Rattle.http_wire.specs.Sources.{OnlyReads}
use Rattle.http_wire.specs.declared.source.Source as sources
use Rattle.office_commands.specs.Configuring.{IsWholeInput, IsTooLong, SaysRules}
use Rattle.office_commands.specs.declared.configuration.ConfigurationFault.{ConfigurationFault}
use Rattle.office_commands.specs.declared.configuration.ConfigurationFault.TheVariants as faults

-- it was read whole, and then as JSON
pub says_read : (input : StreamEnds) (bytes : List ℕ) (r : Result Configuration ConfigurationFault) → IsWholeInput input bytes
    → IfOk r (λ rules. rules_of bytes ≡ Ok rules) → ((fault : RulesFault) → r ≡ Err (faults.Refused fault) → rules_of bytes ≡ Err fault)
    → (r ≡ Err faults.TooLong → ⊥) → SaysRules input r
says_read input bytes (Ok rules) whole read refused long = (bytes, whole, read)
says_read input bytes (Err faults.TooLong) whole read refused long = absurd (long refl)
says_read input bytes (Err (faults.Refused fault)) whole read refused long = (bytes, whole, refused fault refl)
says_read input bytes (Err faults.ReadFault) whole read refused long = tt
says_read input bytes (Err faults.NoMemory) whole read refused long = tt

-- it was not read whole
pub says_fault : (input : StreamEnds) (fault : ConfigurationFault) → (fault ≡ faults.TooLong → IsTooLong input) → ((other : RulesFault) → fault ≡ faults.Refused other → ⊥)
    → SaysRules input (Err fault)
says_fault input faults.TooLong long other = long refl
says_fault input (faults.Refused fault) long other = absurd (other fault refl)
says_fault input faults.ReadFault long other = tt
says_fault input faults.NoMemory long other = tt

-- ---- reading

abbrev fault_or : {X : Type 0} → ConfigurationFault → Result X ConfigurationFault → ConfigurationFault
fault_or other (Ok x) = other
fault_or other (Err fault) = fault

pub same_fault : {X : Type 0} (one two : ConfigurationFault) → ◌≡◌ {A = Result X ConfigurationFault} (Err one) (Err two) → one ≡ two
same_fault one two is = ap (fault_or one) is

pub not_long : (fault : ConfigurationFault) → (fault ≡ faults.ReadFault) ⊎ (fault ≡ faults.NoMemory) → fault ≡ faults.TooLong → ⊥
not_long fault (inl read) long = absurd (let is = sym read ∙ long in cc)
not_long fault (inr memory) long = absurd (let is = sym memory ∙ long in cc)

pub not_rules : (fault : ConfigurationFault) (other : RulesFault) → (fault ≡ faults.ReadFault) ⊎ (fault ≡ faults.NoMemory) → fault ≡ faults.Refused other → ⊥
not_rules fault other (inl read) refused = absurd (let is = sym read ∙ refused in cc)
not_rules fault other (inr memory) refused = absurd (let is = sym memory ∙ refused in cc)

-- a call after others that did not fail
pub after_quiet : {R : Type 0} (r : sources.Ghosts R) (old mid new : R) {P Q : Type 0} → r.stream mid ≡ r.stream old → r.faults mid ≡ r.faults old
    → (P → Q) → (Q → P) → OnlyReads r mid new P → OnlyReads r old new Q
after_quiet r old mid new stream faults to from o = record {
  stream = o.stream ∙ stream;
  later = subst (λ (n : ℕ). n ≤ r.faults new) faults o.later;
  fault = λ q. subst (λ (n : ℕ). Rose n (r.faults new)) faults (o.fault (from q));
  quiet = λ not. o.quiet (λ p. not (to p)) ∙ faults;
}

pub all_quiet : {R : Type 0} (r : sources.Ghosts R) (old new : R) {Q : Type 0} → r.stream new ≡ r.stream old → r.faults new ≡ r.faults old → (Q → ⊥) → OnlyReads r old new Q
all_quiet r old new stream faults not = record {
  stream = stream;
  later = omega (arith, faults);
  fault = λ q. absurd (not q);
  quiet = λ _. faults;
}

pub whole_input : (first mid last : Option (List ℕ)) (bytes given all : List ℕ) (count : ℕ) → Consumes first mid bytes → Consumes mid last given → all ≡ bytes ++ given
    → length given ≡ count → count ≡ 0 → length bytes ≤ 1_048_576 → IsAtEnd last → IsWholeInput (stream_ends first last) all
whole_input first mid last bytes given all count before gave is counted none few end = record {
  read = subst (λ (t : List ℕ). Consumes first last t) (sym is) (Consumes-trans first mid last bytes given before gave);
  at_end = end;
  short = omega (arith, ap length is, length-append bytes given, counted, none, few);
}
