-- What the input holds as a lifecycle configuration.
use Rattle.std.specs.Prelude.{◌≡◌, ◌≤◌, ◌<◌, ℕ, List, length, Result, Ok, Err}
use Rattle.std.specs.Io.KnownBytes.{Consumes, IsAtEnd}
use Rattle.rules_core.specs.Configurations.{Configuration}
use Rattle.rules_json.specs.Reading.{rules_of}
use Rattle.rules_json.specs.declared.fault.RulesFault.{RulesFault}
use Rattle.rules_json.specs.declared.fault.RulesFault.TheVariants as rules
use Rattle.http_front.specs.Counts.{GaveBytes, StreamEnds}
use Rattle.http_front.specs.Texts.{flaw_number}
use Rattle.office_commands.specs.declared.configuration.ConfigurationFault.{ConfigurationFault}
use Rattle.office_commands.specs.declared.configuration.ConfigurationFault.TheVariants as faults

-- the most bytes of a configuration: as many as the body of a message may have (own)
abbrev pub most_configuration_bytes : ℕ
most_configuration_bytes = 1_048_576

-- the input was read to its end, and gave these bytes, at most as many as allowed
pub record IsWholeInput (input : StreamEnds) (bytes : List ℕ) : Type 0 where
  pub read : Consumes input.stream input.left bytes
  pub at_end : IsAtEnd input.left
  pub short : length bytes ≤ most_configuration_bytes

-- the input gave more bytes than allowed
abbrev pub IsTooLong : StreamEnds → Type 0
IsTooLong input = (count : ℕ) × (most_configuration_bytes < count) × GaveBytes input.stream input.left count

-- the whole input is read as this configuration, or refused for this reason
abbrev pub IsReadSo : StreamEnds → Result Configuration RulesFault → Type 0
IsReadSo input answer = (bytes : List ℕ) × IsWholeInput input bytes × (rules_of bytes ≡ answer)

-- what the input holds; a failed read and running out of memory say nothing about it
abbrev pub SaysRules : StreamEnds → Result Configuration ConfigurationFault → Type 0
SaysRules input (Ok configuration) = IsReadSo input (Ok configuration)
SaysRules input (Err faults.TooLong) = IsTooLong input
SaysRules input (Err (faults.Refused fault)) = IsReadSo input (Err fault)
SaysRules input (Err faults.ReadFault) = Unit {0}
SaysRules input (Err faults.NoMemory) = Unit {0}

-- the number of a fault, as in replies (own)
abbrev pub fault_number : RulesFault → ℕ
fault_number rules.NotADate = 2
fault_number rules.NotMidnight = 3
fault_number (rules.Flaw flaw rule) = flaw_number flaw
fault_number rules.NotJson = 40
fault_number (rules.UnknownField name) = 41
fault_number (rules.WrongShape field) = 42
fault_number (rules.UnsupportedClass name) = 43
fault_number rules.NoMemory = 115
