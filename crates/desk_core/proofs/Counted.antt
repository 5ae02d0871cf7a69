-- How many commands a journal has room for.
use Rattle.std.proofs.Common.{◌≡◌, ◌⊎◌, inl, inr, ap, ℕ, ◌+◌, ◌*◌, ◌^◌, ◌≤◌, List, [], ◌∷◌, ◌++◌, length, Option, Some, None, true, refl, arith, length-append}
use Rattle.std.specs.List.{flat_map}
use Rattle.std.specs.Int.{w16}
use Rattle.plain_office.specs.Office.{Office}
use Rattle.office_types.specs.declared.command.Entry.{Entry}
use Rattle.entry_codec.specs.Formats.{number}
use Rattle.entry_codec.specs.Fields.{Field, Name, Price, Year, format, moment_format, token_format}
use Rattle.entry_codec.specs.Kinds.{Values, head_format, fields_of, parts_of}
use Rattle.entry_codec.specs.declared.kinds.Kind.{Kind}
use Rattle.entry_codec.specs.declared.kinds.Kind.TheVariants as kind
use Rattle.entry_codec.specs.Spelling.{written_values, fields_spelling, head_spelling, command_spelling, spelling}
use Rattle.meter_journal.specs.History.{framed, journal_bytes, end_gate}
use Rattle.office_machine.specs.Once.{OfficeView}
use Rattle.desk_core.specs.Offices.{most_accepted, StandsSince}

-- ---- an entry has eleven bytes at least: a moment, a kind, and a field of two

name_long : (name : List ℕ) → 2 ≤ length ((format Name).written name)
unfolding format
name_long name = omega (arith, length-append ((number w16).written (length name)) name)

price_long : (price : ℕ) → 2 ≤ length ((format Price).written price)
unfolding format
price_long price = omega arith

year_long : (year : ℕ) → 2 ≤ length ((format Year).written year)
unfolding format
year_long year = omega arith

module _ (rest : List Field) where
  named : (values : Values (Name ∷ rest)) → 2 ≤ length (written_values (Name ∷ rest) values)
  named (name, values) = omega (arith, length-append ((format Name).written name) (written_values rest values), name_long name)

  priced : (values : Values (Price ∷ rest)) → 2 ≤ length (written_values (Price ∷ rest) values)
  priced (price, values) = omega (arith, length-append ((format Price).written price) (written_values rest values), price_long price)

  dated : (values : Values (Year ∷ rest)) → 2 ≤ length (written_values (Year ∷ rest) values)
  dated (year, values) = omega (arith, length-append ((format Year).written year) (written_values rest values), year_long year)

-- all fields but the first
abbrev others : List Field → List Field
others [] = []
others (field ∷ fields) = fields

values_long : (k : Kind) (values : Values (fields_of k)) → 2 ≤ length (written_values (fields_of k) values)
values_long kind.CreateBucket values = named (others (fields_of kind.CreateBucket)) values
values_long kind.SetVersioning values = named (others (fields_of kind.SetVersioning)) values
values_long kind.SetRules values = named (others (fields_of kind.SetRules)) values
values_long kind.DropRules values = named (others (fields_of kind.DropRules)) values
values_long kind.Put values = named (others (fields_of kind.Put)) values
values_long kind.Delete values = named (others (fields_of kind.Delete)) values
values_long kind.DeleteVersion values = named (others (fields_of kind.DeleteVersion)) values
values_long kind.SetTags values = named (others (fields_of kind.SetTags)) values
values_long kind.StartUpload values = named (others (fields_of kind.StartUpload)) values
values_long kind.PutPart values = named (others (fields_of kind.PutPart)) values
values_long kind.Complete values = named (others (fields_of kind.Complete)) values
values_long kind.Abort values = named (others (fields_of kind.Abort)) values
values_long kind.Act values = named (others (fields_of kind.Act)) values
values_long kind.SetTariff values = priced (others (fields_of kind.SetTariff)) values
values_long kind.Close values = dated (others (fields_of kind.Close)) values
values_long kind.SetTiers values = dated (others (fields_of kind.SetTiers)) values

head_long : (token : Option (List ℕ)) (k : Kind) → 1 ≤ length (head_spelling token k)
unfolding head_spelling head_format
head_long None k = omega arith
head_long (Some token) k = omega (arith, length-append (head_format.written (k, true)) (token_format.written token))

moment_long : (moment : ℕ) → length (moment_format.written moment) ≡ 8
unfolding moment_format
moment_long moment = refl

entry_long : (e : Entry) → 11 ≤ length (spelling e)
unfolding spelling command_spelling fields_spelling
entry_long e =
    let parts = parts_of e.command in
    let values = written_values (fields_of parts.kind) parts.values in
    omega (
      arith,
      length-append (moment_format.written e.moment) (head_spelling e.token parts.kind ++ values),
      length-append (head_spelling e.token parts.kind) values,
      moment_long e.moment,
      head_long e.token parts.kind,
      values_long parts.kind parts.values,
    )

-- ---- so a frame has sixteen

length-framed : (bytes : List ℕ) → length (framed bytes) ≡ 4 + length bytes
length-framed bytes = omega arith

frames_long : (entries : List Entry) → 16 * length entries ≤ length (flat_map (λ (e : Entry). 0xA5 ∷ framed (spelling e)) entries)
frames_long [] = omega arith
frames_long (e ∷ entries) = omega (
  arith,
  frames_long entries,
  entry_long e,
  length-framed (spelling e),
  length-append (0xA5 ∷ framed (spelling e)) (flat_map (λ (e : Entry). 0xA5 ∷ framed (spelling e)) entries),
)

pub gate_long : (head : List ℕ) (entries : List Entry) → 16 * length entries ≤ end_gate head entries
unfolding journal_bytes
gate_long head entries =
    omega (arith, frames_long entries, length-append head (flat_map (λ (e : Entry). 0xA5 ∷ framed (spelling e)) entries))

pub few_entries : (head : List ℕ) (entries : List Entry) (gate : ℕ) → gate ≡ end_gate head entries → (entries ≡ []) ⊎ (gate ≤ 2 ^ 45) → length entries ≤ most_accepted
few_entries head entries gate end (inl none) = let e : length entries ≡ 0 = ap length none in omega (arith, e)
few_entries head entries gate end (inr small) = omega (arith, end, small, gate_long head entries)

pub counted_few : {start : Office} (head : List ℕ) (entries : List Entry) (view : OfficeView) (gate : ℕ) → StandsSince start entries view
    → gate ≡ end_gate head entries → (entries ≡ []) ⊎ (gate ≤ 2 ^ 45) → view.records.accepted ≤ most_accepted
counted_few head entries view gate is end small = omega (arith, is.counted, few_entries head entries gate end small)
