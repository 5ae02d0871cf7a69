-- What the functions that read values and documents give.
use Rattle.std.specs.Prelude.{◌≡◌, ℕ, List, Option, Some, None, option_map, Result, MatchResult}
use Rattle.std.specs.Borrow.{Bor}
use Rattle.toml_parser.specs.declared.error.ParseError.{ParseError}
use Rattle.toml_parser.specs.declared.error.ParseError.TheVariants.{OutOfMemory}
use Rattle.toml_parser.specs.declared.key.Key as code
use Rattle.toml_parser.specs.Lexical.{Read}
use Rattle.toml_parser.specs.Strings.{recursion_limit}
use Rattle.toml_parser.specs.Reading.{key_view}
use Rattle.toml.specs.Data.{Items, Members}
use Rattle.toml.specs.Tables as spec
use Rattle.toml.specs.Tables.{Nodes, close, Document, Expression}
use Rattle.toml.specs.Parse.{parse_document}
use Rattle.toml_rows.specs.declared.keys.Keys.{Keys}
use Rattle.toml_rows.specs.declared.reading.Definition.{Definition}
use Rattle.toml_rows.specs.declared.reading.Definition.TheVariants.{Pair, Table, Element}
use Rattle.toml_rows.specs.Rows.{Row, row_of}
use Rattle.toml_rows.specs.Tables.{Leads}
use Rattle.toml_rows.specs.Reading.{data_at, Holds}

-- the text after what was read
abbrev pub rest_of : {A : Type 0} → Read A → Option (List ℕ)
rest_of read = option_map (λ p. p.1) read

-- a table of the row has these members, with values at most this deep
pub record IsTable (depth : ℕ) (row : Row) (t : ℕ) (ms : Members) : Type 0 where
  pub tables : ℕ → Nodes
  pub elements : ℕ → Items
  pub holds : Holds depth row tables elements
  pub members : close (tables t) ≡ ms

-- a row and the text after it, unless memory ran out
abbrev pub ReadsTable : ℕ → Result (Keys × Bor (List ℕ)) ParseError → Read Members → Type 0
ReadsTable depth r expected =
    MatchResult r (λ p. (ms : Members) × IsTable depth (row_of p.0) 0 ms × (expected ≡ Some (ms, p.1.now)))
    (λ e. ¬ (e ≡ OutOfMemory) → expected ≡ None)

-- a row whose root has the members that are expected, unless memory ran out
abbrev pub GivesTable : ℕ → Result Keys ParseError → Option Members → Type 0
GivesTable depth r expected =
    MatchResult r (λ keys. (ms : Members) × IsTable depth (row_of keys) 0 ms × (expected ≡ Some ms))
    (λ e. ¬ (e ≡ OutOfMemory) → expected ≡ None)

-- what stands on a line
abbrev pub definition_view : Definition → spec.Definition
definition_view (Pair text) = spec.key_value (data_at recursion_limit text.now)
definition_view Table = spec.std_table
definition_view Element = spec.array_table

-- the key of a line, what stands on the line, and the text after it, unless memory ran out
abbrev pub ReadsLine : Result (code.Key × Definition × Bor (List ℕ)) ParseError → Read Expression → Type 0
ReadsLine r expected =
    MatchResult r (λ p. expected ≡ Some ((key_view p.0, definition_view p.1), p.2.now)) (λ e. ¬ (e ≡ OutOfMemory) → expected ≡ None)

-- the new row and the table of the last header stand for this document
pub record Defined (new : Row) (s : ℕ) (expected : Option Document) : Type 0 where
  pub tables : ℕ → Nodes
  pub elements : ℕ → Items
  pub path : List (List ℕ)
  pub holds : Holds recursion_limit new tables elements
  pub leads : Leads new path s
  pub is : expected ≡ Some (tables 0, path)

-- what a line makes of a document and of the table of its last header, unless memory ran out
abbrev pub Defines : Row → Row → ℕ → Expression → Result ℕ ParseError → Type 0
Defines old new section e r =
    (tables : ℕ → Nodes) (elements : ℕ → Items) (p : List (List ℕ)) → Holds recursion_limit old tables elements → Leads old p section
    → MatchResult r (λ s. Defined new s (spec.define (tables 0, p) e)) (λ e'. ¬ (e' ≡ OutOfMemory) → spec.define (tables 0, p) e ≡ None)

-- the document that a text is, or none
abbrev pub IsDocument : List ℕ → Option Keys → Type 0
IsDocument text None = parse_document text ≡ None
IsDocument text (Some keys) = (ms : Members) × IsTable recursion_limit (row_of keys) 0 ms × (parse_document text ≡ Some ms)
