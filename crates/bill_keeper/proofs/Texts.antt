-- What the texts of the statements mean over the keeper's schema.
use Rattle.std.proofs.Common.{◌≡◌, ℕ, pos, negsuc, List, [], ◌∷◌, codes, Bool, true, false, Some, None, Ok, Err, refl}
use Rattle.sqlite.specs.declared.types.Value.TheVariants.{Null, Int, Text}
use Rattle.sqlite.specs.Term.{Term, lit, col, op2}
use Rattle.sqlite.specs.Query.{Query, inner, end}
use Rattle.sqlite.specs.Collation.TheVariants.{Binary}
use Rattle.sqlite_sql.specs.declared.ops.BinaryOp.TheVariants.{Compare}
use Rattle.sqlite_sql.specs.declared.ops.CompareOp.TheVariants.{Eq}
use Rattle.sqlite.specs.Schema.{Schema}
use Rattle.sqlite.specs.Source.TheVariants.{Values}
use Rattle.sqlite.specs.Command.TheVariants.{Insert, InsertOr, Select, CreateTable}
use Rattle.sqlite_schema.specs.declared.command.Conflict.TheVariants.{Abort}
use Rattle.sqlite_schema.specs.declared.command.Upsert.{Upsert}
use Rattle.sqlite.specs.Compile.{table_defined_by}
use Rattle.sqlite.specs.Change.{created}
use Rattle.sqlite_tied.specs.Compute.{everything}
use Rattle.sqlite.specs.Listing.{understood, reads_listing}
use Rattle.sqlite.proofs.Callers.{IsPlain, command_of, statement_of}
use Rattle.bill_rows.specs.Rows.{bills_table, bills_schema, create_text, header_text, bill_text, select_text}
use Rattle.bill_keeper.specs.Ready.{no_schema}

abbrev pub header_terms : List Term
header_terms = lit Null ∷ col 0 0 ∷ lit (Text []) ∷ col 0 1 ∷ col 0 2 ∷ []

abbrev pub bill_terms : List Term
bill_terms = lit Null ∷ col 0 0 ∷ col 0 1 ∷ col 0 2 ∷ col 0 3 ∷ []

abbrev pub on_month : Upsert
on_month = record { target = Some (1 ∷ 2 ∷ []); update = None }

pub create_is : (command_of (understood no_schema create_text) ≡ CreateTable) × (statement_of create_text (understood no_schema create_text) ≡ create_text) × (table_defined_by create_text ≡ Ok bills_table)
unfolding understood everything
create_is = (refl, refl, refl)

pub create_plain : IsPlain (understood no_schema create_text)
unfolding understood everything
create_plain = (refl, refl)

pub created_is : created no_schema bills_table ≡ bills_schema
unfolding everything
created_is = refl

pub header_is : command_of (understood bills_schema header_text) ≡ InsertOr 0 Abort (Values header_terms 5) (on_month ∷ [])
unfolding understood everything
header_is = refl

pub header_plain : IsPlain (understood bills_schema header_text)
unfolding understood everything
header_plain = (refl, refl)

pub bill_is : command_of (understood bills_schema bill_text) ≡ Insert 0 (Values bill_terms 5)
unfolding understood everything
bill_is = refl

pub bill_plain : IsPlain (understood bills_schema bill_text)
unfolding understood everything
bill_plain = (refl, refl)

abbrev pub month_query : Query
month_query = record {
  from = inner 0 end;
  filter = op2 (Compare Eq Binary) (col 1 1) (col 0 0) ∷ [];
  group = None;
  project = col 1 2 ∷ col 1 3 ∷ col 1 4 ∷ [];
  distinct = false;
  collations = [];
  order = (col 1 2, record { collation = Binary; descending = false }) ∷ [];
  limit = lit (Int (negsuc 0));
  offset = lit (Int (pos 0));
}

pub month_is : (command_of (understood bills_schema select_text) ≡ Select (record { lets = []; body = month_query }) (codes "bucket" ∷ codes "total" ∷ codes "lines" ∷ [])) × (reads_listing bills_schema select_text ≡ false)
unfolding understood everything
month_is = (refl, refl)

pub month_plain : IsPlain (understood bills_schema select_text)
unfolding understood everything
month_plain = (refl, refl)
