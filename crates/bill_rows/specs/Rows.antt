-- The keeper's table, and the texts of its statements.
use Rattle.sqlite.specs.Collation.TheVariants.{Binary}
use Rattle.std.specs.Prelude.{◌≡◌, ℕ, ℤ, Bool, true, false, List, [], ◌∷◌, None, codes, map, filter}
use Rattle.std.specs.Prelude.{IsPermutation, IsSorted}
use Rattle.sqlite.specs.declared.types.Value.TheVariants.{Null, Int, Text as Words}
use Rattle.sqlite.specs.Order.{Row, column, value_cmp}
use Rattle.sqlite.specs.Table.{Table}
use Rattle.sqlite.specs.Schema.{Schema}
use Rattle.sqlite_schema.specs.Rules.{agree, equal}
use Rattle.sqlite.specs.Kind.{Kind}
use Rattle.sqlite.specs.Kind.TheVariants.{Integer, Text}
use Rattle.sqlite_schema.specs.declared.schema.Column.{Column}

-- a column that is never NULL, of a strict table
abbrev pub present : List ℕ → Kind → Column
present name kind = record {
  name = name;
  kind = kind;
  is_strict = true;
  not_null = true;
  default = Null;
  collation = Binary;
}

-- bills(month TEXT NOT NULL, bucket TEXT NOT NULL, total TEXT NOT NULL, lines INTEGER NOT NULL, PRIMARY KEY(month,
-- bucket)), STRICT
abbrev pub bills_table : Table
bills_table = record {
  name = codes "bills";
  tree = 0;
  columns = present (codes "month") Text ∷ present (codes "bucket") Text ∷ present (codes "total") Text
      ∷ present (codes "lines") Integer ∷ [];
  key = None;
  primary = 1 ∷ 2 ∷ [];
  uniques = (1 ∷ 2 ∷ []) ∷ [];
  orders = record { digits = 0 } ∷ [];
  checks = [];
  references = [];
  computed = [];
  stamps = record { places = []; terms = []; formats = [] };
  is_counted = false;
}

-- the table, and the index that its key has
abbrev pub bills_schema : Schema
bills_schema = record {
  tables = bills_table ∷ [];
  indexes = record {
    name = codes "sqlite_autoindex_bills_1";
    tree = 1;
    table = 0;
    columns = 1 ∷ 2 ∷ [];
    order = record { digits = 0 };
    is_unique = true;
  } ∷ [];
  views = [];
}

-- makes the table
abbrev pub create_text : List ℕ
create_text = codes "CREATE TABLE bills(month TEXT NOT NULL, bucket TEXT NOT NULL, total TEXT NOT NULL, lines INTEGER NOT NULL, PRIMARY KEY(month, bucket)) STRICT"

-- puts a month's header in, if it has none
abbrev pub header_text : List ℕ
header_text = codes "INSERT INTO bills(month, bucket, total, lines) VALUES (?1, '', ?2, ?3) ON CONFLICT(month, bucket) DO NOTHING"

-- puts the bill of a bucket in
abbrev pub bill_text : List ℕ
bill_text = codes "INSERT INTO bills(month, bucket, total, lines) VALUES (?1, ?2, ?3, ?4)"

-- reads a month
abbrev pub select_text : List ℕ
select_text = codes "SELECT bucket, total, lines FROM bills WHERE month = ?1 ORDER BY bucket"

-- a row of the table as it is stored
abbrev pub stored : ℤ → List ℕ → List ℕ → List ℕ → ℤ → Row
stored id month bucket total lines = Int id ∷ Words month ∷ Words bucket ∷ Words total ∷ Int lines ∷ []

-- the row has this month and this bucket
abbrev pub is_at : List ℕ → List ℕ → Row → Bool
is_at month bucket row =
    agree (record { digits = 0 }) (1 ∷ 2 ∷ []) row (1 ∷ 2 ∷ []) (Null ∷ Words month ∷ Words bucket ∷ [])

-- the row is one of this month
abbrev pub in_month : List ℕ → Row → Bool
in_month month row = equal Binary (column row 1) (Words month)

-- what is read of a row
abbrev pub shown : Row → Row
shown row = column row 2 ∷ column row 3 ∷ column row 4 ∷ []

-- a row of the answer, with what it is sorted by
abbrev pub keyed : Row → Row × Row
keyed row = (column row 2 ∷ [], shown row)

-- what is read of a month: its rows, each once, in the order of their buckets
pub record IsMonth (month : List ℕ) (rows answer : List Row) : Type 0 where
  pub ordered : List (Row × Row)
  pub same : IsPermutation (map keyed (filter (in_month month) rows)) ordered
  pub sorted : IsSorted (λ a b. value_cmp (column a.0 0) (column b.0 0)) ordered
  pub answer_is : answer ≡ map (λ o. o.1) ordered
