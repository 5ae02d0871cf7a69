-- A CSV writer as contracts see it.
use Rattle.std.specs.Prelude.{◌≡◌, ℕ, List, Option, Some, false}
use Rattle.std.specs.Global.{Vec}
use Rattle.csv.specs.declared.writer.Writer.{Writer}
use Rattle.csv.specs.Writing.{default_writer, writer_setup, fields_written, has_written, text_written}

-- the writer has the crate's settings, and is at the start of a row
pub record IsAtRowStart {W : Type 0} (w : Writer W) : Type 0 where
  pub setup : writer_setup w ≡ default_writer
  pub row_start : fields_written w ≡ 0
  pub clean : has_written w ≡ false

-- the bytes of the writer's list and its buffer together
abbrev pub bytes_written : Writer (Vec ℕ) → Option (List ℕ)
bytes_written w = text_written (λ v. Some v.items) w
