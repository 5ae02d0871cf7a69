-- Reports computed on examples.
use Rattle.std.specs.Prelude.{◌≡◌, [], ◌∷◌, ◌++◌, List, codes, refl}
use Rattle.std.specs.Fmt.{digits}
use Rattle.csv.specs.Writing.{escaped, fields_text, is_blank}
use Rattle.class_rules.specs.declared.class.Class.TheVariants.{Standard}
use Rattle.office_types.specs.declared.reply.LineKind.TheVariants.{Storage}
use Rattle.office_types.specs.declared.reply.Price.TheVariants.{One, Tiered}
use Rattle.office_types.specs.declared.reply.ReportLine.{ReportLine}
use Rattle.usage_report.specs.Csv.{report_csv}
use Rattle.usage_report.specs.Tables.{table_line, report_text}

-- one GiB in STANDARD for the whole of January 2024
january : List ReportLine
january = record {
  bucket = codes "logs";
  kind = Storage;
  class = Standard;
  quantity = 2_875_910_101_401_600_000;
  price = One 23_000;
  charge = 23_000;
} ∷ []

january_csv : report_csv january ≡ codes "bucket,line,class,quantity,price,charge\nlogs,storage,STANDARD,2875910101401600000,23000,23000\n,total,,,,23000\n"
unfolding january report_csv escaped fields_text is_blank digits
january_csv = refl

-- three GiB, the first at another price than the others
tiered_lines : List ReportLine
tiered_lines = record {
  bucket = codes "logs";
  kind = Storage;
  class = Standard;
  quantity = 8_627_730_304_204_800_000;
  price = Tiered;
  charge = 63_000;
} ∷ []

tiered_csv : report_csv tiered_lines ≡ codes "bucket,line,class,quantity,price,charge\nlogs,storage,STANDARD,8627730304204800000,tiered,63000\n,total,,,,63000\n"
unfolding tiered_lines report_csv escaped fields_text is_blank digits
tiered_csv = refl

nothing_csv : report_csv [] ≡ codes "bucket,line,class,quantity,price,charge\n,total,,,,0\n"
unfolding report_csv escaped fields_text is_blank digits
nothing_csv = refl

january_text : report_text january
    ≡ codes "logs                     storage      STANDARD                2875910101401600000            23000\n"
    ++ codes "                         total                                                               23000\n"
unfolding january report_text table_line digits
january_text = refl
