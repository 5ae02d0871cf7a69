-- A table of stays, computed.
use Rattle.std.specs.Prelude.{◌≡◌, [], ◌∷◌, ◌++◌, codes, refl}
use Rattle.std.specs.Fmt.{digits}
use Rattle.csv.specs.Writing.{escaped, fields_text, is_blank}
use Rattle.moments.specs.Months.{days_of_months, first_day, months_over}
use Rattle.moments.specs.Texts.{moment_text}
use Rattle.class_rules.specs.Lines.{object_lines, part_line}
use Rattle.class_rules.specs.declared.class.Class.TheVariants.{Standard, Glacier}
use Rattle.office_base.specs.declared.version_id.VersionId.TheVariants.{Null, Number}
use Rattle.accrual.specs.Books.{open_stay, ended_stay}
use Rattle.plain_office.specs.Office.{of_version, of_part}
use Rattle.stay_explain.specs.Table.{tables_csv}

-- a key of one byte in STANDARD, whose stay is open
one_stay : tables_csv ((codes "logs", (record { key = codes "a"; item = of_version Null }, open_stay (object_lines Standard 1) 1_704_067_200_000) ∷ []) ∷ [])
    ≡ codes "bucket,key,item,class,bytes,from,to\nlogs,a,v:null,STANDARD,1,2024-01-01T00:00:00.000Z,open\n"
unfolding tables_csv escaped fields_text is_blank digits moment_text months_over first_day days_of_months
one_stay = refl

-- a part that was put for an hour, and an archived object with two lines
two_stays : tables_csv ((
  codes "logs",
  (record { key = codes "u,v"; item = of_part 1 2 }, ended_stay (part_line Glacier 7) 1_704_067_200_000 1_704_070_800_000)
      ∷ (record { key = codes "u,v"; item = of_version (Number 3) }, open_stay (object_lines Glacier 7) 1_704_070_800_000) ∷ [],
) ∷ [])
    ≡ codes "bucket,key,item,class,bytes,from,to\n"
    ++ codes "logs,\"u,v\",u:1/2,STANDARD,7,2024-01-01T00:00:00.000Z,2024-01-01T01:00:00.000Z\n"
    ++ codes "logs,\"u,v\",v:3,GLACIER,32775,2024-01-01T01:00:00.000Z,open\n"
    ++ codes "logs,\"u,v\",v:3,STANDARD,8192,2024-01-01T01:00:00.000Z,open\n"
unfolding tables_csv escaped fields_text is_blank digits moment_text months_over first_day days_of_months
two_stays = refl
