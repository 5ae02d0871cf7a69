mod CsvRows
mod Examples
mod TableLines
