use Rattle.std.proofs.Common.{◌≡◌, ◌++◌, rules}
use Rattle.stay_explain.specs.Pages.{rows_csv, tables_of}
use Rattle.stay_explain.proofs.Bindings.{page_bound, all_bound, without_header}
use Rattle.stay_explain.proofs.working.add_rows.Goals as goal

pub split_at-requires : goal.split_at-requires
split_at-requires c = (without_header c.args.header.now c.in_ok-table.table.now c.page-item.result c.requires c.in_ok-table.ensures).0

pub loop-page-preserved : goal.loop-page-preserved
loop-page-preserved c =
    let bare = (without_header c.args.header.now c.in_ok-table.table.now c.page-item.result c.requires c.in_ok-table.ensures).1 in
    let grows : c.extend_from_slice.new.self.items ≡ c.loop-page.text.items ++ rows_csv c.page-item.result = search (bare, rules) in
    page_bound (c.args.text.now.items ++ rows_csv (tables_of c.args.pages.now)) c.loop-page.text.items c.extend_from_slice.new.self.items c.args.pages.now c.loop-page.page-index c.page-item.result
    c.loop-page-test.true c.page-item.is grows c.loop-page.invariant

pub returns : goal.returns
returns c = all_bound (c.args.text.now.items ++ rows_csv (tables_of c.args.pages.now)) c.loop-page.text.items c.args.pages.now c.loop-page.page-index c.loop-page-test.false c.loop-page.invariant
