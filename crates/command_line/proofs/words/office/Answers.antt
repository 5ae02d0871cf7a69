use Rattle.clap.specs.Simple.{with_subcommand}
use Rattle.command_line.specs.Words.{alone, init_words, run_words, serve_words, report_words, explain_words, gen_words, bill_words, forecast_words, office_top}
use Rattle.command_line.proofs.words.office.Goals as goal

pub returns : goal.returns
returns c =
    let inits = with_subcommand office_top init_words in
    let runs = with_subcommand inits run_words in
    let one = c.in_ok-command.ensures office_top (alone init_words) c.top.ensures c.bare.ensures in
    let two = c.in_ok-command-2.ensures inits (alone run_words) one c.bare-2.ensures in
    let serves = with_subcommand runs serve_words in
    let three = c.in_ok-command-3.ensures runs (alone serve_words) two c.serve.ensures in
    let reports = with_subcommand serves report_words in
    let four = c.in_ok-command-4.ensures serves (alone report_words) three c.report.ensures in
    let explains = with_subcommand reports explain_words in
    let five = c.in_ok-command-5.ensures reports (alone explain_words) four c.explain.ensures in
    let generates = with_subcommand explains gen_words in
    let six = c.in_ok-command-6.ensures explains (alone gen_words) five c.generate.ensures in
    let bills = with_subcommand generates bill_words in
    let seven = c.in_ok-command-7.ensures generates (alone bill_words) six c.bill.ensures in
    c.with_made-6.ensures bills (alone forecast_words) seven c.forecast.ensures
