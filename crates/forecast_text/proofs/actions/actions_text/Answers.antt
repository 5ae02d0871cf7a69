use Rattle.std.proofs.Common.{◌≡◌, ◌∙◌, refl, sym, ap, subst, [], List, Option, Ok}
use Rattle.csv_sheet.specs.Sheets.{bytes_written}
use Rattle.office_types.specs.declared.reply.Reply.{Reply}
use Rattle.forecast.specs.Telling.{Foretells, TellsNext}
use Rattle.forecast_text.proofs.Texts.{all_left, one_told, none_left, written_text, on_ok}
use Rattle.forecast_text.proofs.actions.actions_text.Goals as goal

pub telling-init : goal.telling-init
telling-init c = record {
  ready = c.in_ok-put_header.ensures.ready;
  first = refl;
  left = λ outlook foretells.
      all_left (bytes_written c.put_header.new.sheet) (bytes_written c.start-sheet.result) c.args.forecast.now outlook foretells c.start-sheet.ensures.empty
      c.in_ok-put_header.ensures.bytes;
}

pub returns-in-None-clause-text : goal.returns-in-None-clause-text
returns-in-None-clause-text c = λ outlook foretells.
    let left = c.telling.invariant.left outlook foretells in
    let told = subst (λ (o : Option Reply). TellsNext (record outlook { replies = left.0 }) c.next.new.self (Ok o)) c.in-None.is
    (c.in_ok-reply.ensures.tells (record outlook { replies = left.0 }) left.1) in
    written_text c.finish.result (none_left (bytes_written c.telling.sheet) outlook left.0 told.0 left.2) c.finish.ensures

pub returns-in-None-clause-lines : goal.returns-in-None-clause-lines
returns-in-None-clause-lines c = λ outlook foretells.
    let left = c.telling.invariant.left outlook foretells in
    let told = subst (λ (o : Option Reply). TellsNext (record outlook { replies = left.0 }) c.next.new.self (Ok o)) c.in-None.is
    (c.in_ok-reply.ensures.tells (record outlook { replies = left.0 }) left.1) in
    on_ok c.finish.result (subst (λ (rs : List Reply). Foretells c.next.new.self (record outlook { replies = rs })) told.0 told.1)

pub returns-in-None-clause-done : goal.returns-in-None-clause-done
returns-in-None-clause-done c = λ _. c.in_ok-reply.ensures.done (ap Ok c.in-None.is)

pub telling-preserved : goal.telling-preserved
telling-preserved c = record {
  ready = c.in_ok-put_reply-in-Some.ensures.ready;
  first = c.next.ensures.first ∙ c.telling.invariant.first;
  left = λ outlook foretells.
      let left = c.telling.invariant.left outlook foretells in
      let told = subst (λ (o : Option Reply). TellsNext (record outlook { replies = left.0 }) c.next.new.self (Ok o)) c.in-Some.is
      (c.in_ok-reply.ensures.tells (record outlook { replies = left.0 }) left.1) in
      one_told (bytes_written c.telling.sheet) (bytes_written c.put_reply.new.sheet) c.next.new.self outlook c.in-Some.reply left.0 told.0 told.1 told.2 left.2
      c.in_ok-put_reply-in-Some.ensures.bytes;
}
