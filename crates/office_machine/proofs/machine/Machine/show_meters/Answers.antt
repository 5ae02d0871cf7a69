use Rattle.std.proofs.Common.{inl, sym}
use Rattle.accrual.specs.Books.{Book}
use Rattle.plain_office.specs.Office.{book_of}
use Rattle.office_machine.proofs.Offices.{meters_none, shows_meters, shown_account, shown_stands, shown_booked}
use Rattle.office_machine.proofs.Seen.{seen_later, seen_stands}
use Rattle.office_machine.proofs.machine.Machine.show_meters.Goals as goal

pub returns-in_default : goal.returns-in_default
returns-in_default c = record {
  reply = λ p stands.
      inl (sym (meters_none _ p (seen_stands c.self.view_is stands) c.args.name.now c.args.t c.args.month (sym c.in_default.ensures.value)));
  fits = tt;
}

pub returns : goal.returns
returns c = record {
  reply = λ p stands.
      let stood = seen_stands c.self.view_is stands in
      let found = sym c.in-Some.ensures.value in
      let is = shows_meters _ p stood c.args.name.now c.in-Some.account.now found c.args.t c.args.month in
      let book : Book = book_of (shown_account _ p stood c.args.name.now c.in-Some.account.now found).books in
      let meters = (shown_stands _ p stood c.args.name.now c.in-Some.account.now found).meters in
      let booked = shown_booked _ p stood c.args.name.now c.in-Some.account.now found c.args.t (seen_later c.args.t c.self.view_is c.requires.later) in
      let used = c.used_of.ensures book meters booked in
      inl (rw (c.in_ok-bucket.ensures.ok, c.in_ok-classes.ensures.exact, used) (sym is));
  fits = tt;
}
