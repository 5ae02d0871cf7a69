use Rattle.std.proofs.Common.{inl, sym}
use Rattle.office_machine.proofs.Offices.{shows_none, few_versions, few_uploads, shows}
use Rattle.office_machine.proofs.Seen.{seen_stands}
use Rattle.office_machine.proofs.machine.Machine.show_bucket.Goals as goal

pub returns-in_default : goal.returns-in_default
returns-in_default c = record {
  reply = λ t p stands.
      inl (sym (shows_none _ p (seen_stands c.self.view_is stands) c.args.name.now t (sym c.in_default.ensures.value)));
  fits = tt;
}

pub uploads-requires : goal.uploads-requires
uploads-requires c = record { few = few_uploads _ c.self.invariant.office c.self.invariant.stands c.args.name.now c.in-Some.account.now (sym c.in-Some.ensures.value) }

pub versions-requires : goal.versions-requires
versions-requires c = record { few = few_versions _ c.self.invariant.office c.self.invariant.stands c.args.name.now c.in-Some.account.now (sym c.in-Some.ensures.value) }

pub returns : goal.returns
returns c = record {
  reply = λ t p stands.
      let is = shows _ p (seen_stands c.self.view_is stands) c.args.name.now c.in-Some.account.now (sym c.in-Some.ensures.value) t in
      inl (rw (c.in_ok-copy_of.ensures.ok, c.rules.ensures, c.uploads.ensures, c.versioning.ensures, c.versions.ensures) (sym is));
  fits = tt;
}
