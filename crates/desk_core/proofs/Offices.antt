-- The office in memory after one entry more.
use Rattle.std.proofs.Common.{◌≡◌, inl, inr, refl, ℕ, ◌+◌, ◌^◌, ◌<◌, ◌≤◌, Bool, true, false, if◌then◌else◌, List, [], ◌∷◌, ◌++◌, Option, Some, None, Ok, Err, sym, ap}
use Rattle.std.proofs.Common.{◌∙◌, subst, arith, length-append}
use Rattle.std.specs.Prelude.{IsTrue, IfSome, option_map, option_and_then}
use Rattle.plain_office.specs.Office.{Office, empty_office}
use Rattle.plain_office.specs.Once.{kept_for, kept_at, step_with}
use Rattle.plain_office.specs.Step.{is_accepted}
use Rattle.plain_office.specs.Run.{run, run_from, accept, is_not_before}
use Rattle.office_types.specs.declared.command.Command.{Command}
use Rattle.office_types.specs.declared.command.Entry.{Entry}
use Rattle.office_types.specs.declared.reply.Reply.{Reply}
use Rattle.office_types.specs.declared.reply.Reply.TheVariants.{NothingDue}
use Rattle.office_types.specs.declared.refusal.Refusal.{Refusal}
use Rattle.office_types.specs.declared.refusal.Refusal.TheVariants.{NoMemory}
use Rattle.plain_office.proofs.Runs.{Answer, Token, done, refused, no_reply, refusal_is, IsStep, accepted_by, refused_by, nothing_by, with_refused, with_nothing}
use Rattle.bucket_account.specs.Standing.{most_commands}
use Rattle.kept_replies.specs.Queue.{plain_reply, kept_in}
use Rattle.kept_replies.proofs.Indexes.{plain_found}
use Rattle.office_machine.specs.Standing.{accepted_after}
use Rattle.office_machine.specs.Once.{OfficeView, StandsFor, DoesOnce}
use Rattle.meter_journal.specs.History.{end_gate}
use Rattle.meter_journal.proofs.History.{gate_high}
use Rattle.desk_core.specs.Offices.{StandsSince, StandsAfter}

-- ---- which tokens are new

-- what is kept in memory is what the plain office keeps
pub kept_same : (token : List ℕ) (view : OfficeView) (p : Office) → StandsFor view p → kept_at token p.kept ≡ option_map plain_reply (kept_in token view.kept.queue)
kept_same token view p stands = ap (kept_at token) (sym stands.kept) ∙ plain_found token view.kept.queue

-- so a token that is new in memory is new there
pub fresh_in : (token : Token) (view : OfficeView) (p : Office) → StandsFor view p → IfSome token (λ one. kept_in one view.kept.queue ≡ None) → kept_for token p ≡ None
fresh_in None view p stands new = refl
fresh_in (Some token) view p stands new = kept_same token view p stands ∙ ap (option_map plain_reply) new

-- ---- what an answer tells

-- an answer is the step's, unless memory is wanting
pub answer_is : (x : Office × Answer) (p : Office) (new : OfficeView) (answer : Answer) → (answer ≡ Err NoMemory → ⊥) → DoesOnce x p new answer → (answer ≡ x.1) × StandsFor new x.0
answer_is x p new answer other (inl same) = same
answer_is x p new answer other (inr wanting) = absurd (other wanting.0)

pub no_lack : (reply : Reply) → done reply ≡ Err NoMemory → ⊥
no_lack reply e = absurd (no_reply reply NoMemory e)

pub other_lack : (refusal : Refusal) → (refusal ≡ NoMemory → ⊥) → refused refusal ≡ Err NoMemory → ⊥
other_lack refusal other e = other (refusal_is refusal NoMemory e)

pub reply_is : (x : Office × Answer) (p : Office) (new : OfficeView) (reply : Reply) → DoesOnce x p new (Ok reply) → (Ok reply ≡ x.1) × StandsFor new x.0
reply_is x p new reply does = answer_is x p new (Ok reply) (no_lack reply) does

-- what is not accepted leaves the office
unmoved : (t : ℕ) (token : Token) (c : Command) (p : Office) (answer : Answer) → kept_for token p ≡ None → answer ≡ (step_with t token c p).1 → is_accepted answer ≡ false
    → (step_with t token c p).0 ≡ p
unmoved t token c p (Err refusal) fresh is not_accepted = with_refused t token c p refusal (sym is)
unmoved t token c p (Ok NothingDue) fresh is not_accepted = with_nothing t token c p fresh (sym is)
unmoved t token c p (Ok reply) fresh is not_accepted = absurd cc

pub unmoved_stands : (t : ℕ) (token : Token) (c : Command) (p : Office) (new : OfficeView) (answer : Answer) → kept_for token p ≡ None → is_accepted answer ≡ false
    → DoesOnce (step_with t token c p) p new answer → StandsFor new p
unmoved_stands t token c p new answer fresh not_accepted (inl same) =
    subst (λ (q : Office). StandsFor new q) (unmoved t token c p answer fresh same.0 not_accepted) same.1
unmoved_stands t token c p new answer fresh not_accepted (inr wanting) = wanting.1

is_step : (x : Office × Answer) (p : Office) (answer : Answer) → answer ≡ x.1 → IsStep x p x.0 answer
is_step x p answer is = inl (ap (λ (a : Answer). (x.0, a)) is)

-- what an entry's command does
abbrev pub Done : Office → Entry → Office × Answer
Done p e = step_with e.moment e.token e.command p

pub taken : (p : Office) (e : Entry) (new : OfficeView) (reply : Reply) → kept_for e.token p ≡ None → is_accepted (Ok reply) ≡ true → IsTrue (is_not_before p.last e.moment)
    → DoesOnce (Done p e) p new (Ok reply) → accept p e ≡ Some (Done p e).0
taken p e new reply fresh made later does =
    let x = Done p e in
    accepted_by p x.0 e reply made later fresh (is_step x p (Ok reply) (reply_is x p new reply does).0)

pub not_taken : (p : Office) (e : Entry) (new : OfficeView) (refusal : Refusal) → (refusal ≡ NoMemory → ⊥) → DoesOnce (Done p e) p new (Err refusal) → accept p e ≡ None
not_taken p e new refusal other does =
    let x = Done p e in
    (refused_by p x.0 e refusal other (is_step x p (Err refusal) (answer_is x p new (Err refusal) (other_lack refusal other) does).0)).0

-- an act that finds nothing due is no entry
pub nothing_taken : (p : Office) (e : Entry) (new : OfficeView) → kept_for e.token p ≡ None → DoesOnce (Done p e) p new (Ok NothingDue) → accept p e ≡ None
nothing_taken p e new fresh does =
    let x = Done p e in
    (nothing_by p x.0 e fresh (is_step x p (Ok NothingDue) (reply_is x p new NothingDue does).0)).0

-- ---- histories

-- from the empty office on
pub run_is : (history : List Entry) {o : Option Office} → run_from (Some empty_office) history ≡ o → run history ≡ o
unfolding run
run_is history is = is

unfoldable pub none_after : (view : OfficeView) → StandsFor view empty_office → view.records.accepted ≡ 0 → StandsAfter [] view
none_after view stands none = record { plain = empty_office; is_run = refl; stands = stands; counted = omega (arith, none) }

run_split : (start : Option Office) (front : List Entry) (e : Entry) → run_from start (front ++ e ∷ []) ≡ option_and_then (λ before. accept before e) (run_from start front)
run_split start [] e = refl
run_split start (f ∷ front) e = run_split (option_and_then (λ before. accept before f) start) front e

pub run_on : (start : Option Office) (entries : List Entry) (e : Entry) (p q : Office) → run_from start entries ≡ Some p → accept p e ≡ Some q → run_from start (entries ++ e ∷ []) ≡ Some q
run_on start entries e p q is ok = run_split start entries e ∙ ap (λ (o : Option Office). option_and_then (λ office. accept office e) o) is ∙ ok

pub one_more : (new old : ℕ) (answer : Answer) → new ≡ accepted_after answer old → is_accepted answer ≡ true → new ≡ old + 1
one_more new old answer counted made = counted ∙ ap (λ (b : Bool). if b then old + 1 else old) made

no_more : (new old : ℕ) (answer : Answer) → new ≡ accepted_after answer old → is_accepted answer ≡ false → new ≡ old
no_more new old answer counted not_made = counted ∙ ap (λ (b : Bool). if b then old + 1 else old) not_made

unfoldable pub more_after : {start : Office} (entries : List Entry) (e : Entry) (old new : OfficeView) (reply : Reply) (is : StandsSince start entries old) → is_accepted (Ok reply) ≡ true
    → IsTrue (is_not_before old.records.last e.moment) → kept_for e.token is.plain ≡ None
    → DoesOnce (Done is.plain e) is.plain new (Ok reply) → new.records.accepted ≡ accepted_after (Ok reply) old.records.accepted → StandsSince start (entries ++ e ∷ []) new
more_after {start} entries e old new reply is made later fresh does counted =
    let x = Done is.plain e in
    let accepted = taken is.plain e new reply fresh made (subst (λ (last : Option ℕ). IsTrue (is_not_before last e.moment)) is.stands.records.last later) does in
    record {
      plain = x.0;
      is_run = run_on (Some start) entries e is.plain x.0 is.is_run accepted;
      stands = (reply_is x is.plain new reply does).1;
      counted = omega (arith, one_more new.records.accepted old.records.accepted (Ok reply) counted made, is.counted, length-append entries (e ∷ []));
    }

pub same_after : {start : Office} (entries : List Entry) (e : Entry) (old new : OfficeView) (answer : Answer) (is : StandsSince start entries old) → is_accepted answer ≡ false → kept_for e.token is.plain ≡ None
    → DoesOnce (Done is.plain e) is.plain new answer → new.records.accepted ≡ accepted_after answer old.records.accepted → StandsSince start entries new
same_after entries e old new answer is not_accepted fresh does counted = record {
  plain = is.plain;
  is_run = is.is_run;
  stands = unmoved_stands e.moment e.token e.command is.plain new answer fresh not_accepted does;
  counted = omega (arith, no_more new.records.accepted old.records.accepted answer counted not_accepted, is.counted);
}

-- ---- how many commands a journal holds

pub few : {start : Office} (head : List ℕ) (entries : List Entry) (view : OfficeView) (gate : ℕ) → StandsSince start entries view → gate ≡ end_gate head entries → gate ≤ 2 ^ 45
    → view.records.accepted < most_commands
few {start} head entries view gate is end small = omega (arith, is.counted, end, small, gate_high head entries)
