-- What comes of the first commands, one after another.
use Rattle.std.proofs.Common.{◌≡◌, ℕ, zero, suc, ◌+◌, ◌≤◌, true, List, [], ◌∷◌, ◌++◌, length, Option, Some, None, Result, Ok, Err, refl, ap, sym, ◌∙◌, subst, arith, length-append}
use Rattle.std.specs.Prelude.{unwrap_or}
use Rattle.std.proofs.lemmas.Grind.{common_steps}
use Rattle.office_types.specs.declared.command.Command.{Command}
use Rattle.office_types.specs.declared.command.Entry.{Entry}
use Rattle.office_types.specs.declared.reply.Reply.{Reply}
use Rattle.office_types.specs.declared.reply.Reply.TheVariants.{NothingDue}
use Rattle.office_types.specs.declared.refusal.Refusal.{Refusal}
use Rattle.office_types.specs.Entries.{entry_at, entry_with}
use Rattle.plain_office.specs.Office.{Office}
use Rattle.plain_office.specs.Once.{step_with}
use Rattle.plain_office.specs.Step.{Outcome, outcome, settled, step, is_accepted}
use Rattle.plain_office.specs.Run.{is_not_before, accept, run}
use Rattle.plain_office.proofs.Runs.{step_refused, step_nothing, run_more, run_none}
use Rattle.generator.specs.Places.{next_place, place_after}
use Rattle.generator.specs.Generated.{Progress, at_first, noted, after_entry, after_entries, entry_behind, generated, progress}
use Rattle.generator.proofs.PlaceLemmas.{later_after}

-- ---- one command more

after_push : (p : Progress) (entries : List Entry) (entry : Entry) → after_entries p (entries ++ entry ∷ []) ≡ after_entry (after_entries p entries) entry
unfolding after_entries
after_push p [] entry = refl
after_push p (first ∷ entries) entry = after_push (after_entry p first) entries entry

pub progress_none : (number : ℕ) → progress number 0 ≡ at_first
unfolding after_entries generated
progress_none number = refl

-- the command after as many
abbrev pub entry_at_place : ℕ → ℕ → Entry
entry_at_place number n = entry_behind (place_after number n)

pub progress_next : (number n : ℕ) → progress number (suc n) ≡ after_entry (progress number n) (entry_at_place number n)
unfolding generated
progress_next number n = after_push at_first (generated number n) (entry_at_place number n)

place_next : (number n : ℕ) → place_after number (suc n) ≡ next_place (place_after number n)
unfolding place_after
place_next number n = refl

pub entry_moment : (number n : ℕ) → (entry_at_place number n).moment ≡ (place_after number (suc n)).moment
entry_moment number n = ap (λ (p : _). p.moment) (sym (place_next number n))

-- ---- the last moment

abbrev pub last_of : Office → ℕ
last_of office = unwrap_or office.last 0

last_settled : (t : ℕ) (p : Office) (o : Outcome) → last_of p ≤ t → last_of (settled t p o).0 ≤ t
last_settled t p (Err refusal) small = small
last_settled t p (Ok (after, NothingDue)) small = small
last_settled t p (Ok (after, reply)) small = omega arith

last_step : (t : ℕ) (c : Command) (p : Office) → last_of p ≤ t → last_of (step t c p).0 ≤ t
unfolding step
last_step t c p = last_settled t p (outcome t c p)

noted_office : (p : Progress) (e : Entry) (office : Office) (reply : Result Reply Refusal) → (noted p e office reply).office ≡ office
noted_office p e office (Err refusal) = refl
noted_office p e office (Ok NothingDue) = refl
noted_office p e office (Ok reply) = refl

pub office_next : (p : Progress) (e : Entry) → (after_entry p e).office ≡ (step e.moment e.command p.office).0
unfolding after_entry
office_next p e = noted_office p e (step e.moment e.command p.office).0 (step e.moment e.command p.office).1

pub last_within : (number n : ℕ) → last_of (progress number n).office ≤ (place_after number n).moment
last_within number zero = subst (λ (p : Progress). last_of p.office ≤ (place_after number 0).moment) (sym (progress_none number)) (omega arith)
last_within number (suc n) =
    let e = entry_at_place number n in
    let p = progress number n in
    let before : last_of p.office ≤ e.moment = omega (arith, last_within number n, later_after number n, entry_moment number n) in
    let after : last_of (step e.moment e.command p.office).0 ≤ e.moment = last_step e.moment e.command p.office before in
    let here : last_of (progress number (suc n)).office ≤ e.moment =
    subst (λ (o : Office). last_of o ≤ e.moment) (sym (ap (λ (x : Progress). x.office) (progress_next number n) ∙ office_next p e)) after in
    omega (arith, here, entry_moment number n)

pub last_before : (number n : ℕ) → last_of (progress number n).office ≤ (place_after number (suc n)).moment
last_before number n = omega (arith, last_within number n, later_after number n)

pub not_before_of : (last : Option ℕ) (t : ℕ) → unwrap_or last 0 ≤ t → is_not_before last t ≡ true
not_before_of None t small = refl
not_before_of (Some last) t small = grind (arith, common_steps)

-- ---- the accepted commands are a run, to the office

accepted_at : (p : Office) (t : ℕ) (c : Command) → is_not_before p.last t ≡ true → is_accepted (step t c p).1 ≡ true → accept p (entry_at t c) ≡ Some (step t c p).0
unfolding accept step_with
accepted_at p t c later made = rw (later, made) refl

accepted_next : (p : Office) (e : Entry) → e.token ≡ None → is_not_before p.last e.moment ≡ true → is_accepted (step e.moment e.command p).1 ≡ true → accept p e ≡ Some (step e.moment e.command p).0
accepted_next p e plain later made =
    subst (λ (token : Option (List ℕ)). accept p (entry_with e.moment token e.command) ≡ Some (step e.moment e.command p).0) (sym plain)
    (accepted_at p e.moment e.command later made)

abbrev Runs : Progress → Type 0
Runs p = run p.accepted ≡ Some p.office

runs_noted : (p : Progress) (e : Entry) (reply : Result Reply Refusal) → (step e.moment e.command p.office).1 ≡ reply
    → e.token ≡ None → is_not_before p.office.last e.moment ≡ true → Runs p → Runs (noted p e (step e.moment e.command p.office).0 reply)
runs_noted p e (Err refusal) is plain later runs = runs ∙ ap (λ (o : Office). Some o) (sym (step_refused e.moment e.command p.office refusal is))
runs_noted p e (Ok NothingDue) is plain later runs = runs ∙ ap (λ (o : Office). Some o) (sym (step_nothing e.moment e.command p.office is))
runs_noted p e (Ok reply) is plain later runs =
    run_more p.accepted e p.office (step e.moment e.command p.office).0 runs (accepted_next p.office e plain later (ap is_accepted is))

runs_next : (p : Progress) (e : Entry) → e.token ≡ None → is_not_before p.office.last e.moment ≡ true → Runs p → Runs (after_entry p e)
unfolding after_entry
runs_next p e plain later runs = runs_noted p e (step e.moment e.command p.office).1 refl plain later runs

pub runs : (number n : ℕ) → run (progress number n).accepted ≡ Some (progress number n).office
runs number zero = subst Runs (sym (progress_none number)) run_none
runs number (suc n) =
    let e = entry_at_place number n in
    let p = progress number n in
    let small : last_of p.office ≤ e.moment = omega (arith, last_before number n, entry_moment number n) in
    subst Runs (sym (progress_next number n)) (runs_next p e refl (not_before_of p.office.last e.moment small) (runs number n))

-- ---- each command is accepted, refused, or found nothing

abbrev pub count_in : Progress → ℕ
count_in p = length p.accepted + p.refused + p.nothing

count_noted : (p : Progress) (e : Entry) (office : Office) (reply : Result Reply Refusal) → count_in (noted p e office reply) ≡ count_in p + 1
count_noted p e office (Err refusal) = omega arith
count_noted p e office (Ok NothingDue) = omega arith
count_noted p e office (Ok reply) = omega (arith, length-append p.accepted (e ∷ []))

count_next : (p : Progress) (e : Entry) → count_in (after_entry p e) ≡ count_in p + 1
unfolding after_entry
count_next p e = count_noted p e (step e.moment e.command p.office).0 (step e.moment e.command p.office).1

pub counted : (number n : ℕ) → count_in (progress number n) ≡ n
counted number zero = ap count_in (progress_none number)
counted number (suc n) = omega (arith, ap count_in (progress_next number n), count_next (progress number n) (entry_at_place number n), counted number n)
