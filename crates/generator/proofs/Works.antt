-- A load, from its first command to its last one.
use Rattle.std.proofs.Common.{◌≡◌, ℕ, suc, ◌+◌, ◌^◌, ◌<◌, List, [], ap, sym, ◌∙◌, subst, arith}
use Rattle.disk_core.specs.contracts.memory.MemoryDiskDisk.TheImpl as memory
use Rattle.std.specs.Prelude.{false}
use Rattle.office_types.specs.declared.command.Ask.TheVariants as ask
use Rattle.office_types.specs.declared.command.Command.{Command}
use Rattle.office_types.specs.declared.command.Entry.{Entry}
use Rattle.desk_core.specs.Answers.{Answer}
use Rattle.generator.specs.Drafts.{draft_command}
use Rattle.generator.specs.Places.{place_before, draft_at, next_place, place_after}
use Rattle.generator.specs.Generated.{Progress, progress}
use Rattle.generator.specs.Working.{HoldsSoundly, IsDeskAfter, AreAnswers, IsCounted, IsWork}
use Rattle.generator.specs.declared.place.Place.{Place}
use Rattle.generator.specs.declared.work.AnswerCounts.{AnswerCounts}
use Rattle.generator.specs.declared.work.Work.{Work}
use Rattle.generator.proofs.PlaceLemmas.{made_next, after_next, first_after}
use Rattle.generator.proofs.Progress.{counted, progress_none, entry_at_place}
use Rattle.generator.proofs.Made.{AnswersNext, one_more, noted_more}

-- the parts of a load, in the words of its own number and place
is_work : (w : Work) (number n : ℕ) → w.number ≡ number → w.place.made ≡ n → w.place ≡ place_after number n → IsDeskAfter number n (progress number n).accepted w.desk
    → AreAnswers w.answers (progress number n) → IsWork w
is_work w number n is made =
    subst (λ (k : ℕ). w.place ≡ place_after k n → IsDeskAfter k n (progress k n).accepted w.desk → AreAnswers w.answers (progress k n) → IsWork w) is
    (subst (λ (m : ℕ). w.place ≡ place_after w.number m → IsDeskAfter w.number m (progress w.number m).accepted w.desk → AreAnswers w.answers (progress w.number m) → IsWork w) made
    (λ place stands answers. record { place = place; stands = stands; answers = answers }))

-- before the first command
pub begun : (w : Work) (number : ℕ) → w.number ≡ number → w.place ≡ place_before number → w.answers ≡ record { accepted = 0; refused = 0; nothing = 0 }
    → HoldsSoundly memory.ghosts [] w.desk → w.desk.stale ≡ false → w.desk.clock.number ≡ number → w.desk.clock.place.made ≡ 0
    → IsWork w × (w.number ≡ number) × (w.place.made ≡ 0)
begun w number is place answers holds fresh clock made =
    let none : w.place.made ≡ 0 = ap (λ (p : Place). p.made) place in (
      is_work w number 0 is none (subst (λ (m : ℕ). w.place ≡ place_after number m) none (first_after number w.place place))
          (subst (λ (p : Progress). IsDeskAfter number 0 p.accepted w.desk) (sym (progress_none number)) (record { holds = holds; fresh = fresh; number_is = clock; told_is = made }))
          (subst (λ (p : Progress). AreAnswers w.answers p) (sym (progress_none number)) (record {
            accepted = ap (λ (a : AnswerCounts). a.accepted) answers;
            refused = ap (λ (a : AnswerCounts). a.refused) answers;
            nothing = ap (λ (a : AnswerCounts). a.nothing) answers;
          })),
      is,
      none,
    )

-- each command was counted
pub all_counted : (w : Work) → IsWork w → w.answers.accepted + w.answers.refused + w.answers.nothing ≡ w.place.made
all_counted w is =
    let a = is.answers in
    omega (arith, a.accepted, a.refused, a.nothing, counted w.number w.place.made)

-- a command more
pub worked : (old new : Work) (command : Command) (said : Answer) → IsWork old → old.place.made < 2 ^ 32 → new.number ≡ old.number → new.place ≡ next_place old.place
    → command ≡ draft_command (draft_at old.place) → AnswersNext old.desk (ask.Command command) said new.desk → IsCounted old.answers said.reply new.answers → IsWork new
worked old new command said is few number place drawn answers noted =
    let n = old.place.made in
    let x = old.number in
    let told = answers x n (progress x n).accepted (omega (arith, few)) is.stands in
    let spelled : command ≡ (entry_at_place x n).command = drawn ∙ ap (λ (p : Place). draft_command (draft_at p)) is.place in
    let found = one_more x n old.desk.limit said command told.0 told.2 spelled told.1 in
    let made : new.place.made ≡ suc n = omega (arith, ap (λ (p : Place). p.made) place, made_next old.place) in
    let one : n + 1 ≡ suc n = omega arith in
    let stands : IsDeskAfter x (suc n) (progress x (suc n)).accepted new.desk =
    subst (λ (m : ℕ). IsDeskAfter x m (progress x (suc n)).accepted new.desk) one (subst (λ (h : List Entry). IsDeskAfter x (n + 1) h new.desk) found.1 told.3) in
    is_work new x (suc n) number made (subst (λ (m : ℕ). new.place ≡ place_after x m) made (after_next x old.place new.place is.place place)) stands
    (noted_more x n old.answers new.answers said.reply found.0 is.answers noted)
