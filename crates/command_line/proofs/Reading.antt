-- Words that clap reads, and words that it refuses.
use Rattle.std.proofs.Common.{◌≡◌, ◌≢◌, ◌⊎◌, inl, inr, ◌∙◌, refl, ap, subst, arith, length, ne_eqb, List, [], ◌∷◌, Option, None, option_and_then, true, if◌then◌else◌}
use Rattle.clap.specs.Walk.{Text, is_empty}
use Rattle.clap.specs.Simple.{HasMatchesOf, app_of, is_simple, subcommand_of, subcommand_rows_of}
use Rattle.clap.specs.Faults.{fault_of, is_simple_and_free}
use Rattle.clap.specs.Kinds.{IsAmong, Kinds}
use Rattle.clap.specs.declared.builder.command.Command.{Command}
use Rattle.clap.specs.declared.parser.matches.ArgMatches.{ArgMatches}
use Rattle.clap.specs.declared.error.kind.ErrorKind.{ErrorKind}
use Rattle.clap.specs.declared.error.kind.ErrorKind.TheVariants.{OutOfMemory}
use Rattle.command_line.specs.Words.{IsWholeCommand, office_words}
use Rattle.command_line.specs.Lines.{Line, asked, subcommand_line}

office_is_simple : is_simple office_words ≡ true
office_is_simple = refl

office_is_free : is_simple_and_free office_words ≡ true
office_is_free = refl

asked_from : (words : List Text) (entered : _) → fault_of office_words words ≡ [] → entered ≡ subcommand_of office_words words → asked words ≡ option_and_then subcommand_line entered
unfolding asked
asked_from words entered passes is = rw (passes, is) refl

pub line_read : (command : Command) (m : ArgMatches) (words : List Text) → IsWholeCommand office_words command → HasMatchesOf (app_of command) words m
    → (is_simple_and_free (app_of command) ≡ true → fault_of (app_of command) words ≡ []) → asked words ≡ option_and_then subcommand_line (subcommand_rows_of m)
line_read command m words is matches passes =
    let simple = ap is_simple is.is ∙ office_is_simple in
    let free = ap is_simple_and_free is.is ∙ office_is_free in
    asked_from words (subcommand_rows_of m) (subst (λ app. fault_of app words ≡ []) is.is (passes free)) (subst (λ app. subcommand_rows_of m ≡ subcommand_of app words) is.is (matches simple).1)

some_fault : (kind : ErrorKind) (kinds : Kinds) (found : Option Line) → IsAmong kind kinds → (if is_empty kinds then found else None) ≡ None
some_fault kind [] found among = absurd among
some_fault kind (k ∷ kinds) found among = ap (λ b. if b then found else None) (ne_eqb (length (k ∷ kinds)) 0 (omega arith))

asked_for_none : (words : List Text) (kind : ErrorKind) → IsAmong kind (fault_of office_words words) → asked words ≡ None
unfolding asked
asked_for_none words kind among = some_fault kind (fault_of office_words words) _ among

pub line_refused : (command : Command) (words : List Text) (kind : ErrorKind) → IsWholeCommand office_words command → kind ≢ OutOfMemory
    → (is_simple_and_free (app_of command) ≡ true → (kind ≡ OutOfMemory) ⊎ IsAmong kind (fault_of (app_of command) words)) → asked words ≡ None
line_refused command words kind is other faults =
    let fault = faults (ap is_simple_and_free is.is ∙ office_is_free) in
    elim fault [
      | inl memory ↦ absurd (other memory)
      | inr among ↦ asked_for_none words kind (subst (λ app. IsAmong kind (fault_of app words)) is.is among)
    ]
