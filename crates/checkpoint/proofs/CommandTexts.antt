-- The text of a command follows the moment in its entry.
use Rattle.std.proofs.Common.{◌≡◌, ℕ, Bool, false, Option, Some, sym, ◌-◌, ◌^◌, ◌<◌, true, List, ◌++◌, length, take, drop, None, refl, ap, ◌∙◌, arith, length-append}
use Rattle.std.proofs.Math.Seq.{take-length}
use Rattle.std.specs.Int.{w64, to_be_bytes}
use Rattle.std.specs.Prelude.{is_some, is_none, if◌then◌else◌}
use Rattle.std.proofs.lemmas.Bool.{and_from, and_left, and_right}
use Rattle.std.proofs.lemmas.Slice.Eq.{bytes_eq-Decides}
use Rattle.std.proofs.lemmas.List.{drop_at, length-drop}
use Rattle.office_types.specs.Entries.{entry_with}
use Rattle.office_types.specs.Tokens.{takes_token}
use Rattle.office_types.specs.declared.command.Command.{Command}
use Rattle.office_types.specs.declared.command.Entry.{Entry}
use Rattle.entry_codec.specs.Fields.{moment_format}
use Rattle.entry_codec.specs.Spelling.{command_spelling, spelling, EntryFits, IsEntry}
use Rattle.entry_codec.proofs.Sizes.{entry_small}
use Rattle.checkpoint.specs.Parts.{HasText, is_kept_command, if_spelled}

its_parts : (t : ℕ) (c : Command) → spelling (entry_with t None c) ≡ to_be_bytes w64 t ++ command_spelling None c
unfolding spelling moment_format
its_parts t c = refl

pub has_text : (t : ℕ) (c : Command) (bytes : List ℕ) → bytes ≡ spelling (entry_with t None c) → HasText c bytes
has_text t c bytes is =
    let parts = is ∙ its_parts t c in
    record {
      moment = omega (arith, ap length parts, length-append (to_be_bytes w64 t) (command_spelling None c));
      text = ap (drop 8) parts ∙ drop_at (to_be_bytes w64 t) (command_spelling None c) 8 refl;
    }

pub is_short : (bytes : List ℕ) → IsEntry bytes → length bytes < 2 ^ 32
is_short = entry_small

pub is_kept : (t : ℕ) (c : Command) → EntryFits (entry_with t None c) → takes_token c ≡ true → is_kept_command c ≡ true
is_kept t c fits takes = and_from _ _ takes fits.command.values

-- all after a place
pub take_rest : (n : ℕ) (xs : List ℕ) → take (length xs - n) (drop n xs) ≡ drop n xs
take_rest n xs = ap (λ (k : ℕ). take k (drop n xs)) (omega (arith, length-drop n xs)) ∙ take-length (drop n xs)

-- ---- reading

if_so : (b : Bool) (c : Command) → b ≡ true → (if b then Some c else None) ≡ Some c
if_so true c is = refl
if_so false c is = absurd cc

if_not : (b : Bool) (c : Command) → b ≡ false → (if b then Some c else None) ≡ None
if_not true c is = absurd cc
if_not false c is = refl

no_token : (o : Option (List ℕ)) → is_some o ≡ false → o ≡ None
no_token None is = refl
no_token (Some token) is = absurd cc

-- the text after the moment of an entry without a token is that of its command
text_is : (text : List ℕ) (e : Entry) → moment_format.written 0 ++ text ≡ spelling e → e.token ≡ None → text ≡ command_spelling None e.command
unfolding spelling moment_format
text_is text e is none =
    sym (drop_at (to_be_bytes w64 0) text 8 refl) ∙ ap (drop 8) is ∙ drop_at (to_be_bytes w64 e.moment) (command_spelling e.token e.command) 8 refl
    ∙ ap (λ (o : Option (List ℕ)). command_spelling o e.command) none

none_is : (o : Option (List ℕ)) → is_some o ≡ false → is_none o ≡ true
none_is None is = refl
none_is (Some token) is = absurd cc

some_is : (o : Option (List ℕ)) → is_some o ≡ true → is_none o ≡ false
some_is None is = absurd cc
some_is (Some token) is = refl

pub if_of : (text : List ℕ) (e : Entry) → EntryFits e → moment_format.written 0 ++ text ≡ spelling e → is_some e.token ≡ false → takes_token e.command ≡ true → if_spelled text e ≡ Some e.command
if_of text e fits is token takes =
    if_so _ e.command
    (and_from _ _ (and_from _ _ (none_is e.token token) (and_from _ _ takes fits.command.values))
    ((bytes_eq-Decides text (command_spelling None e.command)).1 (text_is text e is (no_token e.token token))))

pub if_with_token : (text : List ℕ) (e : Entry) → is_some e.token ≡ true → if_spelled text e ≡ None
if_with_token text e token = if_not _ e.command (and_left _ _ (and_left _ _ (some_is e.token token)))

pub if_not_taken : (text : List ℕ) (e : Entry) → takes_token e.command ≡ false → if_spelled text e ≡ None
if_not_taken text e takes = if_not _ e.command (and_left _ _ (and_right _ _ (and_left _ _ takes)))
