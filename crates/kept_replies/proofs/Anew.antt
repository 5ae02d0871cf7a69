-- Making a store of kept replies, and what is kept of a reply that is given again.
use Rattle.std.proofs.Common.{◌≡◌, ℕ, ◌+◌, ◌≤◌, ◌<◌, List, [], ◌∷◌, ◌++◌, map, length, refl, ap, sym, ◌∙◌, subst, Bool, true, false, cond, arith, append_assoc, Some, None}
use Rattle.std.specs.Prelude.{◌==◌}
use Rattle.std.specs.Str.{bytes_eq}
use Rattle.std.specs.List.{AllByRecursion}
use Rattle.std.proofs.lemmas.List.{map-append, length-append, append-nil, length-map}
use Rattle.office_base.specs.Maps.{with_name}
use Rattle.office_types.specs.Kept.{number_of_id, id_of_number, tells_marker, number_told, reply_told, reply_of}
use Rattle.office_types.specs.declared.command.Command.{Command}
use Rattle.office_types.specs.declared.command.Command.TheVariants as command
use Rattle.office_types.specs.declared.kept.Kept.{Kept}
use Rattle.office_types.specs.declared.reply.Reply.TheVariants.{Stored, Deleted}
use Rattle.office_laws.proofs.Lists.{every_append}
use Rattle.office_laws.proofs.Maps.{by_name, at_written}
use Rattle.plain_office.specs.Office.{KeptReply}
use Rattle.plain_office.specs.Once.{kept_at}
use Rattle.plain_office.specs.Orderly.{TokensDiffer}
use Rattle.kept_replies.specs.Indexed.{IsIndexed}
use Rattle.kept_replies.specs.Queue.{plain_reply, plain_replies, kept_in, IsTold}
use Rattle.kept_replies.proofs.Indexes.{indexed_with, indexed_more, apart_back}

-- ---- none before it has the token of the next one

first_apart : (token : List ℕ) (front : List Kept) (kept : Kept) (back : List Kept) → kept_at token (plain_replies (front ++ kept ∷ back)) ≡ None → bytes_eq token kept.token ≡ false
first_apart token [] kept back h = by (bytes_eq token kept.token) refl h where
  by : (b : Bool) → bytes_eq token kept.token ≡ b → cond b (Some (plain_reply kept)) (kept_at token (plain_replies back)) ≡ None → b ≡ false
  by true is h = absurd cc
  by false is h = refl
first_apart token (first ∷ front) kept back h = by (bytes_eq token first.token) h (first_apart token front kept back) where
  by : (b : Bool) → cond b (Some (plain_reply first)) (kept_at token (plain_replies (front ++ kept ∷ back))) ≡ None
      → (kept_at token (plain_replies (front ++ kept ∷ back)) ≡ None → bytes_eq token kept.token ≡ false) → bytes_eq token kept.token ≡ false
  by true h more = absurd cc
  by false h more = more h

pub new_token : (front : List Kept) (kept : Kept) (back : List Kept) → TokensDiffer (plain_replies (front ++ kept ∷ back)) → kept_in kept.token front ≡ None
new_token [] kept back differ = refl
new_token (first ∷ front) kept back differ =
    let apart = apart_back first.token kept.token (first_apart first.token front kept back differ.0) in
    rw apart (new_token front kept back differ.1)

-- ---- one more is kept

pub taken_up : (numbers : List (List ℕ × ℕ)) (kept : Kept) (queue : List Kept) → kept_in kept.token queue ≡ None → IsIndexed 0 numbers queue
    → IsIndexed 0 (with_name kept.token (length queue) numbers) (queue ++ kept ∷ [])
taken_up numbers kept queue new indexed =
    let first : length queue ≡ 0 + length queue = omega arith in
    indexed_more 0 (with_name kept.token (length queue) numbers) kept queue (at_written by_name kept.token (length queue) numbers ∙ ap Some first)
    (indexed_with 0 numbers kept.token (length queue) queue new indexed)

-- ---- a reply is told again

number_again : (n : ℕ) → id_of_number (number_of_id (id_of_number n)) ≡ id_of_number n
number_again n = by (n == 0) refl where
  by : (b : Bool) → (n == 0) ≡ b → id_of_number (number_of_id (id_of_number n)) ≡ id_of_number n
  by true is = rw is refl
  by false is = rw is (rw is refl)

pub told_again : (t : ℕ) (marker : Bool) (told : ℕ) (asked : Command)
    → reply_told t (tells_marker (reply_told t marker told asked)) (number_told (reply_told t marker told asked)) asked ≡ reply_told t marker told asked
unfolding reply_told
told_again t marker told (command.CreateBucket bucket) = refl
told_again t marker told (command.SetVersioning bucket enabled) = refl
told_again t marker told (command.DropRules bucket) = refl
told_again t marker told (command.Put bucket key size class tags) = ap (Stored t) (number_again told)
told_again t true told (command.Delete bucket key) = ap (λ n. Deleted (Some n)) (number_again told)
told_again t false told (command.Delete bucket key) = refl
told_again t marker told (command.DeleteVersion bucket key id) = refl
told_again t marker told (command.SetTags bucket key id tags) = refl
told_again t marker told (command.StartUpload bucket key class tags) = refl
told_again t marker told (command.PutPart bucket upload part size) = refl
told_again t marker told (command.Complete bucket upload) = ap (Stored t) (number_again told)
told_again t marker told (command.Abort bucket upload) = refl
told_again t marker told (command.Close month) = refl
told_again t marker told other = refl

-- what is kept with the mark and the number that the reply tells
pub kept_again : (kept copy : Kept) → copy.token ≡ kept.token → copy.moment ≡ kept.moment → copy.command ≡ kept.command → copy.marker ≡ tells_marker (reply_of kept) → copy.told ≡ number_told (reply_of kept)
    → reply_of copy ≡ reply_of kept
kept_again kept copy token moment asked marker told =
    (λ i. reply_told (moment i) (marker i) (told i) (asked i)) ∙ told_again kept.moment kept.marker kept.told kept.command

pub same_kept : (kept copy : Kept) → copy.token ≡ kept.token → copy.moment ≡ kept.moment → copy.command ≡ kept.command → copy.marker ≡ tells_marker (reply_of kept) → copy.told ≡ number_told (reply_of kept)
    → plain_reply copy ≡ plain_reply kept
same_kept kept copy token moment asked marker told =
    let reply = kept_again kept copy token moment asked marker told in
    λ i. record { token = token i; command = asked i; reply = reply i }

pub is_told : (kept copy : Kept) → copy.token ≡ kept.token → copy.moment ≡ kept.moment → copy.command ≡ kept.command → copy.marker ≡ tells_marker (reply_of kept) → copy.told ≡ number_told (reply_of kept)
    → IsTold copy
is_told kept copy token moment asked marker told =
    let reply = kept_again kept copy token moment asked marker told in
    record { marker = marker ∙ ap tells_marker (sym reply); told = told ∙ ap number_told (sym reply) }

-- ---- the list of copies

pub listed_more : (all : List Kept) (kept copy : Kept) → plain_reply copy ≡ plain_reply kept → plain_replies (all ++ copy ∷ []) ≡ plain_replies all ++ plain_reply kept ∷ []
listed_more all kept copy same = map-append plain_reply all (copy ∷ []) ∙ ap (λ (r : KeptReply). plain_replies all ++ r ∷ []) same

pub told_more : (all : List Kept) (copy : Kept) → IsTold copy → AllByRecursion IsTold all → AllByRecursion IsTold (all ++ copy ∷ [])
told_more all copy told before = every_append IsTold all (copy ∷ []) before (told, tt)

-- ---- lists that are taken up one by one

module _ {X Y : Type 0} (f : X → Y) where
  -- those that are there, with those that are left behind them, are all
  pub whole_more : (there new : List X) (left : List X) (all : List Y) (x : X) (rest : List X) → map f there ++ map f left ≡ all → left ≡ x ∷ rest → map f new ≡ map f there ++ f x ∷ [] → map f new ++ map f rest ≡ all
  whole_more there new left all x rest so_far is pushed =
      ap (λ (l : List Y). l ++ map f rest) pushed ∙ append_assoc (map f there) (f x ∷ []) (map f rest)
      ∙ (ap (λ (l : List X). map f there ++ map f l) (sym is) ∙ so_far)

  pub whole_all : (there left : List X) (all : List Y) → map f there ++ map f left ≡ all → left ≡ [] → map f there ≡ all
  whole_all there left all so_far is = sym (append-nil (map f there)) ∙ ap (λ (l : List X). map f there ++ map f l) (sym is) ∙ so_far

module _ (queue left all : List Kept) (one : Kept) (rest : List Kept) (so_far : queue ++ left ≡ all) (is : left ≡ one ∷ rest) where
  next_whole : queue ++ one ∷ rest ≡ all
  next_whole = ap (λ (l : List Kept). queue ++ l) (sym is) ∙ so_far

  pub next_few : length (plain_replies all) ≤ 10_000 → length queue < 10_000
  next_few few =
      let long = length-map all plain_reply in
      let whole = ap (λ (l : List Kept). length l) next_whole in
      let parts = length-append queue (one ∷ rest) in
      omega (arith, few, long, whole, parts)

  pub next_new : TokensDiffer (plain_replies all) → kept_in one.token queue ≡ None
  next_new differ = new_token queue one rest (subst (λ (l : List Kept). TokensDiffer (plain_replies l)) (sym next_whole) differ)

  pub next_more : (new : List Kept) → new ≡ queue ++ one ∷ [] → new ++ rest ≡ all
  next_more new pushed = ap (λ (l : List Kept). l ++ rest) pushed ∙ append_assoc queue (one ∷ []) rest ∙ next_whole
