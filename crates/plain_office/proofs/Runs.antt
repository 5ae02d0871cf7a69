-- What one command does, what its answer says, and one more entry.
use Rattle.std.proofs.Common.{◌≡◌, ℕ, List, [], ◌∷◌, ◌++◌, refl, Bool, ◌&&◌, Option, Some, None, true, false, Result, Ok, Err, ap, sym, ◌∙◌, inl, inr, cond}
use Rattle.std.proofs.Math.Bool.{and-false}
use Rattle.std.specs.Prelude.{◌⊎◌, option_and_then, is_none}
use Rattle.plain_office.specs.Office.{Office, KeptReply, empty_office}
use Rattle.plain_office.specs.Step.{Outcome, outcome, settled, step, is_accepted}
use Rattle.plain_office.specs.Once.{kept_for, keeping, repeated, step_with}
use Rattle.plain_office.specs.Run.{accept, is_not_before, is_new, run_from, run}
use Rattle.office_types.specs.declared.command.Command.{Command}
use Rattle.office_types.specs.declared.command.Entry.{Entry}
use Rattle.office_types.specs.declared.reply.Reply.{Reply}
use Rattle.office_types.specs.declared.reply.Reply.TheVariants.{NothingDue}
use Rattle.office_types.specs.declared.refusal.Refusal.{Refusal}
use Rattle.office_types.specs.declared.refusal.Refusal.TheVariants.{NoMemory}

abbrev pub Answer : Type 0
Answer = Result Reply Refusal

abbrev pub done : Reply → Answer
done reply = Ok reply

abbrev pub refused : Refusal → Answer
refused refusal = Err refusal

pub refusal_is : (a b : Refusal) → refused a ≡ refused b → a ≡ b
refusal_is a b e = cc

pub no_reply : (reply : Reply) (refusal : Refusal) → done reply ≡ refused refusal → ⊥
no_reply reply refusal e = absurd cc

-- ---- every command

-- what is answered by Ok is not refused
done_told : (t : ℕ) (p after : Office) (reply : Reply) (refusal : Refusal) → (settled t p (Ok (after, reply))).1 ≡ refused refusal → ⊥
done_told t p after NothingDue refusal e = no_reply NothingDue refusal e
done_told t p after reply refusal e = no_reply reply refusal e

-- where a step refuses, the office stays
settled_refused : (t : ℕ) (p : Office) (outcome : Outcome) (refusal : Refusal) → (settled t p outcome).1 ≡ refused refusal → (settled t p outcome).0 ≡ p
settled_refused t p (Ok made) refusal e = absurd (done_told t p made.0 made.1 refusal e)
settled_refused t p (Err other) refusal e = refl

pub step_refused : (t : ℕ) (c : Command) (p : Office) (refusal : Refusal) → (step t c p).1 ≡ Err refusal → (step t c p).0 ≡ p
unfolding step
step_refused t c p = settled_refused t p (outcome t c p)

-- and so it does where an act found nothing due

done_nothing : (t : ℕ) (p after : Office) (reply : Reply) → (settled t p (Ok (after, reply))).1 ≡ done NothingDue → (settled t p (Ok (after, reply))).0 ≡ p
done_nothing t p after NothingDue e = refl
done_nothing t p after reply e = absurd cc

settled_nothing : (t : ℕ) (p : Office) (outcome : Outcome) → (settled t p outcome).1 ≡ done NothingDue → (settled t p outcome).0 ≡ p
settled_nothing t p (Ok made) e = done_nothing t p made.0 made.1 e
settled_nothing t p (Err refusal) e = refl

pub step_nothing : (t : ℕ) (c : Command) (p : Office) → (step t c p).1 ≡ Ok NothingDue → (step t c p).0 ≡ p
unfolding step
step_nothing t c p = settled_nothing t p (outcome t c p)

-- ---- a command with a token

abbrev pub Token : Type 0
Token = Option (List ℕ)

-- without a token it is a step
pub step_plain : (t : ℕ) (c : Command) (p : Office) → step_with t None c p ≡ step t c p
unfolding step_with
step_plain t c p = refl

-- where the token is new it is a step whose reply is kept
pub step_new : (t : ℕ) (token : Token) (c : Command) (p : Office) → kept_for token p ≡ None → step_with t token c p ≡ keeping token c (step t c p)
unfolding step_with
step_new t token c p new = rw new refl

-- where a reply is kept the office stays
pub step_kept : (t : ℕ) (token : Token) (c : Command) (p : Office) (kept : KeptReply) → kept_for token p ≡ Some kept → step_with t token c p ≡ (p, repeated kept c)
unfolding step_with
step_kept t token c p kept is = rw is refl

-- keeping a reply changes no answer
pub keeping_told : (token : Token) (c : Command) (done : Office × Answer) → (keeping token c done).1 ≡ done.1
keeping_told None c done = refl
keeping_told (Some token) c (office, Err refusal) = refl
keeping_told (Some token) c (office, Ok NothingDue) = refl
keeping_told (Some token) c (office, Ok reply) = refl

-- what is refused is not kept
keeping_refused : (token : Token) (c : Command) (office : Office) (answer : Answer) (refusal : Refusal) → answer ≡ refused refusal → (keeping token c (office, answer)).0 ≡ office
keeping_refused None c office answer refusal e = refl
keeping_refused (Some token) c office (Err other) refusal e = refl
keeping_refused (Some token) c office (Ok NothingDue) refusal e = refl
keeping_refused (Some token) c office (Ok reply) refusal e = absurd (no_reply reply refusal e)

-- nor is that nothing was due
keeping_nothing : (token : Token) (c : Command) (office : Office) (answer : Answer) → answer ≡ done NothingDue → (keeping token c (office, answer)).0 ≡ office
keeping_nothing None c office answer e = refl
keeping_nothing (Some token) c office (Err other) e = refl
keeping_nothing (Some token) c office (Ok NothingDue) e = refl
keeping_nothing (Some token) c office (Ok reply) e = absurd cc

-- a refused command leaves the office, whatever token it carries
pub with_refused : (t : ℕ) (token : Token) (c : Command) (p : Office) (refusal : Refusal) → (step_with t token c p).1 ≡ Err refusal → (step_with t token c p).0 ≡ p
with_refused t token c p refusal e = by (kept_for token p) refl where
  by : (o : Option KeptReply) → kept_for token p ≡ o → (step_with t token c p).0 ≡ p
  by (Some kept) is = ap (λ (x : Office × Answer). x.0) (step_kept t token c p kept is)
  by None is =
      let new = step_new t token c p is in
      let told = sym (keeping_told token c (step t c p)) ∙ sym (ap (λ (x : Office × Answer). x.1) new) ∙ e in
      ap (λ (x : Office × Answer). x.0) new ∙ keeping_refused token c (step t c p).0 (step t c p).1 refusal told ∙ step_refused t c p refusal told

-- and so does an act that found nothing due, where the token is new
pub with_nothing : (t : ℕ) (token : Token) (c : Command) (p : Office) → kept_for token p ≡ None → (step_with t token c p).1 ≡ Ok NothingDue → (step_with t token c p).0 ≡ p
with_nothing t token c p new e =
    let is = step_new t token c p new in
    let told = sym (keeping_told token c (step t c p)) ∙ sym (ap (λ (x : Office × Answer). x.1) is) ∙ e in
    ap (λ (x : Office × Answer). x.0) is ∙ keeping_nothing token c (step t c p).0 (step t c p).1 told ∙ step_nothing t c p told

-- ---- what an answer tells

-- the office after and the answer are those expected, or memory is wanting and the office is as before
abbrev pub IsStep : Office × Result Reply Refusal → Office → Office → Result Reply Refusal → Type 0
IsStep expected before after result = ((after, result) ≡ expected) ⊎ ((result ≡ Err NoMemory) × (after ≡ before))

-- a reply is the step's
pub step_of : (x : Office × Answer) (p q : Office) (reply : Reply) → IsStep x p q (Ok reply) → x ≡ (q, Ok reply)
step_of x p q reply (inl same) = sym same
step_of x p q reply (inr wanting) = absurd (no_reply reply NoMemory wanting.0)

-- a refusal is the step's, unless memory is wanting
pub refusal_of : (x : Office × Answer) (p q : Office) (refusal : Refusal) → (refusal ≡ NoMemory → ⊥) → IsStep x p q (Err refusal) → x ≡ (q, Err refusal)
refusal_of x p q refusal other (inl same) = sym same
refusal_of x p q refusal other (inr wanting) = absurd (other (refusal_is refusal NoMemory wanting.0))

-- a refused command does not change the office, also if memory ran out
pub kept_by : (t : ℕ) (token : Token) (c : Command) (p q : Office) (refusal : Refusal) → IsStep (step_with t token c p) p q (Err refusal) → q ≡ p
kept_by t token c p q refusal (inl same) =
    ap (λ (x : Office × Answer). x.0) same ∙ with_refused t token c p refusal (sym (ap (λ (x : Office × Answer). x.1) same))
kept_by t token c p q refusal (inr wanting) = wanting.1

-- every reply but that nothing is due is that of an accepted command
pub accepted_reply : (reply : Reply) → (reply ≡ NothingDue → ⊥) → is_accepted (Ok reply) ≡ true
accepted_reply NothingDue other = absurd (other refl)
accepted_reply reply other = refl

-- a command that was done is accepted, where its token is new
pub accepted_by : (p q : Office) (e : Entry) (reply : Reply) → is_accepted (Ok reply) ≡ true → is_not_before p.last e.moment ≡ true → kept_for e.token p ≡ None
    → IsStep (step_with e.moment e.token e.command p) p q (Ok reply) → accept p e ≡ Some q
unfolding accept
accepted_by p q e reply made later new is = rw (later, new, step_of (step_with e.moment e.token e.command p) p q reply is, made) refl

-- a command that was refused, but not because memory ran out, is not accepted
pub refused_by : (p q : Office) (e : Entry) (refusal : Refusal) → (refusal ≡ NoMemory → ⊥) → IsStep (step_with e.moment e.token e.command p) p q (Err refusal)
    → (accept p e ≡ None) × (q ≡ p)
unfolding accept
refused_by p q e refusal other is = (
  rw (refusal_of (step_with e.moment e.token e.command p) p q refusal other is, and-false (is_not_before p.last e.moment && is_new e.token p)) refl,
  kept_by e.moment e.token e.command p q refusal is,
)

-- an act that found nothing due is not accepted
pub nothing_by : (p q : Office) (e : Entry) → kept_for e.token p ≡ None → IsStep (step_with e.moment e.token e.command p) p q (Ok NothingDue) → (accept p e ≡ None) × (q ≡ p)
unfolding accept
nothing_by p q e new is =
    let told = step_of (step_with e.moment e.token e.command p) p q NothingDue is in (
      rw (told, and-false (is_not_before p.last e.moment && is_new e.token p)) refl,
      sym (ap (λ (x : Office × Answer). x.0) told) ∙ with_nothing e.moment e.token e.command p new (ap (λ (x : Office × Answer). x.1) told),
    )

-- an entry of an earlier moment is not accepted
pub early_refused : (p : Office) (e : Entry) → is_not_before p.last e.moment ≡ false → accept p e ≡ None
unfolding accept
early_refused p e early = rw early refl

-- nor is one whose token is not new
pub again_refused : (p : Office) (e : Entry) (kept : KeptReply) → kept_for e.token p ≡ Some kept → accept p e ≡ None
unfolding accept
again_refused p e kept is = rw (is, and-false (is_not_before p.last e.moment)) refl

-- what an accepted entry was: at a moment that is not before the last one, with a token that is new, and accepted
pub record WasAccepted (p q : Office) (e : Entry) : Type 0 where
  pub later : is_not_before p.last e.moment ≡ true
  pub new : kept_for e.token p ≡ None
  pub made : is_accepted (step e.moment e.command p).1 ≡ true
  pub is : keeping e.token e.command (step e.moment e.command p) ≡ (q, (step e.moment e.command p).1)

none_is : {X : Type 0} (o : Option X) → is_none o ≡ true → o ≡ None
none_is None e = refl
none_is (Some x) e = absurd cc

pub accepted_was : (p q : Office) (e : Entry) → accept p e ≡ Some q → WasAccepted p q e
unfolding accept
accepted_was p q e is =
    by (is_not_before p.last e.moment) (is_new e.token p) (is_accepted (step_with e.moment e.token e.command p).1) refl refl refl is where
      by : (a b c : Bool) → is_not_before p.last e.moment ≡ a → is_new e.token p ≡ b → is_accepted (step_with e.moment e.token e.command p).1 ≡ c
          → cond (a && b && c) (Some (step_with e.moment e.token e.command p).0) None ≡ Some q → WasAccepted p q e
      by true true true later fresh made h =
          let new = none_is (kept_for e.token p) fresh in
          let same = step_new e.moment e.token e.command p new in
          let told = ap (λ (x : Office × Answer). x.1) same ∙ keeping_told e.token e.command (step e.moment e.command p) in
          let next : (step_with e.moment e.token e.command p).0 ≡ q = cc in
          record {
            later = later;
            new = new;
            made = ap is_accepted (sym told) ∙ made;
            is = λ i. ((sym (ap (λ (x : Office × Answer). x.0) same) ∙ next) i, keeping_told e.token e.command (step e.moment e.command p) i);
          }
      by false b c later fresh made h = absurd cc
      by true false c later fresh made h = absurd cc
      by true true false later fresh made h = absurd cc

-- ---- runs

run_from-push : (p : Option Office) (entries : List Entry) (e : Entry) → run_from p (entries ++ e ∷ []) ≡ option_and_then (λ office. accept office e) (run_from p entries)
run_from-push p [] e = refl
run_from-push p (first ∷ entries) e = run_from-push (option_and_then (λ office. accept office first) p) entries e

pub run-push : (entries : List Entry) (e : Entry) → run (entries ++ e ∷ []) ≡ option_and_then (λ office. accept office e) (run entries)
unfolding run
run-push entries e = run_from-push (Some empty_office) entries e

pub run_more : (before : List Entry) (e : Entry) (p q : Office) → run before ≡ Some p → accept p e ≡ Some q → run (before ++ e ∷ []) ≡ Some q
run_more before e p q is ok = run-push before e ∙ ap (λ (o : Option Office). option_and_then (λ office. accept office e) o) is ∙ ok

pub run_none : run [] ≡ Some empty_office
unfolding run
run_none = refl
