-- How long replies are kept in a run.
use Rattle.std.proofs.Common.{◌≡◌, ℕ, zero, suc, ◌+◌, ◌-◌, ◌≤◌, ◌<◌, List, [], ◌∷◌, ◌++◌, length, drop, refl, ap, sym, ◌∙◌, subst, Bool, true, false, cond, arith, Option, Some, None, Ok, Err}
use Rattle.std.proofs.Common.{append_assoc}
use Rattle.std.proofs.lemmas.Bool.{ltb-true, ltb-false}
use Rattle.std.proofs.lemmas.List.{length-append, drop-append-le, append-nil}
use Rattle.std.specs.List.{AllByRecursion}
use Rattle.std.proofs.lemmas.List.Sums.{sum_by-cons}
use Rattle.std.proofs.lemmas.Option.{same_Some}
use Rattle.std.specs.Prelude.{option_and_then, ltb}
use Rattle.std.specs.Str.{bytes_eq}
use Rattle.office_types.specs.Commands.{kind_of, same_command}
use Rattle.office_types.specs.Tokens.{takes_token}
use Rattle.office_types.proofs.Sameness.{same_is, same_self}
use Rattle.office_types.specs.declared.command.Command.{Command}
use Rattle.office_types.specs.declared.command.Entry.{Entry}
use Rattle.office_types.specs.declared.reply.Reply.{Reply}
use Rattle.office_types.specs.declared.reply.Reply.TheVariants.{NothingDue}
use Rattle.office_types.specs.declared.refusal.Refusal.TheVariants.{TokenReused}
use Rattle.plain_office.specs.Office.{Office, KeptReply, empty_office}
use Rattle.plain_office.specs.Once.{most_kept, with_reply, kept_at, kept_for, keeping, step_with}
use Rattle.plain_office.specs.Orderly.{TokensDiffer, AreKept}
use Rattle.plain_office.specs.Run.{accept, run_from, run}
use Rattle.plain_office.specs.Step.{step, is_accepted}
use Rattle.plain_office.proofs.Runs.{Token, Answer, step_new, step_kept, keeping_told, accepted_was, run_more}
use Rattle.office_laws.specs.Tokens.{carries_other, other_tokens, IsReplyIn}
use Rattle.office_laws.proofs.Lists.{every_weaker}
use Rattle.office_laws.proofs.Maps.{bytes_same, bytes_itself}
use Rattle.office_laws.proofs.Once.{step_leaves_kept, kept_more}
use Rattle.office_laws.proofs.Runs.{none_from}

-- ---- what is kept of an accepted entry

abbrev one_reply : List ℕ → Command → Reply → KeptReply
one_reply token c reply = record { token = token; command = c; reply = reply }

-- nothing without a token, else its reply
abbrev pub KeptBy : Office → Office → Entry → Token → Type 0
KeptBy p q e None = q.kept ≡ p.kept
KeptBy p q e (Some token) =
    (reply : Reply) × ((step e.moment e.command p).1 ≡ Ok reply)
    × (q.kept ≡ with_reply (one_reply token e.command reply) p.kept) × (kept_at token p.kept ≡ None)

kept_of_reply : (token : List ℕ) (c : Command) (office q : Office) (kept : List KeptReply) (answer answered : Answer) → office.kept ≡ kept → is_accepted answer ≡ true
    → keeping (Some token) c (office, answer) ≡ (q, answered)
    → (reply : Reply) × (answer ≡ Ok reply) × (q.kept ≡ with_reply (one_reply token c reply) kept)
kept_of_reply token c office q kept (Err refusal) answered same made is = absurd cc
kept_of_reply token c office q kept (Ok NothingDue) answered same made is = absurd cc
kept_of_reply token c office q kept (Ok reply) answered same made is =
    (reply, refl, sym (ap (λ (x : Office × Answer). x.0.kept) is) ∙ ap (with_reply (one_reply token c reply)) same)

pub kept_by : (p q : Office) (e : Entry) → accept p e ≡ Some q → KeptBy p q e e.token
kept_by p q e is = by e.token (accepted_was p q e is).new (accepted_was p q e is).made (accepted_was p q e is).is where
  by : (token : Token) → kept_for token p ≡ None → is_accepted (step e.moment e.command p).1 ≡ true
      → keeping token e.command (step e.moment e.command p) ≡ (q, (step e.moment e.command p).1) → KeptBy p q e token
  by None new made same = sym (ap (λ (x : Office × Answer). x.0.kept) same) ∙ step_leaves_kept p e.moment e.command
  by (Some token) new made same =
      let one = kept_of_reply token e.command (step e.moment e.command p).0 q p.kept (step e.moment e.command p).1 (step e.moment e.command p).1 (step_leaves_kept p e.moment e.command) made same in
      (one.0, one.1, one.2, new)

-- ---- every run keeps them in order

are_kept_by : (p q : Office) (e : Entry) (token : Token) → AreKept p.kept → KeptBy p q e token → AreKept q.kept
are_kept_by p q e None are k = subst AreKept (sym k) are
are_kept_by p q e (Some token) are k = subst AreKept (sym k.2) (kept_more (one_reply token e.command k.0) p.kept are k.3)

pub are_kept_from : (entries : List Entry) (p q : Office) → AreKept p.kept → run_from (Some p) entries ≡ Some q → AreKept q.kept
are_kept_from [] p q are is = subst (λ (o : Office). AreKept o.kept) (same_Some p q is) are
are_kept_from (e ∷ entries) p q are is = by (accept p e) refl is (λ next. are_kept_from entries next q) where
  by : (o : Option Office) → accept p e ≡ o → run_from o entries ≡ Some q → ((next : Office) → AreKept next.kept → run_from (Some next) entries ≡ Some q → AreKept q.kept) → AreKept q.kept
  by None was runs more = absurd (none_from entries q runs)
  by (Some next) was runs more = more next (are_kept_by p next e e.token are (kept_by p next e was)) runs

none_kept : AreKept []
none_kept = record { few = omega arith; differ = tt }

pub are_kept : (entries : List Entry) (p : Office) → run entries ≡ Some p → AreKept p.kept
unfolding run
are_kept entries p is = are_kept_from entries empty_office p none_kept is

-- ---- found among them

-- what stands there is found, where no two have one token
found_there : (front back : List KeptReply) (one : KeptReply) → TokensDiffer (front ++ one ∷ back) → kept_at one.token (front ++ one ∷ back) ≡ Some one
found_there [] back one differ = let same = bytes_itself one.token in rw same refl
found_there (first ∷ front) back one differ = by (bytes_eq one.token first.token) refl (found_there front back one differ.1) where
  by : (b : Bool) → bytes_eq one.token first.token ≡ b → kept_at one.token (front ++ one ∷ back) ≡ Some one → kept_at one.token (first ∷ front ++ one ∷ back) ≡ Some one
  by false is more = rw is more
  by true is more =
      let same = bytes_same one.token first.token is in
      absurd (let none : kept_at one.token (front ++ one ∷ back) ≡ None = ap (λ (t : List ℕ). kept_at t (front ++ one ∷ back)) same ∙ differ.0 in cc)

-- ---- how long they stand

-- the reply is among the kept ones, with this many newer ones after it
pub record IsKeptWith (one : KeptReply) (newer : ℕ) (kept : List KeptReply) : Type 0 where
  pub front : List KeptReply
  pub back : List KeptReply
  pub there : kept ≡ front ++ one ∷ back
  pub count : length back ≡ newer

kept_found : (one : KeptReply) (newer : ℕ) (kept : List KeptReply) → AreKept kept → IsKeptWith one newer kept → kept_at one.token kept ≡ Some one
kept_found one newer kept are is =
    ap (kept_at one.token) is.there ∙ found_there is.front is.back one (subst TokensDiffer is.there are.differ)

-- one that was just kept
kept_last : (one : KeptReply) (kept : List KeptReply) → length kept ≤ most_kept → IsKeptWith one 0 (with_reply one kept)
kept_last one kept few =
    let all = length-append kept (one ∷ []) in
    let n : ℕ = length (kept ++ one ∷ []) - most_kept in
    let short : n ≤ length kept = omega (arith, all, few) in
    record { front = drop n kept; back = []; there = drop-append-le n kept (one ∷ []) short; count = refl }

-- another one is kept behind it
kept_on : (one other : KeptReply) (newer : ℕ) (kept : List KeptReply) → newer + 1 < most_kept → IsKeptWith one newer kept → IsKeptWith one (newer + 1) (with_reply other kept)
kept_on one other newer kept few is =
    let rest : List KeptReply = one ∷ is.back ++ other ∷ [] in
    let whole : kept ++ other ∷ [] ≡ is.front ++ rest = ap (λ (l : List KeptReply). l ++ other ∷ []) is.there ∙ append_assoc is.front (one ∷ is.back) (other ∷ []) in
    let n : ℕ = length (kept ++ other ∷ []) - most_kept in
    let long = ap length whole in
    let split = length-append is.front rest in
    let tail = length-append is.back (other ∷ []) in
    let short : n ≤ length is.front = omega (arith, long, split, tail, few, is.count) in
    record {
      front = drop n is.front;
      back = is.back ++ other ∷ [];
      there = ap (drop n) whole ∙ drop-append-le n is.front rest short;
      count = omega (arith, tail, is.count);
    }

-- a token that is new is another one
other_token : (one : KeptReply) (token : List ℕ) (kept : List KeptReply) → kept_at one.token kept ≡ Some one → kept_at token kept ≡ None → bytes_eq one.token token ≡ false
other_token one token kept found new = by (bytes_eq one.token token) refl where
  by : (b : Bool) → bytes_eq one.token token ≡ b → b ≡ false
  by false is = refl
  by true is = absurd (let same : kept_at token kept ≡ Some one = sym (ap (λ (t : List ℕ). kept_at t kept) (bytes_same one.token token is)) ∙ found in cc)

-- ---- in a run

first_some : (p q : Office) (e : Entry) (entries : List Entry) → run_from (Some p) (e ∷ entries) ≡ Some q → (next : Office) × (accept p e ≡ Some next) × (run_from (Some next) entries ≡ Some q)
first_some p q e entries is = by (accept p e) refl is where
  by : (o : Option Office) → accept p e ≡ o → run_from o entries ≡ Some q → (next : Office) × (accept p e ≡ Some next) × (run_from (Some next) entries ≡ Some q)
  by None was runs = absurd (none_from entries q runs)
  by (Some next) was runs = (next, was, runs)

carries : (token other : List ℕ) (e : Entry) → e.token ≡ Some other → bytes_eq token other ≡ false → carries_other token e ≡ true
carries token other e is apart = rw (is, apart) refl

carries_none : (token : List ℕ) (e : Entry) → e.token ≡ None → carries_other token e ≡ false
carries_none token e is = rw is refl

count_more : (token : List ℕ) (e : Entry) (entries : List Entry) (b : Bool) → carries_other token e ≡ b → other_tokens token (e ∷ entries) ≡ cond b 1 0 + other_tokens token entries
count_more token e entries b is =
    sum_by-cons (λ (one : Entry). cond (carries_other token one) 1 0) e entries ∙ ap (λ (c : Bool). cond c 1 0 + other_tokens token entries) is

held : (one : KeptReply) (entries : List Entry) (p q : Office) (newer : ℕ) → AreKept p.kept → IsKeptWith one newer p.kept → newer + other_tokens one.token entries < most_kept
    → run_from (Some p) entries ≡ Some q → IsKeptWith one (newer + other_tokens one.token entries) q.kept
held one [] p q newer are is few runs =
    let zero_more : newer ≡ newer + other_tokens one.token [] = omega arith in
    subst (λ (n : ℕ). IsKeptWith one n q.kept) zero_more (subst (λ (o : Office). IsKeptWith one newer o.kept) (same_Some p q runs) is)
held one (e ∷ entries) p q newer are is few runs =
    let next = first_some p q e entries runs in
    let kept = kept_by p next.0 e next.1 in
    by next.0 e.token refl kept (λ n now less. held one entries next.0 q n (are_kept_by p next.0 e e.token are kept) now less next.2)
  where
    by : (next : Office) (token : Token) → e.token ≡ token → KeptBy p next e token
        → ((n : ℕ) → IsKeptWith one n next.kept → n + other_tokens one.token entries < most_kept → IsKeptWith one (n + other_tokens one.token entries) q.kept)
        → IsKeptWith one (newer + other_tokens one.token (e ∷ entries)) q.kept
    by next None none same more =
        let count = count_more one.token e entries false (carries_none one.token e none) in
        let equal : newer + other_tokens one.token entries ≡ newer + other_tokens one.token (e ∷ entries) = omega (arith, count) in
        subst (λ (n : ℕ). IsKeptWith one n q.kept) equal (more newer (subst (IsKeptWith one newer) (sym same) is) (omega (arith, equal, few)))
    by next (Some token) some kept more =
        let apart = other_token one token p.kept (kept_found one newer p.kept are is) kept.3 in
        let count = count_more one.token e entries true (carries one.token token e some apart) in
        let equal : (newer + 1) + other_tokens one.token entries ≡ newer + other_tokens one.token (e ∷ entries) = omega (arith, count) in
        let room : newer + 1 < most_kept = omega (arith, equal, few) in
        subst (λ (n : ℕ). IsKeptWith one n q.kept) equal
        (more (newer + 1) (subst (IsKeptWith one (newer + 1)) (sym kept.2) (kept_on one (one_reply token e.command kept.0) newer p.kept room is)) (omega (arith, equal, few)))

-- ---- the laws

pub again : (t : ℕ) (token : List ℕ) (c : Command) (p : Office) (kept : KeptReply) → takes_token c ≡ true → kept_at token p.kept ≡ Some kept → kept.command ≡ c
    → step_with t (Some token) c p ≡ (p, Ok kept.reply)
again t token c p kept takes found is =
    let same : same_command kept.command c ≡ true = subst (λ (d : Command). same_command d c ≡ true) (sym is) (same_self c takes) in
    step_kept t (Some token) c p kept found ∙ rw same refl

pub reused : (t : ℕ) (token : List ℕ) (c : Command) (p : Office) (kept : KeptReply) → kept_at token p.kept ≡ Some kept → (kept.command ≡ c → ⊥)
    → step_with t (Some token) c p ≡ (p, Err (TokenReused (kind_of kept.command)))
reused t token c p kept found other = by (same_command kept.command c) refl where
  by : (b : Bool) → same_command kept.command c ≡ b → step_with t (Some token) c p ≡ (p, Err (TokenReused (kind_of kept.command)))
  by true is = absurd (other (same_is kept.command c is))
  by false is = step_kept t (Some token) c p kept found ∙ rw is refl

from_some : (o : Option Office) (entries : List Entry) (p : Office) → run_from o entries ≡ Some p → (q : Office) × (o ≡ Some q)
from_some None entries p is = absurd (none_from entries p is)
from_some (Some q) entries p is = (q, refl)

run_parts : (o : Option Office) (front back : List Entry) → run_from o (front ++ back) ≡ run_from (run_from o front) back
run_parts o [] back = refl
run_parts o (e ∷ front) back = run_parts (option_and_then (λ (office : Office). accept office e) o) front back

-- a reply that is kept by an entry stands there with none newer
just_kept : (p q : Office) (e : Entry) (token : List ℕ) → AreKept p.kept → e.token ≡ Some token → accept p e ≡ Some q
    → (reply : Reply) × ((step e.moment e.command p).1 ≡ Ok reply) × IsKeptWith (one_reply token e.command reply) 0 q.kept
just_kept p q e token are has is =
    let kept = subst (KeptBy p q e) has (kept_by p q e is) in
    (kept.0, kept.1, subst (IsKeptWith (one_reply token e.command kept.0) 0) (sym kept.2) (kept_last (one_reply token e.command kept.0) p.kept are.few))

pub acts_once : (history later : List Entry) (e : Entry) (token : List ℕ) (p q r : Office) (reply : Reply) (t : ℕ)
    → run history ≡ Some p → accept p e ≡ Some q → e.token ≡ Some token → takes_token e.command ≡ true
    → (step_with e.moment e.token e.command p).1 ≡ Ok reply
    → run_from (Some q) later ≡ Some r → other_tokens token later < most_kept
    → step_with t (Some token) e.command r ≡ (r, Ok reply)
acts_once history later e token p q r reply t runs was has takes told runs_later few =
    let are = are_kept history p runs in
    let kept = just_kept p q e token are has was in
    let are_q = are_kept_by p q e e.token are (kept_by p q e was) in
    let one : KeptReply = one_reply token e.command kept.0 in
    let less : 0 + other_tokens token later < most_kept = omega (arith, few) in
    let stands = held one later q r 0 are_q kept.2 less runs_later in
    let found = kept_found one (0 + other_tokens token later) r.kept (are_kept_from later q r are_q runs_later) stands in
    let new = (accepted_was p q e was).new in
    let first : (step e.moment e.command p).1 ≡ Ok reply =
    sym (ap (λ (x : Office × Answer). x.1) (step_new e.moment e.token e.command p new) ∙ keeping_told e.token e.command (step e.moment e.command p)) ∙ told in
    let same : kept.0 ≡ reply = let both : Ok kept.0 ≡ Ok reply = sym kept.1 ∙ first in cc in
    again t token e.command r one takes found refl ∙ ap (λ (x : Reply). (r, Ok x)) same

pub apart : (front middle back : List Entry) (first next : Entry) (token : List ℕ) (p : Office)
    → run (front ++ first ∷ middle ++ next ∷ back) ≡ Some p → first.token ≡ Some token → next.token ≡ Some token → most_kept ≤ other_tokens token middle
unfolding run
apart front middle back first next token p runs has_first has_next =
    let whole = sym (run_parts (Some empty_office) (front ++ first ∷ middle) (next ∷ back)) ∙ runs in
    let r = from_some (run_from (Some empty_office) (front ++ first ∷ middle)) (next ∷ back) p whole in
    let parts = sym (run_parts (Some empty_office) front (first ∷ middle)) ∙ r.1 in
    let p0 = from_some (run_from (Some empty_office) front) (first ∷ middle) r.0 parts in
    let p1 = first_some p0.0 r.0 first middle (ap (λ (o : Option Office). run_from o (first ∷ middle)) (sym p0.1) ∙ parts) in
    let r1 = first_some r.0 p next back (ap (λ (o : Option Office). run_from o (next ∷ back)) (sym r.1) ∙ whole) in
    let are = are_kept_from front empty_office p0.0 none_kept p0.1 in
    let are_1 = are_kept_by p0.0 p1.0 first first.token are (kept_by p0.0 p1.0 first p1.1) in
    let kept = just_kept p0.0 p1.0 first token are has_first p1.1 in
    let are_r = are_kept_from middle p1.0 r.0 are_1 p1.2 in
    let new = (subst (KeptBy r.0 r1.0 next) has_next (kept_by r.0 r1.0 next r1.1)).3 in
    by p1.0 r.0 (one_reply token first.command kept.0) refl are_1 are_r kept.2 p1.2 new (ltb (other_tokens token middle) most_kept) refl
  where
    by : (p1 r : Office) (one : KeptReply) → one.token ≡ token → AreKept p1.kept → AreKept r.kept → IsKeptWith one 0 p1.kept → run_from (Some p1) middle ≡ Some r → kept_at token r.kept ≡ None
        → (b : Bool) → ltb (other_tokens token middle) most_kept ≡ b → most_kept ≤ other_tokens token middle
    by p1 r one has are_1 are_r kept runs new false is = ltb-false (other_tokens token middle) most_kept is
    by p1 r one has are_1 are_r kept runs new true is =
        let less : 0 + other_tokens one.token middle < most_kept = subst (λ (t : List ℕ). 0 + other_tokens t middle < most_kept) (sym has) (let l = ltb-true (other_tokens token middle) most_kept is in omega (arith, l)) in
        let found = kept_found one (0 + other_tokens one.token middle) r.kept are_r (held one middle p1 r 0 are_1 kept less runs) in
        let none : kept_at one.token r.kept ≡ None = ap (λ (t : List ℕ). kept_at t r.kept) has ∙ new in
        absurd cc

-- ---- each is the reply to an entry

still_in : (entries more : List Entry) (kept : KeptReply) → IsReplyIn entries kept → IsReplyIn (entries ++ more) kept
still_in entries more kept is = record {
  front = is.front;
  entry = is.entry;
  back = is.back ++ more;
  there = ap (λ (l : List Entry). l ++ more) is.there ∙ append_assoc is.front (is.entry ∷ is.back) more;
  before = is.before;
  run_before = is.run_before;
  token = is.token;
  command = is.command;
  reply = is.reply;
}

module _ (P : KeptReply → Type 0) where
  all_more : (xs : List KeptReply) (x : KeptReply) → AllByRecursion P xs → P x → AllByRecursion P (xs ++ x ∷ [])
  all_more [] x all one = (one, tt)
  all_more (y ∷ xs) x all one = (all.0, all_more xs x all.1 one)

  all_drop : (n : ℕ) (xs : List KeptReply) → AllByRecursion P xs → AllByRecursion P (drop n xs)
  all_drop zero xs all = all
  all_drop (suc n) [] all = tt
  all_drop (suc n) (x ∷ xs) all = all_drop n xs all.1

  all_found : (token : List ℕ) (xs : List KeptReply) (x : KeptReply) → AllByRecursion P xs → kept_at token xs ≡ Some x → P x
  all_found token [] x all is = absurd cc
  all_found token (y ∷ xs) x all is = by (bytes_eq token y.token) is (all_found token xs x all.1) where
    by : (b : Bool) → cond b (Some y) (kept_at token xs) ≡ Some x → (kept_at token xs ≡ Some x → P x) → P x
    by true is more = subst P (same_Some y x is) all.0
    by false is more = more is

replies_by : (before : List Entry) (e : Entry) (p q : Office) (token : Token) → e.token ≡ token → run before ≡ Some p → AllByRecursion (IsReplyIn before) p.kept → KeptBy p q e token
    → AllByRecursion (IsReplyIn (before ++ e ∷ [])) q.kept
replies_by before e p q None has runs all kept =
    subst (AllByRecursion (IsReplyIn (before ++ e ∷ []))) (sym kept) (every_weaker (IsReplyIn before) (IsReplyIn (before ++ e ∷ [])) (still_in before (e ∷ [])) p.kept all)
replies_by before e p q (Some token) has runs all kept =
    let one : KeptReply = one_reply token e.command kept.0 in
    let now : IsReplyIn (before ++ e ∷ []) one = record {
      front = before;
      entry = e;
      back = [];
      there = refl;
      before = p;
      run_before = runs;
      token = has;
      command = refl;
      reply = kept.1;
    } in
    let older = every_weaker (IsReplyIn before) (IsReplyIn (before ++ e ∷ [])) (still_in before (e ∷ [])) p.kept all in
    subst (AllByRecursion (IsReplyIn (before ++ e ∷ []))) (sym kept.2)
    (all_drop (IsReplyIn (before ++ e ∷ [])) (length (p.kept ++ one ∷ []) - most_kept) (p.kept ++ one ∷ []) (all_more (IsReplyIn (before ++ e ∷ [])) p.kept one older now))

replies_from : (before entries : List Entry) (p q : Office) → run before ≡ Some p → AllByRecursion (IsReplyIn before) p.kept → run_from (Some p) entries ≡ Some q
    → AllByRecursion (IsReplyIn (before ++ entries)) q.kept
replies_from before [] p q runs all is =
    subst (λ (l : List Entry). AllByRecursion (IsReplyIn l) q.kept) (sym (append-nil before)) (subst (λ (o : Office). AllByRecursion (IsReplyIn before) o.kept) (same_Some p q is) all)
replies_from before (e ∷ entries) p q runs all is =
    let next = first_some p q e entries is in
    subst (λ (l : List Entry). AllByRecursion (IsReplyIn l) q.kept) (append_assoc before (e ∷ []) entries)
    (replies_from (before ++ e ∷ []) entries next.0 q (run_more before e p next.0 runs next.1)
    (replies_by before e p next.0 e.token refl runs all (kept_by p next.0 e next.1)) next.2)

pub first_reply : (entries : List Entry) (p : Office) (token : List ℕ) (kept : KeptReply) → run entries ≡ Some p → kept_at token p.kept ≡ Some kept → IsReplyIn entries kept
unfolding run
first_reply entries p token kept runs found = all_found (IsReplyIn entries) token p.kept kept (replies_from [] entries empty_office p refl tt runs) found
