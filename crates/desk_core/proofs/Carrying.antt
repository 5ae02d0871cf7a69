-- What the entries of a journal may carry: tokens with commands that take one, and sizes up to the largest.
use Rattle.std.proofs.Common.{◌≡◌, ℕ, zero, suc, ◌-◌, ◌≤◌, true, List, [], ◌∷◌, ◌++◌, length, drop, refl, sym, subst, Option, Some, None}
use Rattle.std.specs.List.{AllByRecursion}
use Rattle.std.proofs.lemmas.Bool.{and_parts, leb-true}
use Rattle.std.proofs.lemmas.Option.{same_Some}
use Rattle.office_base.specs.Sizes.{largest_size}
use Rattle.office_types.specs.declared.command.Command.{Command}
use Rattle.office_types.specs.declared.command.Command.TheVariants as command
use Rattle.office_types.specs.declared.command.Entry.{Entry}
use Rattle.office_types.specs.declared.kept.Kept.{Kept}
use Rattle.office_types.specs.Tokens.{takes_token, MayCarry}
use Rattle.kept_replies.specs.Queue.{IsTold}
use Rattle.plain_office.specs.Office.{Office, KeptReply, empty_office}
use Rattle.plain_office.specs.Once.{most_kept}
use Rattle.plain_office.specs.Orderly.{SizeFits}
use Rattle.plain_office.specs.Run.{accept, run_from}
use Rattle.plain_office.proofs.Runs.{Token}
use Rattle.office_laws.proofs.Replies.{KeptBy, kept_by}
use Rattle.office_laws.proofs.Runs.{none_from}
use Rattle.office_laws.specs.Commands.{SizesFit}
use Rattle.office_snapshot.specs.Snapshots.{replies_of}
use Rattle.office_snapshot.specs.Restorable.{IsKept}
use Rattle.entry_codec.specs.Fields.{Size, format}
use Rattle.entry_codec.specs.Spelling.{CommandFits, EntryFits}
use Rattle.desk_core.specs.Offices.{TakeTokens}

-- ---- kept replies

takes_more : (kept : List KeptReply) (one : KeptReply) → TakeTokens kept → takes_token one.command ≡ true → TakeTokens (kept ++ one ∷ [])
takes_more [] one all takes = (takes, tt)
takes_more (first ∷ kept) one all takes = (all.0, takes_more kept one all.1 takes)

takes_drop : (n : ℕ) (kept : List KeptReply) → TakeTokens kept → TakeTokens (drop n kept)
takes_drop zero kept all = all
takes_drop (suc n) [] all = tt
takes_drop (suc n) (first ∷ kept) all = takes_drop n kept all.1

takes_by : (p q : Office) (e : Entry) (token : Token) → MayCarry token e.command → TakeTokens p.kept → KeptBy p q e token → TakeTokens q.kept
takes_by p q e None carries all k = subst TakeTokens (sym k) all
takes_by p q e (Some token) carries all k =
    let one : KeptReply = record { token = token; command = e.command; reply = k.0 } in
    subst TakeTokens (sym k.2) (takes_drop (length (p.kept ++ one ∷ []) - most_kept) (p.kept ++ one ∷ []) (takes_more p.kept one all carries))

-- an office keeps replies of commands that take a token, if it did so before these entries
pub takes_from : (entries : List Entry) (p q : Office) → AllByRecursion EntryFits entries → TakeTokens p.kept → run_from (Some p) entries ≡ Some q → TakeTokens q.kept
takes_from [] p q each all is = subst (λ (o : Office). TakeTokens o.kept) (same_Some p q is) all
takes_from (e ∷ entries) p q each all is = by (accept p e) refl is (λ next. takes_from entries next q each.1) where
  by : (o : Option Office) → accept p e ≡ o → run_from o entries ≡ Some q → ((next : Office) → TakeTokens next.kept → run_from (Some next) entries ≡ Some q → TakeTokens q.kept) → TakeTokens q.kept
  by None was runs more = absurd (none_from entries q runs)
  by (Some next) was runs more = more next (takes_by p next e e.token each.0.carries all (kept_by p next e was)) runs

pub takes_none : TakeTokens empty_office.kept
takes_none = tt

-- ---- what is kept of them

-- as much of what a snapshot keeps
pub takes_shown : (kept : List Kept) → AllByRecursion IsKept kept → TakeTokens (replies_of kept)
takes_shown [] all = tt
takes_shown (one ∷ kept) all = (all.0.takes, takes_shown kept all.1)

pub takes_kept : (kept : List Kept) → TakeTokens (replies_of kept) → AllByRecursion (λ (one : Kept). takes_token one.command ≡ true) kept
takes_kept [] all = tt
takes_kept (one ∷ kept) all = (all.0, takes_kept kept all.1)

pub are_kept : (kept : List Kept) → TakeTokens (replies_of kept) → AllByRecursion IsTold kept → AllByRecursion IsKept kept
are_kept [] all told = tt
are_kept (one ∷ kept) all told = (record { takes = all.0; marker = told.0.marker; told = told.0.told }, are_kept kept all.1 told.1)

-- ---- sizes

size_small : (size : ℕ) → (format Size).has size ≡ true → size ≤ largest_size
unfolding format
size_small size has = leb-true size largest_size (and_parts _ _ has).1

fit_size : (c : Command) → CommandFits c → SizeFits c
fit_size (command.Put bucket key size class tags) fits = size_small size (and_parts _ _ (and_parts _ _ (and_parts _ _ fits.values).1).1).0
fit_size c fits = tt

pub sizes_fit : (entries : List Entry) → AllByRecursion EntryFits entries → SizesFit entries
sizes_fit [] each = tt
sizes_fit (e ∷ entries) each = (fit_size e.command each.0.command, sizes_fit entries each.1)
