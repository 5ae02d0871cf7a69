-- What a command with a token gets whose reply is kept.
use Rattle.std.proofs.Common.{◌≡◌, ◌⊎◌, inl, inr, ℕ, Bool, true, false, if◌then◌else◌, List, Option, Some, None, Result, Ok, Err, refl, sym, ap, ◌∙◌, subst}
use Rattle.std.specs.Prelude.{option_map, IfSome}
use Rattle.disk_core.specs.declared.disk.Disk as disks
use Rattle.plain_office.specs.Office.{Office, KeptReply}
use Rattle.plain_office.specs.Once.{kept_at, recalled, repeated}
use Rattle.plain_office.proofs.Runs.{step_kept}
use Rattle.kept_replies.specs.Queue.{plain_reply, kept_in}
use Rattle.office_types.specs.Commands.{kind_of, same_command}
use Rattle.office_types.specs.Fits.{AnswerFits, ReplyFits}
use Rattle.office_types.specs.Kept.{reply_of, reply_told}
use Rattle.office_types.specs.Tokens.{takes_token}
use Rattle.office_types.specs.declared.command.Ask.TheVariants as ask
use Rattle.office_types.specs.declared.command.Command.{Command}
use Rattle.office_types.specs.declared.command.Command.TheVariants as command
use Rattle.office_types.specs.declared.kept.Kept.{Kept}
use Rattle.office_types.specs.declared.reply.Reply.{Reply}
use Rattle.office_types.specs.declared.refusal.Refusal.{Refusal}
use Rattle.office_types.specs.declared.refusal.Refusal.TheVariants.{NoMemory, TokenReused}
use Rattle.office_machine.specs.Once.{OfficeView, StandsFor}
use Rattle.desk_core.specs.Answers.{Answer}
use Rattle.desk_core.specs.Asked.{Asked, AsksFor}
use Rattle.desk_core.specs.Desk.{DeskView, HoldsTail}
use Rattle.desk_core.specs.Offices.{Tail}
use Rattle.desk_core.specs.Answering.{call_time, AnswersInTime}
use Rattle.desk_core.specs.Submitting.{PassesLimit, RepliesInTime}
use Rattle.desk_core.proofs.Adding.{done_of, is_made, made, replies_of}
use Rattle.desk_core.proofs.Offices.{kept_same}

-- ---- what an ask with a token asks for

abbrev once_if : List ℕ → Command → Bool → Option Asked
once_if token c b = Some (record { token = if b then Some token else None; command = c })

pub asks_with : (token : List ℕ) (c : Command) → takes_token c ≡ true → AsksFor (ask.Once token c) (Some token) c
asks_with token c takes = ap (once_if token c) takes

pub asks_without : (token : List ℕ) (c : Command) → takes_token c ≡ false → AsksFor (ask.Once token c) None c
asks_without token c takes = ap (once_if token c) takes

-- ---- each kept reply can be printed

told_fits : (t : ℕ) (marker : Bool) (told : ℕ) (c : Command) → ReplyFits (reply_told t marker told c)
unfolding reply_told
told_fits t marker told (command.CreateBucket bucket) = tt
told_fits t marker told (command.SetVersioning bucket enabled) = tt
told_fits t marker told (command.SetRules bucket rules) = tt
told_fits t marker told (command.DropRules bucket) = tt
told_fits t marker told (command.Put bucket key size class tags) = tt
told_fits t marker told (command.Delete bucket key) = tt
told_fits t marker told (command.DeleteVersion bucket key id) = tt
told_fits t marker told (command.SetTags bucket key id tags) = tt
told_fits t marker told (command.StartUpload bucket key class tags) = tt
told_fits t marker told (command.PutPart bucket upload part size) = tt
told_fits t marker told (command.Complete bucket upload) = tt
told_fits t marker told (command.Abort bucket upload) = tt
told_fits t marker told (command.Act bucket) = tt
told_fits t marker told (command.SetTariff tariff) = tt
told_fits t marker told (command.Close month) = tt

kept_fits : (o : Option Kept) (one : KeptReply) → option_map plain_reply o ≡ Some one → ReplyFits one.reply
kept_fits (Some kept) one is =
    let same : reply_of kept ≡ one.reply = cc in
    subst (λ (r : Reply). ReplyFits r) same (told_fits kept.moment kept.marker kept.told kept.command)
kept_fits None one is = absurd cc

-- ---- what is recalled

abbrev Recall : Type 0
Recall = Result (Option Reply) Refusal

-- a reply is kept, and this is the answer to the command that asks for it again
pub record IsRecalled (p : Office) (token : List ℕ) (c : Command) (reply : Result Reply Refusal) : Type 0 where
  pub one : KeptReply
  pub there : kept_at token p.kept ≡ Some one
  pub is : repeated one c ≡ reply

module _ (p : Office) (token : List ℕ) (c : Command) where
  some_reply : (one : KeptReply) (b : Bool) (reply : Reply) → same_command one.command c ≡ b → recalled (Some one) c ≡ Ok (Some reply) → repeated one c ≡ Ok reply
  some_reply one true reply same is = let told : Ok (Some one.reply) ≡ Ok (Some reply) = sym (rw same refl) ∙ is in rw same cc
  some_reply one false reply same is = absurd (let told : Err (TokenReused (kind_of one.command)) ≡ Ok (Some reply) = sym (rw same refl) ∙ is in cc)

  some_refusal : (one : KeptReply) (b : Bool) (refusal : Refusal) → same_command one.command c ≡ b → recalled (Some one) c ≡ Err refusal → repeated one c ≡ Err refusal
  some_refusal one true refusal same is = absurd (let told : Ok (Some one.reply) ≡ Err refusal = sym (rw same refl) ∙ is in cc)
  some_refusal one false refusal same is = let told : Err (TokenReused (kind_of one.command)) ≡ Err refusal = sym (rw same refl) ∙ is in rw same cc

  pub reply_recalled : (reply : Reply) → Ok (Some reply) ≡ recalled (kept_at token p.kept) c → IsRecalled p token c (Ok reply)
  reply_recalled reply is = by (kept_at token p.kept) refl where
    by : (o : Option KeptReply) → kept_at token p.kept ≡ o → IsRecalled p token c (Ok reply)
    by None none = absurd (let e : Ok (Some reply) ≡ Ok None = is ∙ ap (λ (o : Option KeptReply). recalled o c) none in cc)
    by (Some one) there = record {
      one = one;
      there = there;
      is = some_reply one (same_command one.command c) reply refl (sym (is ∙ ap (λ (o : Option KeptReply). recalled o c) there));
    }

  pub refusal_recalled : (refusal : Refusal) → Err refusal ≡ recalled (kept_at token p.kept) c → IsRecalled p token c (Err refusal)
  refusal_recalled refusal is = by (kept_at token p.kept) refl where
    by : (o : Option KeptReply) → kept_at token p.kept ≡ o → IsRecalled p token c (Err refusal)
    by None none = absurd (let e : Err refusal ≡ Ok None = is ∙ ap (λ (o : Option KeptReply). recalled o c) none in cc)
    by (Some one) there = record {
      one = one;
      there = there;
      is = some_refusal one (same_command one.command c) refusal refl (sym (is ∙ ap (λ (o : Option KeptReply). recalled o c) there));
    }

  -- what recall tells
  abbrev Told : Recall → Type 0
  Told result = (result ≡ recalled (kept_at token p.kept) c) ⊎ (result ≡ Err NoMemory)

  pub reply_told_again : (o : Option Reply) (reply : Reply) → o ≡ Some reply → Told (Ok o) → IsRecalled p token c (Ok reply)
  reply_told_again o reply same (inl is) = reply_recalled reply (ap (λ (x : Option Reply). Ok x) (sym same) ∙ is)
  reply_told_again o reply same (inr lacks) = absurd cc

  pub refusal_told_again : (refusal : Refusal) → (refusal ≡ NoMemory → ⊥) → Told (Err refusal) → IsRecalled p token c (Err refusal)
  refusal_told_again refusal other (inl is) = refusal_recalled refusal is
  refusal_told_again refusal other (inr lacks) = absurd (other cc)

  repeated_fits : (one : KeptReply) (b : Bool) → same_command one.command c ≡ b → ReplyFits one.reply → AnswerFits (repeated one c)
  repeated_fits one true same fits = rw same fits
  repeated_fits one false same fits = rw same tt

  pub recalled_fits : (view : OfficeView) → StandsFor view p → (reply : Result Reply Refusal) → IsRecalled p token c reply → AnswerFits reply
  recalled_fits view stands reply r = subst AnswerFits r.is
      (repeated_fits r.one (same_command r.one.command c) refl (kept_fits (kept_in token view.kept.queue) r.one (sym (kept_same token view p stands) ∙ r.there)))

  -- so a token that recalls something is kept in memory too
  pub is_kept : (view : OfficeView) → StandsFor view p → (reply : Result Reply Refusal) → IsRecalled p token c reply → kept_in token view.kept.queue ≡ None → ⊥
  is_kept view stands reply r none =
      let e : Some r.one ≡ None = sym r.there ∙ kept_same token view p stands ∙ ap (option_map plain_reply) none in absurd cc

-- ---- the answer, with which nothing is written

module _ {D C : Type 0} (d : disks.Ghosts D) (t number : ℕ) (token : List ℕ) (c : Command) (takes : takes_token c ≡ true) (before : Tail) where
  pub told_again : (m : ℕ) (reply : Result Reply Refusal) (said : Answer) {inside desk : DeskView D C} → inside ≡ desk → m ≡ t → said ≡ made d m number reply inside
      → ((p : Office) → StandsFor inside.office p → IsRecalled p token c reply)
      → (hold : HoldsTail d before desk) → AnswersInTime d (call_time t number) (ask.Once token c) hold.office.plain before desk inside (Ok said)
  told_again m reply said {inside} is at same recalls = subst
      (λ (desk : DeskView D C). (hold : HoldsTail d before desk) → AnswersInTime d (call_time t number) (ask.Once token c) hold.office.plain before desk inside (Ok said)) is
      (λ hold.
      let call : Asked = record { token = Some token; command = c } in
      let plain = hold.office.plain in
      let r = recalls plain hold.office.stands in
      let replied : said.reply ≡ reply = ap (λ (a : Answer). a.reply) same in (
        is_made d t m number reply inside said at same,
        done_of d call t plain before inside inside said.reply (ask.Once token c) (asks_with token c takes) (record {
          told = replied ∙ sym (ap (λ (x : Office × Result Reply Refusal). x.1) (step_kept t (Some token) c plain r.one r.there) ∙ r.is);
          fits = λ fresh. absurd (let e : Some r.one ≡ None = sym r.there ∙ fresh in cc);
          grows = inr (rw r.there refl, record { holds = hold; disk = refl });
        }),
      ))

-- ---- a full journal is told of a command alone whose token is new

pub not_passing : {D C : Type 0} (t : ℕ) (desk : DeskView D C) (token : List ℕ) (c : Command) (p : Office) (reply : Result Reply Refusal) → takes_token c ≡ true
    → StandsFor desk.office p → IsRecalled p token c reply → PassesLimit t desk (ask.Once token c) → ⊥
not_passing t desk token c p reply takes stands r passes =
    is_kept p token c desk.office stands reply r
    (subst (λ (b : Bool). IfSome (if b then Some token else None) (λ (one : List ℕ). kept_in one desk.office.kept.queue ≡ None)) takes passes.1)

-- ---- so each plain office replies that the one in memory stands for

pub so_again : (t : ℕ) (token : List ℕ) (c : Command) (takes : takes_token c ≡ true) (p : Office) (view : OfficeView) (reply : Result Reply Refusal) (said : Answer) → said.reply ≡ reply
    → StandsFor view p → IsRecalled p token c reply → RepliesInTime t (ask.Once token c) p (Ok said) view
so_again t token c takes p view reply said same stands r =
    let call : Asked = record { token = Some token; command = c } in
    let step = step_kept t (Some token) c p r.one r.there in
    replies_of t call p said.reply view (ask.Once token c) (asks_with token c takes)
    (same ∙ sym (ap (λ (x : Office × Result Reply Refusal). x.1) step ∙ r.is))
    (subst (λ (q : Office). StandsFor view q) (sym (ap (λ (x : Office × Result Reply Refusal). x.0) step)) stands)
