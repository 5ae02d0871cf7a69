-- The reply that shows the versions of a key, by its pieces.
use Rattle.std.proofs.Common.{◌≡◌, ◌∙◌, ℕ, ◌-◌, ◌^◌, ◌<◌, ◌≤◌, true, List, [], ◌∷◌, ◌++◌, take, drop, length, slice_index_or, map, codes, arith, refl, sym, ap, append_assoc, append-nil, length-append, Bool, ◌==◌, Some, Ok}
use Rattle.std.proofs.lemmas.Bool.{eqb-true}
use Rattle.std.proofs.lemmas.List.{take_all}
use Rattle.json.specs.Print.{quoted}
use Rattle.serde_json.specs.View.{items_of}
use Rattle.serde_json.specs.Written.{items_text}
use Rattle.moments.specs.Texts.{moment_text}
use Rattle.stacks.specs.Stacks.{StackRecord}
use Rattle.stacks.specs.declared.version.Version.{Version}
use Rattle.office_types.specs.declared.reply.Reply.TheVariants.{StackShown}
use Rattle.http_text.specs.Bodies.{noncurrent_version, version_text, versions_text}
use Rattle.http_text.specs.Pieces.{first_text, later_text, rest_text, front_text, Begins}
use Rattle.http_text.specs.Replies.{answer_text, body_text, head_text, reply_with}
use Rattle.http_text.specs.Room.{Puts}
use Rattle.http_text.proofs.LongTexts.{no_versions, versions_is, stack_is}

-- ---- texts

-- a noncurrent version, and those after it
rest_more : (v : Version) (versions : List Version) → rest_text (v ∷ versions) ≡ (codes "," ++ version_text (Some v.ceased) v) ++ rest_text versions
unfolding version_text
rest_more v versions =
    let more = items_text true (items_of (map noncurrent_version versions)) in
    append_assoc (codes ",") (version_text (Some v.ceased) v ++ more) (codes "}")
    ∙ ap (λ t. codes "," ++ t) (append_assoc (version_text (Some v.ceased) v) more (codes "}"))
    ∙ sym (append_assoc (codes ",") (version_text (Some v.ceased) v) (rest_text versions))

pub rest_by_place : (versions : List Version) (d v : Version) → 1 ≤ length versions → v ≡ slice_index_or versions 0 d
    → rest_text versions ≡ (codes "," ++ version_text (Some v.ceased) v) ++ rest_text (take (length versions - 1) (drop 1 versions))
rest_by_place [] d v some is = absurd (omega (arith, some))
rest_by_place (first ∷ versions) d v some is =
    rest_more first versions
    ∙ ap (λ (c : Version). (codes "," ++ version_text (Some c.ceased) c) ++ rest_text versions) (sym is)
    ∙ ap (λ (vs : List Version). (codes "," ++ version_text (Some v.ceased) v) ++ rest_text vs)
    (sym (take_all (length (first ∷ versions) - 1) versions (omega arith)))

pub rest_shorter : (versions : List Version) → 1 ≤ length versions → length (take (length versions - 1) (drop 1 versions)) < length versions
rest_shorter [] some = absurd (omega (arith, some))
rest_shorter (v ∷ versions) some = omega (arith, ap length (take_all (length (v ∷ versions) - 1) versions (omega arith)))

versions_parts : (versions : List Version) → (codes "[" ++ first_text versions) ++ later_text (drop 1 versions) ≡ versions_text versions
versions_parts [] = no_versions [] (omega arith)
versions_parts (current ∷ noncurrent) = versions_is current noncurrent

-- the body is its front, the noncurrent versions and the end
pub body_parts : (key : List ℕ) (stack : StackRecord) → front_text key stack ++ rest_text (drop 1 stack.versions) ≡ body_text (Ok (StackShown key stack))
body_parts key stack =
    let changed = codes "{\"changed\":" ++ quoted (moment_text stack.changed) in
    let list = codes "[" ++ first_text stack.versions in
    let rest = rest_text (drop 1 stack.versions) in
    let later = later_text (drop 1 stack.versions) in
    let versions : list ++ rest ≡ versions_text stack.versions ++ codes "}" =
    sym (append_assoc list later (codes "}")) ∙ ap (λ t. t ++ codes "}") (versions_parts stack.versions) in
    append_assoc changed (codes ",\"key\":" ++ (quoted key ++ (codes ",\"versions\":" ++ list))) rest
    ∙ ap (λ t. changed ++ (codes ",\"key\":" ++ t)) (append_assoc (quoted key) (codes ",\"versions\":" ++ list) rest)
    ∙ ap (λ t. changed ++ (codes ",\"key\":" ++ (quoted key ++ (codes ",\"versions\":" ++ t)))) versions
    ∙ stack_is key stack

pub reply_parts : (key : List ℕ) (stack : StackRecord) (size : ℕ) → size ≡ length (body_text (Ok (StackShown key stack)))
    → head_text 200 size ++ body_text (Ok (StackShown key stack)) ≡ answer_text (Ok (StackShown key stack))
unfolding body_text reply_with
reply_parts key stack size is = ap (λ (n : ℕ). head_text 200 n ++ body_text (Ok (StackShown key stack))) is

-- ---- the room

-- a text that is put into no room is counted, up to the greatest u64
pub counted_below : (old new : List ℕ) (size : ℕ) (text : List ℕ) → Puts old 0 new size text → size < 2 ^ 64 - 1 → size ≡ length text
counted_below old new size text puts below =
    let all = (puts [] (record { counts = refl; written = λ _. refl })).counts in
    omega (arith, all, below)

pub none_left : (none : Bool) (left : List Version) → none ≡ (length left == 0) → none ≡ true → length left ≡ 0
none_left none left is t = eqb-true (length left) 0 (sym is ∙ t)

-- nothing is written yet
pub begins_empty : (room whole : List ℕ) → Begins room 0 102_000 whole whole
begins_empty room whole = record { text = []; held = record { counts = refl; written = λ _. refl }; short = omega arith; is_whole = refl }

pub begins_front : (old new : List ℕ) (at : ℕ) (front left whole : List ℕ) → Puts old 0 new at front → length front ≤ 102_000 → front ++ left ≡ whole → Begins new at 102_000 left whole
begins_front old new at front left whole puts short is =
    record { text = front; held = puts [] (record { counts = refl; written = λ _. refl }); short = short; is_whole = is }

-- the front of the reply, and the noncurrent versions are left
pub front_begins : (old new : List ℕ) (at size : ℕ) (key : List ℕ) (stack : StackRecord) (later : List Version) → later ≡ drop 1 stack.versions
    → Puts old 0 new at (head_text 200 size ++ front_text key stack) → length (head_text 200 size ++ front_text key stack) ≤ 102_000
    → Begins new at 102_000 (rest_text later) (head_text 200 size ++ body_text (Ok (StackShown key stack)))
front_begins old new at size key stack later is puts short =
    begins_front old new at (head_text 200 size ++ front_text key stack) (rest_text later) (head_text 200 size ++ body_text (Ok (StackShown key stack))) puts short
    (append_assoc (head_text 200 size) (front_text key stack) (rest_text later)
    ∙ ap (λ t. head_text 200 size ++ t) (ap (λ (vs : List Version). front_text key stack ++ rest_text vs) is ∙ body_parts key stack))

-- one more text, in a room that is not full
pub begins_step : (old new : List ℕ) (at end : ℕ) (left item more whole : List ℕ) → at < 32_768 → left ≡ item ++ more → length item ≤ 94_100
    → Puts old at new end item → Begins old at 127_000 left whole → Begins new end 127_000 more whole
begins_step old new at end left item more whole low parts few puts begins = record {
  text = begins.text ++ item;
  held = puts begins.text begins.held;
  short = omega (arith, length-append begins.text item, begins.held.counts, begins.short, low, few);
  is_whole = append_assoc begins.text item more ∙ ap (λ t. begins.text ++ t) (sym parts) ∙ begins.is_whole;
}

-- the piece, and what is left
pub begins_piece : (room : List ℕ) (at : ℕ) (left whole : List ℕ) → 127_000 ≤ length room → Begins room at 127_000 left whole → whole ≡ take at room ++ left
begins_piece room at left whole wide begins =
    let size : at ≡ length begins.text = omega (arith, begins.held.counts, begins.short) in
    sym begins.is_whole
    ∙ ap (λ t. t ++ left) (sym (begins.held.written (omega (arith, begins.short, wide))))
    ∙ ap (λ (n : ℕ). take n room ++ left) (sym size)

pub begins_within : (room : List ℕ) (at : ℕ) (left whole : List ℕ) → 127_000 ≤ length room → Begins room at 127_000 left whole → at ≤ length room
begins_within room at left whole wide begins = omega (arith, begins.held.counts, begins.short, wide)

-- the last piece
pub begins_end : (old new : List ℕ) (at end : ℕ) (left : List Version) (whole : List ℕ) → length left ≡ 0 → 131_072 ≤ length new → Puts old at new end (codes "]}")
    → Begins old at 127_000 (rest_text left) whole → (whole ≡ take end new ++ []) × (end ≤ length new)
begins_end old new at end (v ∷ left) whole none wide puts begins = absurd (omega (arith, none))
begins_end old new at end [] whole none wide puts begins =
    let all = begins.text ++ codes "]}" in
    let held = puts begins.text begins.held in
    let few : length all ≤ 127_002 = omega (arith, begins.short, length-append begins.text (codes "]}")) in
    let size : end ≡ length all = omega (arith, held.counts, few) in (
      sym begins.is_whole ∙ sym (held.written (omega (arith, few, wide))) ∙ ap (λ (n : ℕ). take n new) (sym size) ∙ sym (append-nil (take end new)),
      omega (arith, size, few, wide),
    )
