-- The calls of one file and its answers.
use Rattle.std.specs.Prelude.{◌≡◌, ◌++◌, ℕ, List, [], ◌∷◌, Option, Some, None, Result, Ok, Err}

-- a call of a file; places and lengths are in bytes
pub data FileCall : Type 0 where
  asks_length : FileCall
  reads : ℕ → ℕ → FileCall
  writes : ℕ → List ℕ → FileCall
  cuts : ℕ → FileCall
  syncs : FileCall

-- what a file answered
pub data FileAnswer : Type 0 where
  failed : FileAnswer
  done : FileAnswer
  told : ℕ → FileAnswer
  gave : List ℕ → FileAnswer

-- a call that was made, and what the file answered
pub record Made : Type 0 where
  pub call : FileCall
  pub answer : FileAnswer

-- what a call gave that is `Ok`
abbrev pub ok_of : {T E : Type 0} → Result T E → Option T
ok_of (Ok value) = Some value
ok_of (Err fault) = None

abbrev pub answer_of : {T : Type 0} → (T → FileAnswer) → Option T → FileAnswer
answer_of success (Some value) = success value
answer_of success None = failed

-- the answer of a call that asks for the length: what it is
abbrev pub length_told : {E : Type 0} → Result ℕ E → FileAnswer
length_told result = answer_of told (ok_of result)

-- the answer of a read: what the room holds after it
abbrev pub bytes_given : {E : Type 0} → List ℕ → Result Unit E → FileAnswer
bytes_given room result = answer_of (λ x. gave room) (ok_of result)

-- the answer of a write, a cut or a sync
abbrev pub whether_done : {E : Type 0} → Result Unit E → FileAnswer
whether_done result = answer_of (λ x. done) (ok_of result)

-- The calls are those from before, and this one with this answer. Of a file that does not report its calls nothing is
-- said.
abbrev pub Records : FileCall → FileAnswer → Option (List Made) → Option (List Made) → Type 0
Records call answer (Some old) new = new ≡ Some (old ++ record { call = call; answer = answer } ∷ [])
Records call answer None new = new ≡ None
