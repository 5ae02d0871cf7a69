-- Steps and answers that may fail.
use Rattle.std.specs.Prelude.{◌≡◌, Option, IfSome, Result, Ok, Err}

-- runs the second step on the result of the first; an error of the first is the result
infixl 10 ◌>>=◌
abbrev pub ◌>>=◌ : {A B E : Type 0} → Result A E → (A → Result B E) → Result B E
(Ok x) >>= f = f x
(Err e) >>= f = Err e

-- An answer, seen by view, is what reading gives; a fault is the flaw that it reports. A fault that reports no flaw,
-- such as out of memory, may answer any reading.
abbrev pub GivesBy : {X Y E F : Type 0} → (E → Option F) → (X → Y) → Result X E → Result Y F → Type 0
GivesBy tell view (Ok x) read = read ≡ Ok (view x)
GivesBy tell view (Err fault) read = IfSome (tell fault) (λ flaw. read ≡ Err flaw)
