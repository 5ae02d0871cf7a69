-- The messages of a session, each with its answer or refusal, and where they are in the stream.
use Rattle.std.specs.Prelude.{◌≡◌, ℕ, Bool, true, false, List, [], ◌∷◌, Option, Some, None, Result, Ok, Err, ⊤}
use Rattle.std.specs.List.{flat_map}
use Rattle.desk_core.specs.Answers.{Answer, Call}
use Rattle.desk_core.specs.declared.fault.DeskFault.{DeskFault}
use Rattle.http_wire.specs.Messages.{Framed}
use Rattle.http_asks.specs.Meaning.{Refused, in_framing, Meant, asks, refuses}
use Rattle.http_asks.specs.Streams.{IsMeantBy, IsItem}

-- a message that was asked, with what was said to it, or a message that was refused
pub data Exchange : Type 0 where
  answered : Call → Exchange
  refused : Refused → Exchange

-- what the message means
abbrev pub exchange_meant : Exchange → Meant
exchange_meant (answered call) = asks call.ask
exchange_meant (refused broken) = refuses broken

-- the calls among them, in order
abbrev pub calls_of : List Exchange → List Call
calls_of [] = []
calls_of (answered call ∷ more) = call ∷ calls_of more
calls_of (refused broken ∷ more) = calls_of more

-- the disk's moment of an answer; a call without an answer of the office, and a refusal, have none
abbrev pub moment_of : Result Answer DeskFault → List ℕ
moment_of (Ok answer) = answer.disk_moment ∷ []
moment_of (Err fault) = []

-- the moment of an exchange, if it has one
abbrev pub exchange_moment : Exchange → List ℕ
exchange_moment (answered call) = moment_of call.said
exchange_moment (refused broken) = []

-- the disk's moments of the answers among them, in order
abbrev pub moments_of : List Exchange → List ℕ
moments_of exchanges = flat_map exchange_moment exchanges

-- the message was refused for its framing
abbrev pub is_unframed : Exchange → Bool
is_unframed (answered call) = false
is_unframed (refused (in_framing bad)) = true
is_unframed (refused broken) = false

-- the last of these exchanges was refused for its framing
abbrev pub ends_unframed : List Exchange → Bool
ends_unframed [] = false
ends_unframed (exchange ∷ []) = is_unframed exchange
ends_unframed (exchange ∷ next ∷ more) = ends_unframed (next ∷ more)

-- The stream begins with these messages, one after another, and rest is left. Only the last message can close the
-- session.
abbrev pub Goes : List ℕ → List Exchange → List ℕ → Bool → Type 0
Goes stream [] rest closed = (rest ≡ stream) × (closed ≡ false)
Goes stream (exchange ∷ []) rest closed = IsItem stream (exchange_meant exchange) closed rest
Goes stream (exchange ∷ next ∷ more) rest closed =
    (mid : List ℕ) × IsItem stream (exchange_meant exchange) false mid × Goes mid (next ∷ more) rest closed

-- the first of these messages are those that were exchanged, in order, and the others follow
abbrev pub AreThen : List Framed → List Exchange → List Framed → Type 0
AreThen messages [] others = messages ≡ others
AreThen [] (exchange ∷ more) others = ⊥
AreThen (found ∷ messages) (exchange ∷ more) others =
    IsMeantBy found (exchange_meant exchange) × AreThen messages more others

-- the stream begins with these messages, and rest is left; nothing is claimed of a stream whose bytes are unknown
abbrev pub Hears : Option (List ℕ) → List Exchange → Option (List ℕ) → Bool → Type 0
Hears None exchanges rest closed = ⊤
Hears (Some stream) exchanges None closed = ⊥
Hears (Some stream) exchanges (Some rest) closed = Goes stream exchanges rest closed
