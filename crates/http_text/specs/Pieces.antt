-- The reply that shows the versions of a key, in pieces.
use Rattle.std.specs.Prelude.{◌≡◌, ◌≤◌, ℕ, ◌+◌, List, [], ◌∷◌, ◌++◌, codes, length, map, true, None, Ok}
use Rattle.json.specs.Print.{quoted}
use Rattle.serde_json.specs.View.{items_of}
use Rattle.serde_json.specs.Written.{items_text}
use Rattle.moments.specs.Texts.{moment_text}
use Rattle.stacks.specs.Stacks.{StackRecord}
use Rattle.stacks.specs.declared.version.Version.{Version}
use Rattle.office_types.specs.declared.reply.Reply.TheVariants.{StackShown}
use Rattle.http_text.specs.Bodies.{noncurrent_version, version_text}
use Rattle.http_text.specs.Replies.{body_text, head_text}
use Rattle.http_text.specs.Room.{HoldsText}
use Rattle.http_text.specs.declared.pieces.Left.{Left}
use Rattle.http_text.specs.declared.pieces.Left.TheVariants.{All, Later, Nothing}
use Rattle.http_text.specs.declared.pieces.StackPieces.{StackPieces}

-- the current version, which is the first; nothing if there is no version
abbrev pub first_text : List Version → List ℕ
first_text [] = []
first_text (current ∷ noncurrent) = version_text None current

-- noncurrent versions, each after a comma, and the end of their list
abbrev pub later_text : List Version → List ℕ
later_text versions = items_text true (items_of (map noncurrent_version versions))

-- the same, and the end of the body
abbrev pub rest_text : List Version → List ℕ
rest_text versions = later_text versions ++ codes "}"

-- the body up to the current version
abbrev pub front_text : List ℕ → StackRecord → List ℕ
front_text key stack =
    (codes "{\"changed\":" ++ quoted (moment_text stack.changed)) ++ (codes ",\"key\":" ++ (quoted key
    ++ (codes ",\"versions\":[" ++ first_text stack.versions)))

-- what is left of the reply: all of it, or its last versions, or nothing
abbrev pub left_text : List ℕ → StackRecord → ℕ → Left → List ℕ
left_text key stack size All = head_text 200 size ++ body_text (Ok (StackShown key stack))
left_text key stack size (Later versions) = rest_text versions.now
left_text key stack size Nothing = []

-- the text that is left
abbrev pub pieces_left : StackPieces → List ℕ
pieces_left pieces = left_text pieces.key.now pieces.stack.now pieces.size pieces.left

-- a bound on how many pieces are left, given how many versions the key has
abbrev pub left_count : ℕ → Left → ℕ
left_count count All = count + 2
left_count count (Later left) = length left.now + 1
left_count count Nothing = 0

-- a bound on how many pieces are left
abbrev pub pieces_count : StackPieces → ℕ
pieces_count pieces = left_count (length pieces.stack.now.versions) pieces.left

-- The room begins with a text that ends at this index and has at most so many bytes. With what is left it is the whole.
pub record Begins (room : List ℕ) (at most : ℕ) (left whole : List ℕ) : Type 0 where
  pub text : List ℕ
  pub held : HoldsText room at text
  pub short : length text ≤ most
  pub is_whole : text ++ left ≡ whole
