-- The office as plain data, made only of lists. Moments are in milliseconds since 1970, months are counted from 0 for
-- January 1970.
use Rattle.std.specs.Prelude.{ℕ, List, [], map, Option, None}
use Rattle.office_base.specs.declared.version_id.VersionId.{VersionId}
use Rattle.tariff.specs.Prices.{Prices}
use Rattle.accrual.specs.Books.{Stay, Early, Move, Book}
use Rattle.due_core.specs.Buckets.{BucketRecord}
use Rattle.office_types.specs.declared.command.Command.{Command}
use Rattle.office_types.specs.declared.reply.Reply.{Reply}

-- a stored item: a version by its id, or a part of an upload by both numbers
pub data Item : Type 0 where
  of_version : VersionId → Item
  of_part : ℕ → ℕ → Item

-- the owner of a stay: an item under a key
pub record Label : Type 0 where
  pub key : List ℕ
  pub item : Item

-- a stay with its owner
abbrev pub Booked : Type 0
Booked = Label × Stay

-- the books of a bucket: every stay with its owner, every early quantity and every move, each in the order in which it
-- was booked
pub record Books : Type 0 where
  pub stays : List Booked
  pub early : List Early
  pub moves : List Move

-- a bucket's records and its books
pub record Account : Type 0 where
  pub bucket : BucketRecord
  pub books : Books

-- a command that was accepted with a token, and its reply
pub record KeptReply : Type 0 where
  pub token : List ℕ
  pub command : Command
  pub reply : Reply

-- the office: the moment of the last accepted command; the tariffs by their first months; the month of the first
-- accepted command; the closed months with the tariff of their closing; the buckets in the byte order of their names;
-- and the kept replies, oldest first
pub record Office : Type 0 where
  pub last : Option ℕ
  pub tariffs : List Prices
  pub first_month : Option ℕ
  pub closed : List (ℕ × Prices)
  pub accounts : List (List ℕ × Account)
  pub kept : List KeptReply

-- the books of a bucket for which nothing was booked yet
abbrev pub empty_books : Books
empty_books = record { stays = []; early = []; moves = [] }

-- the office before the first command
abbrev pub empty_office : Office
empty_office = record { last = None; tariffs = []; first_month = None; closed = []; accounts = []; kept = [] }

-- the stay, without its owner
abbrev pub stay_in : Booked → Stay
stay_in booked = booked.1

-- the books, without the owners of the stays
abbrev pub book_of : Books → Book
book_of books = record { stays = map stay_in books.stays; early = books.early; moves = books.moves }
