-- How a move to another class is booked.
use Rattle.std.proofs.Common.{◌≡◌, ℕ, ◌≤◌, List, ap, sym, ◌∙◌, subst}
use Rattle.std.specs.Prelude.{Some}
use Rattle.office_base.specs.Tags.{Tag}
use Rattle.class_rules.specs.Lines.{object_lines}
use Rattle.class_rules.specs.declared.class.Class.{Class}
use Rattle.stacks.specs.declared.version.Kind.{Kind}
use Rattle.stacks.specs.declared.version.Kind.TheVariants.{Object}
use Rattle.stacks.specs.declared.version.Version.{Version}
use Rattle.stacks.specs.Stacks.{with_class, kind_with_class}
use Rattle.accrual.specs.Books.{Book, open_stay, book_with_stay, with_move}
use Rattle.accrual.specs.Totals.{Totals, AreTotalsOf}
use Rattle.plain_office.specs.Office.{Books, book_of}
use Rattle.plain_office.specs.Books.{lines_of_kind, with_version, without_version}
use Rattle.plain_office.specs.Changes.{books_moved}
use Rattle.plain_office.specs.Orderly.{lines_since}
use Rattle.bucket_account.proofs.Ending.{begun_is}

-- an object has its lines since it entered its class
pub entered_by : (version : Version) (at size : ℕ) (class : Class) (tags : List Tag) (entered : ℕ) → version.kind ≡ Object size class tags entered → lines_since version ≤ at → entered ≤ at
entered_by version at size class tags entered is later = subst (λ (k : Kind). lines_since (record version { kind = k }) ≤ at) is later

module _ (key : List ℕ) (version : Version) (to : Class) (at : ℕ) (books : Books) (size : ℕ) (class : Class) (tags : List Tag) (entered : ℕ) (is : version.kind ≡ Object size class tags entered) where
  abbrev left : Books
  left = without_version key version at books

  begun : (lines : List (Class × ℕ)) → lines ≡ object_lines to size → book_with_stay (open_stay lines at) (book_of left) ≡ book_of (with_version key (with_class to at version) at left)
  begun lines same =
      ap (λ (l : List (Class × ℕ)). book_with_stay (open_stay l at) (book_of left)) (same ∙ ap (λ (k : Kind). lines_of_kind key (kind_with_class to at k)) (sym is))
      ∙ begun_is key (with_class to at version) at left

  -- the stay in the other class begins, and the move is counted
  pub move_booked : (lines : List (Class × ℕ)) → lines ≡ object_lines to size → (ended opened moved : Totals) → AreTotalsOf ended (book_of left)
      → ((book : Book) → AreTotalsOf ended book → AreTotalsOf opened (book_with_stay (open_stay lines at) book))
      → ((book : Book) → AreTotalsOf opened book → AreTotalsOf moved (with_move (record { class = to; moment = at }) book))
      → AreTotalsOf moved (book_of (books_moved key (Some version) to at books))
  move_booked lines same ended opened moved stands opens moves =
      moves (book_of (with_version key (with_class to at version) at left)) (subst (AreTotalsOf opened) (begun lines same) (opens (book_of left) stands))
