-- A part that is put, and the stay of the one that it replaces.
use Rattle.std.proofs.Common.{◌≡◌, ℕ, ◌≤◌, List, [], refl, ap, sym, subst, arith}
use Rattle.std.specs.Prelude.{Option, Some, None}
use Rattle.accrual.specs.Totals.{Totals, AreTotalsOf, HasOpenStay}
use Rattle.class_rules.specs.Lines.{part_line}
use Rattle.class_rules.specs.declared.class.Class.{Class}
use Rattle.uploads.specs.Uploads.{UploadRecord, IsUpload, part_at}
use Rattle.uploads.specs.declared.part.Part.{Part}
use Rattle.office_base.specs.Sizes.{largest_size}
use Rattle.plain_office.specs.Office.{Booked, Books, Item, book_of}
use Rattle.plain_office.specs.Books.{with_end}
use Rattle.office_laws.proofs.Maps.{by_number, found_every}
use Rattle.office_laws.proofs.OneStay.{none_open_kept}
use Rattle.office_laws.proofs.Stays.{open_of}
use Rattle.bucket_account.specs.Booking.{HasRowsFrom}
use Rattle.bucket_account.specs.Uploading.{HasPartStay, MayEndAt, put_since}
use Rattle.bucket_account.proofs.Ending.{Ends}
use Rattle.bucket_account.proofs.Gone.{put_by}
use Rattle.bucket_account.proofs.Parting.{item_open, item_ended, parts_small}

-- ---- if no stay is open none ends

module _ (key : List ℕ) (item : Item) (at : ℕ) where
  pub none_ended : (books : Books) → open_of key item books.stays ≡ [] → with_end key item at books ≡ books
  none_ended books h = ap (λ (stays : List Booked). record books { stays = stays }) (none_open_kept key item at books.stays h)

  -- ---- the part that goes

  module _ (class : Class) (books : Books) where
    pub part_open : (o : Option Part) (part : Part) → o ≡ Some part → HasPartStay key item class o books → HasOpenStay (part_line class part.size) part.put (book_of books)
    part_open o part is has = item_open key item (part_line class part.size) part.put at books (subst (λ (x : Option Part). HasPartStay key item class x books) is has)

    pub part_ended : (o : Option Part) (part : Part) → o ≡ Some part → HasPartStay key item class o books → (old new : Totals) → AreTotalsOf old (book_of books)
        → Ends old new at (part_line class part.size) part.put → AreTotalsOf new (book_of (with_end key item at books))
    part_ended o part is has old new stands ends =
        item_ended key item (part_line class part.size) part.put at books (subst (λ (x : Option Part). HasPartStay key item class x books) is has) old new stands ends

    pub no_part_ended : (o : Option Part) → o ≡ None → HasPartStay key item class o books → (meters : Totals)
        → AreTotalsOf meters (book_of books) → AreTotalsOf meters (book_of (with_end key item at books))
    no_part_ended o is has meters stands =
        subst (λ (b : Books). AreTotalsOf meters (book_of b)) (sym (none_ended books (subst (λ (x : Option Part). HasPartStay key item class x books) is has))) stands

-- ---- since when it is stored

module _ (upload : UploadRecord) (number at : ℕ) (is : IsUpload upload) (later : upload.changed ≤ at) where
  module _ (part : Part) (found : part_at number upload.parts ≡ Some part) where
    pub found_by : part.put ≤ at
    found_by = found_every by_number (λ (part : ℕ × Part). part.1.put ≤ at) number part upload.parts (put_by upload at is later) found

    pub found_small : part.size ≤ largest_size
    found_small = found_every by_number (λ (part : ℕ × Part). part.1.size ≤ largest_size) number part upload.parts (parts_small upload is) found

  since_by_option : (o : Option Part) → part_at number upload.parts ≡ o → put_since at o ≤ at
  since_by_option None found = omega arith
  since_by_option (Some part) found = found_by part found

  pub since_by : put_since at (part_at number upload.parts) ≤ at
  since_by = since_by_option (part_at number upload.parts) refl

  may_end_option : (meters : Totals) (o : Option Part) → part_at number upload.parts ≡ o → HasRowsFrom (put_since at o) at meters → MayEndAt at meters o
  may_end_option meters None found rows = tt
  may_end_option meters (Some part) found rows = (found_by part found, rows, found_small part found)

  pub may_end : (meters : Totals) → HasRowsFrom (put_since at (part_at number upload.parts)) at meters → MayEndAt at meters (part_at number upload.parts)
  may_end meters rows = may_end_option meters (part_at number upload.parts) refl rows
