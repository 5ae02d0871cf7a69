-- The coming of a version and the ends of parts under the same key, in either order.
use Rattle.std.proofs.Common.{◌≡◌, ℕ, ◌+◌, List, [], ◌∷◌, ◌++◌, map, refl, ap, sym, ◌∙◌, Bool, true, false, ◌&&◌, cond}
use Rattle.std.specs.Prelude.{Option, Some, None, is_none, nat_lt}
use Rattle.std.specs.Str.{bytes_eq}
use Rattle.std.proofs.lemmas.List.{map-append}
use Rattle.std.proofs.Math.Bool.{and-false}
use Rattle.office_base.specs.declared.version_id.VersionId.{VersionId}
use Rattle.class_rules.specs.Classes.{least_stay}
use Rattle.class_rules.specs.declared.class.Class.{Class}
use Rattle.stacks.specs.declared.version.Kind.{Kind}
use Rattle.stacks.specs.declared.version.Kind.TheVariants.{Object, Marker}
use Rattle.stacks.specs.declared.version.Version.{Version}
use Rattle.uploads.specs.declared.part.Part.{Part}
use Rattle.uploads.specs.Uploads.{UploadRecord}
use Rattle.accrual.specs.Books.{Stay, Early, open_stay}
use Rattle.plain_office.specs.Office.{Item, of_version, of_part, Booked, Books}
use Rattle.plain_office.specs.Books.{is_open_stay, with_end, with_early, with_stay, without_option, lines_of_kind}
use Rattle.office_laws.proofs.Stays.{is_of, begun, open_of, open_other, after_end, version_kept}
use Rattle.bucket_account.specs.declared.incoming.Incoming.{Incoming}
use Rattle.bucket_account.specs.Booking.{books_put, version_of}
use Rattle.bucket_account.specs.Uploading.{HavePartStays, parts_ended}

module _ (key : List ℕ) (number at : ℕ) where
  -- ---- one part

  module _ (place : ℕ) where
    abbrev gone : Books → Books
    gone books = with_end key (of_part number place) at books

    abbrev part_end : Booked → Booked
    part_end = after_end key (of_part number place) at

    -- a version's stay stays as it is
    part_skips : (k : List ℕ) (id : VersionId) (stay : Stay) → part_end (record { key = k; item = of_version id }, stay) ≡ (record { key = k; item = of_version id }, stay)
    part_skips k id stay = rw (and-false (is_none stay.to && bytes_eq key k)) refl

    module _ (id : VersionId) where
      abbrev version_end : Booked → Booked
      version_end = after_end key (of_version id) at

      version_skips : (k : List ℕ) (n p : ℕ) (stay : Stay) → version_end (record { key = k; item = of_part n p }, stay) ≡ (record { key = k; item = of_part n p }, stay)
      version_skips k n p stay = rw (and-false (is_none stay.to && bytes_eq key k)) refl

      of_a_version : (k : List ℕ) (other : VersionId) (stay : Stay) (c : Bool)
          → part_end (cond c ((record { key = k; item = of_version other }, record stay { to = Some at })) (record { key = k; item = of_version other }, stay))
          ≡ cond c ((record { key = k; item = of_version other }, record stay { to = Some at })) (record { key = k; item = of_version other }, stay)
      of_a_version k other stay true = part_skips k other (record stay { to = Some at })
      of_a_version k other stay false = part_skips k other stay

      of_a_part : (k : List ℕ) (n p : ℕ) (stay : Stay) (c : Bool)
          → version_end (cond c ((record { key = k; item = of_part n p }, record stay { to = Some at })) (record { key = k; item = of_part n p }, stay))
          ≡ cond c ((record { key = k; item = of_part n p }, record stay { to = Some at })) (record { key = k; item = of_part n p }, stay)
      of_a_part k n p stay true = version_skips k n p (record stay { to = Some at })
      of_a_part k n p stay false = version_skips k n p stay

      ends_by : (k : List ℕ) (item : Item) (stay : Stay)
          → part_end (version_end (record { key = k; item = item }, stay)) ≡ version_end (part_end (record { key = k; item = item }, stay))
      ends_by k (of_version other) stay =
          of_a_version k other stay (is_open_stay key (of_version id) (record { key = k; item = of_version other }, stay)) ∙ ap version_end (sym (part_skips k other stay))
      ends_by k (of_part n p) stay =
          ap part_end (version_skips k n p stay) ∙ sym (of_a_part k n p stay (is_open_stay key (of_part number place) (record { key = k; item = of_part n p }, stay)))

      all_ends : (stays : List Booked) → map part_end (map version_end stays) ≡ map version_end (map part_end stays)
      all_ends [] = refl
      all_ends (x ∷ stays) = λ i. ends_by x.0.key x.0.item x.1 i ∷ all_ends stays i

    early_by : (c : Bool) (early : Early) (books : Books)
        → gone (cond c (record books { early = books.early ++ early ∷ [] }) books) ≡ cond c (record (gone books) { early = books.early ++ early ∷ [] }) (gone books)
    early_by true early books = refl
    early_by false early books = refl

    early_swaps : (kind : Kind) (books : Books) → gone (with_early kind at books) ≡ with_early kind at (gone books)
    early_swaps Marker books = refl
    early_swaps (Object size class tags entered) books = early_by (nat_lt at (entered + least_stay class)) _ books

    option_swaps : (o : Option Version) (books : Books) → gone (without_option key o at books) ≡ without_option key o at (gone books)
    option_swaps None books = refl
    option_swaps (Some v) books =
        early_swaps v.kind (with_end key (of_version v.id) at books)
        ∙ ap (λ (stays : List Booked). with_early v.kind at (record books { stays = stays })) (all_ends v.id books.stays)

    stay_swaps : (id : VersionId) (lines : List (Class × ℕ)) (books : Books) → gone (with_stay key (of_version id) lines at books) ≡ with_stay key (of_version id) lines at (gone books)
    stay_swaps id lines books =
        ap (λ (stays : List Booked). record books { stays = stays })
        (map-append part_end books.stays (begun key (of_version id) lines at ∷ [])
        ∙ ap (λ (x : Booked). map part_end books.stays ++ x ∷ []) (part_skips key id (open_stay lines at)))

    pub put_swaps : (incoming : Incoming) → incoming.at ≡ at → (o : Option Version) (books : Books) → gone (books_put key incoming o books) ≡ books_put key incoming o (gone books)
    put_swaps incoming is o books =
        let version : Version = version_of incoming in
        let lines = lines_of_kind key version.kind in
        rw is
        (stay_swaps version.id lines (without_option key o at books)
        ∙ ap (λ (b : Books). with_stay key (of_version version.id) lines at b) (option_swaps o books))

    -- its own stay is as before
    differs : (id : VersionId) → is_of key (of_part number place) key (of_version id) ≡ false
    differs id = and-false (bytes_eq key key)

    option_keeps : (o : Option Version) (books : Books) → open_of key (of_part number place) (without_option key o at books).stays ≡ open_of key (of_part number place) books.stays
    option_keeps None books = refl
    option_keeps (Some v) books = version_kept key v at books key (of_part number place) (differs v.id)

    pub put_keeps : (incoming : Incoming) → incoming.at ≡ at → (o : Option Version) (books : Books)
        → open_of key (of_part number place) (books_put key incoming o books).stays ≡ open_of key (of_part number place) books.stays
    put_keeps incoming is o books =
        let version : Version = version_of incoming in
        rw is
        (open_other key (of_part number place) key (of_version version.id) (differs version.id) (lines_of_kind key version.kind) at (without_option key o at books).stays
        ∙ option_keeps o books)

  -- ---- all parts

  pub all_swap : (incoming : Incoming) → incoming.at ≡ at → (o : Option Version) (parts : List (ℕ × Part)) (books : Books)
      → parts_ended key number at parts (books_put key incoming o books) ≡ books_put key incoming o (parts_ended key number at parts books)
  all_swap incoming is o [] books = refl
  all_swap incoming is o (part ∷ parts) books =
      ap (λ (b : Books). parts_ended key number at parts b) (put_swaps part.0 incoming is o books)
      ∙ all_swap incoming is o parts (with_end key (of_part number part.0) at books)

pub stays_kept : (upload : UploadRecord) (number : ℕ) (incoming : Incoming) (o : Option Version) (books : Books) (parts : List (ℕ × Part)) → HavePartStays number upload parts books
    → HavePartStays number upload parts (books_put upload.key incoming o books)
stays_kept upload number incoming o books [] h = tt
stays_kept upload number incoming o books (part ∷ parts) h = (
  put_keeps upload.key number incoming.at part.0 incoming refl o books ∙ h.0,
  stays_kept upload number incoming o books parts h.1,
)
