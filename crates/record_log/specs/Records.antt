-- The text of a record is read as it, and names what its pieces name.
use Rattle.std.proofs.Common.{◌≡◌, ◌≢◌, inl, inr, ℕ, suc, ◌+◌, ◌≤◌, ◌<◌, Bool, true, false, List, [], ◌∷◌, ◌++◌, length, Option, Some, None, refl, sym, ◌∙◌, ap, subst, arith, length-append}
use Rattle.std.specs.Prelude.{◌&&◌, sum_by, Contains}
use Rattle.std.specs.Int.{Width, w32, w64, byte_len}
use Rattle.std.proofs.lemmas.Bool.{cases_eq, ne_eqb, and_parts, and_from, lt-ltb, ltb-true}
use Rattle.std.proofs.Math.Bool.{and_assoc}
use Rattle.std.proofs.lemmas.List.{append-nil}
use Rattle.std.proofs.lemmas.List.Sums.{sum_by-append}
use Rattle.codes.specs.Codes.{AreBytes, Taken, took, then_read, Reads, read_bytes, word, read_word, str, read_str, long_word, read_long_word, long_str, read_long_str, items, list, read_list, long_list, read_long_list, Each, IsList, IsLongList, both, read_both, whole_of}
use Rattle.codes.specs.Reading.{AreBytes-drop, some_same, then_was, then_is, word_reads, long_word_reads, str_reads, long_str_reads, both_reads, list_reads, long_list_reads}
use Rattle.record_log.specs.Pieces.Piece.{Literal, Content}
use Rattle.record_log.specs.Pieces.{Piece, Record, width, limit, number, read_number, piece_text, piece_by, read_piece, pieces_text, read_pieces, record_text, record_of, PieceFits, PiecesFit, RecordFits, piece_size, pieces_size, is_below, all_below, both_below}

-- numbers of either width
pub numbers_read : (long : Bool)
    → Reads (number (width long)) (λ n. n < limit long) (read_number (width long))
unfolding number read_number word read_word long_word read_long_word
numbers_read true = long_word_reads
numbers_read false = word_reads

-- a reader behind two others
then_both : {A B C : Type 0} (t : Taken A) (f : A → List ℕ → Taken B) (g : B → List ℕ → Taken C)
    → then_read t (λ x rest. then_read (f x rest) g) ≡ then_read (then_read t f) g
then_both None f g = refl
then_both (Some p) f g = refl

-- what a reader behind another gives is known by its parts
then_same : {A B : Type 0} (t : Taken A) (f g : A → List ℕ → Taken B)
    → ((x : A) (rest : List ℕ) → f x rest ≡ g x rest) → then_read t f ≡ then_read t g
then_same None f g same = refl
then_same (Some p) f g same = same p.0 p.1

literal : List ℕ → List ℕ → Taken Piece
literal bytes rest = took (Literal bytes) rest

named : ℕ → List ℕ → Taken Piece
named n rest = took (Content n) rest

literal_is : (w : Width) (rest : List ℕ)
    → read_piece w (0 ∷ rest) ≡ then_read (then_read (read_number w rest) read_bytes) literal
unfolding read_piece literal
literal_is w rest = then_both (read_number w rest) read_bytes literal

named_is : (w : Width) (rest : List ℕ)
    → read_piece w (1 ∷ rest) ≡ then_read (read_number w rest) named
unfolding read_piece named
named_is w rest = then_same (read_number w rest) (piece_by 1) named (λ n more. refl)

pub piece_other : (tag n : ℕ) (more : List ℕ) → tag ≢ 0 → tag ≢ 1 → piece_by tag n more ≡ None
piece_other tag n more literal named = rw (ne_eqb tag 0 literal, ne_eqb tag 1 named) refl

-- bytes behind their length
bytes_read : (long : Bool)
    → Reads (λ (x : List ℕ). number (width long) (length x) ++ x) (λ x. length x < limit long)
    (λ bytes. then_read (read_number (width long) bytes) read_bytes)
unfolding number read_number word read_word str read_str long_word read_long_word long_str read_long_str
bytes_read true = long_str_reads
bytes_read false = str_reads

module _ (long : Bool) where
  piece_again : (p : Piece) (rest : List ℕ) → PieceFits (limit long) p
      → read_piece (width long) (piece_text (width long) p ++ rest) ≡ took p rest
  unfolding piece_text literal named
  piece_again (Literal b) rest fits =
      literal_is (width long) ((number (width long) (length b) ++ b) ++ rest)
      ∙ then_is (then_read (read_number (width long) ((number (width long) (length b) ++ b) ++ rest)) read_bytes) literal b rest ((bytes_read long).again b rest fits)
  piece_again (Content n) rest fits = named_is (width long) (number (width long) n ++ rest) ∙ then_is (read_number (width long) (number (width long) n ++ rest)) named n rest ((numbers_read long).again n rest fits)

  -- what was read as a piece is its text
  record PieceWas (bytes : List ℕ) (p : Piece) (rest : List ℕ) : Type 0 where
    is : bytes ≡ piece_text (width long) p ++ rest
    fits : PieceFits (limit long) p

  literal_was : (more : List ℕ) (p : Piece) (rest : List ℕ) → AreBytes more
      → read_piece (width long) (0 ∷ more) ≡ took p rest → PieceWas (0 ∷ more) p rest
  unfolding piece_text literal
  literal_was more p rest fits e =
      let (b, mid, first, next) = then_was (then_read (read_number (width long) more) read_bytes) literal p rest (sym (literal_is (width long) more) ∙ e) in
      let same = some_same (Literal b) p mid rest next in
      subst (λ (q : Piece). PieceWas (0 ∷ more) q rest) same.0 (record {
        is = ap (λ (l : List ℕ). 0 ∷ l) ((bytes_read long).was more b mid fits first) ∙ ap (λ (l : List ℕ). 0 ∷ ((number (width long) (length b) ++ b) ++ l)) same.1;
        fits = (bytes_read long).fits more b mid fits first;
      })

  named_was : (more : List ℕ) (p : Piece) (rest : List ℕ) → AreBytes more
      → read_piece (width long) (1 ∷ more) ≡ took p rest → PieceWas (1 ∷ more) p rest
  unfolding piece_text named
  named_was more p rest fits e =
      let (n, mid, first, next) = then_was (read_number (width long) more) named p rest (sym (named_is (width long) more) ∙ e) in
      let same = some_same (Content n) p mid rest next in
      subst (λ (q : Piece). PieceWas (1 ∷ more) q rest) same.0 (record {
        is = ap (λ (l : List ℕ). 1 ∷ l) ((numbers_read long).was more n mid fits first) ∙ ap (λ (l : List ℕ). 1 ∷ (number (width long) n ++ l)) same.1;
        fits = (numbers_read long).fits more n mid fits first;
      })

  piece_was : (bytes : List ℕ) (p : Piece) (rest : List ℕ) → AreBytes bytes
      → read_piece (width long) bytes ≡ took p rest → PieceWas bytes p rest
  unfolding read_piece
  piece_was [] p rest fits e = absurd cc
  piece_was (tag ∷ more) p rest fits e =
      let behind = AreBytes-drop 1 (tag ∷ more) fits in
      elim (cases_eq tag 0) [
        | inl is ↦ subst (λ (t : ℕ). PieceWas (t ∷ more) p rest) (sym is) (literal_was more p rest behind (ap (λ (t : ℕ). read_piece (width long) (t ∷ more)) (sym is) ∙ e))
        | inr other ↦ elim (cases_eq tag 1) [
          | inl is ↦ subst (λ (t : ℕ). PieceWas (t ∷ more) p rest) (sym is) (named_was more p rest behind (ap (λ (t : ℕ). read_piece (width long) (t ∷ more)) (sym is) ∙ e))
          | inr neither ↦
              let (n, mid, first, next) = then_was (read_number (width long) more) (piece_by tag) p rest e in
              let none = piece_other tag n mid other neither in
              absurd (cc (none, next))
        ]
      ]

  pub piece_reads
      : Reads (piece_text (width long)) (PieceFits (limit long)) (read_piece (width long))
  piece_reads = record { again = piece_again; was = λ b p r f e. (piece_was b p r f e).is; fits = λ b p r f e. (piece_was b p r f e).fits }

-- a reader of what fits reads what fits in other words
fits_as : {A : Type 0} (code : A → List ℕ) (F G : A → Type 0) (read : List ℕ → Taken A)
    → ((x : A) → F x → G x) → ((x : A) → G x → F x) → Reads code F read → Reads code G read
fits_as code F G read to from reads = record { again = λ x rest g. reads.again x rest (from x g); was = reads.was; fits = λ b x rest f e. to x (reads.fits b x rest f e) }

-- pieces behind their count
pub pieces_read : (long : Bool)
    → Reads (pieces_text (width long)) (PiecesFit (limit long)) (read_pieces (width long))
unfolding number read_number pieces_text read_pieces word read_word list read_list long_word read_long_word long_list read_long_list
pieces_read true =
    let one = piece_reads true in
    fits_as (pieces_text w64) (IsLongList (PieceFits (limit true))) (PiecesFit (limit true)) (read_pieces w64) (λ xs f. record { few = f.short; each = f.each }) (λ xs f. record { short = f.few; each = f.each }) (long_list_reads (piece_text w64) (PieceFits (limit true)) (read_piece w64) one)
pieces_read false =
    let one = piece_reads false in
    fits_as (pieces_text w32) (IsList (PieceFits (limit false))) (PiecesFit (limit false)) (read_pieces w32) (λ xs f. record { few = f.short; each = f.each }) (λ xs f. record { short = f.few; each = f.each }) (list_reads (piece_text w32) (PieceFits (limit false)) (read_piece w32) one)

-- the text of a record is read as it, whatever follows, and what is read as a record was written
pub record_reads : (long : Bool) → Reads (record_text (width long)) (RecordFits (limit long))
    (read_both (read_pieces (width long)) (read_pieces (width long)))
unfolding record_text
record_reads long =
    let w = width long in
    let fits = PiecesFit (limit long) in
    both_reads (pieces_text w) fits (read_pieces w) (pieces_text w) fits (read_pieces w) (pieces_read long) (pieces_read long)

-- alone it stands for the record
pub record_again : (long : Bool) (r : Record) → RecordFits (limit long) r
    → record_of (width long) (record_text (width long) r) ≡ Some r
unfolding record_of whole_of
record_again long r fits =
    let w = width long in
    ap whole_of (ap (read_both (read_pieces w) (read_pieces w)) (sym (append-nil (record_text w r))) ∙ (record_reads long).again r [] fits)

with_end : {A : Type 0} → Option A → Taken A
with_end None = None
with_end (Some x) = took x []

whole_was : {A : Type 0} (t : Taken A) (x : A) → whole_of t ≡ Some x → t ≡ took x []
unfolding whole_of with_end
whole_was None x e = absurd cc
whole_was (Some (y, [])) x e = ap with_end e
whole_was (Some (y, z ∷ rest)) x e = absurd cc

-- the pieces of a key, those of its value behind them, and nothing else
pub record AreParts (w : Width) (bytes : List ℕ) (r : Record) : Type 0 where
  pub behind : List ℕ
  pub key : read_pieces w bytes ≡ took r.0 behind
  pub value : read_pieces w behind ≡ took r.1 []

parts_are : (w : Width) (bytes mid end : List ℕ) (x y : List Piece) (r : Record)
    → read_pieces w bytes ≡ took x mid → read_pieces w mid ≡ took y end
    → took (x, y) end ≡ took r [] → AreParts w bytes r
parts_are w bytes mid end x y r first second last =
    let same = some_same (x, y) r end [] last in
    record {
      behind = mid;
      key = first ∙ ap (λ (q : Record). took q.0 mid) same.0;
      value = second ∙ (λ i. took (same.0 i).1 (same.1 i));
    }

-- they are what the bytes of a record are read as
pub record_parts : (w : Width) (bytes : List ℕ) (r : Record) → record_of w bytes ≡ Some r
    → AreParts w bytes r
unfolding record_of read_both
record_parts w bytes r is =
    let value = λ (x : List Piece) (rest : List ℕ). then_read (read_pieces w rest) (λ y more. took (x, y) more) in
    let both_is = whole_was (then_read (read_pieces w bytes) value) r is in
    let (x, mid, first, next) = then_was (read_pieces w bytes) value r [] both_is in
    let (y, end, second, last) = then_was (read_pieces w mid) (λ y more. took (x, y) more) r [] next in
    parts_are w bytes mid end x y r first second last

-- pieces that fit, behind others
pub each_append : {A : Type 0} (F : A → Type 0) (xs ys : List A) → Each F xs → Each F ys
    → Each F (xs ++ ys)
each_append F [] ys front back = back
each_append F (x ∷ xs) ys front back = (front.0, each_append F xs ys front.1 back)

-- ---- how long the texts are

length-number : (long : Bool) (n : ℕ) → length (number (width long) n) ≡ byte_len (width long)
unfolding number
length-number true n = refl
length-number false n = refl

pub piece_text-size : (long : Bool) (p : Piece)
    → length (piece_text (width long) p) ≡ piece_size (width long) p
unfolding piece_text
piece_text-size long (Literal b) = omega (arith, length-append (number (width long) (length b)) b, length-number long (length b))
piece_text-size long (Content n) = omega (arith, length-number long n)

items-size : (long : Bool) (xs : List Piece)
    → length (items (piece_text (width long)) xs) ≡ sum_by (piece_size (width long)) xs
items-size long [] = refl
items-size long (x ∷ xs) = omega (arith, length-append (piece_text (width long) x) (items (piece_text (width long)) xs), piece_text-size long x, items-size long xs, sum_by-append (piece_size (width long)) (x ∷ []) xs)

pub pieces_text-size : (long : Bool) (xs : List Piece)
    → length (pieces_text (width long) xs) ≡ pieces_size (width long) xs
unfolding pieces_text
pieces_text-size long xs = omega (arith, length-append (number (width long) (length xs)) (items (piece_text (width long)) xs), length-number long (length xs), items-size long xs)

pub record_text-size : (long : Bool) (r : Record) → length (record_text (width long) r)
    ≡ pieces_size (width long) r.0 + pieces_size (width long) r.1
unfolding record_text both
record_text-size long r = omega (arith, length-append (pieces_text (width long) r.0) (pieces_text (width long) r.1), pieces_text-size long r.0, pieces_text-size long r.1)

-- ---- which contents are named

pub all_below_append : (contents : ℕ) (xs ys : List Piece)
    → all_below contents (xs ++ ys) ≡ (all_below contents xs && all_below contents ys)
all_below_append contents [] ys = refl
all_below_append contents (x ∷ xs) ys = ap (λ (b : Bool). is_below contents x && b) (all_below_append contents xs ys) ∙ sym (and_assoc (is_below contents x) (all_below contents xs) (all_below contents ys))

-- a list built piece by piece
pub all_below_push : (contents : ℕ) (xs : List Piece) (x : Piece) → all_below contents xs ≡ true
    → is_below contents x ≡ true → all_below contents (xs ++ x ∷ []) ≡ true
all_below_push contents xs x all one = all_below_append contents xs (x ∷ []) ∙ and_from _ _ all (and_from _ _ one refl)

-- each of them one by one
pub all_below_each : (contents : ℕ) (xs : List Piece)
    → ((x : Piece) → Contains xs x → is_below contents x ≡ true) → all_below contents xs ≡ true
all_below_each contents [] each = refl
all_below_each contents (x ∷ xs) each = and_from _ _ (each x (0, omega arith, refl)) (all_below_each contents xs (λ y among. each y (suc among.0, omega (arith, among.1), among.2)))

-- among more contents too
is_below_more : (few many : ℕ) (x : Piece) → few ≤ many → is_below few x ≡ true
    → is_below many x ≡ true
is_below_more few many (Literal b) le below = refl
is_below_more few many (Content n) le below = lt-ltb n many (omega (arith, ltb-true n few below, le))

pub all_below_more : (few many : ℕ) (xs : List Piece) → few ≤ many → all_below few xs ≡ true
    → all_below many xs ≡ true
all_below_more few many [] le below = refl
all_below_more few many (x ∷ xs) le below = let p = and_parts _ _ below in and_from _ _ (is_below_more few many x le p.0) (all_below_more few many xs le p.1)

-- a record whose pieces name none but these contents says so by its text
pub both_below_text : (long : Bool) (contents : ℕ) (r : Record) → RecordFits (limit long) r
    → all_below contents r.0 ≡ true → all_below contents r.1 ≡ true
    → both_below contents (record_of (width long) (record_text (width long) r)) ≡ true
both_below_text long contents r fits key value = ap (both_below contents) (record_again long r fits) ∙ and_from _ _ key value
