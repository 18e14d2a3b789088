-- Pieces that are read from a record.
use Rattle.std.proofs.Common.{◌≡◌, ℕ, zero, suc, ◌+◌, ◌-◌, ◌≤◌, ◌<◌, ◌^◌, Bool, cond, List, [], ◌∷◌, ◌++◌, length, take, drop, Some, refl, sym, ◌∙◌, ap, subst, arith, append_assoc, length-append}
use Rattle.std.specs.Prelude.{min, ◌≢◌}
use Rattle.std.proofs.lemmas.Bool.{ne_eqb}
use Rattle.std.specs.Int.{Width}
use Rattle.std.proofs.lemmas.List.{drop-drop, take-take, drop-take, map-append}
use Rattle.codes.specs.Codes.{AreBytes, Taken, took, then_read, read_items, read_both, whole_of}
use Rattle.codes.specs.Reading.{then_is}
use Rattle.rel_path.specs.declared.span.Span.{Span}
use Rattle.record_log.specs.Pieces.{Piece, width, number, read_number, piece_text, read_piece, read_pieces, record_of}
use Rattle.record_log.specs.Pieces.Piece.{Literal}
use Rattle.record_log.specs.Records.{numbers_read, piece_reads}
use Rattle.record_log.specs.declared.kind.TheConstants.{PAIR}
use Rattle.record_log.specs.Kinds.{Entry, is_long}
use Rattle.record_log.specs.Seats.{IsSpanOf}
use Rattle.pair_reader.specs.declared.parse.Source.{Source}
use Rattle.pair_reader.specs.declared.piece.PieceAt.{PieceAt}
use Rattle.pair_reader.specs.Frames.{whole_in, cut_in, record_in, pieces_or_none}
use Rattle.pair_reader.specs.Standing.{StandsAt, piece_of, pieces_of, IsThere, AreThere, Shows, AllShow}
use Rattle.pair_reader.specs.Sources.{EndsWith}

-- ---- bytes in others

-- some bytes stand in others, and these behind them
pub record LiesIn (whole bytes rest : List ℕ) : Type 0 where
  pub front : List ℕ
  pub is : whole ≡ front ++ (bytes ++ rest)

pub lies_len : (whole bytes rest : List ℕ) (lies : LiesIn whole bytes rest)
    → length whole ≡ length lies.front + (length bytes + length rest)
lies_len whole bytes rest lies =
    omega (arith, ap length lies.is, length-append lies.front (bytes ++ rest), length-append bytes rest)

-- what is behind them ends the whole
pub lies_ends : (source : Source) (bytes rest : List ℕ) → LiesIn source.bytes.now bytes rest
    → EndsWith source rest
lies_ends source bytes rest lies =
    (lies.front ++ bytes, lies.is ∙ sym (append_assoc lies.front bytes rest))

literal_was : (long : Bool) (bytes b rest : List ℕ) → AreBytes bytes
    → read_piece (width long) bytes ≡ took (Literal b) rest
    → (head : List ℕ) × (bytes ≡ head ++ (b ++ rest))
unfolding piece_text
literal_was long bytes b rest fits is =
    let head = 0 ∷ number (width long) (length b) in (
      head,
      (piece_reads long).was bytes (Literal b) rest fits is ∙ append_assoc head b rest,
    )

any_was : (long : Bool) (bytes : List ℕ) (piece : Piece) (rest : List ℕ) → AreBytes bytes
    → read_piece (width long) bytes ≡ took piece rest
    → (head : List ℕ) × (bytes ≡ head ++ rest)
any_was long bytes piece rest fits is =
    (piece_text (width long) piece, (piece_reads long).was bytes piece rest fits is)

-- a literal that is read from the end of a record lies in it
pub literal_lies : (source : Source) (bytes b rest : List ℕ) → AreBytes bytes
    → EndsWith source bytes → read_piece (width source.long) bytes ≡ took (Literal b) rest
    → LiesIn source.bytes.now b rest
literal_lies source bytes b rest fits ends is =
    let was = literal_was source.long bytes b rest fits is in
    record {
      front = ends.0 ++ was.0;
      is = ends.1 ∙ ap (λ (l : List ℕ). ends.0 ++ l) was.1
          ∙ sym (append_assoc ends.0 was.0 (b ++ rest));
    }

-- what follows any piece ends the record
pub piece_ends : (source : Source) (bytes : List ℕ) (piece : Piece) (rest : List ℕ)
    → AreBytes bytes → EndsWith source bytes
    → read_piece (width source.long) bytes ≡ took piece rest → EndsWith source rest
piece_ends source bytes piece rest fits ends is =
    let was = any_was source.long bytes piece rest fits is in (
      ends.0 ++ was.0,
      ends.1 ∙ ap (λ (l : List ℕ). ends.0 ++ l) was.1 ∙ sym (append_assoc ends.0 was.0 rest),
    )

-- ---- where they stand

-- the front of what follows others
pub behind_front : (front bytes rest : List ℕ)
    → take (length bytes) (drop (length front) (front ++ (bytes ++ rest))) ≡ bytes
behind_front [] [] rest = refl
behind_front [] (b ∷ bytes) rest = ap (λ (l : List ℕ). b ∷ l) (behind_front [] bytes rest)
behind_front (f ∷ front) bytes rest = behind_front front bytes rest

-- bytes within those that stand at a place
pub stands_within : (text : List ℕ) (at : ℕ) (whole bytes rest : List ℕ) (offset : ℕ)
    → StandsAt text at whole → length text < 2 ^ 64 → LiesIn whole bytes rest
    → offset ≡ min (at + (length whole - length rest - length bytes)) (2 ^ 64 - 1)
    → StandsAt text offset bytes
stands_within text at whole bytes rest offset stands short lies is =
    let k = length lies.front in
    let m = length bytes in
    let n = length whole in
    let len : n ≡ k + (m + length rest) = lies_len whole bytes rest lies in
    let place : offset ≡ at + k = omega (arith, is, len, short, stands.within.inside) in
    let behind : drop offset text ≡ drop k (drop at text) =
    ap (λ (o : ℕ). drop o text) place ∙ sym (drop-drop k at text) in
    let fewer : m ≤ n - k = omega (arith, len) in
    let split : n ≡ k + (n - k) = omega (arith, len) in
    let inner : drop k (take n (drop at text)) ≡ take (n - k) (drop k (drop at text)) =
    ap (λ (o : ℕ). drop k (take o (drop at text))) split ∙ drop-take k (n - k) (drop at text) in
    record {
      within = record {
        behind = omega (arith, stands.within.behind, place);
        inside = omega (arith, stands.within.inside, place, len);
      };
      len = refl;
      shows = ap (take m) behind
          ∙ sym (take-take m (n - k) (drop k (drop at text)) fewer)
          ∙ ap (take m) (sym inner)
          ∙ ap (λ (l : List ℕ). take m (drop k l)) (stands.shows ∙ lies.is)
          ∙ behind_front lies.front bytes rest;
    }

-- what shows its bytes stands where it does
pub stands_at : (text : List ℕ) (span : Span) (bytes : List ℕ) → IsSpanOf text span bytes
    → StandsAt text span.at bytes
stands_at text span bytes x =
    subst (λ (n : ℕ). IsSpanOf text (record { at = span.at; len = n }) bytes) x.len x

-- ---- lists of pieces

pub list_starts : (long : Bool) (bytes : List ℕ) (count : ℕ) (first : List ℕ)
    → read_number (width long) bytes ≡ took count first
    → read_pieces (width long) bytes ≡ read_items (read_piece (width long)) [] count first
unfolding read_pieces
list_starts long bytes count first is =
    then_is (read_number (width long) bytes) (read_items (read_piece (width long)) []) count first is

-- behind the count stands what ends the record too
pub count_ends : (source : Source) (bytes : List ℕ) (count : ℕ) (first : List ℕ) → AreBytes bytes
    → EndsWith source bytes → read_number (width source.long) bytes ≡ took count first
    → EndsWith source first
count_ends source bytes count first fits ends is =
    let head = number (width source.long) count in (
      ends.0 ++ head,
      ends.1
          ∙ ap (λ (l : List ℕ). ends.0 ++ l) ((numbers_read source.long).was bytes count first fits is)
          ∙ sym (append_assoc ends.0 head first),
    )

pub list_next : {A : Type 0} (read : List ℕ → Taken A) (found : List A) (left : ℕ)
    (rest : List ℕ) (x : A) (more : List ℕ) → 0 < left → read rest ≡ took x more
    → read_items read found left rest ≡ read_items read (found ++ x ∷ []) (left - 1) more
list_next read found zero rest x more some is = absurd (omega (arith, some))
list_next {A} read found (suc n) rest x more some is =
    let one : n ≡ suc n - 1 = omega arith in
    then_is (read rest) (λ (y : A) (l : List ℕ). read_items read (found ++ y ∷ []) n l) x more is
    ∙ ap (λ (k : ℕ). read_items read (found ++ x ∷ []) k more) one

pub list_ends : {A : Type 0} (read : List ℕ → Taken A) (found : List A) (left : ℕ)
    (rest : List ℕ) → left ≡ 0 → read_items read found left rest ≡ took found rest
list_ends read found left rest none =
    ap (λ (k : ℕ). read_items read found k rest) none

pub pieces_push : (pieces : List PieceAt) (x : PieceAt)
    → pieces_of (pieces ++ x ∷ []) ≡ pieces_of pieces ++ piece_of x ∷ []
pieces_push pieces x = map-append piece_of pieces (x ∷ [])

pub there_push : (count : ℕ) (pieces : List PieceAt) (x : PieceAt) → AreThere count pieces
    → IsThere count x → AreThere count (pieces ++ x ∷ [])
there_push count [] x all one = (one, tt)
there_push count (y ∷ pieces) x all one = (all.0, there_push count pieces x all.1 one)

pub shows_push : (text : List ℕ) (contents : List (List ℕ)) (pieces : List PieceAt) (x : PieceAt)
    → AllShow text contents pieces → Shows text contents x
    → AllShow text contents (pieces ++ x ∷ [])
shows_push text contents [] x all one = (one, tt)
shows_push text contents (y ∷ pieces) x all one =
    (all.0, shows_push text contents pieces x all.1 one)

-- ---- records

record_is : (w : Width) (bytes mid : List ℕ) (xs ys : List Piece)
    → read_pieces w bytes ≡ took xs mid → read_pieces w mid ≡ took ys []
    → record_of w bytes ≡ Some (xs, ys)
unfolding record_of read_both whole_of
record_is w bytes mid xs ys key value =
    ap whole_of (
    then_is (read_pieces w bytes)
    (λ x rest. then_read (read_pieces w rest) (λ y more. took (x, y) more)) xs mid key
    ∙ then_is (read_pieces w mid) (λ y more. took (xs, y) more) ys [] value
    )

pub record_cut : (e : Entry) (long : Bool) (mid rest : List ℕ) (xs ys : List Piece)
    → e.kind ≢ PAIR → long ≡ is_long e.kind
    → read_pieces (width long) e.value ≡ took xs mid
    → read_pieces (width long) mid ≡ took ys rest → rest ≡ [] → (xs, ys) ≡ record_in e
record_cut e long mid rest xs ys other is key value none =
    let w = width (is_long e.kind) in
    let first = ap (λ (b : Bool). read_pieces (width b) e.value) (sym is) ∙ key in
    let second =
    ap (λ (b : Bool). read_pieces (width b) mid) (sym is) ∙ value
    ∙ ap (λ (l : List ℕ). took ys l) none in
    let found = record_is w e.value mid xs ys first second in
    sym (
    ap (λ (b : Bool). cond b (whole_in e) (cut_in e)) (ne_eqb e.kind PAIR other)
    ∙ ap pieces_or_none found
    )

pub empty_is : (bytes : List ℕ) → length bytes ≡ 0 → bytes ≡ []
empty_is [] none = refl
empty_is (b ∷ bytes) none = absurd (omega (arith, none))
