-- Pieces that are added, one after another.
use Rattle.std.proofs.Common.{◌≡◌, ℕ, ◌+◌, ◌≤◌, ◌<◌, ◌^◌, true, List, [], ◌∷◌, ◌++◌, length, refl, sym, ◌∙◌, ap, arith, append_assoc, length-append}
use Rattle.std.specs.Int.{w64}
use Rattle.std.proofs.lemmas.List.{append-nil}
use Rattle.codes.specs.Codes.{items}
use Rattle.cache_api.specs.Memory.{capped}
use Rattle.record_log.specs.Pieces.{Piece, number, piece_text, pieces_text}
use Rattle.record_log.specs.Pieces.Piece.{Literal, Content}
use Rattle.record_log.specs.Records.{piece_text-size}
use Rattle.pair_frames.specs.Puts.{literal_before}
use Rattle.pair_frames.proofs.Sizes.{piece_bytes_in, bytes_in, sum_cons}
use Rattle.pair_writer.specs.declared.pieces.Pieces.{Pieces}
use Rattle.pair_writer.specs.Pieces.{open_in, Adds, ArePieces, weight}

pub items_both : {A : Type 0} (code : A → List ℕ) (xs ys : List A)
    → items code (xs ++ ys) ≡ items code xs ++ items code ys
items_both code [] ys = refl
items_both code (x ∷ xs) ys =
    ap (λ (l : List ℕ). code x ++ l) (items_both code xs ys)
    ∙ sym (append_assoc (code x) (items code xs) (items code ys))

pub adds_both : (p q r : Pieces) (xs ys : List Piece) (mid rest : List ℕ) → Adds p q xs mid
    → Adds q r ys rest → Adds p r (xs ++ ys) rest
adds_both p q r xs ys mid rest x y = record {
  text =
      y.text
      ∙ ap (λ (l : List ℕ). l ++ items (piece_text w64) ys) x.text
      ∙ append_assoc p.items.items (items (piece_text w64) xs) (items (piece_text w64) ys)
      ∙ ap (λ (l : List ℕ). p.items.items ++ l) (sym (items_both (piece_text w64) xs ys));
  many = λ n is.
      y.many (n + length xs) (x.many n is) ∙ ap capped (omega (arith, length-append xs ys));
  rest_is = y.rest_is;
}

-- those that there are, and more
pub are_more : (p q : Pieces) (are added : List Piece) (rest : List ℕ) → ArePieces p are
    → Adds p q added rest → ArePieces q (are ++ added)
are_more p q are added rest x y = record {
  text =
      y.text
      ∙ ap (λ (l : List ℕ). l ++ items (piece_text w64) added) x.text
      ∙ sym (items_both (piece_text w64) are added);
  many = y.many (length are) x.many ∙ ap capped (sym (length-append are added));
}

-- ---- sizes

pub items_size : (xs : List Piece) → length (items (piece_text w64) xs) ≡ bytes_in xs
items_size [] = refl
items_size (x ∷ xs) =
    omega (
      arith,
      length-append (piece_text w64 x) (items (piece_text w64) xs),
      piece_text-size true x,
      items_size xs,
      sum_cons piece_bytes_in x xs,
    )

pub literal_size : (before : List ℕ) (pieces : List Piece)
    → bytes_in (literal_before before pieces) ≤ 9 + length before + bytes_in pieces
literal_size [] pieces = omega arith
literal_size (x ∷ before) pieces =
    omega (arith, sum_cons piece_bytes_in (Literal (x ∷ before)) pieces)

pub weight_added : (p q : Pieces) (added : List Piece) (rest : List ℕ) → Adds p q added rest
    → weight q ≡ length p.items.items + bytes_in added + length rest
weight_added p q added rest x =
    omega (
      arith,
      ap length x.text,
      ap length x.rest_is,
      length-append p.items.items (items (piece_text w64) added),
      items_size added,
    )

-- a piece takes a byte at least
piece_some : (x : Piece) → 0 < length (piece_text w64 x)
piece_some (Literal b) = omega (arith, piece_text-size true (Literal b))
piece_some (Content n) = omega (arith, piece_text-size true (Content n))

-- there are no more pieces than bytes
pub pieces_few : (xs : List Piece) → length xs ≤ length (items (piece_text w64) xs)
pieces_few [] = omega arith
pieces_few (x ∷ xs) =
    omega (
      arith,
      length-append (piece_text w64 x) (items (piece_text w64) xs),
      piece_some x,
      pieces_few xs,
    )

-- ---- the text of all

-- the last literal stands behind the pieces, their count in front
pub text_is : (p q : Pieces) (are : List Piece) (to mid now : List ℕ) → ArePieces p are
    → Adds p q (literal_before (open_in p) []) [] → length q.items.items < 2 ^ 63
    → mid ≡ to ++ number w64 q.count → now ≡ mid ++ q.items.items
    → now ≡ to ++ pieces_text w64 (are ++ literal_before (open_in p) [])
unfolding pieces_text
text_is p q are to mid now x y short counted written =
    let all = are ++ literal_before (open_in p) [] in
    let z = are_more p q are (literal_before (open_in p) []) [] x y in
    let count : q.count ≡ length all = omega (arith, z.many, pieces_few all, ap length z.text, short) in
    written
    ∙ (λ i. (counted ∙ ap (λ (n : ℕ). to ++ number w64 n) count) i ++ z.text i)
    ∙ append_assoc to (number w64 (length all)) (items (piece_text w64) all)

pub text_size : (p q : Pieces) (to mid now : List ℕ) → Adds p q (literal_before (open_in p) []) []
    → mid ≡ to ++ number w64 q.count → now ≡ mid ++ q.items.items
    → length now ≤ length to + (weight p + 17)
unfolding number
text_size p q to mid now y counted written =
    omega (
      arith,
      ap length written,
      ap length counted,
      length-append mid q.items.items,
      length-append to (number w64 q.count),
      weight_added p q (literal_before (open_in p) []) [] y,
      literal_size (open_in p) [],
    )

-- nothing is added
pub adds_none : (p : Pieces) → Adds p p [] (open_in p ++ [])
adds_none p = record {
  text = sym (append-nil p.items.items);
  many = λ n is. is ∙ ap capped (omega arith);
  rest_is = sym (append-nil (open_in p));
}
