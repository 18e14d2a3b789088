-- Bytes that are compared piece by piece.
use Rattle.std.proofs.Common.{◌≡◌, inl, inr, ℕ, ◌+◌, ◌<◌, Bool, true, false, List, [], ◌++◌, length, take, drop, get_or, Option, Some, None, sym, ◌∙◌, ap, subst, append_assoc}
use Rattle.std.specs.Prelude.{bytes_eq, MatchOption, ◌≢◌}
use Rattle.std.specs.Borrow.{Bor}
use Rattle.std.proofs.lemmas.Bool.{cases_Bool}
use Rattle.std.proofs.lemmas.Slice.Eq.{bytes_eq-Decides}
use Rattle.record_log.specs.Kinds.{Entry}
use Rattle.blob_pool.specs.Contents.{contents_of}
use Rattle.pair_frames.specs.Pairs.{piece_bytes}
use Rattle.pair_reader.specs.declared.piece.PieceAt.{PieceAt}
use Rattle.pair_reader.specs.Standing.{piece_of, bytes_of}
use Rattle.pair_reader.specs.Answers.{IsRest}
use Rattle.pair_reader.proofs.Going.{bytes_next, eq_behind}
use Rattle.pair_reader.proofs.Cutting.{behind_front}

-- ---- one piece

pub rest_is : (s p : List ℕ) (r : Option (Bor (List ℕ)))
    → MatchOption r ((rest : List ℕ) → s ≢ p ++ rest) (λ x. s ≡ p ++ x.now) → IsRest p s r
rest_is s p None m = m
rest_is s p (Some x) m = m

-- by what was answered
pub rest_none : (s p : List ℕ) (r : Option (Bor (List ℕ))) → r ≡ None → IsRest p s r
    → (rest : List ℕ) → s ≢ p ++ rest
rest_none s p r is rest = subst (IsRest p s) is rest

pub rest_some : (s p : List ℕ) (r : Option (Bor (List ℕ))) (x : Bor (List ℕ)) → r ≡ Some x
    → IsRest p s r → s ≡ p ++ x.now
rest_some s p r x is rest = subst (IsRest p s) is rest

-- bytes don't begin with a content that their front is not
pub not_front : (content bytes rest : List ℕ) (n : ℕ) → n ≡ length content
    → bytes_eq content (take n bytes) ≡ false → bytes ≡ content ++ rest → ⊥
not_front content bytes rest n len other is =
    let front : take n bytes ≡ content =
    (λ i. take (len i) (is i)) ∙ behind_front [] content rest in
    let same : bytes_eq content (take n bytes) ≡ true =
    (bytes_eq-Decides content (take n bytes)).1 (sym front) in
    cc

pub not_eq : (xs ys : List ℕ) → (xs ≡ ys → ⊥) → bytes_eq xs ys ≡ false
not_eq xs ys other = elim (cases_Bool (bytes_eq xs ys)) [
  | inl is ↦ absurd (other ((bytes_eq-Decides xs ys).0 is))
  | inr is ↦ is
]

-- ---- the pieces that are left

-- what is added for the next piece
pub bytes_step : (fs gs : List Entry) (pieces : List PieceAt) (i : ℕ) (d : PieceAt)
    (to new all : List ℕ) → i < length pieces → gs ≡ fs
    → new ≡ to ++ piece_bytes (contents_of gs) (piece_of (get_or pieces i d))
    → to ++ bytes_of (contents_of fs) (drop i pieces) ≡ all
    → new ++ bytes_of (contents_of fs) (drop (i + 1) pieces) ≡ all
bytes_step fs gs pieces i d to new all lt same grown so_far =
    let tail = bytes_of (contents_of fs) (drop (i + 1) pieces) in
    let piece = piece_of (get_or pieces i d) in
    ap (λ (l : List ℕ). l ++ tail)
    (grown ∙ ap (λ (es : List Entry). to ++ piece_bytes (contents_of es) piece) same)
    ∙ append_assoc to (piece_bytes (contents_of fs) piece) tail
    ∙ ap (λ (l : List ℕ). to ++ l) (sym (bytes_next (contents_of fs) pieces i d lt))
    ∙ so_far

-- bytes that begin with the next piece are compared with those behind it
pub eq_step : (fs gs : List Entry) (pieces : List PieceAt) (i : ℕ) (d : PieceAt)
    (left behind : List ℕ) (all : Bool) → i < length pieces → gs ≡ fs
    → left ≡ piece_bytes (contents_of gs) (piece_of (get_or pieces i d)) ++ behind
    → all ≡ bytes_eq (bytes_of (contents_of fs) (drop i pieces)) left
    → all ≡ bytes_eq (bytes_of (contents_of fs) (drop (i + 1) pieces)) behind
eq_step fs gs pieces i d left behind all lt same begins so_far =
    let tail = bytes_of (contents_of fs) (drop (i + 1) pieces) in
    let piece = piece_of (get_or pieces i d) in
    let here = piece_bytes (contents_of fs) piece in
    so_far
    ∙ (λ j. bytes_eq (bytes_next (contents_of fs) pieces i d lt j)
    ((begins ∙ ap (λ (es : List Entry). piece_bytes (contents_of es) piece ++ behind) same) j))
    ∙ eq_behind here tail behind

-- others are not the same
pub eq_not : (fs gs : List Entry) (pieces : List PieceAt) (i : ℕ) (d : PieceAt)
    (left : List ℕ) (all : Bool) → i < length pieces → gs ≡ fs
    → ((rest : List ℕ) → left ≢ piece_bytes (contents_of gs) (piece_of (get_or pieces i d)) ++ rest)
    → all ≡ bytes_eq (bytes_of (contents_of fs) (drop i pieces)) left → false ≡ all
eq_not fs gs pieces i d left all lt same other so_far =
    let tail = bytes_of (contents_of fs) (drop (i + 1) pieces) in
    let piece = piece_of (get_or pieces i d) in
    sym (
    so_far
    ∙ not_eq (bytes_of (contents_of fs) (drop i pieces)) left (λ is. other tail (
    sym is ∙ bytes_next (contents_of fs) pieces i d lt
    ∙ ap (λ (es : List Entry). piece_bytes (contents_of es) piece ++ tail) (sym same)
    ))
    )
