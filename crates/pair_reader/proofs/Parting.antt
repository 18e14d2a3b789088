-- Pieces that become parts, as far as it has come.
use Rattle.std.proofs.Common.{◌≡◌, inl, inr, ℕ, ◌+◌, ◌<◌, ◌≤◌, true, List, [], ◌∷◌, ◌++◌, length, map, drop, get_or, refl, sym, ◌∙◌, ap, arith, append_assoc}
use Rattle.std.proofs.lemmas.List.{append-nil}
use Rattle.pair_frames.specs.Pairs.{piece_bytes}
use Rattle.artifact_reader.specs.declared.part.Part.{Part}
use Rattle.artifact_reader.specs.Parts.{LiesIn, IsOf, AreOf, IsWell, AreWell, HasUnknown, at_span, shown, span_of, spans_of, is_known}
use Rattle.pair_reader.specs.declared.piece.PieceAt.{PieceAt}
use Rattle.pair_reader.specs.declared.piece.PieceAt.TheVariants as at
use Rattle.rel_path.specs.declared.span.Span.{Span}
use Rattle.record_log.specs.Seats.{IsSpanOf}
use Rattle.pair_reader.specs.Standing.{piece_of, part_of, bytes_of, Shows, AllShow}
use Rattle.pair_reader.specs.Parts.{first, IsFrontPart, AreShown}
use Rattle.pair_reader.proofs.Going.{shows_next, bytes_next, none_left}

-- ---- one part more

pub well_push : (parts : List Part) (p : Part) → AreWell parts → IsWell p → AreWell (parts ++ p ∷ [])
well_push [] p all one = (one, tt)
well_push (x ∷ parts) p all one = (all.0, well_push parts p all.1 one)

pub of_push : (low : ℕ) (text : List ℕ) (parts : List Part) (p : Part) → AreOf low text parts
    → IsOf low text p → AreOf low text (parts ++ p ∷ [])
of_push low text [] p all one = (one, tt)
of_push low text (x ∷ parts) p all one = (all.0, of_push low text parts p all.1 one)

pub known_push : (parts : List Part) (p : Part) → (HasUnknown parts → ⊥) → is_known p ≡ true
    → HasUnknown (parts ++ p ∷ []) → ⊥
known_push [] p none known (inl bad) = cc
known_push [] p none known (inr bad) = bad
known_push (x ∷ parts) p none known (inl bad) = none (inl bad)
known_push (x ∷ parts) p none known (inr later) =
    known_push parts p (λ bad. none (inr bad)) known later

pub shown_push : (text : List ℕ) (parts : List Part) (p : Part)
    → shown text (spans_of (parts ++ p ∷ []))
    ≡ shown text (spans_of parts) ++ at_span text (span_of p)
shown_push text [] p = append-nil (at_span text (span_of p))
shown_push text (x ∷ parts) p =
    let here = at_span text (span_of x) in
    ap (λ (l : List ℕ). here ++ l) (shown_push text parts p)
    ∙ sym (append_assoc here (shown text (spans_of parts)) (at_span text (span_of p)))

-- ---- as far as it has come

-- the parts show the front of the bytes, and the pieces that are left stand for the rest of them
pub record PartsSoFar (text : List ℕ) (contents : List (List ℕ)) (pieces left : List PieceAt)
    (parts : List Part) (rest : List ℕ) : Type 0 where
  pub shows : AllShow text contents left
  pub are : AreOf first text parts
  pub front : shown text (spans_of parts) ++ bytes_of contents left ≡ bytes_of contents pieces
  pub behind : rest ≡ bytes_of contents left

pub parts_next : (text : List ℕ) (contents : List (List ℕ)) (pieces : List PieceAt) (i : ℕ)
    (d : PieceAt) (parts : List Part) (p : Part) (rest behind : List ℕ) → i < length pieces
    → PartsSoFar text contents pieces (drop i pieces) parts rest
    → ((tail : List ℕ) → Shows text contents (get_or pieces i d)
    → rest ≡ piece_bytes contents (piece_of (get_or pieces i d)) ++ tail
    → IsFrontPart text (piece_bytes contents (piece_of (get_or pieces i d))) p × (behind ≡ tail))
    → PartsSoFar text contents pieces (drop (i + 1) pieces) (parts ++ p ∷ []) behind
parts_next text contents pieces i d parts p rest behind lt s made =
    let more = drop (i + 1) pieces in
    let tail = bytes_of contents more in
    let here = piece_bytes contents (piece_of (get_or pieces i d)) in
    let shows = shows_next text contents pieces i d lt s.shows in
    let split = bytes_next contents pieces i d lt in
    let one = made tail shows.0 (s.behind ∙ split) in
    record {
      shows = shows.1;
      are = of_push first text parts p s.are one.0.0;
      front = ap (λ (l : List ℕ). l ++ tail)
          (shown_push text parts p ∙ ap (λ (l : List ℕ). shown text (spans_of parts) ++ l) one.0.1)
          ∙ append_assoc (shown text (spans_of parts)) here tail
          ∙ ap (λ (l : List ℕ). shown text (spans_of parts) ++ l) (sym split)
          ∙ s.front;
      behind = one.1;
    }

-- behind the last piece the parts show all bytes
pub parts_all : (text : List ℕ) (contents : List (List ℕ)) (pieces : List PieceAt) (i : ℕ)
    (parts : List Part) (rest : List ℕ) → length pieces ≤ i
    → PartsSoFar text contents pieces (drop i pieces) parts rest
    → AreShown text parts (bytes_of contents pieces)
parts_all text contents pieces i parts rest past s =
    let front = shown text (spans_of parts) in
    let none = none_left pieces i past in (
      s.are,
      sym (append-nil front)
          ∙ ap (λ (l : List PieceAt). front ++ bytes_of contents l) (sym none)
          ∙ s.front,
    )

-- ---- pieces as parts, contents not known

pub well_parts : (pieces : List PieceAt) → AreWell (map part_of pieces)
well_parts [] = tt
well_parts (at.Literal bytes offset ∷ pieces) = (refl, well_parts pieces)
well_parts (at.Content id span ∷ pieces) = (tt, well_parts pieces)

lies_in : (text : List ℕ) (span : Span) (bytes : List ℕ) → IsSpanOf text span bytes
    → LiesIn first text span
lies_in text span bytes x =
    record { from = omega (arith, x.within.behind); to = x.within.inside }

pub parts_shown : (text : List ℕ) (contents : List (List ℕ)) (pieces : List PieceAt)
    → AllShow text contents pieces
    → AreShown text (map part_of pieces) (bytes_of contents pieces)
parts_shown text contents [] shows = (tt, refl)
parts_shown text contents (at.Literal bytes offset ∷ pieces) shows =
    let more = parts_shown text contents pieces shows.1 in
    let place : Span = record { at = offset; len = length bytes.now } in (
      ((lies_in text place bytes.now shows.0, sym shows.0.shows), more.0),
      λ i. shows.0.shows i ++ more.1 i,
    )
parts_shown text contents (at.Content id span ∷ pieces) shows =
    let more = parts_shown text contents pieces shows.1 in (
      (lies_in text span _ shows.0, more.0),
      λ i. shows.0.shows i ++ more.1 i,
    )
