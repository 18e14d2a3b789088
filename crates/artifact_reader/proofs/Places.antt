-- Places gathered, as far as that has come.
use Rattle.std.proofs.Common.{◌≡◌, inl, inr, ◌⊎◌, ⊎_elim, ◌≤◌, ◌<◌, ◌+◌, ℕ, List, [], ◌∷◌, ◌++◌, length, refl, sym, ◌∙◌, ap, arith, append_assoc, length-append}
use Rattle.std.proofs.lemmas.List.{append-nil}
use Rattle.rel_path.specs.declared.span.Span.{Span}
use Rattle.artifact_reader.specs.declared.part.Part.{Part}
use Rattle.artifact_reader.specs.Parts.{shown, at_span, span_of}
use Rattle.artifact_reader.specs.Cursors.{AreOn, IsTaken}
use Rattle.artifact_reader.specs.Reads.{AllIn, ArePlaces}
use Rattle.artifact_reader.proofs.SoFar.{SoFar, lies}

pub shown_append : (text : List ℕ) (xs ys : List Span) → shown text (xs ++ ys) ≡ shown text xs ++ shown text ys
shown_append text [] ys = refl
shown_append text (x ∷ xs) ys = ap (λ (l : List ℕ). at_span text x ++ l) (shown_append text xs ys) ∙ sym (append_assoc (at_span text x) (shown text xs) (shown text ys))

pub shown_push : (text : List ℕ) (xs next : List Span) (y : Span) → next ≡ xs ++ y ∷ [] → shown text next ≡ shown text xs ++ at_span text y
shown_push text xs next y is = ap (shown text) is ∙ shown_append text xs (y ∷ []) ∙ ap (λ (l : List ℕ). shown text xs ++ l) (append-nil (at_span text y))

pub all_in_append : (low : ℕ) (text : List ℕ) (xs ys : List Span) → AllIn low text xs → AllIn low text ys → AllIn low text (xs ++ ys)
all_in_append low text [] ys a b = b
all_in_append low text (x ∷ xs) ys a b = (a.0, all_in_append low text xs ys a.1 b)

-- each place takes a part away, but for the last one
pub record FewSoFar (parts : List Part) (spans : List Span) (left : List Part) (k : ℕ) : Type 0 where
  pub lie : (low : ℕ) (text : List ℕ) → AreOn low text parts → AllIn low text spans
  pub few : (length spans + length left ≤ length parts) ⊎ ((k ≡ 0) × (0 < length left) × (length spans + length left ≤ length parts + 1))

pub few_none : (parts : List Part) (k : ℕ) → FewSoFar parts [] parts k
few_none parts k = record { lie = λ low text on. tt; few = inl (omega arith) }

pub few_more : (value : List ℕ → List ℕ) (parts : List Part) (spans next : List Span) (left : List Part) (n k k' : ℕ) (part : Part) (rest : List Part)
    → SoFar value parts left n k → FewSoFar parts spans left k → IsTaken k left part rest → 0 < k → next ≡ spans ++ span_of part ∷ [] → k ≡ (span_of part).len + k' → FewSoFar parts next rest k'
few_more value parts spans next left n k k' part rest s f t some is len = record {
  lie = λ low text on. rw is (all_in_append low text spans (span_of part ∷ []) (f.lie low text on) (lies part (t.of_text low text (s.goes.on low text on)), tt));
  few =
      let before : length spans + length left ≤ length parts = ⊎_elim (λ here. here) (λ over. absurd (omega (arith, over.0, some))) f.few in
      let grown : length next ≡ length spans + 1 = ap length is ∙ length-append spans (span_of part ∷ []) in
      ⊎_elim
      (λ less. inl (omega (arith, before, grown, less)))
      (λ front. inr (omega (arith, front.0, len), front.1, omega (arith, before, grown, front.2)))
      t.count;
}

pub few_are : (parts : List Part) (spans : List Span) (left : List Part) (k : ℕ) → FewSoFar parts spans left k → ArePlaces parts spans left
few_are parts spans left k f = record { lie = f.lie; few = ⊎_elim (λ less. omega (arith, less)) (λ over. omega (arith, over.1, over.2)) f.few }
