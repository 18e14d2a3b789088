-- Going over parts, as far as it has come.
use Rattle.std.proofs.Common.{◌≡◌, ◌<◌, ◌+◌, ℕ, List, [], ◌++◌, length, take, drop, Some, None, cond, Bool, refl, sym, ◌∙◌, ap, arith, append_assoc, length-append}
use Rattle.std.proofs.lemmas.Bool.{lt-ltb, le-ltb}
use Rattle.std.proofs.lemmas.List.{length-take, length-drop, take_at, drop_at, append-nil}
use Rattle.codes.specs.Codes.{read_bytes, took}
use Rattle.artifact_reader.specs.declared.part.Part.{Part}
use Rattle.artifact_reader.specs.declared.part.Part.TheVariants.{Known, Unknown}
use Rattle.rel_path.specs.declared.span.Span.{Span}
use Rattle.artifact_reader.specs.Parts.{AreWell, IsOf, LiesIn, shown, spans_of, span_of, at_span}
use Rattle.artifact_reader.specs.Cursors.{GoesOn, AreOn, IsTaken, AreOver}

lies_of : (low : ℕ) (text : List ℕ) (part : Part) → IsOf low text part → LiesIn low text (span_of part)
lies_of low text (Known bytes span) is = is.0
lies_of low text (Unknown span) is = is

pub lies : {low : ℕ} {text : List ℕ} (part : Part) → IsOf low text part → LiesIn low text (span_of part)
lies {low} {text} part is = lies_of low text part is

pub span_len : (low : ℕ) (text : List ℕ) (span : Span) → LiesIn low text span → length (at_span text span) ≡ span.len
span_len low text span lies = omega (arith, length-take span.len (drop span.at text), length-drop span.at text, lies.to)

-- a value of so many bytes is read, and so many are wanting
pub record SoFar (value : List ℕ → List ℕ) (parts left : List Part) (n k : ℕ) : Type 0 where
  pub goes : GoesOn parts left
  pub well : AreWell left
  pub shows : (low : ℕ) (text : List ℕ) → AreOn low text parts → shown text (spans_of parts) ≡ value text ++ shown text (spans_of left)
  pub len : (low : ℕ) (text : List ℕ) → AreOn low text parts → length (value text) + k ≡ n

pub none_yet : (parts : List Part) (n : ℕ) → AreWell parts → SoFar (λ text. []) parts parts n n
none_yet parts n well = record {
  goes = record { well = λ w. w; on = λ low text on. on; unknown = λ u. u; few = omega arith };
  well = well;
  shows = λ low text on. refl;
  len = λ low text on. omega arith;
}

pub goes_then : (parts mid left : List Part) → GoesOn parts mid → GoesOn mid left → GoesOn parts left
goes_then parts mid left a b = record {
  well = λ w. b.well (a.well w);
  on = λ low text on. b.on low text (a.on low text on);
  unknown = λ u. a.unknown (b.unknown u);
  few = omega (arith, a.few, b.few);
}

pub one_more : (value next : List ℕ → List ℕ) (parts left : List Part) (n k : ℕ) (part : Part) (rest : List Part) (k' : ℕ)
    → SoFar value parts left n k → IsTaken k left part rest → ((low : ℕ) (text : List ℕ) → AreOn low text left → next text ≡ value text ++ at_span text (span_of part))
    → k ≡ (span_of part).len + k' → SoFar next parts rest n k'
one_more value next parts left n k part rest k' s t grown is = record {
  goes = goes_then parts left rest s.goes t.goes;
  well = t.goes.well s.well;
  shows = λ low text on.
      let at = s.goes.on low text on in
      s.shows low text on
      ∙ ap (λ (l : List ℕ). value text ++ l) (t.shows low text at)
      ∙ sym (append_assoc (value text) (at_span text (span_of part)) (shown text (spans_of rest)))
      ∙ ap (λ (l : List ℕ). l ++ shown text (spans_of rest)) (sym (grown low text at));
  len = λ low text on.
      let at = s.goes.on low text on in
      let more = span_len low text (span_of part) (lies part (t.of_text low text at)) in
      omega (arith, s.len low text on, ap length (grown low text at), length-append (value text) (at_span text (span_of part)), more, is);
}

bytes_are : (x rest : List ℕ) (n : ℕ) → length x ≡ n → read_bytes n (x ++ rest) ≡ Some (x, rest)
bytes_are x rest n is =
    ap (λ (b : Bool). cond b None (took (take n (x ++ rest)) (drop n (x ++ rest)))) (le-ltb _ _ (omega (arith, is, length-append x rest)))
    ∙ (λ i. Some (take_at x rest n is i, drop_at x rest n is i))

pub read_is : (value : List ℕ → List ℕ) (parts left : List Part) (n k : ℕ) → SoFar value parts left n k → k ≡ 0
    → (low : ℕ) (text : List ℕ) → AreOn low text parts → read_bytes n (shown text (spans_of parts)) ≡ Some (value text, shown text (spans_of left))
read_is value parts left n k s none low text on =
    ap (read_bytes n) (s.shows low text on) ∙ bytes_are (value text) (shown text (spans_of left)) n (omega (arith, s.len low text on, none))

pub read_none : (value : List ℕ → List ℕ) (parts left : List Part) (n k : ℕ) → SoFar value parts left n k → 0 < k → AreOver left
    → (low : ℕ) (text : List ℕ) → AreOn low text parts → read_bytes n (shown text (spans_of parts)) ≡ None
read_none value parts left n k s some over low text on =
    let all = s.shows low text on ∙ ap (λ (l : List ℕ). value text ++ l) (over text) ∙ append-nil (value text) in
    ap (λ (b : Bool). cond b None (took (take n (shown text (spans_of parts))) (drop n (shown text (spans_of parts))))) (lt-ltb _ _ (omega (arith, ap length all, s.len low text on, some)))
