-- A place of a text in two.
use Rattle.std.proofs.Common.{◌≡◌, ◌≤◌, ◌<◌, ℕ, ◌+◌, ◌-◌, ◌^◌, List, ◌++◌, length, take, drop, sym, ◌∙◌, ap, arith}
use Rattle.std.specs.Prelude.{min}
use Rattle.std.proofs.lemmas.List.{take-append-drop, take-take, drop-take, drop-drop}
use Rattle.rel_path.specs.declared.span.Span.{Span}
use Rattle.artifact_reader.specs.Parts.{at_span, LiesIn}

take_both : (k m : ℕ) (l : List ℕ) → take (k + m) l ≡ take k l ++ take m (drop k l)
take_both k m l = sym (take-append-drop k (take (k + m) l)) ∙ (λ i. take-take k (k + m) l (omega arith) i ++ drop-take k m l i)

-- the front and what is left of it
pub record Halves (low : ℕ) (text : List ℕ) (span : Span) (n back : ℕ) : Type 0 where
  pub front : LiesIn low text (record { at = span.at; len = n })
  pub rest : LiesIn low text (record { at = back; len = span.len - n })
  pub both : at_span text span ≡ at_span text (record { at = span.at; len = n }) ++ at_span text (record { at = back; len = span.len - n })
  pub first_is : at_span text (record { at = span.at; len = n }) ≡ take n (at_span text span)
  pub second_is : at_span text (record { at = back; len = span.len - n }) ≡ drop n (at_span text span)

pub halves : (low : ℕ) (text : List ℕ) (span : Span) (n back : ℕ) → length text < 2 ^ 64 → LiesIn low text span → n ≤ span.len → back ≡ min (span.at + n) (2 ^ 64 - 1) → Halves low text span n back
halves low text span n back short lies le is =
    let at : back ≡ span.at + n = omega (arith, short, lies.to, le, is) in
    let len : span.len ≡ n + (span.len - n) = omega (arith, le) in
    let behind : drop n (drop span.at text) ≡ drop back text = drop-drop n span.at text ∙ ap (λ (k : ℕ). drop k text) (sym at) in
    record {
      front = record { from = lies.from; to = omega (arith, lies.to, le) };
      rest = record { from = omega (arith, lies.from, at); to = omega (arith, lies.to, le, at) };
      both = ap (λ (k : ℕ). take k (drop span.at text)) len ∙ take_both n (span.len - n) (drop span.at text) ∙ ap (λ (l : List ℕ). take n (drop span.at text) ++ take (span.len - n) l) behind;
      first_is = sym (take-take n span.len (drop span.at text) le);
      second_is = ap (λ (l : List ℕ). take (span.len - n) l) (sym behind) ∙ sym (ap (λ (k : ℕ). drop n (take k (drop span.at text))) len ∙ drop-take n (span.len - n) (drop span.at text));
    }
