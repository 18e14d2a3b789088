-- Parts that hold nothing are passed.
use Rattle.std.proofs.Common.{◌≡◌, inl, inr, ⊎_elim, ℕ, List, [], ◌∷◌, ◌++◌, take, drop, refl, ◌∙◌, ap, arith}
use Rattle.artifact_reader.specs.declared.part.Part.{Part}
use Rattle.artifact_reader.specs.Parts.{shown, spans_of, span_of, at_span}
use Rattle.artifact_reader.specs.Cursors.{GoesOn, IsTaken}

-- what is left shows all that there was
pub record Passes (parts left : List Part) : Type 0 where
  pub goes : GoesOn parts left
  pub same : (text : List ℕ) → shown text (spans_of parts) ≡ shown text (spans_of left)

pub passes_none : (parts : List Part) → Passes parts parts
passes_none parts = record { goes = record { well = λ w. w; on = λ low text on. on; unknown = λ u. u; few = omega arith }; same = λ text. refl }

nothing_at : (text : List ℕ) (part : Part) → (span_of part).len ≡ 0 → at_span text (span_of part) ≡ []
nothing_at text part none = ap (λ (n : ℕ). take n (drop (span_of part).at text)) none

-- one more is passed
pub passes_one : (parts : List Part) (part : Part) (rest : List Part) → Passes parts (part ∷ rest) → (span_of part).len ≡ 0 → Passes parts rest
passes_one parts part rest p none = record {
  goes = record {
    well = λ w. (p.goes.well w).1;
    on = λ low text on. let more = p.goes.on low text on in (more.0, more.1.1);
    unknown = λ u. p.goes.unknown (inr u);
    few = omega (arith, p.goes.few);
  };
  same = λ text. p.same text ∙ ap (λ (l : List ℕ). l ++ shown text (spans_of rest)) (nothing_at text part none);
}

-- what is taken then is taken from all that there was
pub taken_behind : (most : ℕ) (parts mid : List Part) (part : Part) (left : List Part) → Passes parts mid → IsTaken most mid part left → IsTaken most parts part left
taken_behind most parts mid part left p t = record {
  goes = record {
    well = λ w. t.goes.well (p.goes.well w);
    on = λ low text on. t.goes.on low text (p.goes.on low text on);
    unknown = λ u. p.goes.unknown (t.goes.unknown u);
    few = omega (arith, p.goes.few, t.goes.few);
  };
  well = t.well;
  some = t.some;
  few = t.few;
  unknown = λ bad. p.goes.unknown (t.unknown bad);
  count = ⊎_elim (λ less. inl (omega (arith, less, p.goes.few))) (λ front. inr (front.0, front.1, omega (arith, front.2, p.goes.few))) t.count;
  of_text = λ low text on. t.of_text low text (p.goes.on low text on);
  shows = λ low text on. p.same text ∙ t.shows low text (p.goes.on low text on);
}
