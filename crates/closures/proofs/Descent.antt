-- Finding a task and its ancestors, from the highest place down.
use Rattle.std.proofs.Common.{◌≡◌, ℕ, ◌<◌, ◌≤◌, ◌==◌, Bool, true, ◌||◌, List, length, get_or, sym, ap, ◌∙◌, arith, inl, inr}
use Rattle.std.specs.List.{AllByRecursion}
use Rattle.std.specs.Cmp.{both_ways}
use Rattle.std.proofs.lemmas.Bool.{cases_eq, cases_lt, or_cases, or_left, or_right, false≢true, eqb-true}
use Rattle.std.proofs.lemmas.List.{get_or_default}
use Rattle.listing.specs.declared.part.Part.{Part}
use Rattle.listing.specs.declared.part.Listing.{Listing}
use Rattle.run_laws.specs.Ancestors.{part_at, blank, is_above, IsLower}
use Rattle.run_laws.specs.Closures.{in_closure, IsClosed}
use Rattle.run_laws.proofs.AncestorFacts.{reaches-closed, reaches-lower, closure-closed}
use Rattle.run_core.proofs.Any.{any_gives, all_members, all_weaker}
use Rattle.closures.specs.Places.{has, HasNoneBelow, IsLastBelow}

-- What is kept when the places from this one on were looked at: parts of the closure, the place itself, and the
-- dependencies of what is kept there.
pub record Found (l : Listing) (place left : ℕ) (kept : ℕ → Bool) : Type 0 where
  pub sound : (j : ℕ) → kept j ≡ true → in_closure l place j ≡ true
  pub start : kept place ≡ true
  pub done : (y : ℕ) → left ≤ y → kept y ≡ true → AllByRecursion (λ d. kept d ≡ true) (part_at l y).deps

-- where nothing is left below, that is the closure
pub all_found : (l : Listing) (place left : ℕ) (kept : ℕ → Bool) → Found l place left kept → HasNoneBelow kept left → kept ≡ in_closure l place
all_found l place left kept m none = λ k j. both_ways (kept j) (in_closure l place j) (m.sound j) (back j) k
  where
    closed : IsClosed l kept
    closed y h = elim (cases_lt y left) [ inl lt ↦ absurd (false≢true (sym (none y lt) ∙ h)) | inr le ↦ m.done y le h ]

    back : (j : ℕ) → in_closure l place j ≡ true → kept j ≡ true
    back j h = elim (or_cases (j == place) (is_above l place j) h) [
      | inl e ↦ ap kept (eqb-true j place e) ∙ m.start
      | inr r ↦ reaches-closed l kept closed place place j m.start r
    ]

-- the next place that is kept, and its dependencies
module _ (l : Listing) (place left next : ℕ) (old new : ℕ → Bool) (low : IsLower l) (m : Found l place left old) (last : IsLastBelow old left next)
    (more : (j : ℕ) → new j ≡ (has (part_at l next).deps j || old j)) where
  grows : (j : ℕ) → old j ≡ true → new j ≡ true
  grows j h = more j ∙ or_right (has (part_at l next).deps j) (old j) h

  in_it : (j : ℕ) → new j ≡ true → in_closure l place j ≡ true
  in_it j h = elim (or_cases (has (part_at l next).deps j) (old j) (sym (more j) ∙ h)) [
    | inl t ↦ any_gives (λ d. in_closure l place d ≡ true) (λ d. d == j) (in_closure l place j ≡ true) (λ d k t. ap (in_closure l place) (sym (eqb-true d j t)) ∙ k)
        (part_at l next).deps (closure-closed l place low next (m.sound next last.1)) t
    | inr t ↦ m.sound j t
  ]

  below : (j : ℕ) → has (part_at l next).deps j ≡ true → j < next
  below j t = any_gives (λ d. d < next) (λ d. d == j) (j < next) (λ d k t. let e = eqb-true d j t in omega (arith, k, e)) (part_at l next).deps (low next) t

  here : AllByRecursion (λ d. new d ≡ true) (part_at l next).deps
  here = all_members (λ d. new d ≡ true) (part_at l next).deps (λ d t. more d ∙ or_left (has (part_at l next).deps d) (old d) t)

  later : (y : ℕ) → next < y → new y ≡ true → old y ≡ true
  later y lt h = elim (or_cases (has (part_at l next).deps y) (old y) (sym (more y) ∙ h)) [
    | inl t ↦ absurd (let k = below y t in omega (arith, k, lt))
    | inr t ↦ t
  ]

  past : (y : ℕ) → next < y → old y ≡ true → left ≤ y
  past y lt h = elim (cases_lt y left) [ inl k ↦ absurd (let n = last.2 y k h in omega (arith, n, lt)) | inr le ↦ le ]

  pub followed : Found l place next new
  followed = record {
    sound = in_it;
    start = grows place m.start;
    done = λ y le h. elim (cases_eq y next) [
      | inl e ↦ rw e here
      | inr ne ↦
          let lt : next < y = omega (arith, le, ne) in
          let was = later y lt h in
          all_weaker (λ d. old d ≡ true) (λ d. new d ≡ true) grows (part_at l y).deps (m.done y (past y lt was) was)
    ];
  }

-- each place of the closure is one of a part
pub within : (l : Listing) (place : ℕ) (kept : List ℕ) → IsLower l → place < length l.parts → has kept ≡ in_closure l place → AllByRecursion (λ k. k < length l.parts) kept
within l place kept low lt is =
    all_members (λ k. k < length l.parts) kept
    (λ k h. elim (or_cases (k == place) (is_above l place k) (ap (λ t. t k) (sym is) ∙ h)) [
      | inl e ↦ let same = eqb-true k place e in omega (arith, same, lt)
      | inr r ↦ let less = reaches-lower l low place place k r in omega (arith, less, lt)
    ])

-- the part at a place, whatever stands past the end
pub deps_at : (l : Listing) (parts : List Part) (place : ℕ) (d : Part) → parts ≡ l.parts → place < length l.parts → (get_or parts place d).deps ≡ (part_at l place).deps
deps_at l parts place d same lt = ap (λ (ps : List Part). (get_or ps place d).deps) same ∙ ap (λ (p : Part). p.deps) (get_or_default l.parts place d blank lt)
