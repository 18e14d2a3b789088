-- Two stores at every moment while one is compacted into the other.
use Rattle.std.proofs.Common.{◌≡◌, ◌≤◌, ◌<◌, inl, inr, ⊎_elim, ℕ, ◌+◌, Bool, cond, List, Some, ◌∙◌, ap, arith}
use Rattle.std.proofs.lemmas.Bool.{cases_lt, le-ltb, lt-ltb}
use Rattle.cache_api.specs.Pairs.{Pair}
use Rattle.record_log.specs.Frames.{IsSound}
use Rattle.artifact_store.specs.Pairs.{stands_for}
use Rattle.artifact_store.specs.Laws.{told_stands}
use Rattle.compact.specs.declared.side.Side.{Side}
use Rattle.compact.specs.declared.side.Side.TheVariants.{First, Spare}
use Rattle.compact.specs.Current.{generation_in, pairs_held, newer_of, on_side, IsCurrentOn, pairs_by}
use Rattle.compact.specs.Left.{ReadsAs, IsUnsealed, IsStoreOf, IsRenewing, IsEither}
use Rattle.compact.proofs.Telling.{store_tells, tells_same, tells_itself, stands_itself}

-- ---- the side with the greater generation

newer_first : (a b : ℕ) → b ≤ a → newer_of a b ≡ First
newer_first a b le = ap (λ (t : Bool). cond t Spare First) (le-ltb a b le)

newer_spare : (a b : ℕ) → a < b → newer_of a b ≡ Spare
newer_spare a b lt = ap (λ (t : Bool). cond t Spare First) (lt-ltb a b lt)

first_newer : (a b : ℕ) → newer_of a b ≡ First → b ≤ a
first_newer a b is = elim (cases_lt a b) [
  | inl lt ↦ let other = newer_spare a b lt in absurd (cc (is, other))
  | inr le ↦ le
]

spare_newer : (a b : ℕ) → newer_of a b ≡ Spare → a < b
spare_newer a b is = elim (cases_lt a b) [
  | inl lt ↦ lt
  | inr le ↦ let other = newer_first a b le in absurd (cc (is, other))
]

-- ---- the store that is read is current

module _ (from to : List ℕ) (sound : IsSound from) (f : List ℕ) (reads : ReadsAs from f) where
  same : generation_in f ≡ generation_in from
  same = (tells_same (generation_in from) (pairs_held from) f from reads (tells_itself from sound)).generation

  stands : stands_for f ≡ Some (pairs_held from)
  stands =
      let t = tells_same (generation_in from) (pairs_held from) f from reads (tells_itself from sound) in
      stands_itself f t.sound ∙ ap (λ (l : List Pair). Some l) t.pairs

  -- while the other has the generation that it had, or none
  pub old_pairs : (side : Side) (t : List ℕ) → IsCurrentOn side from to
      → IsUnsealed (generation_in to) t → pairs_by side f t ≡ Some (pairs_held from)
  old_pairs First t current x =
      let le : generation_in to ≤ generation_in from = first_newer (generation_in from) (generation_in to) current in
      let low : generation_in t ≤ generation_in f = ⊎_elim (λ is. omega (arith, is, le, same)) (λ none. omega (arith, none)) x.generation in
      ap (λ (s : Side). stands_for (on_side s f t)) (newer_first (generation_in f) (generation_in t) low) ∙ stands
  old_pairs Spare t current x =
      let lt : generation_in to < generation_in from = spare_newer (generation_in to) (generation_in from) current in
      let low : generation_in t < generation_in f = ⊎_elim (λ is. omega (arith, is, lt, same)) (λ none. omega (arith, none, lt, same)) x.generation in
      ap (λ (s : Side). stands_for (on_side s t f)) (newer_spare (generation_in t) (generation_in f) low) ∙ stands

  -- once the other has the next one
  pub new_pairs : (side : Side) (t : List ℕ) (chosen : List Pair)
      → IsStoreOf (generation_in from + 1) chosen t → pairs_by side f t ≡ Some chosen
  new_pairs First t chosen is =
      let next = (store_tells (generation_in from + 1) chosen t is).generation in
      ap (λ (s : Side). stands_for (on_side s f t)) (newer_spare (generation_in f) (generation_in t) (omega (arith, next, same)))
      ∙ told_stands (generation_in from + 1) t chosen is
  new_pairs Spare t chosen is =
      let next = (store_tells (generation_in from + 1) chosen t is).generation in
      ap (λ (s : Side). stands_for (on_side s t f)) (newer_first (generation_in t) (generation_in f) (omega (arith, next, same)))
      ∙ told_stands (generation_in from + 1) t chosen is

  pub either_pairs : (side : Side) (t : List ℕ) (chosen : List Pair) → IsCurrentOn side from to
      → IsRenewing (generation_in to) (generation_in from + 1) chosen t
      → IsEither (pairs_held from) chosen (pairs_by side f t)
  either_pairs side t chosen current (inl x) = inl (old_pairs side t current x)
  either_pairs side t chosen current (inr is) = inr (new_pairs side t chosen is)
