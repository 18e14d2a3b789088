-- What a hit is, and that effects are those of their tasks.
use Rattle.std.proofs.Common.{◌≡◌, ℕ, ◌<◌, Bool, true, false, cond, List, length, slice_get, sym, ap, ◌∙◌, subst, Some}
use Rattle.globs.specs.declared.out_set.OutSet.{OutSet}
use Rattle.listing.specs.declared.part.Listing.{Listing}
use Rattle.run_core.specs.declared.states.Mode.{Mode}
use Rattle.spawn_dev.specs.declared.effect.Effect.{Effect}
use Rattle.run_laws.specs.declared.outcome.Outcome.{Outcome}
use Rattle.run_laws.specs.declared.outcome.Outcome.TheVariants.{Skipped, Passed, Done}
use Rattle.run_laws.specs.Ancestors.{part_at, is_nil}
use Rattle.run_laws.specs.Valid.{IsValid}
use Rattle.run_laws.specs.Effects.{Book}
use Rattle.spawn_dev.specs.Effects.{IsEffect, IsWellBehaved}
use Rattle.cache_api.specs.Artifacts.{Artifact}
use Rattle.cache_api.specs.Pairs.{Pair}
use Rattle.cache_api.specs.Reading.{ReadsOnly, artifact_in}
use Rattle.run_laws.specs.CleanLaws.{EffectLaw}
use Rattle.run_laws.specs.Clean.{skips, is_bad, seen, outcome, clean}
use Rattle.run_laws.specs.Keys.{artifact_of, IsStorable}
use Rattle.run_laws.specs.Pairs.{IsGood, EndsWell}
use Rattle.run_laws.specs.Marks.{found_for}
use Rattle.run_laws.specs.PairLaws.{HitLaw}
use Rattle.std.specs.List.{list_any}
use Rattle.std.specs.Prelude.{◌&&◌}
use Rattle.run_laws.proofs.EachFacts.{each_law_lem}
use Rattle.run_laws.proofs.GoodFacts.{value_law_lem}
use Rattle.run_laws.proofs.FoundFacts.{found-stands}

hit-found : ReadsOnly artifact_in → (book : Book) (mode : Mode) (pairs : List Pair) (a : Artifact) (l : Listing) (i : ℕ) → IsStorable mode book l → IsGood book pairs → IsValid l → i < length l.parts
    → found_for pairs l i ≡ Some a → (effect : Effect) × EndsWell mode book l i effect × (a ≡ artifact_of effect)
hit-found only book mode pairs a l i storable good v h e =
    let s = found-stands artifact_in _ _ pairs a e in
    let w = value_law_lem book mode pairs s.0 l i good v h s.1 in
    (w.0, w.1, only (artifact_of w.0) a (storable i w.0 w.1.ended) (sym (ap artifact_in w.2) ∙ s.2))

pub hit_law_lem : ReadsOnly artifact_in → HitLaw
hit_law_lem only = record {
  value = λ book mode pairs value l i good v h stands. value_law_lem book mode pairs value l i good v h stands;
  found = λ book mode pairs a l i storable good v h e. hit-found only book mode pairs a l i storable good v h e;
}

-- ---- effects

abbrev IsEffectAt : OutSet → Outcome → Type 0
IsEffectAt outs Skipped = Unit {0}
IsEffectAt outs Passed = Unit {0}
IsEffectAt outs (Done effect) = IsEffect outs effect

outcome-behaves : (mode : Mode) (book : Book) (l : Listing) (i : ℕ) (outs : List Outcome) → IsWellBehaved book → IsEffectAt (part_at l i).outs (outcome mode book l i outs)
unfolding outcome seen
outcome-behaves mode book l i outs behaved = by (skips mode && list_any (λ d. is_bad (slice_get outs d)) (part_at l i).deps) (is_nil (part_at l i).scripts)
  where
    by : (b n : Bool) → IsEffectAt (part_at l i).outs (cond b Skipped (cond n Passed (Done (book (seen l i outs)))))
    by true n = tt
    by false true = tt
    by false false = behaved (seen l i outs)

pub effect_law_lem : EffectLaw
effect_law_lem mode book l i effect behaved low h e =
    let same = sym (each_law_lem mode book l i low h) ∙ e in
    let is : outcome mode book l i (clean mode book l) ≡ Done effect = cc in
    subst (IsEffectAt (part_at l i).outs) is (outcome-behaves mode book l i (clean mode book l) behaved)
