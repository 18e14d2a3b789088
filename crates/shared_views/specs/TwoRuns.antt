-- A history of two runs whose additions interleave, and what it leads to.
use Rattle.std.specs.Prelude.{◌≡◌, ℕ, ◌==◌, if◌then◌else◌, List, [], ◌∷◌, ◌++◌, Some}
use Rattle.globs.specs.declared.out_set.OutSet.{OutSet}
use Rattle.cache_api.specs.Found.{found}
use Rattle.cache_api.specs.Pairs.{Pair}
use Rattle.cache_api.specs.Reading.{Reader}
use Rattle.shared_views.specs.Machine.{Event, after, answer}
use Rattle.shared_views.specs.Machine.Event.{Enter, Add}
use Rattle.shared_views.specs.Histories.{IsHistory, AddDue}

-- run 0 adds a and c, and run 1, which enters between, adds b
abbrev pub two_runs : Pair → Pair → Pair → List Event
two_runs a b c = Enter 0 ∷ Add 0 a ∷ Enter 1 ∷ Add 1 b ∷ Add 0 c ∷ []

-- run 0 is due to add a and c, and run 1 b and d
abbrev pub two_dues : Pair → Pair → Pair → Pair → ℕ → List Pair
two_dues a b c d i = if i == 0 then a ∷ c ∷ [] else if i == 1 then b ∷ d ∷ [] else []

-- Run 0 is done, and run 1 has one more to add. The file has all three pairs; run 0 sees its own
-- alone, and run 1 sees what run 0 had added as it entered, and its own. A look-up of run 1 finds
-- nothing of the pair that run 0 added last.
pub record TwoRunsLaw : Type 0 where
  pub history : (a b c : Pair) → IsHistory (two_runs a b c)
  pub due : (a b c d : Pair) → AddDue (two_dues a b c d) (two_runs a b c)
  pub file : (first : List Pair) (a b c : Pair)
      → (after first (two_runs a b c)).file ≡ first ++ a ∷ b ∷ c ∷ []
  pub view_of_0 : (first : List Pair) (a b c : Pair)
      → (after first (two_runs a b c)).views 0 ≡ Some (first ++ a ∷ c ∷ [])
  pub view_of_1 : (first : List Pair) (a b c : Pair)
      → (after first (two_runs a b c)).views 1 ≡ Some (first ++ a ∷ b ∷ [])
  pub look : (read : Reader) (a b c : Pair) (key : List ℕ) (outs : OutSet)
      → answer read [] (two_runs a b c) 1 key outs ≡ found read key outs (a ∷ b ∷ [])
