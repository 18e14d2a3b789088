-- Which tasks a finished run starts, and how often.
use Rattle.std.specs.Prelude.{◌≡◌, ◌≢◌, ℕ, ◌<◌, true, ◌&&◌, List, [], ◌∷◌, Contains, AllPairs, ◌↔◌}
use Rattle.run_core.specs.declared.states.Step.{Step}
use Rattle.run_core.specs.declared.states.Step.TheVariants.{Start, End}
use Rattle.run_core.specs.Greedy.{Tasks, IsGreedy, started, ended, is_reported}

-- the places of the starts, in order
abbrev pub starts_of : List Step → List ℕ
starts_of [] = []
starts_of (Start t ∷ steps) = t ∷ starts_of steps
starts_of (End t s ∷ steps) = starts_of steps

-- the places of the ends, in order
abbrev pub ends_of : List Step → List ℕ
ends_of [] = []
ends_of (Start t ∷ steps) = ends_of steps
ends_of (End t s ∷ steps) = t ∷ ends_of steps

-- The starts are the places that were started, and the ends those that were ended, in any steps. In
-- a finished run what is started is what is to run and reported, each start is of a task to run, no
-- place has two starts or two ends, and what was started has ended.
pub record StartsLaw : Type 0 where
  pub starts_are : (steps : List Step) (t : ℕ)
      → Contains (starts_of steps) t ↔ (started steps t ≡ true)
  pub ends_are : (steps : List Step) (t : ℕ) → Contains (ends_of steps) t ↔ (ended steps t ≡ true)
  pub reported : (g : Tasks) (steps : List Step) (t : ℕ) → IsGreedy g steps
      → started steps t ≡ (g.to_run t && is_reported g steps t)
  pub inside : (g : Tasks) (steps : List Step) (t : ℕ) → IsGreedy g steps
      → Contains (starts_of steps) t → (t < g.rules.size) × (g.to_run t ≡ true)
  pub once : (g : Tasks) (steps : List Step) → IsGreedy g steps
      → AllPairs (λ a b. a ≢ b) (starts_of steps)
  pub ends_once : (g : Tasks) (steps : List Step) → IsGreedy g steps
      → AllPairs (λ a b. a ≢ b) (ends_of steps)
  pub ends : (g : Tasks) (steps : List Step) (t : ℕ) → IsGreedy g steps
      → ended steps t ≡ started steps t
