-- What a scheduler's tables hold.
use Rattle.std.specs.Prelude.{◌≡◌, ℕ, suc, Bool, true, false, ◌&&◌, ◌==◌, nat_lt, List, [], ◌∷◌, slice_index_or, if◌then◌else◌}
use Rattle.std.specs.List.{list_any}
use Rattle.run_core.specs.declared.states.State.{State}
use Rattle.run_core.specs.declared.states.State.TheVariants.{Left}
use Rattle.run_core.specs.Greedy.{Rules, count_below}
use Rattle.run_core.specs.Machine.{States, is_waiting, is_missed, is_well, has_failed, runs, some_below, IsCalm}
use Rattle.run_core.specs.Sets.{has}

abbrev pub is_in : ℕ → List ℕ → Bool
is_in x xs = list_any (λ y. x == y) xs

-- how often a number stands in a list
abbrev pub times : ℕ → List ℕ → ℕ
times x [] = 0
times x (y ∷ ys) = if x == y then suc (times x ys) else times x ys

-- how many numbers of a list don't pass
abbrev pub missing : (ℕ → Bool) → List ℕ → ℕ
missing p [] = 0
missing p (x ∷ xs) = if p x then missing p xs else suc (missing p xs)

abbrev pub list_at : List (List ℕ) → ℕ → List ℕ
list_at lists v = slice_index_or lists v []

abbrev pub count_at : List ℕ → ℕ → ℕ
count_at counts t = slice_index_or counts t 0

abbrev pub is_left : State → Bool
is_left Left = true
is_left _ = false

-- u stands among the dependents of v as often as v among the dependencies of u
abbrev pub Mirrors : Rules → List (List ℕ) → Type 0
Mirrors g dependents = (v u : ℕ) → times u (list_at dependents v) ≡ times v (g.deps u)

-- above what is left all is left
abbrev pub IsClosed : Rules → States → Type 0
IsClosed g st = (v u : ℕ) → is_in v (g.deps u) ≡ true → st v ≡ Left → st u ≡ Left

-- the tables tell what the states do: how many dependencies of a task are not settled well, which tasks are ready, which missed, how many
-- run, whether one failed; and the states are those of a run
pub record Agree (g : Rules) (st : States) (unmet : List ℕ) (ready missed : List Bool) (running : ℕ) (failed : Bool) : Type 0 where
  pub counts : (t : ℕ) → count_at unmet t ≡ missing (λ d. is_well g.mode (st d)) (g.deps t)
  pub readies : (t : ℕ) → has ready t ≡ (nat_lt t g.size && (is_waiting (st t) && (count_at unmet t == 0)))
  pub misses : (t : ℕ) → has missed t ≡ is_missed (st t)
  pub commands : running ≡ count_below (λ t. runs (st t)) g.size
  pub failures : failed ≡ some_below (λ t. has_failed (st t)) g.size
  pub calm : IsCalm g st
  pub closed : IsClosed g st
