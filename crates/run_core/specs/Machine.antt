-- What a scheduler answers, by the states of its tasks, and how its calls change these states.
use Rattle.std.specs.Prelude.{◌≡◌, ℕ, zero, suc, ◌<◌, Bool, true, false, ◌&&◌, ◌||◌, not, ◌==◌, nat_lt, if◌then◌else◌, Option, Some, None}
use Rattle.std.specs.List.{list_any, list_all}
use Rattle.run_core.specs.declared.states.Mode.{Mode}
use Rattle.run_core.specs.declared.states.State.{State}
use Rattle.run_core.specs.declared.states.State.TheVariants.{Waiting, Missed, Running, Passed, Ended, Left}
use Rattle.run_core.specs.declared.states.Next.{Next}
use Rattle.run_core.specs.declared.states.Next.TheVariants.{Lookup, Start, WaitFirst, Finished}
use Rattle.run_core.specs.Greedy.{Rules, AreLower, stops, serves, count_below}

abbrev pub States : Type 0
States = ℕ → State

abbrev pub is_waiting : State → Bool
is_waiting Waiting = true
is_waiting _ = false

abbrev pub is_missed : State → Bool
is_missed Missed = true
is_missed _ = false

abbrev pub runs : State → Bool
runs Running = true
runs _ = false

-- settled so that the tasks above may go on
abbrev pub is_well : Mode → State → Bool
is_well mode Waiting = false
is_well mode Missed = false
is_well mode Running = false
is_well mode Passed = true
is_well mode (Ended s) = serves mode s
is_well mode Left = false

abbrev pub has_failed : State → Bool
has_failed (Ended s) = not (s == 0)
has_failed _ = false

-- looked up at least
abbrev pub is_known : State → Bool
is_known Waiting = false
is_known Missed = true
is_known Running = true
is_known Passed = true
is_known (Ended s) = true
is_known Left = false

-- passed or ended
abbrev pub is_done : State → Bool
is_done Waiting = false
is_done Missed = false
is_done Running = false
is_done Passed = true
is_done (Ended s) = true
is_done Left = false

-- a task that waits and whose dependencies are settled well is to be looked up
abbrev pub is_ready : Rules → States → ℕ → Bool
is_ready g st t = is_waiting (st t) && list_all (λ d. is_well g.mode (st d)) (g.deps t)

-- the least number below n that passes
abbrev pub or_this : Option ℕ → Bool → ℕ → Option ℕ
or_this (Some t) b n = Some t
or_this None b n = if b then Some n else None

abbrev pub least : (ℕ → Bool) → ℕ → Option ℕ
least p zero = None
least p (suc n) = or_this (least p n) (p n) n

abbrev pub some_below : (ℕ → Bool) → ℕ → Bool
some_below p n = nat_lt 0 (count_below p n)

abbrev pub wait_or_end : Rules → States → Next
wait_or_end g st = if some_below (λ t. runs (st t)) g.size then WaitFirst else Finished

abbrev pub start_or_wait : Rules → States → Option ℕ → Next
start_or_wait g st None = wait_or_end g st
start_or_wait g st (Some t) = if nat_lt (count_below (λ u. runs (st u)) g.size) g.width then Start t else wait_or_end g st

abbrev pub look_or_start : Rules → States → Option ℕ → Next
look_or_start g st (Some t) = Lookup t
look_or_start g st None = start_or_wait g st (least (λ t. is_missed (st t)) g.size)

abbrev pub has_stopped : Rules → States → Bool
has_stopped g st = stops g.mode && some_below (λ t. has_failed (st t)) g.size

-- look-ups go before starts, starts before waiting for an end; where a failure stops the run, neither comes after it
unfoldable pub next : Rules → States → Next
next g st =
    if has_stopped g st then wait_or_end g st
    else look_or_start g st (least (is_ready g st) g.size)

-- from t at least one and at most n edges lead to a
abbrev pub leads : Rules → ℕ → ℕ → ℕ → Bool
leads g zero t a = false
leads g (suc n) t a = list_any (λ d. (d == a) || leads g n d a) (g.deps t)

-- t has a as an ancestor; dependencies are lower, so that no way from t has more than t edges
abbrev pub is_above : Rules → ℕ → ℕ → Bool
is_above g t a = leads g t t a

abbrev pub put : States → ℕ → State → States
put st t s = λ u. if u == t then s else st u

-- after an end that doesn't serve them, all tasks above are left
abbrev pub after_end : Rules → States → ℕ → ℕ → States
after_end g st t s = λ u. if not (serves g.mode s) && is_above g u t then Left else put st t (Ended s) u

-- a task that was looked up stands on ancestors that are all settled well
abbrev pub IsCalm : Rules → States → Type 0
IsCalm g st = (t a : ℕ) → is_above g t a ≡ true → is_known (st t) ≡ true → is_well g.mode (st a) ≡ true

-- what an answer tells its caller; and the ancestors of a task that is to be looked up are settled well
pub record NextLaw : Type 0 where
  pub lookup : (g : Rules) (st : States) (t : ℕ) → next g st ≡ Lookup t → (t < g.size) × (st t ≡ Waiting) × (list_all (λ d. is_well g.mode (st d)) (g.deps t) ≡ true)
  pub above : (g : Rules) (st : States) (t a : ℕ) → AreLower g → IsCalm g st → next g st ≡ Lookup t → is_above g t a ≡ true → is_well g.mode (st a) ≡ true
  pub start : (g : Rules) (st : States) (t : ℕ) → next g st ≡ Start t → (t < g.size) × (st t ≡ Missed) × (count_below (λ u. runs (st u)) g.size < g.width)
  pub wait : (g : Rules) (st : States) → next g st ≡ WaitFirst → (t : ℕ) × (t < g.size) × (st t ≡ Running)
  pub finished : (g : Rules) (st : States) (t : ℕ) → next g st ≡ Finished → t < g.size → runs (st t) ≡ false
