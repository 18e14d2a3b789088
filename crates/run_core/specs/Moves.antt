-- Runs of a scheduler: the moves that its answers allow, one after another, and the laws of such runs.
use Rattle.std.specs.Prelude.{◌≡◌, ℕ, zero, suc, ◌+◌, ◌<◌, true, false, List, [], ◌∷◌, ◌++◌, ◌⊎◌}
use Rattle.run_core.specs.declared.states.Step.{Step}
use Rattle.run_core.specs.declared.states.Step.TheVariants.{Start, End}
use Rattle.run_core.specs.declared.states.State.{State}
use Rattle.run_core.specs.declared.states.State.TheVariants.{Waiting, Missed, Running, Passed, Ended, Left}
use Rattle.run_core.specs.declared.states.Next.TheVariants.{Lookup, Start as Begin, WaitFirst, Finished}
use Rattle.run_core.specs.Greedy.{Rules, Tasks, AreLower, IsGreedy, stops, is_reported, HaveStatus}
use Rattle.run_core.specs.Machine.{States, next, put, after_end, is_above, is_well, is_done}

-- a task is found or missed when it is looked up, it is started, or it ends with a status
pub data Move : Type 0 where
  Finds : (place : ℕ) → Move
  Misses : (place : ℕ) → Move
  Starts : (place : ℕ) → Move
  Ends : (place status : ℕ) → Move

-- which command ends, and with which status, is free
abbrev pub Allows : Tasks → States → Move → Type 0
Allows g st (Finds t) = (next g.rules st ≡ Lookup t) × (g.to_run t ≡ false)
Allows g st (Misses t) = (next g.rules st ≡ Lookup t) × (g.to_run t ≡ true)
Allows g st (Starts t) = next g.rules st ≡ Begin t
Allows g st (Ends t s) = (next g.rules st ≡ WaitFirst) × (t < g.rules.size) × (st t ≡ Running)

abbrev pub after : Tasks → States → Move → States
after g st (Finds t) = put st t Passed
after g st (Misses t) = put st t Missed
after g st (Starts t) = put st t Running
after g st (Ends t s) = after_end g.rules st t s

abbrev pub steps_of : List Move → List Step
steps_of [] = []
steps_of (Finds t ∷ moves) = steps_of moves
steps_of (Misses t ∷ moves) = steps_of moves
steps_of (Starts t ∷ moves) = Start t ∷ steps_of moves
steps_of (Ends t s ∷ moves) = End t s ∷ steps_of moves

-- allowed moves until the scheduler says that the run is over
abbrev pub IsRun : Tasks → States → List Move → Type 0
IsRun g st [] = next g.rules st ≡ Finished
IsRun g st (m ∷ moves) = Allows g st m × IsRun g (after g st m) moves

-- whatever ends come, the steps are greedy
abbrev pub GreedyLaw : Type 0
GreedyLaw = (g : Tasks) (moves : List Move) → AreLower g.rules → IsRun g (λ t. Waiting) moves → IsGreedy g (steps_of moves)

-- where no failure stops the run, what is reported doesn't depend on the order of ends
abbrev pub ReportedLaw : Type 0
ReportedLaw = (g : Tasks) (status : ℕ → ℕ) (one other : List Step) → stops g.rules.mode ≡ false → zero < g.rules.width → AreLower g.rules → IsGreedy g one → IsGreedy g other → HaveStatus one status → HaveStatus other status
    → (t : ℕ) → t < g.rules.size → is_reported g one t ≡ is_reported g other t

-- the moves lead from these states to those
abbrev pub Lead : Tasks → States → List Move → States → Type 0
Lead g st [] to = st ≡ to
Lead g st (m ∷ moves) to = Allows g st m × Lead g (after g st m) moves to

-- some allowed moves lead from the beginning to these states, with these steps
pub record IsAt (g : Tasks) (st : States) (steps : List Step) : Type 0 where
  pub moves : List Move
  pub lead : Lead g (λ t. Waiting) moves st
  pub steps_are : steps ≡ steps_of moves

abbrev pub turns : State → ℕ
turns Waiting = 3
turns Missed = 2
turns Running = 1
turns Passed = 0
turns (Ended s) = 0
turns Left = 0

abbrev pub sum_below : (ℕ → ℕ) → ℕ → ℕ
sum_below f zero = 0
sum_below f (suc n) = f n + sum_below f n

-- how many moves there may be still
abbrev pub turns_left : Rules → States → ℕ
turns_left g st = sum_below (λ t. turns (st t)) g.size

-- what a caller keeps over a run: where it is at first and after each move, that there is an allowed move until it is over, that each
-- move brings it nearer to its end, that at a start all ancestors are settled well, and that at the end the steps are greedy and
-- the states tell which tasks are reported
pub record RunLaw : Type 0 where
  pub first : (g : Tasks) → IsAt g (λ t. Waiting) []
  pub move : (g : Tasks) (st : States) (steps : List Step) (m : Move) → IsAt g st steps → Allows g st m → IsAt g (after g st m) (steps ++ steps_of (m ∷ []))
  pub goes : (g : Tasks) (st : States) → (next g.rules st ≡ Finished) ⊎ ((m : Move) × Allows g st m)
  pub fewer : (g : Tasks) (st : States) (m : Move) → Allows g st m → turns_left g.rules (after g st m) < turns_left g.rules st
  pub start : (g : Tasks) (st : States) (steps : List Step) (t a : ℕ) → AreLower g.rules → IsAt g st steps → next g.rules st ≡ Begin t → is_above g.rules t a ≡ true → is_well g.rules.mode (st a) ≡ true
  pub over : (g : Tasks) (st : States) (steps : List Step) → AreLower g.rules → IsAt g st steps → next g.rules st ≡ Finished → IsGreedy g steps
  pub reported : (g : Tasks) (st : States) (steps : List Step) (t : ℕ) → AreLower g.rules → IsAt g st steps → next g.rules st ≡ Finished → t < g.rules.size → is_reported g steps t ≡ is_done (st t)
