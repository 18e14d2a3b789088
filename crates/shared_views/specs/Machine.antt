-- Runs that share one file of pairs: what they do, what becomes of the file and of what each run
-- sees of it, and what a look-up answers.
use Rattle.std.specs.Prelude.{ℕ, ◌==◌, if◌then◌else◌, List, [], ◌∷◌, ◌++◌, fold, Option, Some, None}
use Rattle.globs.specs.declared.out_set.OutSet.{OutSet}
use Rattle.cache_api.specs.Artifacts.{Artifact}
use Rattle.cache_api.specs.Found.{found}
use Rattle.cache_api.specs.Pairs.{Pair}
use Rattle.cache_api.specs.Reading.{Reader}

-- What a run does, named by its number: it enters, looks a key up for a task with these outputs,
-- adds a pair, or is cut off.
pub data Event : Type 0 where
  Enter : (run : ℕ) → Event
  Look : (run : ℕ) (key : List ℕ) (outs : OutSet) → Event
  Add : (run : ℕ) (pair : Pair) → Event
  Cut : (run : ℕ) → Event

-- The pairs of a run's view: those among which it looks. A run that has not entered, or was cut
-- off, has none.
abbrev pub Views : Type 0
Views = ℕ → Option (List Pair)

pub record State : Type 0 where
  pub file : List Pair
  pub views : Views

-- the views, with this one for the run
abbrev pub put_view : Views → ℕ → Option (List Pair) → Views
put_view views i view = λ j. if i == j then view else views j

-- the view, with the pair behind it
abbrev pub longer : Option (List Pair) → Pair → Option (List Pair)
longer None pair = None
longer (Some view) pair = Some (view ++ pair ∷ [])

-- To enter is to see the file's pairs as they stand. A pair is appended to the file and to its own
-- run's view alone.
abbrev pub step : State → Event → State
step s (Enter i) = record s { views = put_view s.views i (Some s.file) }
step s (Look i key outs) = s
step s (Add i pair) =
    record { file = s.file ++ pair ∷ []; views = put_view s.views i (longer (s.views i) pair) }
step s (Cut i) = record s { views = put_view s.views i None }

-- what these events lead to, where the file has these pairs first and no run has entered
abbrev pub after : List Pair → List Event → State
after first events = fold step (record { file = first; views = λ i. None }) events

abbrev pub found_in : Reader → List ℕ → OutSet → Option (List Pair) → Option Artifact
found_in read key outs None = None
found_in read key outs (Some view) = found read key outs view

-- what a look-up of the run answers that comes after these events: what its view gives
abbrev pub answer : Reader → List Pair → List Event → ℕ → List ℕ → OutSet → Option Artifact
answer read first events i key outs = found_in read key outs ((after first events).views i)
