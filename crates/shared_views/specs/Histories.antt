-- Which lists of events runs may make, and what they add.
use Rattle.std.specs.Prelude.{◌≡◌, ℕ, ◌==◌, Bool, true, false, List, [], ◌∷◌, ◌++◌, filter}
use Rattle.std.specs.Prelude.{filter_map, Option, Some, None}
use Rattle.cache_api.specs.Pairs.{Pair}
use Rattle.shared_views.specs.Machine.{Event}
use Rattle.shared_views.specs.Machine.Event.{Enter, Look, Add, Cut}

-- whose event it is
abbrev pub run_of : Event → ℕ
run_of (Enter i) = i
run_of (Look i key outs) = i
run_of (Add i pair) = i
run_of (Cut i) = i

-- the events of one run, in order
abbrev pub events_of : ℕ → List Event → List Event
events_of i events = filter (λ e. run_of e == i) events

-- what a run does behind its entering: it looks and adds, and when it is cut off nothing follows
abbrev pub IsInside : List Event → Type 0
IsInside [] = Unit
IsInside (Enter i ∷ events) = ⊥
IsInside (Look i key outs ∷ events) = IsInside events
IsInside (Add i pair ∷ events) = IsInside events
IsInside (Cut i ∷ events) = events ≡ []

-- what a run does: nothing yet, or it enters first, and once
abbrev pub IsRun : List Event → Type 0
IsRun [] = Unit
IsRun (Enter i ∷ events) = IsInside events
IsRun (Look i key outs ∷ events) = ⊥
IsRun (Add i pair ∷ events) = ⊥
IsRun (Cut i ∷ events) = ⊥

-- the events of each run are those of a run
abbrev pub IsHistory : List Event → Type 0
IsHistory events = (i : ℕ) → IsRun (events_of i events)

abbrev pub is_cut : Event → Bool
is_cut (Enter i) = false
is_cut (Look i key outs) = false
is_cut (Add i pair) = false
is_cut (Cut i) = true

-- the pair that the event adds
abbrev pub pair_of : Event → Option Pair
pair_of (Enter i) = None
pair_of (Look i key outs) = None
pair_of (Add i pair) = Some pair
pair_of (Cut i) = None

-- the pairs that are added, in order
abbrev pub added : List Event → List Pair
added events = filter_map pair_of events

-- what one run adds, in order
abbrev pub added_by : ℕ → List Event → List Pair
added_by i events = added (events_of i events)

-- the list begins with the part
abbrev pub IsPrefixOf : List Pair → List Pair → Type 0
IsPrefixOf part list = (rest : List Pair) × (list ≡ part ++ rest)

-- each run adds a first part of what is due from it, in that order
abbrev pub AddDue : (ℕ → List Pair) → List Event → Type 0
AddDue due events = (i : ℕ) → IsPrefixOf (added_by i events) (due i)
