-- What holds of a file that several runs share, and of what each of them sees, in every history.
use Rattle.std.specs.Prelude.{◌≡◌, ◌⊎◌, ℕ, if◌then◌else◌, List, [], ◌∷◌, ◌++◌, All, Contains, Some}
use Rattle.std.specs.Prelude.{None}
use Rattle.std.specs.List.{list_any}
use Rattle.globs.specs.declared.out_set.OutSet.{OutSet}
use Rattle.cache_api.specs.Found.{found, or_else}
use Rattle.cache_api.specs.Pairs.{Pair}
use Rattle.cache_api.specs.Reading.{Reader}
use Rattle.shared_views.specs.Machine.{Event, after, answer}
use Rattle.shared_views.specs.Machine.Event.{Enter, Look}
use Rattle.shared_views.specs.Histories.{events_of, IsHistory, is_cut, added, added_by, IsPrefixOf}
use Rattle.shared_views.specs.Histories.{AddDue}
use Rattle.shared_views.specs.Interleavings.{IsInterleaving}

-- The file has its first pairs and then new ones, which interleave what the runs have added: of
-- each run a first part of what is due from it.
pub record HasGrown (first : List Pair) (due : ℕ → List Pair) (events : List Event)
    (file : List Pair) : Type 0 where
  pub new : List Pair
  pub file_is : file ≡ first ++ new
  pub interleaved : IsInterleaving (λ i. added_by i events) new
  pub parts : (i : ℕ) → IsPrefixOf (added_by i events) (due i)

-- where each run adds what is due from it in its order, so does the file have it
abbrev pub FileLaw : Type 0
FileLaw = (first : List Pair) (due : ℕ → List Pair) (events : List Event) → AddDue due events
    → HasGrown first due events (after first events).file

-- It holds at every moment: what has come so far is a history of runs that add what is due, and
-- what comes later leaves the file's pairs and puts what it adds behind them.
pub record MomentLaw : Type 0 where
  pub history : (so_far later : List Event) → IsHistory (so_far ++ later) → IsHistory so_far
  pub due : (due : ℕ → List Pair) (so_far later : List Event) → AddDue due (so_far ++ later)
      → AddDue due so_far
  pub file : (first : List Pair) (so_far later : List Event)
      → (after first (so_far ++ later)).file ≡ (after first so_far).file ++ added later

-- The view of a run is the file's pairs as it entered, followed by what it has added itself so far.
-- It has none before it enters, and none once it is cut off.
pub record ViewLaw : Type 0 where
  pub entered : (first : List Pair) (earlier later : List Event) (i : ℕ)
      → IsHistory (earlier ++ Enter i ∷ later)
      → (after first (earlier ++ Enter i ∷ later)).views i
      ≡ if list_any is_cut (events_of i later) then None
      else Some ((after first earlier).file ++ added_by i later)
  pub outside : (first : List Pair) (events : List Event) (i : ℕ) → events_of i events ≡ []
      → (after first events).views i ≡ None

-- A look-up answers what the pairs give that its own run has added so far, and where they give
-- nothing, what the file gave as the run entered.
abbrev pub LookLaw : Type 0
LookLaw = (read : Reader) (first : List Pair) (earlier between : List Event) (i : ℕ) (key : List ℕ)
    (outs : OutSet) → IsHistory (earlier ++ Enter i ∷ between ++ Look i key outs ∷ [])
    → answer read first (earlier ++ Enter i ∷ between) i key outs
    ≡ or_else (found read key outs (added_by i between))
    (found read key outs (after first earlier).file)

-- What other runs do behind the entering of a run changes none of its answers: two histories that
-- agree up to there and in what the run does give its look-ups the same.
abbrev pub OthersLaw : Type 0
OthersLaw = (read : Reader) (first : List Pair) (earlier one other : List Event) (i : ℕ)
    (key : List ℕ) (outs : OutSet)
    → IsHistory (earlier ++ Enter i ∷ one ++ Look i key outs ∷ [])
    → IsHistory (earlier ++ Enter i ∷ other ++ Look i key outs ∷ [])
    → events_of i one ≡ events_of i other
    → answer read first (earlier ++ Enter i ∷ one) i key outs
    ≡ answer read first (earlier ++ Enter i ∷ other) i key outs

-- the pair was there first, or it is due from a run
abbrev pub IsFirstOrDue : List Pair → (ℕ → List Pair) → Pair → Type 0
IsFirstOrDue first due pair = Contains first pair ⊎ ((i : ℕ) × Contains (due i) pair)

-- All pairs of the file and of each view were there first or are due from a run. So what holds of
-- all first and of all due pairs holds of all pairs that any run ever sees.
pub record OriginLaw : Type 0 where
  pub file : (first : List Pair) (due : ℕ → List Pair) (events : List Event) → AddDue due events
      → All (IsFirstOrDue first due) (after first events).file
  pub views : (first : List Pair) (due : ℕ → List Pair) (events : List Event) (i : ℕ)
      (view : List Pair) → AddDue due events → (after first events).views i ≡ Some view
      → All (IsFirstOrDue first due) view
