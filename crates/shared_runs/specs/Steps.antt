-- A run of a shared file in the words of the machine of views (`shared_views`): to open the file is
-- to enter, a look-up is a look, what is put are additions, and a call that fails cuts the run off.
-- What others append before a turn are events of other runs.
--
-- A run, and what others do before its turns, as in the history that `shared_views` shows:
--
--     call of run 1      events                      it sees
--     open               Enter 0, Add 0 a, Enter 1   a
--     put b              Add 1 b                     a b
--     find the key of c  Add 0 c, Look 1 ..          a b: nothing is found
use Rattle.std.specs.Prelude.{◌≡◌, ◌⊎◌, ◌≤◌, ℕ, if◌then◌else◌, List, [], ◌∷◌, ◌++◌, length, map}
use Rattle.std.specs.Prelude.{take, IsTrue, Option, Some, None, Result, Ok, Err}
use Rattle.codes.specs.Views.{found_as}
use Rattle.globs.specs.declared.out_set.OutSet.{OutSet}
use Rattle.store_dev.specs.declared.device.StoreDevice.{Ghosts as DeviceGhosts}
use Rattle.cache_api.specs.declared.error.CacheErr.{CacheErr}
use Rattle.cache_api.specs.declared.hit.Hit.{Hit}
use Rattle.cache_api.specs.Pairs.{Pair}
use Rattle.cache_api.specs.Reading.{artifact_in}
use Rattle.pair_frames.specs.Pairs.{pairs_in}
use Rattle.shared_views.specs.Machine.{Event, State, after, answer}
use Rattle.shared_views.specs.Machine.Event.{Enter, Look, Add, Cut}
use Rattle.shared_views.specs.Histories.{events_of, IsHistory, added, added_by}
use Rattle.shared_runs.specs.declared.store.SharedStore.{SharedStore}
use Rattle.shared_runs.specs.declared.turn.Shared.{Ghosts}
use Rattle.shared_runs.specs.Shared.{file_of, coming_in, state_of, shows}
use Rattle.shared_runs.specs.Views.{pairs_at}

-- The history of a file in which one run entered: the file had these pairs first, the run entered
-- behind the earlier events, and the later ones came since, its own and others'.
pub record RunHistory : Type 0 where
  pub run : ℕ
  pub first : List Pair
  pub earlier : List Event
  pub later : List Event

abbrev pub events_in : RunHistory → List Event
events_in h = h.earlier ++ Enter h.run ∷ h.later

-- with more events behind
abbrev pub further : RunHistory → List Event → RunHistory
further h more = record h { later = h.later ++ more }

-- what its events lead to
abbrev pub reached : RunHistory → State
reached h = after h.first (events_in h)

-- the pairs that the file had as the run entered
abbrev pub entered_at : RunHistory → List Pair
entered_at h = (after h.first h.earlier).file

-- the run adds these pairs, one after another
abbrev pub adds : ℕ → List Pair → List Event
adds run pairs = map (Add run) pairs

-- some of these events came, the first of them
abbrev pub AreFirstOf : List Event → List Event → Type 0
AreFirstOf part events = (rest : List Event) × (events ≡ part ++ rest)

module _ {H D : Type 0} {G : Ghosts H D} {K : DeviceGhosts D} where
  -- what the run sees while it may be used, and no view once a call of it failed
  abbrev pub sight_of : SharedStore H D G K → Option (List Pair)
  sight_of s = if (state_of s).whole then Some (state_of s).pairs else None

  -- The run's cache is as this history leaves it: its events are a history, and lead to the pairs
  -- that the file holds and to what the run sees; and what the run keeps as it is are the pairs
  -- that the file had as it entered.
  pub record Follows (h : RunHistory) (s : SharedStore H D G K) : Type 0 where
    pub history : IsHistory (events_in h)
    pub file : (reached h).file ≡ pairs_at (file_of s)
    pub view : (reached h).views h.run ≡ sight_of s
    pub base : (told : K.tells) → (state_of s).base told ≡ entered_at h

  -- What others do before the next turn of the run: none of these events is its own, and they add
  -- the pairs that are to come.
  pub record Comes (h : RunHistory) (others : List Event) (s : SharedStore H D G K) : Type 0 where
    pub history : IsHistory (events_in (further h others))
    pub apart : events_of h.run others ≡ []
    pub pairs : pairs_in (coming_in s) ≡ pairs_at (file_of s) ++ added others

  -- P holds of each history that leads to the run's cache, with all that others do before its next
  -- turn
  abbrev pub InEach : SharedStore H D G K → (RunHistory → List Event → Type 0) → Type 0
  InEach s P = (h : RunHistory) (others : List Event) → Follows h s → Comes h others s → P h others

  -- some of others' events came, and the run is cut off
  pub record IsCutOff (h : RunHistory) (others : List Event) (new : SharedStore H D G K)
      : Type 0 where
    pub part : List Event
    pub came : AreFirstOf part others
    pub follows : Follows (further h (part ++ Cut h.run ∷ [])) new

  -- others' events came, and then the first of these additions of the run, none to all, and it is
  -- cut off
  pub record IsCutBehind (h : RunHistory) (others : List Event) (pairs : List Pair)
      (new : SharedStore H D G K) : Type 0 where
    pub count : ℕ
    pub few : count ≤ length pairs
    pub follows : Follows
        (further h (others ++ (adds h.run (take count pairs) ++ Cut h.run ∷ []))) new

  -- others' events came, and then the look, which answers as it does in the machine
  pub record IsLook (h : RunHistory) (others : List Event) (key : List ℕ) (outs : OutSet)
      (found : Option Hit) (new : SharedStore H D G K) : Type 0 where
    pub follows : Follows (further h (others ++ Look h.run key outs ∷ [])) new
    pub answers : found_as (shows new) found
        ≡ answer artifact_in h.first (events_in (further h others)) h.run key outs

  -- ---- the calls

  abbrev pub Looks : (old new : SharedStore H D G K) → List ℕ → OutSet
      → Result (Option Hit) CacheErr → Type 0
  Looks old new key outs (Ok found) = InEach old (λ h others. IsLook h others key outs found new)
  Looks old new key outs (Err e) = InEach old (λ h others. IsCutOff h others new)

  -- to read what was found is no event
  abbrev pub Reads : {T : Type 0} → (old new : SharedStore H D G K) → Result T CacheErr → Type 0
  Reads old new (Ok bytes) = InEach old (λ h others. Follows (further h others) new)
  Reads old new (Err e) = InEach old (λ h others. IsCutOff h others new)

  -- the run adds the pairs, or, where the call fails, none or some, and is cut off
  abbrev pub Adds : {T : Type 0} → (old new : SharedStore H D G K) → List Pair
      → Result T CacheErr → Type 0
  Adds old new pairs (Ok puts) =
      InEach old (λ h others. Follows (further h (others ++ adds h.run pairs)) new)
  Adds old new pairs (Err e) =
      InEach old (λ h others. IsCutOff h others new ⊎ IsCutBehind h others pairs new)

  -- the run enters behind these events, which led to the pairs that the file then had
  pub record Enters (coming : List Pair) (s : SharedStore H D G K) : Type 0 where
    pub follows : (run : ℕ) (first : List Pair) (earlier : List Event) → IsHistory earlier
        → events_of run earlier ≡ [] → (after first earlier).file ≡ coming
        → Follows (record { run = run; first = first; earlier = earlier; later = [] }) s

-- ---- the laws

-- What a run sees is what the file had as it entered, and then what it has put itself since, in
-- order: no later pair of another run.
abbrev pub SeenLaw : {H D : Type 0} (G : Ghosts H D) (K : DeviceGhosts D) → Type 0
SeenLaw {H = H} {D = D} G K = (h : RunHistory) (s : SharedStore H D G K) → Follows h s
    → IsTrue (state_of s).whole → (state_of s).pairs ≡ entered_at h ++ added_by h.run h.later

-- Whatever pairs are to come behind those of the file, there are events of other runs that bring
-- them. So each call is events of each history that leads to it.
abbrev pub ComesLaw : {H D : Type 0} (G : Ghosts H D) (K : DeviceGhosts D) → Type 0
ComesLaw {H = H} {D = D} G K = (h : RunHistory) (s : SharedStore H D G K) → Follows h s
    → K.tells → (others : List Event) × Comes h others s
