-- The additions of all runs, each with the number of its run.
use Rattle.std.proofs.Common.{◌≡◌, ℕ, ◌==◌, List, [], ◌∷◌, map, refl, ap, inl, inr}
use Rattle.std.specs.List.{filter}
use Rattle.std.proofs.lemmas.Bool.{cases_Bool}
use Rattle.cache_api.specs.Pairs.{Pair}
use Rattle.shared_views.specs.Machine.{Event}
use Rattle.shared_views.specs.Machine.Event.{Enter, Look, Add, Cut}
use Rattle.shared_views.specs.Histories.{added, added_by}
use Rattle.shared_views.specs.Interleavings.{IsInterleaving}
use Rattle.shared_views.specs.Laws.{FileLaw}
use Rattle.shared_views.proofs.Folded.{file-grows}

numbered : List Event → List (ℕ × Pair)
numbered [] = []
numbered (Enter i ∷ events) = numbered events
numbered (Look i key outs ∷ events) = numbered events
numbered (Add i pair ∷ events) = (i, pair) ∷ numbered events
numbered (Cut i ∷ events) = numbered events

map-numbered : (events : List Event) → map (λ n. n.1) (numbered events) ≡ added events
unfolding numbered
map-numbered [] = refl
map-numbered (Enter i ∷ events) = map-numbered events
map-numbered (Look i key outs ∷ events) = map-numbered events
map-numbered (Add i pair ∷ events) = ap (λ ps. pair ∷ ps) (map-numbered events)
map-numbered (Cut i ∷ events) = map-numbered events

-- those of one run
filter-numbered : (i : ℕ) (events : List Event)
    → map (λ n. n.1) (filter (λ n. n.0 == i) (numbered events)) ≡ added_by i events
unfolding numbered
filter-numbered i [] = refl
filter-numbered i (Enter j ∷ events) =
    elim (cases_Bool (j == i)) [
      | inl e ↦ rw e (filter-numbered i events)
      | inr e ↦ rw e
          (filter-numbered i events)
    ]
filter-numbered i (Look j key outs ∷ events) =
    elim (cases_Bool (j == i)) [
      | inl e ↦ rw e (filter-numbered i events)
      | inr e ↦ rw e
          (filter-numbered i events)
    ]
filter-numbered i (Add j pair ∷ events) =
    elim (cases_Bool (j == i)) [
      | inl e ↦ rw e (ap (λ ps. pair ∷ ps) (filter-numbered i events))
      | inr e ↦ rw e (filter-numbered i events)
    ]
filter-numbered i (Cut j ∷ events) =
    elim (cases_Bool (j == i)) [
      | inl e ↦ rw e (filter-numbered i events)
      | inr e ↦ rw e
          (filter-numbered i events)
    ]

pub interleaved : (events : List Event) → IsInterleaving (λ i. added_by i events) (added events)
interleaved events = record {
  numbered = numbered events;
  pairs_are = map-numbered events;
  lists_are
      = λ i. filter-numbered i events;
}

pub files : FileLaw
files first due events adds = record {
  new = added events;
  file_is = file-grows _
      events;
  interleaved = interleaved events;
  parts = adds;
}
