-- What the events lead to: the file, and what a first part of a history is.
use Rattle.std.proofs.Common.{◌≡◌, ℕ, ◌==◌, List, [], ◌∷◌, ◌++◌, refl, sym, ap, ◌∙◌, subst}
use Rattle.std.proofs.Common.{append-nil, append_assoc}
use Rattle.std.specs.List.{fold}
use Rattle.std.proofs.lemmas.List.Elements.{filter-append, filter_map-append}
use Rattle.std.proofs.lemmas.List.Sums.{fold-append}
use Rattle.cache_api.specs.Pairs.{Pair}
use Rattle.shared_views.specs.Machine.{Event, State, step, after}
use Rattle.shared_views.specs.Machine.Event.{Enter, Look, Add, Cut}
use Rattle.shared_views.specs.Histories.{run_of, events_of, IsInside, IsRun, IsHistory, pair_of}
use Rattle.shared_views.specs.Histories.{added, added_by, AddDue}
use Rattle.shared_views.specs.Laws.{MomentLaw}

-- the file has what it had, and what is added
pub file-grows : (s : State) (events : List Event) → (fold step s events).file
    ≡ s.file ++ added events
file-grows s [] = sym (append-nil s.file)
file-grows s (Enter i ∷ events) = file-grows (step s (Enter i)) events
file-grows s (Look i key outs ∷ events) = file-grows s events
file-grows s (Add i pair ∷ events) = file-grows (step s (Add i pair)) events
    ∙ append_assoc s.file (pair ∷ []) (added events)
file-grows s (Cut i ∷ events) = file-grows (step s (Cut i)) events

pub after-append : (first : List Pair) (xs ys : List Event) → after first (xs ++ ys)
    ≡ fold step (after first xs) ys
after-append first xs ys = fold-append step _ xs ys

pub events_of-append : (i : ℕ) (xs ys : List Event) → events_of i (xs ++ ys)
    ≡ events_of i xs ++ events_of i ys
events_of-append i xs ys = filter-append (λ e. run_of e == i) xs ys

pub added_by-append : (i : ℕ) (xs ys : List Event) → added_by i (xs ++ ys)
    ≡ added_by i xs ++ added_by i ys
added_by-append i xs ys = ap added (events_of-append i xs ys)
    ∙ filter_map-append pair_of (events_of i xs) (events_of i ys)

-- ---- first parts

pub nil-front : (xs ys : List Event) → xs ++ ys ≡ [] → xs ≡ []
nil-front [] ys h = refl
nil-front (x ∷ xs) ys h = cc

pub inside-front : (xs ys : List Event) → IsInside (xs ++ ys) → IsInside xs
inside-front [] ys h = tt
inside-front (Enter i ∷ xs) ys h = h
inside-front (Look i key outs ∷ xs) ys h = inside-front xs ys h
inside-front (Add i pair ∷ xs) ys h = inside-front xs ys h
inside-front (Cut i ∷ xs) ys h = nil-front xs ys h

run-front : (xs ys : List Event) → IsRun (xs ++ ys) → IsRun xs
run-front [] ys h = tt
run-front (Enter i ∷ xs) ys h = inside-front xs ys h
run-front (Look i key outs ∷ xs) ys h = h
run-front (Add i pair ∷ xs) ys h = h
run-front (Cut i ∷ xs) ys h = h

pub history-front : (xs ys : List Event) → IsHistory (xs ++ ys) → IsHistory xs
history-front xs ys h i = run-front (events_of i xs) (events_of i ys)
    (subst IsRun (events_of-append i xs ys) (h i))

due-front : (due : ℕ → List Pair) (xs ys : List Event) → AddDue due (xs ++ ys) → AddDue due xs
due-front due xs ys h i = (
  added_by i ys ++ (h i).0,
  (h i).1 ∙ ap (λ v. v ++ (h i).0) (added_by-append i xs ys)
      ∙ append_assoc (added_by i xs) (added_by i ys) (h i).0,
)

pub moments : MomentLaw
moments = record {
  history = history-front;
  due = due-front;
  file = λ first xs ys. ap (λ s. s.file) (after-append first xs ys)
      ∙ file-grows (after first xs) ys;
}
