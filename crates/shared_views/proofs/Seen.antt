-- The view of a run, and what a look-up finds in it.
use Rattle.std.proofs.Common.{◌≡◌, ℕ, ◌==◌, true, false, List, [], ◌∷◌, ◌++◌, if◌then◌else◌, refl}
use Rattle.std.proofs.Common.{sym, ap, ◌∙◌, subst, inl, inr, append-nil, append_assoc, Option, Some}
use Rattle.std.proofs.Common.{None}
use Rattle.std.specs.List.{fold, list_any}
use Rattle.std.proofs.lemmas.Bool.{cases_Bool, eq-eqb, eqb-true}
use Rattle.globs.specs.declared.out_set.OutSet.{OutSet}
use Rattle.cache_api.specs.Artifacts.{Artifact}
use Rattle.cache_api.specs.Found.{given, or_else, found}
use Rattle.cache_api.specs.Pairs.{Pair}
use Rattle.cache_api.specs.Reading.{Reader}
use Rattle.shared_views.specs.Machine.{Event, State, longer, step, after, found_in}
use Rattle.shared_views.specs.Machine.Event.{Enter, Look, Add, Cut}
use Rattle.shared_views.specs.Histories.{run_of, events_of, IsInside, IsRun, IsHistory, is_cut}
use Rattle.shared_views.specs.Histories.{added, added_by}
use Rattle.shared_views.specs.Laws.{ViewLaw, LookLaw, OthersLaw}
use Rattle.shared_views.proofs.Folded.{after-append, events_of-append, inside-front}

-- ---- a run without events

-- another run's event leaves the view
step-other : (i : ℕ) (s : State) (e : Event) → (run_of e == i) ≡ false → (step s e).views i
    ≡ s.views i
step-other i s (Enter j) o = rw o refl
step-other i s (Look j key outs) o = refl
step-other i s (Add j pair) o = rw o refl
step-other i s (Cut j) o = rw o refl

still : (i : ℕ) (s : State) (events : List Event) → events_of i events ≡ []
    → (fold step s events).views i ≡ s.views i
still i s [] h = refl
still i s (e ∷ events) h =
    elim (cases_Bool (run_of e == i)) [
      | inl o ↦ let k : e ∷ events_of i events ≡ [] = rw o at h in cc
      | inr o ↦ still i (step s e) events (rw o at h) ∙ step-other i s e o
    ]

-- ---- a run that has entered

-- what becomes of a view by the run's own events
abbrev pub seen : List Pair → List Event → Option (List Pair)
seen view events = if list_any is_cut events then None else Some (view ++ added events)

-- the view holds the run's own additions, one event after another
mine : (i : ℕ) (s : State) (e : Event) (events : List Event) (view : List Pair) → (run_of e == i)
    ≡ true → IsInside (e ∷ events_of i events) → s.views i ≡ Some view
    → ((t : State) (next : List Pair) → IsInside (events_of i events) → t.views i ≡ Some next
    → (fold step t events).views i ≡ seen next (events_of i events))
    → (fold step (step s e) events).views i ≡ seen view (e ∷ events_of i events)
mine i s (Enter j) events view o inside v rest = absurd inside
mine i s (Look j key outs) events view o inside v rest = rest s view inside v
mine i s (Add j pair) events view o inside v rest =
    rest (step s (Add j pair)) (view ++ pair ∷ []) inside (rw o (ap (λ u. longer u pair) (own ∙ v)))
    ∙ ap (λ ps. if list_any is_cut (events_of i events) then None else Some ps)
    (append_assoc view (pair ∷ []) (added_by i events))
  where
    own : s.views j ≡ s.views i
    own = ap s.views (eqb-true j i o)
mine i s (Cut j) events view o inside v rest = still i (step s (Cut j)) events inside ∙ rw o refl

pub inside-view : (i : ℕ) (events : List Event) (s : State) (view : List Pair)
    → IsInside (events_of i events) → s.views i ≡ Some view → (fold step s events).views i
    ≡ seen view (events_of i events)
inside-view i [] s view inside v = v ∙ ap Some (sym (append-nil view))
inside-view i (e ∷ events) s view inside v =
    elim (cases_Bool (run_of e == i)) [
      | inl o ↦ rw o (mine i s e events view o (rw o at inside) v
          (λ t next. inside-view i events t next))
      | inr o ↦ rw o (inside-view i events (step s e) view (rw o at inside)
          (step-other i s e o ∙ v))
    ]

-- ---- histories

-- no run enters inside
pub no-entry : (i : ℕ) (xs ys : List Event) → IsInside (xs ++ Enter i ∷ ys) → ⊥
no-entry i [] ys h = h
no-entry i (Enter j ∷ xs) ys h = h
no-entry i (Look j key outs ∷ xs) ys h = no-entry i xs ys h
no-entry i (Add j pair ∷ xs) ys h = no-entry i xs ys h
no-entry i (Cut j ∷ []) ys h = cc
no-entry i (Cut j ∷ x ∷ xs) ys h = cc

run-inside : (i : ℕ) (xs ys : List Event) → IsRun (xs ++ Enter i ∷ ys) → IsInside ys
run-inside i [] ys h = h
run-inside i (Enter j ∷ xs) ys h = absurd (no-entry i xs ys h)
run-inside i (Look j key outs ∷ xs) ys h = absurd h
run-inside i (Add j pair ∷ xs) ys h = absurd h
run-inside i (Cut j ∷ xs) ys h = absurd h

pub events_of-enter : (i : ℕ) (xs ys : List Event) → events_of i (xs ++ Enter i ∷ ys)
    ≡ events_of i xs ++ Enter i ∷ events_of i ys
events_of-enter i xs ys = events_of-append i xs (Enter i ∷ ys)
    ∙ ap (λ es. events_of i xs ++ es) (rw (eq-eqb i i refl) refl)

pub inside-of : (i : ℕ) (xs ys : List Event) → IsHistory (xs ++ Enter i ∷ ys)
    → IsInside (events_of i ys)
inside-of i xs ys h = run-inside i (events_of i xs) (events_of i ys)
    (subst IsRun (events_of-enter i xs ys) (h i))

-- what looks was not cut off
uncut : (xs : List Event) (y : Event) → IsInside (xs ++ y ∷ []) → list_any is_cut xs ≡ false
uncut [] y h = refl
uncut (Enter i ∷ xs) y h = absurd h
uncut (Look i key outs ∷ xs) y h = uncut xs y h
uncut (Add i pair ∷ xs) y h = uncut xs y h
uncut (Cut i ∷ []) y h = cc
uncut (Cut i ∷ x ∷ xs) y h = cc

pub entered : (first : List Pair) (earlier later : List Event) (i : ℕ)
    → IsInside (events_of i later)
    → (after first (earlier ++ Enter i ∷ later)).views i
    ≡ seen (after first earlier).file (events_of i later)
entered first earlier later i inside =
    ap (λ s. s.views i) (after-append first earlier (Enter i ∷ later))
    ∙ inside-view i later (step (after first earlier) (Enter i))
    (after first earlier).file inside (rw (eq-eqb i i refl) refl)

pub views : ViewLaw
views = record {
  entered = λ first earlier later i h. entered first earlier later i (inside-of i earlier later h);
  outside = λ first events i h. still i _ events h;
}

-- ---- look-ups

or_else_assoc : (a b c : Option Artifact) → or_else (or_else a b) c ≡ or_else a (or_else b c)
or_else_assoc None b c = refl
or_else_assoc (Some x) b c = refl

or_else-none : (a : Option Artifact) → or_else a None ≡ a
or_else-none None = refl
or_else-none (Some x) = refl

-- the pairs behind are asked first
found-append : (read : Reader) (key : List ℕ) (outs : OutSet) (xs ys : List Pair)
    → found read key outs (xs ++ ys) ≡ or_else (found read key outs ys) (found read key outs xs)
found-append read key outs [] ys = sym (or_else-none (found read key outs ys))
found-append read key outs (x ∷ xs) ys =
    ap (λ a. or_else a (given read key outs x)) (found-append read key outs xs ys)
    ∙ or_else_assoc (found read key outs ys) (found read key outs xs) (given read key outs x)

events_of-look : (i : ℕ) (key : List ℕ) (outs : OutSet) (xs : List Event)
    → events_of i (xs ++ Look i key outs ∷ []) ≡ events_of i xs ++ Look i key outs ∷ []
events_of-look i key outs xs = events_of-append i xs (Look i key outs ∷ [])
    ∙ ap (λ es. events_of i xs ++ es) (rw (eq-eqb i i refl) refl)

pub looks : LookLaw
looks read first earlier between i key outs h =
    ap (found_in read key outs) (entered first earlier between i
    (inside-front (events_of i between) (Look i key outs ∷ []) inside) ∙ whole)
    ∙ found-append read key outs (after first earlier).file (added_by i between)
  where
    inside : IsInside (events_of i between ++ Look i key outs ∷ [])
    inside = subst IsInside (events_of-look i key outs between)
        (inside-of i earlier (between ++ Look i key outs ∷ [])
        (subst IsHistory (append_assoc earlier (Enter i ∷ between) (Look i key outs ∷ [])) h))

    whole : seen (after first earlier).file (events_of i between)
        ≡ Some ((after first earlier).file ++ added_by i between)
    whole = rw (uncut (events_of i between) (Look i key outs) inside) refl

pub others : OthersLaw
others read first earlier one other i key outs h k same =
    looks read first earlier one i key outs h
    ∙ ap (λ es. or_else (found read key outs (added es))
    (found read key outs (after first earlier).file)) same
    ∙ sym (looks read first earlier other i key outs k)
