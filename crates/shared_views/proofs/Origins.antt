-- Where the pairs of the file and of the views come from, and so what holds of them.
use Rattle.std.proofs.Common.{◌≡◌, ℕ, ◌==◌, List, [], ◌∷◌, refl, sym, subst, inl, inr, Option, Some}
use Rattle.std.proofs.Common.{None}
use Rattle.std.specs.List.{fold, All, Contains}
use Rattle.std.proofs.lemmas.Bool.{cases_Bool, eq-eqb}
use Rattle.std.proofs.lemmas.List.Elements.{All-nil, All-cons, All-head, All-tail, All-push}
use Rattle.std.proofs.lemmas.List.Elements.{All-weaker, All-contains_itself, All-contains}
use Rattle.std.proofs.lemmas.List.Elements.{Contains-push, Contains-append_left}
use Rattle.std.proofs.lemmas.List.Elements.{Contains-append_right}
use Rattle.cache_api.specs.Pairs.{Pair}
use Rattle.shared_views.specs.Machine.{Event, State, longer, step, after}
use Rattle.shared_views.specs.Machine.Event.{Enter, Look, Add, Cut}
use Rattle.shared_views.specs.Histories.{added, added_by, AddDue}
use Rattle.shared_views.specs.Laws.{IsFirstOrDue, OriginLaw}

-- it holds of all pairs of the file and of the views
record AllHold (P : Pair → Type 0) (s : State) : Type 0 where
  file : All P s.file
  views : (i : ℕ) (view : List Pair) → s.views i ≡ Some view → All P view

same : {xs ys : List Pair} → Some xs ≡ Some ys → xs ≡ ys
same e = cc

module _ (P : Pair → Type 0) where
  behind : (view : Option (List Pair)) (pair : Pair) → P pair
      → ((v : List Pair) → view ≡ Some v → All P v) → (v : List Pair) → longer view pair ≡ Some v
      → All P v
  behind None pair here h v e = cc
  behind (Some u) pair here h v e = subst (All P) (same e) (All-push P u pair (h u refl) here)

  all-enter : (s : State) (i : ℕ) → AllHold P s → AllHold P (step s (Enter i))
  all-enter s i h = record {
    file = h.file;
    views = λ j view e. elim (cases_Bool (i == j)) [
      | inl o ↦ subst (All P) (same (rw o at e)) h.file
      | inr o ↦ h.views j view (rw o at e)
    ];
  }

  all-add : (s : State) (i : ℕ) (pair : Pair) → P pair → AllHold P s
      → AllHold P (step s (Add i pair))
  all-add s i pair here h = record {
    file = All-push P s.file pair h.file here;
    views = λ j view e. elim (cases_Bool (i == j)) [
      | inl o ↦ behind (s.views i) pair here (h.views i) view (rw o at e)
      | inr o ↦ h.views j view (rw o at e)
    ];
  }

  all-cut : (s : State) (i : ℕ) → AllHold P s → AllHold P (step s (Cut i))
  all-cut s i h = record {
    file = h.file;
    views = λ j view e. elim (cases_Bool (i == j)) [
      | inl o ↦ absurd (let k : None ≡ Some view = rw o at e in cc)
      | inr o ↦ h.views j view (rw o at e)
    ];
  }

  all-after : (events : List Event) (s : State) → All P (added events) → AllHold P s
      → AllHold P (fold step s events)
  all-after [] s new h = h
  all-after (Enter i ∷ events) s new h = all-after events (step s (Enter i)) new (all-enter s i h)
  all-after (Look i key outs ∷ events) s new h = all-after events s new h
  all-after (Add i pair ∷ events) s new h =
      all-after events (step s (Add i pair)) (All-tail P pair (added events) new)
      (all-add s i pair (All-head P pair (added events) new) h)
  all-after (Cut i ∷ events) s new h = all-after events (step s (Cut i)) new (all-cut s i h)

  all-first : (first : List Pair) → All P first
      → AllHold P (record { file = first; views = λ i. None })
  all-first first h = record {
    file = h;
    views = λ i view e. absurd
        (let k : None ≡ Some view = e in cc);
  }

-- ---- where they come from

in-head : (x : Pair) (xs : List Pair) → Contains (x ∷ xs) x
in-head x xs = Contains-append_left (x ∷ []) xs x (Contains-push [] x)

in-tail : (x y : Pair) (xs : List Pair) → Contains xs y → Contains (x ∷ xs) y
in-tail x y xs c = Contains-append_right (x ∷ []) xs y c

-- some run adds the pair
abbrev IsAddedIn : List Event → Pair → Type 0
IsAddedIn events pair = (i : ℕ) × Contains (added_by i events) pair

later : (e : Event) (events : List Event) (pair : Pair) → IsAddedIn events pair
    → IsAddedIn (e ∷ events) pair
later (Enter j) events pair (i, c) = (
  i,
  elim (cases_Bool (j == i))
      [ inl o ↦ rw o c | inr o ↦ rw o c ],
)
later (Look j key outs) events pair (i, c) = (
  i,
  elim
      (cases_Bool (j == i)) [ inl o ↦ rw o c | inr o ↦ rw o c ],
)
later (Add j new) events pair (i, c) = (
  i,
  elim
      (cases_Bool (j == i)) [
        | inl o ↦ rw o (in-tail new pair (added_by i events) c)
        | inr o ↦ rw o c
      ],
)
later (Cut j) events pair (i, c) = (
  i,
  elim (cases_Bool (j == i))
      [ inl o ↦ rw o c | inr o ↦ rw o c ],
)

all-added : (events : List Event) → All (IsAddedIn events) (added events)
all-added [] = All-nil (IsAddedIn [])
all-added (Enter i ∷ events) = All-weaker _ _ (later (Enter i) events) (added events)
    (all-added events)
all-added (Look i key outs ∷ events) = All-weaker _ _ (later (Look i key outs) events)
    (added events) (all-added events)
all-added (Add i pair ∷ events) =
    All-cons (IsAddedIn (Add i pair ∷ events)) pair (added events)
    (i, rw (eq-eqb i i refl) (in-head pair (added_by i events)))
    (All-weaker (IsAddedIn events) (IsAddedIn (Add i pair ∷ events)) (later (Add i pair) events)
    (added events) (all-added events))
all-added (Cut i ∷ events) = All-weaker _ _ (later (Cut i) events) (added events) (all-added events)

from-due : (first : List Pair) (due : ℕ → List Pair) (events : List Event) → AddDue due events
    → (pair : Pair) → IsAddedIn events pair → IsFirstOrDue first due pair
from-due first due events adds pair (i, c) =
    inr (
      i,
      subst (λ ps. Contains ps pair) (sym (adds i).1)
          (Contains-append_left (added_by i events) (adds i).0 pair c),
    )

origin : (first : List Pair) (due : ℕ → List Pair) (events : List Event) → AddDue due events
    → AllHold (IsFirstOrDue first due) (after first events)
origin first due events adds =
    all-after (IsFirstOrDue first due) events (record { file = first; views = λ i. None })
    (All-weaker (IsAddedIn events) (IsFirstOrDue first due) (from-due first due events adds)
    (added events) (all-added events))
    (all-first (IsFirstOrDue first due) first (All-weaker (Contains first) (IsFirstOrDue first due)
    (λ pair c. inl c) first (All-contains_itself first)))

pub origins : OriginLaw
origins = record {
  file = λ first due events adds. (origin first due events adds).file;
  views = λ first due events i view adds e. (origin first due events adds).views i view e;
}

-- what holds of all first and of all due pairs
pub all-from : (P : Pair → Type 0) (first : List Pair) (due : ℕ → List Pair) → All P first
    → ((i : ℕ) → All P (due i)) → (pair : Pair) → IsFirstOrDue first due pair → P pair
all-from P first due here there pair (inl c) = All-contains P first pair here c
all-from P first due here there pair (inr c) = All-contains P (due c.0) pair (there c.0) c.1

-- .. holds of all pairs of the file
pub all-in_file : (P : Pair → Type 0) → OriginLaw
    → (first : List Pair) (due : ℕ → List Pair) (events : List Event) → AddDue due events
    → All P first → ((i : ℕ) → All P (due i))
    → All P (after first events).file
all-in_file P law first due events adds here there =
    All-weaker (IsFirstOrDue first due) P (all-from P first due here there)
    (after first events).file (law.file first due events adds)

-- .. and of all that a run sees
pub all-in_view : (P : Pair → Type 0) → OriginLaw
    → (first : List Pair) (due : ℕ → List Pair) (events : List Event) → AddDue due events
    → All P first → ((i : ℕ) → All P (due i))
    → (i : ℕ) (view : List Pair) → (after first events).views i ≡ Some view → All P view
all-in_view P law first due events adds here there i view e =
    All-weaker (IsFirstOrDue first due) P (all-from P first due here there) view
    (law.views first due events i view adds e)
