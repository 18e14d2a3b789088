-- The places of starts and ends, as lists.
use Rattle.std.proofs.Common.{◌≡◌, ◌≢◌, ℕ, ◌==◌, ◌&&◌, ◌⊎◌, true, List, [], ◌∷◌, ◌++◌, refl, ap, subst, arith, inl, inr}
use Rattle.std.specs.List.{Contains, AllPairs}
use Rattle.std.proofs.lemmas.Bool.{or_cases, or_left, or_right, and_parts, and_from, false≢true, eqb-true, eq-eqb}
use Rattle.std.proofs.lemmas.List.Elements.{Contains-push, Contains-push_cases, Contains-append_left, Contains-append_right, Contains-append_cases, Contains-get_or}
use Rattle.std.proofs.lemmas.List.Quantifiers.{all_pairs_push}
use Rattle.run_core.specs.declared.states.Step.{Step}
use Rattle.run_core.specs.declared.states.Step.TheVariants.{Start, End}
use Rattle.run_core.specs.Greedy.{started, ended}
use Rattle.schedule_laws.specs.Starts.{starts_of, ends_of}

nothing-in : (t : ℕ) → Contains [] t → ⊥
nothing-in t c = let l = c.1 in absurd (omega arith)

-- the first of a list, or one behind it
head-or_tail : (u t : ℕ) (xs : List ℕ) → Contains (u ∷ xs) t → (u ≡ t) ⊎ Contains xs t
head-or_tail u t xs c =
    elim (Contains-append_cases (u ∷ []) xs t c) [
      | inl h ↦ elim (Contains-push_cases [] u t h) [ inl none ↦ absurd (nothing-in t none) | inr e ↦ inl e ]
      | inr h ↦ inr h
    ]

in-head : (u t : ℕ) (xs : List ℕ) → u ≡ t → Contains (u ∷ xs) t
in-head u t xs e = subst (Contains (u ∷ xs)) e (Contains-append_left (u ∷ []) xs u (Contains-push [] u))

in-tail : (u t : ℕ) (xs : List ℕ) → Contains xs t → Contains (u ∷ xs) t
in-tail u t xs c = Contains-append_right (u ∷ []) xs t c

pub started-listed : (steps : List Step) (t : ℕ) → Contains (starts_of steps) t → started steps t ≡ true
started-listed [] t c = absurd (nothing-in t c)
started-listed (Start u ∷ steps) t c =
    elim (head-or_tail u t (starts_of steps) c) [
      | inl e ↦ or_left (u == t) (started steps t) (eq-eqb u t e)
      | inr h ↦ or_right (u == t) (started steps t) (started-listed steps t h)
    ]
started-listed (End u s ∷ steps) t c = started-listed steps t c

pub listed-started : (steps : List Step) (t : ℕ) → started steps t ≡ true → Contains (starts_of steps) t
listed-started [] t h = absurd (false≢true h)
listed-started (Start u ∷ steps) t h =
    elim (or_cases (u == t) (started steps t) h) [
      | inl e ↦ in-head u t (starts_of steps) (eqb-true u t e)
      | inr k ↦ in-tail u t (starts_of steps) (listed-started steps t k)
    ]
listed-started (End u s ∷ steps) t h = listed-started steps t h

pub ended-listed : (steps : List Step) (t : ℕ) → Contains (ends_of steps) t → ended steps t ≡ true
ended-listed [] t c = absurd (nothing-in t c)
ended-listed (Start u ∷ steps) t c = ended-listed steps t c
ended-listed (End u s ∷ steps) t c =
    elim (head-or_tail u t (ends_of steps) c) [
      | inl e ↦ or_left ((u == t) && true) (ended steps t) (and_from (u == t) true (eq-eqb u t e) refl)
      | inr h ↦ or_right ((u == t) && true) (ended steps t) (ended-listed steps t h)
    ]

pub listed-ended : (steps : List Step) (t : ℕ) → ended steps t ≡ true → Contains (ends_of steps) t
listed-ended [] t h = absurd (false≢true h)
listed-ended (Start u ∷ steps) t h = listed-ended steps t h
listed-ended (End u s ∷ steps) t h =
    elim (or_cases ((u == t) && true) (ended steps t) h) [
      | inl e ↦ in-head u t (ends_of steps) (eqb-true u t (and_parts (u == t) true e).0)
      | inr k ↦ in-tail u t (ends_of steps) (listed-ended steps t k)
    ]

-- one step more
pub starts-start : (steps : List Step) (t : ℕ) → starts_of (steps ++ Start t ∷ []) ≡ starts_of steps ++ t ∷ []
starts-start [] t = refl
starts-start (Start u ∷ steps) t = ap (λ xs. u ∷ xs) (starts-start steps t)
starts-start (End u s ∷ steps) t = starts-start steps t

pub starts-end : (steps : List Step) (t x : ℕ) → starts_of (steps ++ End t x ∷ []) ≡ starts_of steps
starts-end [] t x = refl
starts-end (Start u ∷ steps) t x = ap (λ xs. u ∷ xs) (starts-end steps t x)
starts-end (End u s ∷ steps) t x = starts-end steps t x

pub ends-start : (steps : List Step) (t : ℕ) → ends_of (steps ++ Start t ∷ []) ≡ ends_of steps
ends-start [] t = refl
ends-start (Start u ∷ steps) t = ends-start steps t
ends-start (End u s ∷ steps) t = ap (λ xs. u ∷ xs) (ends-start steps t)

pub ends-end : (steps : List Step) (t x : ℕ) → ends_of (steps ++ End t x ∷ []) ≡ ends_of steps ++ t ∷ []
ends-end [] t x = refl
ends-end (Start u ∷ steps) t x = ends-end steps t x
ends-end (End u s ∷ steps) t x = ap (λ xs. u ∷ xs) (ends-end steps t x)

-- a new number behind numbers that differ
pub push-apart : (xs : List ℕ) (t : ℕ) → AllPairs (λ a b. a ≢ b) xs → (Contains xs t → ⊥) → AllPairs (λ a b. a ≢ b) (xs ++ t ∷ [])
push-apart xs t apart new =
    all_pairs_push (λ a b. a ≢ b) xs t apart (λ k d l e. new (subst (Contains xs) e (Contains-get_or xs k d l)))
