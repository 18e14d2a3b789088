-- Numbers in lists, how often they stand there, and tests along a list.
use Rattle.std.proofs.Common.{◌≡◌, ℕ, zero, suc, ◌+◌, ◌<◌, ◌≤◌, ◌==◌, Bool, true, false, cond, ◌||◌, List, [], ◌∷◌, length, take, get_or, add-one, refl, sym, ap, ◌∙◌, subst, arith, inl, inr}
use Rattle.std.specs.List.{list_any, AllByRecursion}
use Rattle.std.proofs.lemmas.Bool.{or_cases, or_left, or_right, false≢true, true≢false, eqb-true, eq-eqb}
use Rattle.run_core.specs.Tables.{is_in, times, list_at}

or-last : (a b c : Bool) → (a || (b || c)) ≡ ((a || b) || c)
or-last true b c = refl
or-last false b c = refl

or-nothing : (a : Bool) → (a || false) ≡ a
or-nothing true = refl
or-nothing false = refl

pub in-more : (u : ℕ) (xs : List ℕ) (i : ℕ) → i < length xs → is_in u (take (i + 1) xs) ≡ (is_in u (take i xs) || (u == get_or xs i 0))
in-more u xs i l = rw add-one (by xs i l)
  where
    by : (xs : List ℕ) (i : ℕ) → i < length xs → is_in u (take (suc i) xs) ≡ (is_in u (take i xs) || (u == get_or xs i 0))
    by [] i l = absurd (omega arith)
    by (x ∷ xs) zero l = or-nothing (u == x)
    by (x ∷ xs) (suc i) l = ap (λ b. (u == x) || b) (by xs i (omega arith)) ∙ or-last (u == x) (is_in u (take i xs)) (u == get_or xs i 0)

pub times-more : (u : ℕ) (xs : List ℕ) (i : ℕ) → i < length xs → times u (take (i + 1) xs) ≡ times u (take i xs) + cond (u == get_or xs i 0) 1 0
times-more u xs i l = rw add-one (by xs i l)
  where
    by : (xs : List ℕ) (i : ℕ) → i < length xs → times u (take (suc i) xs) ≡ times u (take i xs) + cond (u == get_or xs i 0) 1 0
    by [] i l = absurd (omega arith)
    by (x ∷ xs) zero l = elim (u == x) as (λ b. cond b 1 0 ≡ 0 + cond b 1 0) [ true ↦ refl | false ↦ refl ]
    by (x ∷ xs) (suc i) l =
        let h = by xs i (omega arith) in
        elim (u == x) as (λ b. cond b (suc (times u (take (suc i) xs))) (times u (take (suc i) xs)) ≡ cond b (suc (times u (take i xs))) (times u (take i xs)) + cond (u == get_or xs i 0) 1 0)
        [ true ↦ omega (arith, h) | false ↦ h ]

pub times-take : (u : ℕ) (xs : List ℕ) (i : ℕ) → times u (take i xs) ≤ times u xs
times-take u [] i = elim i as (λ n. times u (take n []) ≤ 0) [ zero ↦ omega arith | suc n ↦ omega arith ]
times-take u (x ∷ xs) zero = omega arith
times-take u (x ∷ xs) (suc i) =
    let h = times-take u xs i in
    elim (u == x) as (λ b. cond b (suc (times u (take i xs))) (times u (take i xs)) ≤ cond b (suc (times u xs)) (times u xs)) [ true ↦ omega (arith, h) | false ↦ h ]

pub in-times : (u : ℕ) (xs : List ℕ) → is_in u xs ≡ true → 1 ≤ times u xs
in-times u [] h = absurd (false≢true h)
in-times u (x ∷ xs) h =
    elim (u == x) as (λ b. (b || is_in u xs) ≡ true → 1 ≤ cond b (suc (times u xs)) (times u xs)) [ true ↦ λ k. omega arith | false ↦ λ k. in-times u xs k ] h

pub times-in : (u : ℕ) (xs : List ℕ) → 1 ≤ times u xs → is_in u xs ≡ true
times-in u [] h = absurd (omega arith)
times-in u (x ∷ xs) h =
    elim (u == x) as (λ b. 1 ≤ cond b (suc (times u xs)) (times u xs) → (b || is_in u xs) ≡ true) [ true ↦ λ k. refl | false ↦ λ k. times-in u xs k ] h

pub times-none : (u : ℕ) (xs : List ℕ) → is_in u xs ≡ false → times u xs ≡ 0
times-none u [] h = refl
times-none u (x ∷ xs) h =
    elim (u == x) as (λ b. (b || is_in u xs) ≡ false → cond b (suc (times u xs)) (times u xs) ≡ 0) [ true ↦ λ k. absurd (true≢false k) | false ↦ λ k. times-none u xs k ] h

-- a member at which a test passes
pub any-member : (t : ℕ → Bool) (xs : List ℕ) → list_any t xs ≡ true → (d : ℕ) × (is_in d xs ≡ true) × (t d ≡ true)
any-member t [] h = absurd (false≢true h)
any-member t (x ∷ xs) h =
    elim (or_cases (t x) (list_any t xs) h) [
      | inl k ↦ (x, or_left (x == x) (is_in x xs) (eq-eqb x x refl), k)
      | inr k ↦ let w = any-member t xs k in (w.0, or_right (w.0 == x) (is_in w.0 xs) w.1, w.2)
    ]

pub member-any : (t : ℕ → Bool) (xs : List ℕ) (d : ℕ) → is_in d xs ≡ true → t d ≡ true → list_any t xs ≡ true
member-any t [] d h k = absurd (false≢true h)
member-any t (x ∷ xs) d h k =
    elim (or_cases (d == x) (is_in d xs) h) [
      | inl e ↦ or_left (t x) (list_any t xs) (ap t (sym (eqb-true d x e)) ∙ k)
      | inr m ↦ or_right (t x) (list_any t xs) (member-any t xs d m k)
    ]

pub member-all : (P : ℕ → Type 0) (xs : List ℕ) (d : ℕ) → AllByRecursion P xs → is_in d xs ≡ true → P d
member-all P [] d a h = absurd (false≢true h)
member-all P (x ∷ xs) d a h =
    elim (or_cases (d == x) (is_in d xs) h) [ inl e ↦ subst P (sym (eqb-true d x e)) a.0 | inr m ↦ member-all P xs d a.1 m ]

pub count-past : (xs : List ℕ) (i : ℕ) → length xs ≤ i → get_or xs i 0 ≡ 0
count-past [] i l = refl
count-past (x ∷ xs) zero l = absurd (omega arith)
count-past (x ∷ xs) (suc i) l = count-past xs i (omega arith)

pub in-at : (xs : List ℕ) (i : ℕ) → i < length xs → is_in (get_or xs i 0) xs ≡ true
in-at [] i l = absurd (omega arith)
in-at (x ∷ xs) zero l = or_left (x == x) (is_in x xs) (eq-eqb x x refl)
in-at (x ∷ xs) (suc i) l = or_right (get_or xs i 0 == x) (is_in (get_or xs i 0) xs) (in-at xs i (omega arith))

-- an element that is still to come
pub times-ahead : (xs : List ℕ) (i : ℕ) → i < length xs → times (get_or xs i 0) (take i xs) + 1 ≤ times (get_or xs i 0) xs
times-ahead xs i l =
    let x = get_or xs i 0 in
    let more : times x (take (i + 1) xs) ≡ times x (take i xs) + cond true 1 0 = subst (λ b. times x (take (i + 1) xs) ≡ times x (take i xs) + cond b 1 0) (eq-eqb x x refl) (times-more x xs i l) in
    omega (arith, more, times-take x xs (i + 1))

-- what is no task has no dependencies
pub list-inside : (lists : List (List ℕ)) (u d : ℕ) → is_in d (list_at lists u) ≡ true → u < length lists
list-inside [] u d h = absurd (false≢true h)
list-inside (x ∷ lists) zero d h = omega arith
list-inside (x ∷ lists) (suc u) d h = omega (arith, list-inside lists u d h)

pub list-past : (lists : List (List ℕ)) (u : ℕ) → length lists ≤ u → list_at lists u ≡ []
list-past [] u l = refl
list-past (x ∷ lists) zero l = absurd (omega arith)
list-past (x ∷ lists) (suc u) l = list-past lists u (omega arith)
