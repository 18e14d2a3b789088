-- Lists as sets.
use Rattle.std.proofs.Common.{◌≡◌, ◌⊎◌, inl, inr, ◌==◌, ◌||◌, ◌&&◌, ℕ, zero, suc, ◌<◌, Bool, true, false, cond, List, [], ◌∷◌, ◌++◌, length, map, filter, refl, sym, ap, ◌∙◌, subst, arith}
use Rattle.std.specs.Prelude.{Some}
use Rattle.std.specs.List.{slice_get, list_any, AllByRecursion}
use Rattle.std.proofs.lemmas.Bool.{false≢true, or_cases, or_left, or_right, eqb-true, eq-eqb}
use Rattle.npm_lock.specs.Sets.{Has as Holds}
use Rattle.workspaces.specs.Lists.{Has, places}
use Rattle.workspaces.specs.Reach.{is_in, AreBelow}

pub some_same : {X : Type 0} (x y : X) → Some x ≡ Some y → x ≡ y
some_same x y e = cc

pub not_both : (b : Bool) → b ≡ false → b ≡ true → ⊥
not_both b off on = false≢true (sym off ∙ on)

pub and_both : (a b : Bool) → (a && b) ≡ true → (a ≡ true) × (b ≡ true)
and_both true b e = (refl, e)
and_both false b e = absurd (false≢true e)

pub both_and : (a b : Bool) → a ≡ true → b ≡ true → (a && b) ≡ true
both_and true b e f = f
both_and false b e f = e

pub or_none : (b : Bool) → (b || false) ≡ true → b ≡ true
or_none true e = refl
or_none false e = e

-- ---- members

pub has_left : {X : Type 0} (xs ys : List X) (z : X) → Has xs z → Has (xs ++ ys) z
has_left [] ys z has = absurd has
has_left (x ∷ xs) ys z (inl here) = inl here
has_left (x ∷ xs) ys z (inr later) = inr (has_left xs ys z later)

pub has_right : {X : Type 0} (xs ys : List X) (z : X) → Has ys z → Has (xs ++ ys) z
has_right [] ys z has = has
has_right (x ∷ xs) ys z has = inr (has_right xs ys z has)

pub has_append : {X : Type 0} (xs ys : List X) (z : X) → Has (xs ++ ys) z → Has xs z ⊎ Has ys z
has_append [] ys z has = inr has
has_append (x ∷ xs) ys z (inl here) = inl (inl here)
has_append (x ∷ xs) ys z (inr later) = elim (has_append xs ys z later) [ inl first ↦ inl (inr first) | inr second ↦ inr second ]

pub has_one : {X : Type 0} (x y : X) → Has (x ∷ []) y → x ≡ y
has_one x y (inl here) = here
has_one x y (inr none) = absurd none

pub has_get : {X : Type 0} (xs : List X) (x : X) → Has xs x → (i : ℕ) × (slice_get xs i ≡ Some x)
has_get [] x has = absurd has
has_get (y ∷ xs) x (inl here) = (0, ap (λ z. Some z) here)
has_get (y ∷ xs) x (inr later) = let r = has_get xs x later in (suc r.0, r.1)

pub get_has : {X : Type 0} (xs : List X) (i : ℕ) (x : X) → slice_get xs i ≡ Some x → Has xs x
get_has [] i x e = cc
get_has (y ∷ xs) zero x e = inl (some_same y x e)
get_has (y ∷ xs) (suc i) x e = inr (get_has xs i x e)

pub has_all : {X : Type 0} (P : X → Type 0) (xs : List X) → ((x : X) → Has xs x → P x) → AllByRecursion P xs
has_all P [] each = tt
has_all P (x ∷ xs) each = (each x (inl refl), has_all P xs (λ y has. each y (inr has)))

pub all_has : {X : Type 0} (P : X → Type 0) (xs : List X) → AllByRecursion P xs → (x : X) → Has xs x → P x
all_has P [] all x has = absurd has
all_has P (y ∷ xs) all x (inl here) = subst P here all.0
all_has P (y ∷ xs) all x (inr later) = all_has P xs all.1 x later

-- the two words for a member say the same
pub from_held : {X : Type 0} (xs : List X) (x : X) → Holds xs x → Has xs x
from_held [] x has = absurd has
from_held (y ∷ xs) x (inl here) = inl here
from_held (y ∷ xs) x (inr later) = inr (from_held xs x later)

pub to_held : {X : Type 0} (xs : List X) (x : X) → Has xs x → Holds xs x
to_held [] x has = absurd has
to_held (y ∷ xs) x (inl here) = inl here
to_held (y ∷ xs) x (inr later) = inr (to_held xs x later)

-- ---- tests

pub any_has : {X : Type 0} (test : X → Bool) (xs : List X) → list_any test xs ≡ true → (x : X) × (Has xs x) × (test x ≡ true)
any_has test [] e = absurd (false≢true e)
any_has test (x ∷ xs) e = elim (or_cases (test x) (list_any test xs) e) [
  | inl t ↦ (x, inl refl, t)
  | inr t ↦ let r = any_has test xs t in (r.0, inr r.1, r.2)
]

pub has_any : {X : Type 0} (test : X → Bool) (xs : List X) (x : X) → Has xs x → test x ≡ true → list_any test xs ≡ true
has_any test [] x has t = absurd has
has_any test (y ∷ ys) x (inl here) t = or_left (test y) (list_any test ys) (ap test here ∙ t)
has_any test (y ∷ ys) x (inr later) t = or_right (test y) (list_any test ys) (has_any test ys x later t)

pub filter_has : {X : Type 0} (test : X → Bool) (xs : List X) (x : X) → Has (filter test xs) x → Has xs x × (test x ≡ true)
filter_has test [] x has = absurd has
filter_has test (y ∷ ys) x has = by (test y) refl has (filter_has test ys x) where
  by : (b : Bool) → test y ≡ b → Has (cond b (y ∷ filter test ys) (filter test ys)) x → (Has (filter test ys) x → Has ys x × (test x ≡ true)) → Has (y ∷ ys) x × (test x ≡ true)
  by true e (inl here) more = (inl here, ap test (sym here) ∙ e)
  by true e (inr later) more = let r = more later in (inr r.0, r.1)
  by false e h more = let r = more h in (inr r.0, r.1)

pub has_filter : {X : Type 0} (test : X → Bool) (xs : List X) (x : X) → Has xs x → test x ≡ true → Has (filter test xs) x
has_filter test [] x has t = absurd has
has_filter test (y ∷ ys) x has t = by (test y) refl has (λ h. has_filter test ys x h t) where
  by : (b : Bool) → test y ≡ b → Has (y ∷ ys) x → (Has ys x → Has (filter test ys) x) → Has (cond b (y ∷ filter test ys) (filter test ys)) x
  by true e (inl here) more = inl here
  by true e (inr later) more = inr (more later)
  by false e (inl here) more = absurd (false≢true (sym e ∙ ap test here ∙ t))
  by false e (inr later) more = more later

-- ---- numbers

pub in_has : (xs : List ℕ) (q : ℕ) → is_in xs q ≡ true → Has xs q
in_has xs q e = let r = any_has (λ p. p == q) xs e in subst (λ n. Has xs n) (eqb-true r.0 q r.2) r.1

pub has_in : (xs : List ℕ) (q : ℕ) → Has xs q → is_in xs q ≡ true
has_in xs q has = has_any (λ p. p == q) xs q has (eq-eqb q q refl)

pub below_has : (count : ℕ) (xs : List ℕ) → ((n : ℕ) → Has xs n → n < count) → AreBelow count xs
below_has count xs each = has_all (λ n. n < count) xs each

-- ---- places of what passes

suc_has : (xs : List ℕ) (r : ℕ) → Has xs r → Has (map suc xs) (suc r)
suc_has [] r has = absurd has
suc_has (x ∷ xs) r (inl here) = inl (ap suc here)
suc_has (x ∷ xs) r (inr later) = inr (suc_has xs r later)

has_suc : (xs : List ℕ) (q : ℕ) → Has (map suc xs) q → (r : ℕ) × (suc r ≡ q) × Has xs r
has_suc [] q has = absurd has
has_suc (x ∷ xs) q (inl here) = (x, here, inl refl)
has_suc (x ∷ xs) q (inr later) = let r = has_suc xs q later in (r.0, r.1, inr r.2)

module _ {X : Type 0} (test : X → Bool) where
  pub place_has : (xs : List X) (n : ℕ) (x : X) → slice_get xs n ≡ Some x → test x ≡ true → Has (places test xs) n
  unfolding places
  place_has [] n x at t = cc
  place_has (y ∷ xs) zero x at t = rw (ap test (some_same y x at) ∙ t) (inl refl)
  place_has (y ∷ xs) (suc n) x at t = by (test y) (suc_has (places test xs) n (place_has xs n x at t)) where
    by : (b : Bool) → Has (map suc (places test xs)) (suc n) → Has (cond b (zero ∷ map suc (places test xs)) (map suc (places test xs))) (suc n)
    by true has = inr has
    by false has = has

  pub has_place : (xs : List X) (n : ℕ) → Has (places test xs) n → (x : X) × (slice_get xs n ≡ Some x) × (test x ≡ true)
  unfolding places
  has_place [] n has = absurd has
  has_place (y ∷ xs) n has = by (test y) refl has (has_place xs) where
    further : ((m : ℕ) → Has (places test xs) m → (x : X) × (slice_get xs m ≡ Some x) × (test x ≡ true)) → Has (map suc (places test xs)) n → (x : X) × (slice_get (y ∷ xs) n ≡ Some x) × (test x ≡ true)
    further inner later = let r = has_suc (places test xs) n later in let s = inner r.0 r.2 in (s.0, ap (slice_get (y ∷ xs)) (sym r.1) ∙ s.1, s.2)

    by : (b : Bool) → test y ≡ b → Has (cond b (zero ∷ map suc (places test xs)) (map suc (places test xs))) n → ((m : ℕ) → Has (places test xs) m → (x : X) × (slice_get xs m ≡ Some x) × (test x ≡ true)) → (x : X) × (slice_get (y ∷ xs) n ≡ Some x) × (test x ≡ true)
    by true e (inl here) inner = (y, ap (slice_get (y ∷ xs)) (sym here), e)
    by true e (inr later) inner = further inner later
    by false e later inner = further inner later

-- two lists whose tests agree at each place
pub places_agree : {X Y : Type 0} (f : X → Bool) (g : Y → Bool) (xs : List X) (ys : List Y) → length xs ≡ length ys → ((n : ℕ) (x : X) (y : Y) → slice_get xs n ≡ Some x → slice_get ys n ≡ Some y → f x ≡ g y) → places f xs ≡ places g ys
unfolding places
places_agree f g [] [] same agree = refl
places_agree f g [] (y ∷ ys) same agree = absurd (omega (arith, same))
places_agree f g (x ∷ xs) [] same agree = absurd (omega (arith, same))
places_agree f g (x ∷ xs) (y ∷ ys) same agree =
    rw (agree 0 x y refl refl, places_agree f g xs ys (omega (arith, same)) (λ n a b at_a at_b. agree (suc n) a b at_a at_b)) refl
