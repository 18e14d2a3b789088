-- Members of lists, and what passes a test.
use Rattle.std.proofs.Common.{◌≡◌, ◌⊎◌, inl, inr, ◌≤◌, Bool, true, false, cond, ◌&&◌, ◌||◌, List, [], ◌∷◌, length, filter, map, ◌++◌, refl, sym, ap, ◌∙◌, subst, arith}
use Rattle.std.specs.Prelude.{Option, Some, None}
use Rattle.std.specs.List.{AllByRecursion, list_any, filter_map, cons_option}
use Rattle.std.proofs.lemmas.Bool.{false≢true, or_cases, or_left, or_right, and_right}
use Rattle.std.proofs.lemmas.List.Sums.{length-filter, count_by-le-length}
use Rattle.rel_path.specs.Paths.{Path, path_eq, is_among}
use Rattle.rel_path.proofs.PathLaws.{path_same, path_self}
use Rattle.workspaces.specs.Lists.{Has}

-- ---- members

pub any_has : {X : Type 0} (test : X → Bool) (xs : List X) → list_any test xs ≡ true → (x : X) × (Has xs x) × (test x ≡ true)
any_has test [] e = absurd (false≢true e)
any_has test (x ∷ xs) e = elim (or_cases (test x) (list_any test xs) e) [
  | inl t ↦ (x, inl refl, t)
  | inr t ↦ let r = any_has test xs t in (r.0, inr r.1, r.2)
]

pub has_any : {X : Type 0} (test : X → Bool) (xs : List X) (x : X) → Has xs x → test x ≡ true → list_any test xs ≡ true
has_any test [] x has t = absurd has
has_any test (y ∷ ys) x (inl here) t = or_left (test y) (list_any test ys) (ap test here ∙ t)
has_any test (y ∷ ys) x (inr later) t = or_right (test y) (list_any test ys) (has_any test ys x later t)

pub any_none : {X : Type 0} (test : X → Bool) (xs : List X) → ((x : X) → Has xs x → test x ≡ false) → list_any test xs ≡ false
any_none test [] each = refl
any_none test (x ∷ xs) each = ap (λ b. b || list_any test xs) (each x (inl refl)) ∙ any_none test xs (λ y later. each y (inr later))

pub all_has : {X : Type 0} (P : X → Type 0) (xs : List X) (x : X) → AllByRecursion P xs → Has xs x → P x
all_has P [] x all has = absurd has
all_has P (y ∷ ys) x all (inl here) = subst P here all.0
all_has P (y ∷ ys) x all (inr later) = all_has P ys x all.1 later

pub all_from : {X : Type 0} (P : X → Type 0) (xs : List X) → ((x : X) → Has xs x → P x) → AllByRecursion P xs
all_from P [] each = tt
all_from P (y ∷ ys) each = (each y (inl refl), all_from P ys (λ x later. each x (inr later)))

pub has_front : {X : Type 0} (xs ys : List X) (x : X) → Has xs x → Has (xs ++ ys) x
has_front [] ys x has = absurd has
has_front (z ∷ xs) ys x (inl here) = inl here
has_front (z ∷ xs) ys x (inr later) = inr (has_front xs ys x later)

-- a member of a list with one element behind it
pub front_or_last : {X : Type 0} (xs : List X) (last x : X) → Has (xs ++ last ∷ []) x → Has xs x ⊎ (last ≡ x)
front_or_last [] last x (inl here) = inr here
front_or_last [] last x (inr none) = absurd none
front_or_last (z ∷ xs) last x (inl here) = inl (inl here)
front_or_last (z ∷ xs) last x (inr later) = elim (front_or_last xs last x later) [ inl among ↦ inl (inr among) | inr is ↦ inr is ]

pub map_has : {X Y : Type 0} (f : X → Y) (xs : List X) (x : X) → Has xs x → Has (map f xs) (f x)
map_has f [] x has = absurd has
map_has f (y ∷ ys) x (inl here) = inl (ap f here)
map_has f (y ∷ ys) x (inr later) = inr (map_has f ys x later)

pub has_map : {X Y : Type 0} (f : X → Y) (xs : List X) (y : Y) → Has (map f xs) y → (x : X) × (Has xs x) × (f x ≡ y)
has_map f [] y has = absurd has
has_map f (x ∷ xs) y (inl here) = (x, inl refl, here)
has_map f (x ∷ xs) y (inr later) = let r = has_map f xs y later in (r.0, inr r.1, r.2)

module _ {X Y : Type 0} (f : X → Option Y) where
  pub filter_map_has : (xs : List X) (y : Y) → Has (filter_map f xs) y → (x : X) × (Has xs x) × (f x ≡ Some y)
  filter_map_has [] y has = absurd has
  filter_map_has (x ∷ xs) y has = by (f x) refl has (filter_map_has xs y) where
    by : (o : Option Y) → f x ≡ o → Has (cons_option o (filter_map f xs)) y → (Has (filter_map f xs) y → (z : X) × (Has xs z) × (f z ≡ Some y)) → (z : X) × (Has (x ∷ xs) z) × (f z ≡ Some y)
    by None e h more = let r = more h in (r.0, inr r.1, r.2)
    by (Some z) e (inl here) more = (x, inl refl, e ∙ ap (λ w. Some w) here)
    by (Some z) e (inr later) more = let r = more later in (r.0, inr r.1, r.2)

  pub has_filter_map : (xs : List X) (x : X) (y : Y) → Has xs x → f x ≡ Some y → Has (filter_map f xs) y
  has_filter_map [] x y has is = absurd has
  has_filter_map (z ∷ xs) x y (inl here) is = rw (here, is) (inl refl)
  has_filter_map (z ∷ xs) x y (inr later) is = by (f z) (has_filter_map xs x y later is) where
    by : (o : Option Y) → Has (filter_map f xs) y → Has (cons_option o (filter_map f xs)) y
    by None h = h
    by (Some w) h = inr h

-- ---- what passes a test

module _ {X : Type 0} (test : X → Bool) where
  pub filter_has : (xs : List X) (x : X) → Has (filter test xs) x → Has xs x
  filter_has [] x has = absurd has
  filter_has (y ∷ ys) x has = by (test y) has (filter_has ys x) where
    by : (b : Bool) → Has (cond b (y ∷ filter test ys) (filter test ys)) x → (Has (filter test ys) x → Has ys x) → Has (y ∷ ys) x
    by true (inl here) more = inl here
    by true (inr later) more = inr (more later)
    by false h more = inr (more h)

  pub filter_test : (xs : List X) (x : X) → Has (filter test xs) x → test x ≡ true
  filter_test [] x has = absurd has
  filter_test (y ∷ ys) x has = by (test y) refl has (filter_test ys x) where
    by : (b : Bool) → test y ≡ b → Has (cond b (y ∷ filter test ys) (filter test ys)) x → (Has (filter test ys) x → test x ≡ true) → test x ≡ true
    by true e (inl here) more = subst (λ z. test z ≡ true) here e
    by true e (inr later) more = more later
    by false e h more = more h

  pub has_filter : (xs : List X) (x : X) → Has xs x → test x ≡ true → Has (filter test xs) x
  has_filter [] x has t = absurd has
  has_filter (y ∷ ys) x has t = by (test y) refl has (λ h. has_filter ys x h t) where
    by : (b : Bool) → test y ≡ b → Has (y ∷ ys) x → (Has ys x → Has (filter test ys) x) → Has (cond b (y ∷ filter test ys) (filter test ys)) x
    by true e (inl here) more = inl here
    by true e (inr later) more = inr (more later)
    by false e (inl here) more = absurd (false≢true (sym e ∙ ap test here ∙ t))
    by false e (inr later) more = more later

pub map_filter : {X Y : Type 0} (f : X → Y) (test : Y → Bool) (xs : List X) → map f (filter (λ x. test (f x)) xs) ≡ filter test (map f xs)
map_filter f test [] = refl
map_filter f test (x ∷ xs) = by (test (f x)) (map_filter f test xs) where
  by : (b : Bool) → map f (filter (λ y. test (f y)) xs) ≡ filter test (map f xs)
      → map f (cond b (x ∷ filter (λ y. test (f y)) xs) (filter (λ y. test (f y)) xs)) ≡ cond b (f x ∷ filter test (map f xs)) (filter test (map f xs))
  by true more = ap (λ ys. f x ∷ ys) more
  by false more = more

pub filter_short : {X : Type 0} (test : X → Bool) (xs : List X) → length (filter test xs) ≤ length xs
filter_short test xs = omega (arith, length-filter test xs, count_by-le-length test xs)

-- ---- paths

pub among_has : (paths : List Path) (path : Path) → is_among paths path ≡ true → Has paths path
among_has paths path e = let r = any_has (λ other. path_eq other path) paths e in subst (Has paths) (path_same r.0 path r.2) r.1

pub has_among : (paths : List Path) (path : Path) → Has paths path → is_among paths path ≡ true
has_among paths path has = has_any (λ other. path_eq other path) paths path has (path_self path)

pub among_filter : (test : Path → Bool) (paths : List Path) (path : Path) → is_among (filter test paths) path ≡ (is_among paths path && test path)
among_filter test [] path = refl
among_filter test (x ∷ xs) path = by (test x) refl (path_eq x path) refl (among_filter test xs path) where
  by : (t : Bool) → test x ≡ t → (b : Bool) → path_eq x path ≡ b → is_among (filter test xs) path ≡ (is_among xs path && test path)
      → is_among (cond t (x ∷ filter test xs) (filter test xs)) path ≡ ((b || is_among xs path) && test path)
  by true t true e more = ap (λ b. b || is_among (filter test xs) path) e ∙ (sym t ∙ ap test (path_same x path e))
  by true t false e more = ap (λ b. b || is_among (filter test xs) path) e ∙ more
  by false t true e more = let left : test path ≡ false = sym (ap test (path_same x path e)) ∙ t in more ∙ and_right (is_among xs path) (test path) left ∙ sym left
  by false t false e more = more
