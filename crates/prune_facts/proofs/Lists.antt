-- Lists and tests.
use Rattle.std.proofs.Common.{◌≡◌, ℕ, zero, suc, Bool, true, false, cond, not, ◌&&◌, ◌||◌, List, [], ◌∷◌, ◌++◌, Option, Some, None, filter, map, refl, sym, ap, ◌∙◌, inl, inr, ◌⊎◌}
use Rattle.std.specs.Prelude.{find, is_some, slice_get}
use Rattle.std.specs.List.{list_any}
use Rattle.std.proofs.lemmas.Bool.{cases_Bool, or_cases, or_left, or_right, false≢true, false_from_ne_true}
use Rattle.workspaces.specs.Lists.{Has, places}

-- ---- tests

pub bool_same : (a b : Bool) → (a ≡ true → b ≡ true) → (b ≡ true → a ≡ true) → a ≡ b
bool_same true b f g = sym (f refl)
bool_same false true f g = absurd (false≢true (g refl))
bool_same false false f g = refl

pub not_true : (b : Bool) → not b ≡ true → b ≡ true → ⊥
not_true true h k = false≢true h
not_true false h k = false≢true k

pub not_from : (b : Bool) → not b ≡ true → b ≡ false
not_from true h = absurd (false≢true h)
not_from false h = refl

pub and_off : (a b : Bool) → b ≡ false → (a && b) ≡ false
and_off true b h = h
and_off false b h = refl

-- a test that is narrowed to where it matters
pub filter_test : (a b c : Bool) → (a ≡ true → b ≡ c) → (c ≡ true → a ≡ true) → (a && b) ≡ c
filter_test true b c f g = f refl
filter_test false b true f g = g refl
filter_test false b false f g = refl

-- ---- optional values

or_else : {X : Type 0} → X → Option X → X
or_else x None = x
or_else x (Some y) = y

pub some_inj : {X : Type 0} (x y : X) → Some x ≡ Some y → x ≡ y
unfolding or_else
some_inj x y e = ap (or_else x) e

pub none≢some : {X : Type 0} (x : X) → None ≡ Some x → ⊥
none≢some x e = false≢true (ap is_some e)

pub some_of : {X : Type 0} (o : Option X) → is_some o ≡ true → (x : X) × (o ≡ Some x)
some_of None h = absurd (false≢true h)
some_of (Some x) h = (x, refl)

-- ---- members

pub has-append : {X : Type 0} (xs ys : List X) (x : X) → Has (xs ++ ys) x → Has xs x ⊎ Has ys x
has-append [] ys x h = inr h
has-append (z ∷ xs) ys x (inl e) = inl (inl e)
has-append (z ∷ xs) ys x (inr h) = elim (has-append xs ys x h) [ inl a ↦ inl (inr a) | inr b ↦ inr b ]

pub append_left : {X : Type 0} (xs ys : List X) (x : X) → Has xs x → Has (xs ++ ys) x
append_left [] ys x h = absurd h
append_left (z ∷ xs) ys x (inl e) = inl e
append_left (z ∷ xs) ys x (inr h) = inr (append_left xs ys x h)

pub append_right : {X : Type 0} (xs ys : List X) (x : X) → Has ys x → Has (xs ++ ys) x
append_right [] ys x h = h
append_right (z ∷ xs) ys x h = inr (append_right xs ys x h)

pub has-map : {X Y : Type 0} (f : X → Y) (xs : List X) (x : X) → Has xs x → Has (map f xs) (f x)
has-map f [] x h = absurd h
has-map f (y ∷ ys) x (inl e) = inl (ap f e)
has-map f (y ∷ ys) x (inr h) = inr (has-map f ys x h)

pub filter-has : {X : Type 0} (k : X → Bool) (xs : List X) (x : X) → Has (filter k xs) x → Has xs x × (k x ≡ true)
filter-has k [] x h = absurd h
filter-has k (y ∷ ys) x h =
    elim (cases_Bool (k y)) [
      | inl t ↦ elim (rw t at h) [ inl e ↦ (inl e, sym (ap k e) ∙ t) | inr u ↦ let v = filter-has k ys x u in (inr v.0, v.1) ]
      | inr f ↦ let v = filter-has k ys x (rw f at h) in (inr v.0, v.1)
    ]

pub has-filter : {X : Type 0} (k : X → Bool) (xs : List X) (x : X) → Has xs x → k x ≡ true → Has (filter k xs) x
has-filter k [] x h t = absurd h
has-filter k (y ∷ ys) x h t =
    elim h [
      | inl e ↦ rw (ap k e ∙ t) (inl e)
      | inr u ↦ elim (cases_Bool (k y)) [ inl q ↦ rw q (inr (has-filter k ys x u t)) | inr q ↦ rw q (has-filter k ys x u t) ]
    ]

-- ---- some member passes

pub any_same : {X : Type 0} (s t : X → Bool) (xs : List X) → ((x : X) → Has xs x → s x ≡ t x) → list_any s xs ≡ list_any t xs
any_same s t [] same = refl
any_same s t (x ∷ xs) same = rw (same x (inl refl), any_same s t xs (λ y h. same y (inr h))) refl

pub any-filter : {X : Type 0} (t k : X → Bool) (xs : List X) → list_any t (filter k xs) ≡ list_any (λ x. k x && t x) xs
any-filter t k [] = refl
any-filter t k (x ∷ xs) =
    elim (cases_Bool (k x)) [
      | inl h ↦ rw h (ap (λ b. t x || b) (any-filter t k xs))
      | inr h ↦ rw h (any-filter t k xs)
    ]

pub any_has : {X : Type 0} (t : X → Bool) (xs : List X) → list_any t xs ≡ true → (x : X) × (Has xs x) × (t x ≡ true)
any_has t [] h = absurd (false≢true h)
any_has t (x ∷ xs) h =
    elim (or_cases (t x) (list_any t xs) h) [
      | inl k ↦ (x, inl refl, k)
      | inr k ↦ let y = any_has t xs k in (y.0, inr y.1, y.2)
    ]

pub has_any : {X : Type 0} (t : X → Bool) (xs : List X) (x : X) → Has xs x → t x ≡ true → list_any t xs ≡ true
has_any t [] x h k = absurd h
has_any t (y ∷ ys) x h k =
    elim h [
      | inl e ↦ or_left (t y) (list_any t ys) (ap t e ∙ k)
      | inr u ↦ or_right (t y) (list_any t ys) (has_any t ys x u k)
    ]

pub any-map : {X Y : Type 0} (t : Y → Bool) (f : X → Y) (xs : List X) → list_any t (map f xs) ≡ list_any (λ x. t (f x)) xs
any-map t f [] = refl
any-map t f (x ∷ xs) = ap (λ b. t (f x) || b) (any-map t f xs)

-- ---- filters

pub filter-filter : {X : Type 0} (s k : X → Bool) → (xs : List X) → ((x : X) → Has xs x → s x ≡ true → k x ≡ true) → filter s (filter k xs) ≡ filter s xs
filter-filter s k [] gives = refl
filter-filter s k (x ∷ xs) gives =
    let rest = filter-filter s k xs (λ y h t. gives y (inr h) t) in
    elim (cases_Bool (k x)) [
      | inl t ↦ rw t (ap (λ ys. cond (s x) (x ∷ ys) ys) rest)
      | inr f ↦ rw (f, false_from_ne_true (s x) (λ u. false≢true (sym f ∙ gives x (inl refl) u))) rest
    ]

pub filter_same : {X : Type 0} (s t : X → Bool) (xs : List X) → ((x : X) → Has xs x → s x ≡ t x) → filter s xs ≡ filter t xs
filter_same s t [] same = refl
filter_same s t (x ∷ xs) same =
    let e = filter_same s t xs (λ y h. same y (inr h)) in
    rw (same x (inl refl)) (ap (λ ys. cond (t x) (x ∷ ys) ys) e)

pub filter_all : {X : Type 0} (k : X → Bool) (xs : List X) → ((x : X) → Has xs x → k x ≡ true) → filter k xs ≡ xs
filter_all k [] all = refl
filter_all k (x ∷ xs) all = rw (all x (inl refl)) (ap (λ ys. x ∷ ys) (filter_all k xs (λ y h. all y (inr h))))

pub map_same : {X Y : Type 0} (f g : X → Y) (xs : List X) → ((x : X) → Has xs x → f x ≡ g x) → map f xs ≡ map g xs
map_same f g [] same = refl
map_same f g (x ∷ xs) same =
    let a = same x (inl refl) in
    let b = map_same f g xs (λ y h. same y (inr h)) in
    λ j. a j ∷ b j

-- ---- the first that passes

pub find_has : {X : Type 0} (t : X → Bool) (xs : List X) (y : X) → find t xs ≡ Some y → Has xs y × (t y ≡ true)
find_has t [] y e = absurd (none≢some y e)
find_has t (x ∷ xs) y e =
    elim (cases_Bool (t x)) [
      | inl k ↦ let s = some_inj x y (rw k at e) in (inl s, ap t (sym s) ∙ k)
      | inr f ↦ let r = find_has t xs y (rw f at e) in (inr r.0, r.1)
    ]

-- the only one that passes is found
pub find_one : {X : Type 0} (t : X → Bool) (xs : List X) (y : X) → Has xs y → t y ≡ true → ((x : X) → Has xs x → t x ≡ true → x ≡ y) → find t xs ≡ Some y
find_one t [] y h k one = absurd h
find_one t (x ∷ xs) y h k one =
    elim (cases_Bool (t x)) [
      | inl p ↦ rw p (ap Some (one x (inl refl) p))
      | inr f ↦ rw f (elim h [
        | inl e ↦ absurd (false≢true (sym f ∙ ap t e ∙ k))
        | inr u ↦ find_one t xs y u k (λ z v p. one z (inr v) p)
      ])
    ]

-- ---- places

pub has_place : {X : Type 0} (t : X → Bool) (xs : List X) (x : X) → Has xs x → t x ≡ true → (n : ℕ) × (Has (places t xs) n) × (slice_get xs n ≡ Some x)
unfolding places
has_place t [] x h k = absurd h
has_place t (y ∷ ys) x (inl e) k = (zero, rw (ap t e ∙ k) (inl refl), ap Some e)
has_place t (y ∷ ys) x (inr h) k =
    let r = has_place t ys x h k in
    (suc r.0, later (t y) (map suc (places t ys)) (suc r.0) (has-map suc (places t ys) r.0 r.1), r.2)
  where
    later : (b : Bool) (ns : List ℕ) (n : ℕ) → Has ns n → Has (cond b (zero ∷ ns) ns) n
    later true ns n u = inr u
    later false ns n u = u

pub map-has : {X Y : Type 0} (f : X → Y) (xs : List X) (y : Y) → Has (map f xs) y → (x : X) × (Has xs x) × (f x ≡ y)
map-has f [] y h = absurd h
map-has f (x ∷ xs) y (inl e) = (x, inl refl, e)
map-has f (x ∷ xs) y (inr h) = let r = map-has f xs y h in (r.0, inr r.1, r.2)

pub get_has : {X : Type 0} (xs : List X) (n : ℕ) (x : X) → slice_get xs n ≡ Some x → Has xs x
get_has [] n x e = absurd (none≢some x e)
get_has (y ∷ ys) zero x e = inl (some_inj y x e)
get_has (y ∷ ys) (suc n) x e = inr (get_has ys n x e)

-- what stands at such a place passes
pub place_passes : {X : Type 0} (t : X → Bool) (xs : List X) (n : ℕ) (x : X) → Has (places t xs) n → slice_get xs n ≡ Some x → t x ≡ true
unfolding places
place_passes t [] n x h e = absurd h
place_passes t (y ∷ ys) n x h e = by (t y) refl h (λ m. place_passes t ys m x)
  where
    further : Has (map suc (places t ys)) n → ((m : ℕ) → Has (places t ys) m → slice_get ys m ≡ Some x → t x ≡ true) → t x ≡ true
    further u rest = let r = map-has suc (places t ys) n u in rest r.0 r.1 (ap (slice_get (y ∷ ys)) r.2 ∙ e)

    by : (b : Bool) → t y ≡ b → Has (cond b (zero ∷ map suc (places t ys)) (map suc (places t ys))) n → ((m : ℕ) → Has (places t ys) m → slice_get ys m ≡ Some x → t x ≡ true) → t x ≡ true
    by true k (inl s) rest = ap t (sym (some_inj y x (ap (slice_get (y ∷ ys)) s ∙ e))) ∙ k
    by true k (inr u) rest = further u rest
    by false k u rest = further u rest
