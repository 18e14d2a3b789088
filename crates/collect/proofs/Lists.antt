-- Lists: what is found first, one for one, and by place.
use Rattle.std.proofs.Common.{◌≡◌, ℕ, zero, suc, ◌+◌, ◌<◌, Bool, true, false, cond, List, [], ◌∷◌, ◌++◌, length, map, get_or, take, refl, sym, ap, ◌∙◌, subst, arith}
use Rattle.std.specs.Prelude.{Some, None, find, zip}
use Rattle.std.specs.List.{slice_get, AllByRecursion}
use Rattle.std.proofs.lemmas.List.{take_more}
use Rattle.std.proofs.lemmas.Option.{get_or_from_slice_get}
use Rattle.collect.specs.Listings.{ArePaired}

-- ---- the first that passes

pub found_at : {X : Type 0} (test : X → Bool) (xs : List X) (i : ℕ) (d : X) → i < length xs → find test (take i xs) ≡ None → test (get_or xs i d) ≡ true → find test xs ≡ slice_get xs i
found_at test [] i d lt none t = absurd (omega arith)
found_at test (x ∷ xs) zero d lt none t = rw t refl
found_at test (x ∷ xs) (suc i) d lt none t = by (test x) none (λ e. found_at test xs i d (omega arith) e t) where
  by : (b : Bool) → cond b (Some x) (find test (take i xs)) ≡ None → (find test (take i xs) ≡ None → find test xs ≡ slice_get xs i) → cond b (Some x) (find test xs) ≡ slice_get xs i
  by true e more = cc
  by false e more = more e

find_push : {X : Type 0} (test : X → Bool) (xs : List X) (x : X) → find test xs ≡ None → test x ≡ false → find test (xs ++ x ∷ []) ≡ None
find_push test [] x none t = rw t refl
find_push test (y ∷ xs) x none t = by (test y) none (λ e. find_push test xs x e t) where
  by : (b : Bool) → cond b (Some y) (find test xs) ≡ None → (find test xs ≡ None → find test (xs ++ x ∷ []) ≡ None) → cond b (Some y) (find test (xs ++ x ∷ [])) ≡ None
  by true e more = cc
  by false e more = more e

pub not_at : {X : Type 0} (test : X → Bool) (xs : List X) (i : ℕ) (d : X) → i < length xs → find test (take i xs) ≡ None → test (get_or xs i d) ≡ false → find test (take (i + 1) xs) ≡ None
not_at test xs i d lt none t = ap (find test) (take_more xs i d lt) ∙ find_push test (take i xs) (get_or xs i d) none t

-- ---- one for one

pub paired_push : {X Y : Type 0} (R : X → Y → Type 0) (xs : List X) (ys : List Y) (x : X) (y : Y) → ArePaired R xs ys → R x y → ArePaired R (xs ++ x ∷ []) (ys ++ y ∷ [])
paired_push R [] [] x y p r = (r, tt)
paired_push R [] (b ∷ ys) x y p r = absurd p
paired_push R (a ∷ xs) [] x y p r = absurd p
paired_push R (a ∷ xs) (b ∷ ys) x y p r = (p.0, paired_push R xs ys x y p.1 r)

pub paired_next : {X Y : Type 0} (R : X → Y → Type 0) (xs : List X) (i : ℕ) (d : X) (ys : List Y) (y : Y) → i < length xs → ArePaired R (take i xs) ys → R (get_or xs i d) y → ArePaired R (take (i + 1) xs) (ys ++ y ∷ [])
paired_next R xs i d ys y lt p r = subst (λ zs. ArePaired R zs (ys ++ y ∷ [])) (sym (take_more xs i d lt)) (paired_push R (take i xs) ys (get_or xs i d) y p r)

pub paired_length : {X Y : Type 0} (R : X → Y → Type 0) (xs : List X) (ys : List Y) → ArePaired R xs ys → length ys ≡ length xs
paired_length R [] [] p = refl
paired_length R [] (b ∷ ys) p = absurd p
paired_length R (a ∷ xs) [] p = absurd p
paired_length R (a ∷ xs) (b ∷ ys) p = ap suc (paired_length R xs ys p.1)

pub paired_at : {X Y : Type 0} (R : X → Y → Type 0) (xs : List X) (ys : List Y) (i : ℕ) (x : X) → ArePaired R xs ys → slice_get xs i ≡ Some x → (y : Y) × (slice_get ys i ≡ Some y) × R x y
paired_at R [] ys i x p e = cc
paired_at R (a ∷ xs) [] i x p e = absurd p
paired_at R (a ∷ xs) (b ∷ ys) zero x p e = let same : a ≡ x = cc in (b, refl, subst (λ z. R z b) same p.0)
paired_at R (a ∷ xs) (b ∷ ys) (suc i) x p e = paired_at R xs ys i x p.1 e

pub paired_back : {X Y : Type 0} (R : X → Y → Type 0) (xs : List X) (ys : List Y) (i : ℕ) (y : Y) → ArePaired R xs ys → slice_get ys i ≡ Some y → (x : X) × (slice_get xs i ≡ Some x) × R x y
paired_back R [] [] i y p e = cc
paired_back R [] (b ∷ ys) i y p e = absurd p
paired_back R (a ∷ xs) [] i y p e = absurd p
paired_back R (a ∷ xs) (b ∷ ys) zero y p e = let same : b ≡ y = cc in (a, refl, subst (R a) same p.0)
paired_back R (a ∷ xs) (b ∷ ys) (suc i) y p e = paired_back R xs ys i y p.1 e

pub paired_from : {X Y : Type 0} (R : X → Y → Type 0) (xs : List X) (ys : List Y) → length ys ≡ length xs → ((i : ℕ) (x : X) → slice_get xs i ≡ Some x → (y : Y) × (slice_get ys i ≡ Some y) × R x y) → ArePaired R xs ys
paired_from R [] [] same each = tt
paired_from R [] (b ∷ ys) same each = absurd (omega (arith, same))
paired_from R (a ∷ xs) [] same each = absurd (omega (arith, same))
paired_from R (a ∷ xs) (b ∷ ys) same each =
    let first = each 0 a refl in let is : b ≡ first.0 = let e = first.1 in cc in
    (subst (R a) (sym is) first.2, paired_from R xs ys (omega (arith, same)) (λ i x e. each (suc i) x e))

pub paired_all : {X Y : Type 0} (R : X → Y → Type 0) (P : Y → Type 0) (xs : List X) (ys : List Y) → ((x : X) (y : Y) → R x y → P y) → ArePaired R xs ys → AllByRecursion P ys
paired_all R P [] [] f p = tt
paired_all R P [] (b ∷ ys) f p = absurd p
paired_all R P (a ∷ xs) [] f p = absurd p
paired_all R P (a ∷ xs) (b ∷ ys) f p = (f a b p.0, paired_all R P xs ys f p.1)

pub paired_left : {X Y : Type 0} (R : X → Y → Type 0) (P : X → Type 0) (xs : List X) (ys : List Y) → ((x : X) (y : Y) → R x y → P x) → ArePaired R xs ys → AllByRecursion P xs
paired_left R P [] [] f p = tt
paired_left R P [] (b ∷ ys) f p = absurd p
paired_left R P (a ∷ xs) [] f p = absurd p
paired_left R P (a ∷ xs) (b ∷ ys) f p = (f a b p.0, paired_left R P xs ys f p.1)

-- what holds of those of the second list before a place, of those of the first before it
pub paired_before : {X Y : Type 0} (R : X → Y → Type 0) (P : Y → Type 0) (Q : X → Type 0) (xs : List X) (ys : List Y) (i : ℕ) → ((x : X) (y : Y) → R x y → P y → Q x) → ArePaired R xs ys → AllByRecursion P (take i ys) → AllByRecursion Q (take i xs)
paired_before R P Q [] ys zero f p all = tt
paired_before R P Q [] ys (suc i) f p all = tt
paired_before R P Q (a ∷ xs) ys zero f p all = tt
paired_before R P Q (a ∷ xs) [] (suc i) f p all = absurd p
paired_before R P Q (a ∷ xs) (b ∷ ys) (suc i) f p all = (f a b p.0 all.0, paired_before R P Q xs ys i f p.1 all.1)

-- ---- by place

pub each_at : {X : Type 0} (P : X → Type 0) (xs : List X) (i : ℕ) (d : X) → i < length xs → AllByRecursion P xs → P (get_or xs i d)
each_at P [] i d lt all = absurd (omega arith)
each_at P (x ∷ xs) zero d lt all = all.0
each_at P (x ∷ xs) (suc i) d lt all = each_at P xs i d (omega arith) all.1

pub at_take : {X : Type 0} (xs : List X) (n i : ℕ) (x : X) → slice_get (take n xs) i ≡ Some x → slice_get xs i ≡ Some x
at_take [] zero i x e = cc
at_take [] (suc n) i x e = cc
at_take (y ∷ xs) zero i x e = cc
at_take (y ∷ xs) (suc n) zero x e = e
at_take (y ∷ xs) (suc n) (suc i) x e = at_take xs n i x e

pub get_zip : {X Y : Type 0} (xs : List X) (ys : List Y) (i : ℕ) (x : X) (y : Y) → i < length xs → i < length ys → get_or (zip xs ys) i (x, y) ≡ (get_or xs i x, get_or ys i y)
get_zip [] ys i x y lt less = absurd (omega arith)
get_zip (a ∷ xs) [] i x y lt less = absurd (omega arith)
get_zip (a ∷ xs) (b ∷ ys) zero x y lt less = refl
get_zip (a ∷ xs) (b ∷ ys) (suc i) x y lt less = get_zip xs ys i x y (omega arith) (omega arith)

pub length_zip : {X Y : Type 0} (xs : List X) (ys : List Y) → length xs ≡ length ys → length (zip xs ys) ≡ length ys
length_zip [] [] same = refl
length_zip [] (b ∷ ys) same = absurd (omega (arith, same))
length_zip (a ∷ xs) [] same = absurd (omega (arith, same))
length_zip (a ∷ xs) (b ∷ ys) same = ap suc (length_zip xs ys (omega (arith, same)))

pub there : {X : Type 0} (xs : List X) (i : ℕ) → i < length xs → (x : X) × (slice_get xs i ≡ Some x)
there [] i lt = absurd (omega arith)
there (x ∷ xs) zero lt = (x, refl)
there (x ∷ xs) (suc i) lt = there xs i (omega arith)

pub got : {X : Type 0} (xs : List X) (i : ℕ) (x d : X) → slice_get xs i ≡ Some x → get_or xs i d ≡ x
got xs i x d e = get_or_from_slice_get xs i x d e

pub list_at : {X : Type 0} (P : X → Type 0) (xs : List X) → ((i : ℕ) (x : X) → slice_get xs i ≡ Some x → P x) → AllByRecursion P xs
list_at P [] each = tt
list_at P (x ∷ xs) each = (each 0 x refl, list_at P xs (λ i y e. each (suc i) y e))

pub all_map : {X Y : Type 0} (P : Y → Type 0) (f : X → Y) (xs : List X) → ((x : X) → P (f x)) → AllByRecursion P (map f xs)
all_map P f [] each = tt
all_map P f (x ∷ xs) each = (each x, all_map P f xs each)

pub all_to_map : {X Y : Type 0} (P : Y → Type 0) (f : X → Y) (xs : List X) → AllByRecursion (λ x. P (f x)) xs → AllByRecursion P (map f xs)
all_to_map P f [] all = tt
all_to_map P f (x ∷ xs) all = (all.0, all_to_map P f xs all.1)

pub all_from_map : {X Y : Type 0} (P : Y → Type 0) (f : X → Y) (xs : List X) → AllByRecursion P (map f xs) → AllByRecursion (λ x. P (f x)) xs
all_from_map P f [] all = tt
all_from_map P f (x ∷ xs) all = (all.0, all_from_map P f xs all.1)
