-- The lesser of three, and the least of two lists.
use Rattle.std.proofs.Common.{◌≡◌, ℕ, Bool, true, false, cond, List, [], ◌∷◌, ◌++◌, Option, Some, None, Ordering, Less, Equal, Greater, refl, ap, ◌∙◌}
use Rattle.std.specs.Ordering.{is_gt, ordering_reverse}
use Rattle.std.proofs.lemmas.Cmp.{upto, nat_list_cmp_total}
use Rattle.rel_path.specs.Paths.{name_cmp}
use Rattle.lock_entries.specs.Least.{lesser_by, least_by}

is_Greater : (o : Ordering) → is_gt o ≡ true → o ≡ Greater
is_Greater Less e = cc
is_Greater Equal e = cc
is_Greater Greater e = refl

reversed : (a b : List ℕ) → is_gt (name_cmp a b) ≡ true → name_cmp b a ≡ Less
reversed a b e = nat_list_cmp_total.antisymm b a ∙ ap ordering_reverse (is_Greater (name_cmp a b) e)

greater : (a b c : List ℕ) → is_gt (name_cmp a b) ≡ true → is_gt (name_cmp b c) ≡ true → is_gt (name_cmp a c) ≡ true
greater a b c e h = ap is_gt (nat_list_cmp_total.antisymm a c ∙ ap ordering_reverse (nat_list_cmp_total.trans c b a (reversed b c h) (reversed a b e)))

module _ {A : Type 0} (pointer : A → List ℕ) where
  three : (a b c : A) (ab bc : Bool) → is_gt (name_cmp (pointer a) (pointer b)) ≡ ab → is_gt (name_cmp (pointer b) (pointer c)) ≡ bc
      → lesser_by pointer (Some a) (cond bc (Some c) (Some b)) ≡ lesser_by pointer (cond ab (Some b) (Some a)) (Some c)
  three a b c true true e h = rw (greater (pointer a) (pointer b) (pointer c) e h, h) refl
  three a b c true false e h = rw (e, h) refl
  three a b c false true e h = refl
  three a b c false false e h = rw (e, upto nat_list_cmp_total (pointer a) (pointer b) (pointer c) e h) refl

  pub lesser_lesser : (a b c : Option A) → lesser_by pointer a (lesser_by pointer b c) ≡ lesser_by pointer (lesser_by pointer a b) c
  lesser_lesser None b c = refl
  lesser_lesser (Some a) None c = refl
  lesser_lesser (Some a) (Some b) None = lesser_none (lesser_by pointer (Some a) (Some b)) where
    lesser_none : (o : Option A) → o ≡ lesser_by pointer o None
    lesser_none None = refl
    lesser_none (Some x) = refl
  lesser_lesser (Some a) (Some b) (Some c) = three a b c _ _ refl refl

  pub least-append : (xs ys : List A) → least_by pointer (xs ++ ys) ≡ lesser_by pointer (least_by pointer xs) (least_by pointer ys)
  least-append [] ys = refl
  least-append (x ∷ xs) ys = ap (lesser_by pointer (Some x)) (least-append xs ys) ∙ lesser_lesser (Some x) (least_by pointer xs) (least_by pointer ys)
