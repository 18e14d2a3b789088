-- Orders in which the least that can come next always does, and what of them passes a test that holds with each what it needs.
use Rattle.std.proofs.Common.{◌≡◌, Bool, true, false, cond, not, ◌&&◌, List, [], ◌∷◌, ◌++◌, filter, refl, sym, ap, ◌∙◌, subst, inl, inr}
use Rattle.std.specs.List.{list_any, list_all}
use Rattle.std.specs.declared.cmp.Ordering.{Ordering}
use Rattle.std.specs.declared.cmp.Ordering.TheVariants.{Less, Equal, Greater}
use Rattle.std.specs.Ordering.{is_eq, ordering_reverse}
use Rattle.std.specs.Cmp.{IsTotalOrder}
use Rattle.std.specs.BTreeMap.{is_at}
use Rattle.std.proofs.lemmas.Bool.{cases_Bool, and_parts, and_from, false≢true, true≢false}
use Rattle.std.proofs.lemmas.Cmp.{tied_itself}
use Rattle.workspaces.specs.Lists.{Has}
use Rattle.prune_facts.proofs.Lists.{bool_same, and_off, any_has, has_any, filter-has, has-filter}

is_equal : (o : Ordering) → is_eq o ≡ true → o ≡ Equal
is_equal Less e = absurd (false≢true e)
is_equal Equal e = refl
is_equal Greater e = absurd (false≢true e)

pub all_has : {X : Type 0} (t : X → Bool) (xs : List X) (x : X) → list_all t xs ≡ true → Has xs x → t x ≡ true
all_has t [] x a h = absurd h
all_has t (y ∷ ys) x a h = let p = and_parts (t y) (list_all t ys) a in elim h [ inl e ↦ ap t (sym e) ∙ p.0 | inr u ↦ all_has t ys x p.1 u ]

pub has_all : {X : Type 0} (t : X → Bool) (xs : List X) → ((x : X) → Has xs x → t x ≡ true) → list_all t xs ≡ true
has_all t [] each = refl
has_all t (y ∷ ys) each = and_from (t y) (list_all t ys) (each y (inl refl)) (has_all t ys (λ x h. each x (inr h)))

module _ {X : Type 0} (cmp : X → X → Ordering) where
  -- one of these
  abbrev pub among : List X → X → Bool
  among xs x = list_any (is_at (cmp x)) xs

  -- the least that passes
  abbrev pub IsNext : (X → Bool) → X → Type 0
  IsNext test x = (test x ≡ true) × ((y : X) → cmp y x ≡ Less → test y ≡ false)

  -- each is the least that can come next, until none can
  abbrev pub Follows : (List X → X → Bool) → List X → List X → Type 0
  Follows fits before [] = (y : X) → fits before y ≡ false
  Follows fits before (x ∷ xs) = IsNext (fits before) x × Follows fits (before ++ x ∷ []) xs

  -- one of the set that is not before, while all that it needs is
  abbrev pub opens_in : (X → Bool) → (X → List X) → List X → X → Bool
  opens_in set needs before x = set x && (not (among before x) && list_all (among before) (needs x))

  module _ (total : IsTotalOrder cmp) (tied : (a b : X) → cmp a b ≡ Equal → a ≡ b) where
    pub at_is : (a b : X) → is_at (cmp a) b ≡ true → a ≡ b
    at_is a b e = tied a b (is_equal (cmp a b) e)

    pub at_self : (a : X) → is_at (cmp a) a ≡ true
    at_self a = ap is_eq (tied_itself total a)

    pub has_among : (xs : List X) (x : X) → Has xs x → among xs x ≡ true
    has_among xs x h = has_any (is_at (cmp x)) xs x h (at_self x)

    pub among_has : (xs : List X) (x : X) → among xs x ≡ true → Has xs x
    among_has xs x h = let q = any_has (is_at (cmp x)) xs h in subst (Has xs) (sym (at_is x q.0 q.2)) q.1

    pub among-filter : (set : X → Bool) (xs : List X) (x : X) → among (filter set xs) x ≡ (set x && among xs x)
    among-filter set xs x = bool_same _ _
        (λ h. let q = filter-has set xs x (among_has (filter set xs) x h) in and_from (set x) (among xs x) q.1 (has_among xs x q.0))
        (λ h. let q = and_parts (set x) (among xs x) h in has_among (filter set xs) x (has-filter set xs x (among_has xs x q.1) q.0))

    one_next : (test : X → Bool) (a b : X) → IsNext test a → IsNext test b → a ≡ b
    one_next test a b first second = by (cmp a b) refl
      where
        by : (r : Ordering) → cmp a b ≡ r → a ≡ b
        by Less e = absurd (false≢true (sym (second.1 a e) ∙ first.0))
        by Equal e = tied a b e
        by Greater e = absurd (false≢true (sym (first.1 b (total.antisymm b a ∙ ap ordering_reverse e)) ∙ second.0))

    -- one test has one such order
    pub follow_one : (fits : List X → X → Bool) (before one other : List X) → Follows fits before one → Follows fits before other → one ≡ other
    follow_one fits before [] [] a b = refl
    follow_one fits before [] (y ∷ ys) a b = absurd (true≢false (sym b.0.0 ∙ a y))
    follow_one fits before (x ∷ xs) [] a b = absurd (true≢false (sym a.0.0 ∙ b x))
    follow_one fits before (x ∷ xs) (y ∷ ys) a b =
        let e : x ≡ y = one_next (fits before) x y a.0 b.0 in
        let rest = follow_one fits (before ++ x ∷ []) xs ys a.1 (subst (λ z. Follows fits (before ++ z ∷ []) ys) (sym e) b.1) in
        λ j. e j ∷ rest j

    module _ (fits : List X → X → Bool) (set : X → Bool) (needs : X → List X) (is : (before : List X) (x : X) → set x ≡ true → fits before x ≡ (not (among before x) && list_all (among before) (needs x)))
        (closed : (x y : X) → set x ≡ true → Has (needs x) y → set y ≡ true) where
      inside : (before : List X) (x y : X) → set x ≡ true → Has (needs x) y → among (filter set before) y ≡ among before y
      inside before x y s h = among-filter set before y ∙ ap (λ b. b && among before y) (closed x y s h)

      fits-part : (before : List X) (x : X) → opens_in set needs (filter set before) x ≡ (set x && fits before x)
      fits-part before x = elim (cases_Bool (set x)) [
        | inl t ↦
            let a : among (filter set before) x ≡ among before x = among-filter set before x ∙ ap (λ b. b && among before x) t in
            let d : list_all (among (filter set before)) (needs x) ≡ list_all (among before) (needs x) = bool_same _ _
            (λ h. has_all (among before) (needs x) (λ y u. sym (inside before x y t u) ∙ all_has (among (filter set before)) (needs x) y h u))
            (λ h. has_all (among (filter set before)) (needs x) (λ y u. inside before x y t u ∙ all_has (among before) (needs x) y h u)) in
            (λ j. set x && (not (a j) && d j)) ∙ ap (λ b. set x && b) (sym (is before x t))
        | inr f ↦ rw f refl
      ]

      push_in : (xs : List X) (x : X) → set x ≡ true → filter set (xs ++ x ∷ []) ≡ filter set xs ++ x ∷ []
      push_in [] x h = rw h refl
      push_in (y ∷ ys) x h = elim (set y) as (λ b. cond b (y ∷ filter set (ys ++ x ∷ [])) (filter set (ys ++ x ∷ [])) ≡ cond b (y ∷ filter set ys) (filter set ys) ++ x ∷ [])
          [ true ↦ ap (λ zs. y ∷ zs) (push_in ys x h) | false ↦ push_in ys x h ]

      push_out : (xs : List X) (x : X) → set x ≡ false → filter set (xs ++ x ∷ []) ≡ filter set xs
      push_out [] x h = rw h refl
      push_out (y ∷ ys) x h = elim (set y) as (λ b. cond b (y ∷ filter set (ys ++ x ∷ [])) (filter set (ys ++ x ∷ [])) ≡ cond b (y ∷ filter set ys) (filter set ys))
          [ true ↦ ap (λ zs. y ∷ zs) (push_out ys x h) | false ↦ push_out ys x h ]

      -- what of such an order is in the set is such an order of the set
      pub follow-part : (before xs : List X) → Follows fits before xs → Follows (opens_in set needs) (filter set before) (filter set xs)
      follow-part before [] a = λ y. fits-part before y ∙ and_off (set y) _ (a y)
      follow-part before (x ∷ xs) a =
          elim (cases_Bool (set x)) [
            | inl t ↦ rw t (
              (fits-part before x ∙ and_from (set x) _ t a.0.0, λ y l. fits-part before y ∙ and_off (set y) _ (a.0.1 y l)),
              subst (λ b. Follows (opens_in set needs) b (filter set xs)) (push_in before x t) (follow-part (before ++ x ∷ []) xs a.1),
            )
            | inr f ↦ rw f (subst (λ b. Follows (opens_in set needs) b (filter set xs)) (push_out before x f) (follow-part (before ++ x ∷ []) xs a.1))
          ]
