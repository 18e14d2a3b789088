-- Laws of lists of pairs that begin with some pairs.
use Rattle.std.proofs.Common.{◌≡◌, ◌≢◌, ◌⊎◌, inl, inr, Bool, true, false, cond, List, [], ◌∷◌}
use Rattle.std.proofs.Common.{◌++◌}
use Rattle.std.proofs.Common.{Option, Some, None, refl, sym, ◌∙◌, ap}
use Rattle.std.proofs.lemmas.Bool.{and_parts}
use Rattle.std.proofs.lemmas.List.{append-nil}
use Rattle.rel_path.proofs.PathLaws.{name_same, name_self}
use Rattle.cache_api.specs.Pairs.{Pair}
use Rattle.relay_store.specs.Behind.{pair_eq, behind, followed, in_place}

pair_same : (a b : Pair) → pair_eq a b ≡ true → a ≡ b
pair_same a b e =
    let parts = and_parts _ _ e in
    (λ i. (name_same a.0 b.0 parts.0 i, name_same a.1 b.1 parts.1 i))

pair_self : (a : Pair) → pair_eq a a ≡ true
pair_self a = rw (name_self a.0, name_self a.1) refl

pub behind_front : (first more : List Pair) → behind first (first ++ more) ≡ Some more
behind_front [] more = refl
behind_front (p ∷ first) more = rw (pair_self p) (behind_front first more)

behind_by : (b : Bool) (p q : Pair) (first pairs more : List Pair) → (b ≡ true → p ≡ q)
    → (behind first pairs ≡ Some more → pairs ≡ first ++ more)
    → cond b (behind first pairs) None ≡ Some more → q ∷ pairs ≡ (p ∷ first) ++ more
behind_by true p q first pairs more same rest e = (λ i. sym (same refl) i ∷ rest e i)
behind_by false p q first pairs more same rest e = let none : None ≡ Some more = e in absurd (cc)

pub behind_was : (first pairs more : List Pair) → behind first pairs ≡ Some more
    → pairs ≡ first ++ more
behind_was [] pairs more e = let same : pairs ≡ more = cc in same
behind_was (p ∷ first) [] more e = let none : None ≡ Some more = e in absurd (cc)
behind_was (p ∷ first) (q ∷ pairs) more e =
    behind_by (pair_eq p q) p q first pairs more (pair_same p q)
    (behind_was first pairs more) e

-- ---- in place

pub in_place_is : (all first more : List Pair) (told : Option (List Pair))
    → told ≡ Some (first ++ more) → in_place all first told ≡ Some (all ++ more)
in_place_is all first more told is =
    ap (in_place all first) is ∙ ap (followed all) (behind_front first more)

followed_was : (all : List Pair) (o : Option (List Pair)) (pairs : List Pair)
    → followed all o ≡ Some pairs → (more : List Pair) × (o ≡ Some more) × (pairs ≡ all ++ more)
followed_was all None pairs e = let none : None ≡ Some pairs = e in absurd (cc)
followed_was all (Some more) pairs e = let same : all ++ more ≡ pairs =
    cc in (more, refl, sym same)

pub in_place_was : (all first : List Pair) (told : Option (List Pair)) (pairs : List Pair)
    → in_place all first told ≡ Some pairs
    → (more : List Pair) × (told ≡ Some (first ++ more)) × (pairs ≡ all ++ more)
in_place_was all first None pairs e = let none : None ≡ Some pairs = e in absurd (cc)
in_place_was all first (Some there) pairs e =
    let (more, is, at) = followed_was all (behind first there) pairs e in
    (more, ap (λ (l : List Pair). Some l) (behind_was first there more is), at)

-- ---- whether they are these pairs

first_by : (first pairs : List Pair) (o : Option (List Pair)) → behind first pairs ≡ o
    → (Some pairs ≡ Some first) ⊎ (Some pairs ≢ Some first)
first_by first pairs None e =
    inr (λ same. let at : pairs ≡ first = cc in
    let there : behind first first ≡ Some [] = ap (behind first) (sym (append-nil first))
    ∙ behind_front first [] in
    let none : None ≡ Some [] = sym e ∙ ap (behind first) at ∙ there in absurd (cc))
first_by first pairs (Some []) e =
    inl (ap (λ (l : List Pair). Some l) (behind_was first pairs [] e ∙ append-nil first))
first_by first pairs (Some (p ∷ more)) e =
    inr (λ same. let at : pairs ≡ first = cc in
    let there : behind first first ≡ Some [] = ap (behind first) (sym (append-nil first))
    ∙ behind_front first [] in
    let other : Some (p ∷ more) ≡ Some [] = sym e ∙ ap (behind first) at ∙ there in absurd (cc))

pub is_first : (first : List Pair) (told : Option (List Pair))
    → (told ≡ Some first) ⊎ (told ≢ Some first)
is_first first None = inr (λ same. absurd (cc))
is_first first (Some pairs) = first_by first pairs (behind first pairs) refl
