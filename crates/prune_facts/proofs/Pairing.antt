-- Lists one for one.
use Rattle.std.proofs.Common.{◌≡◌, ℕ, zero, suc, Bool, true, false, cond, List, [], ◌∷◌, Some, None, map, refl, sym, subst, inl, inr}
use Rattle.std.specs.Prelude.{slice_get, slice_index_or}
use Rattle.workspaces.specs.Lists.{Has}
use Rattle.run_laws.specs.Picks.{pick}
use Rattle.run_laws.proofs.PickFacts.{shift}
use Rattle.collect.specs.Listings.{ArePaired}
use Rattle.prune_facts.proofs.Lists.{some_inj, none≢some}

-- with what each stands on
pub pairs_weaker : {X Y : Type 0} (R S : X → Y → Type 0) → ((x : X) (y : Y) → R x y → S x y) → (xs : List X) (ys : List Y) → ArePaired R xs ys → ArePaired S xs ys
pairs_weaker R S gives [] [] a = tt
pairs_weaker R S gives [] (y ∷ ys) a = absurd a
pairs_weaker R S gives (x ∷ xs) [] a = absurd a
pairs_weaker R S gives (x ∷ xs) (y ∷ ys) a = (gives x y a.0, pairs_weaker R S gives xs ys a.1)

pub pairs_at : {X Y : Type 0} (R : X → Y → Type 0) (d : Y) (xs : List X) (ys : List Y) → ArePaired R xs ys → (j : ℕ) (x : X) → slice_get xs j ≡ Some x → R x (slice_index_or ys j d)
pairs_at R d [] [] a j x e = absurd (none≢some x e)
pairs_at R d [] (y ∷ ys) a j x e = absurd a
pairs_at R d (x ∷ xs) [] a j z e = absurd a
pairs_at R d (x ∷ xs) (y ∷ ys) a zero z e = subst (λ w. R w y) (some_inj x z e) a.0
pairs_at R d (x ∷ xs) (y ∷ ys) a (suc j) z e = pairs_at R d xs ys a.1 j z e

pub pairs_past : {X Y : Type 0} (R : X → Y → Type 0) (d : Y) (xs : List X) (ys : List Y) → ArePaired R xs ys → (j : ℕ) → slice_get xs j ≡ None → slice_index_or ys j d ≡ d
pairs_past R d [] [] a j e = refl
pairs_past R d [] (y ∷ ys) a j e = absurd a
pairs_past R d (x ∷ xs) [] a j e = absurd a
pairs_past R d (x ∷ xs) (y ∷ ys) a zero e = absurd (none≢some x (sym e))
pairs_past R d (x ∷ xs) (y ∷ ys) a (suc j) e = pairs_past R d xs ys a.1 j e

-- each with its place
pub pairs_placed : {X Y : Type 0} (R : X → Y → Type 0) (d : Y) (xs : List X) (ys : List Y) → ArePaired R xs ys → ArePaired (λ x y. (j : ℕ) × (slice_get xs j ≡ Some x) × (slice_index_or ys j d ≡ y) × R x y) xs ys
pairs_placed R d [] [] a = tt
pairs_placed R d [] (y ∷ ys) a = absurd a
pairs_placed R d (x ∷ xs) [] a = absurd a
pairs_placed R d (x ∷ xs) (y ∷ ys) a = ((zero, refl, refl, a.0), pairs_weaker _ _ (λ z w r. (suc r.0, r.1, r.2, r.3)) xs ys (pairs_placed R d xs ys a.1))

pub pairs-pick : {X Y : Type 0} (R : X → Y → Type 0) (keep : ℕ → Bool) (xs : List X) (ys : List Y) → ArePaired R xs ys → ArePaired R (pick keep xs) (pick keep ys)
pairs-pick R keep [] [] a = tt
pairs-pick R keep [] (y ∷ ys) a = absurd a
pairs-pick R keep (x ∷ xs) [] a = absurd a
pairs-pick R keep (x ∷ xs) (y ∷ ys) a =
    elim (keep zero) as (λ b. ArePaired R (cond b (x ∷ pick (shift keep) xs) (pick (shift keep) xs)) (cond b (y ∷ pick (shift keep) ys) (pick (shift keep) ys))) [
      | true ↦ (a.0, pairs-pick R (shift keep) xs ys a.1)
      | false ↦ pairs-pick R (shift keep) xs ys a.1
    ]

-- two such lists are seen alike where their members are
pub pairs_same : {X Y Z : Type 0} (R S : X → Y → Type 0) (f g : Y → Z) (xs : List X) (ys zs : List Y) → ((x : X) (y z : Y) → Has xs x → R x y → S x z → f y ≡ g z) → ArePaired R xs ys → ArePaired S xs zs → map f ys ≡ map g zs
pairs_same R S f g [] [] [] same a b = refl
pairs_same R S f g [] [] (z ∷ zs) same a b = absurd b
pairs_same R S f g [] (y ∷ ys) zs same a b = absurd a
pairs_same R S f g (x ∷ xs) [] zs same a b = absurd a
pairs_same R S f g (x ∷ xs) (y ∷ ys) [] same a b = absurd b
pairs_same R S f g (x ∷ xs) (y ∷ ys) (z ∷ zs) same a b =
    let head = same x y z (inl refl) a.0 b.0 in
    let tail = pairs_same R S f g xs ys zs (λ w u v h. same w u v (inr h)) a.1 b.1 in
    λ j. head j ∷ tail j

-- a member has a partner
pub partner_of : {X Y : Type 0} (R : X → Y → Type 0) (xs : List X) (ys : List Y) → ArePaired R xs ys → (y : Y) → Has ys y → (x : X) × (Has xs x) × R x y
partner_of R [] [] a y h = absurd h
partner_of R [] (z ∷ ys) a y h = absurd a
partner_of R (x ∷ xs) [] a y h = absurd h
partner_of R (x ∷ xs) (z ∷ ys) a y (inl e) = (x, inl refl, subst (λ w. R x w) e a.0)
partner_of R (x ∷ xs) (z ∷ ys) a y (inr h) = let r = partner_of R xs ys a.1 y h in (r.0, inr r.1, r.2)

-- the same where only members count
pub pairs_within : {X Y : Type 0} (R S : X → Y → Type 0) (xs : List X) (ys : List Y) → ((x : X) (y : Y) → Has xs x → R x y → S x y) → ArePaired R xs ys → ArePaired S xs ys
pairs_within R S [] [] gives a = tt
pairs_within R S [] (y ∷ ys) gives a = absurd a
pairs_within R S (x ∷ xs) [] gives a = absurd a
pairs_within R S (x ∷ xs) (y ∷ ys) gives a = (gives x y (inl refl) a.0, pairs_within R S xs ys (λ z w h r. gives z w (inr h) r) a.1)

pub pairs-map : {W X Y : Type 0} (R : X → Y → Type 0) (f : W → X) (ws : List W) (ys : List Y) → ArePaired R (map f ws) ys → ArePaired (λ w y. R (f w) y) ws ys
pairs-map R f [] [] a = tt
pairs-map R f [] (y ∷ ys) a = absurd a
pairs-map R f (w ∷ ws) [] a = absurd a
pairs-map R f (w ∷ ws) (y ∷ ys) a = (a.0, pairs-map R f ws ys a.1)

pub pair_of : {X Y : Type 0} (R : X → Y → Type 0) (xs : List X) (ys : List Y) → ArePaired R xs ys → (x : X) → Has xs x → (y : Y) × (Has ys y) × R x y
pair_of R [] [] a x h = absurd h
pair_of R [] (y ∷ ys) a x h = absurd a
pair_of R (z ∷ xs) [] a x h = absurd a
pair_of R (z ∷ xs) (y ∷ ys) a x (inl e) = (y, inl refl, subst (λ w. R w y) e a.0)
pair_of R (z ∷ xs) (y ∷ ys) a x (inr h) = let r = pair_of R xs ys a.1 x h in (r.0, inr r.1, r.2)
