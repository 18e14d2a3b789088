-- One for one.
use Rattle.std.proofs.Common.{◌≡◌, ◌||◌, Bool, true, false, cond, List, [], ◌∷◌, ◌++◌, filter, refl, sym, ap, ◌∙◌}
use Rattle.std.specs.Prelude.{not}
use Rattle.std.specs.List.{flat_map, list_any}
use Rattle.std.proofs.lemmas.List.Folds.{list_any-append}
use Rattle.collect.specs.Listings.{ArePaired}
use Rattle.pruned_files.proofs.Bools.{or_assoc}

pub record Parts {X Y : Type 0} (R : X → Y → Type 0) (xs ys : List X) (zs : List Y) : Type 0 where
  pub front : List Y
  pub back : List Y
  pub left : ArePaired R xs front
  pub right : ArePaired R ys back
  pub are : zs ≡ front ++ back

-- of two lists, one behind the other
pub parts_of : {X Y : Type 0} (R : X → Y → Type 0) (xs ys : List X) (zs : List Y) → ArePaired R (xs ++ ys) zs → Parts R xs ys zs
parts_of R [] ys zs p = record { front = []; back = zs; left = tt; right = p; are = refl }
parts_of R (x ∷ xs) ys [] p = absurd p
parts_of R (x ∷ xs) ys (z ∷ zs) p = let more = parts_of R xs ys zs p.1 in record { front = z ∷ more.front; back = more.back; left = (p.0, more.left); right = more.right; are = ap (λ us. z ∷ us) more.are }

pub joined : {X Y : Type 0} (R : X → Y → Type 0) (xs ys : List X) (us vs : List Y) → ArePaired R xs us → ArePaired R ys vs → ArePaired R (xs ++ ys) (us ++ vs)
joined R [] ys [] vs p q = q
joined R [] ys (u ∷ us) vs p q = absurd p
joined R (x ∷ xs) ys [] vs p q = absurd p
joined R (x ∷ xs) ys (u ∷ us) vs p q = (p.0, joined R xs ys us vs p.1 q)

-- ---- two halves of a list, by what passes and what does not

pub record Merged {X Y Z : Type 0} (R : X → Y → Type 0) (items : Y → List Z) (xs : List X) (us vs : List Y) : Type 0 where
  pub whole : List Y
  pub each : ArePaired R xs whole
  pub same : (test : Z → Bool) → list_any test (flat_map items whole) ≡ (list_any test (flat_map items us) || list_any test (flat_map items vs))

before : (a b c : Bool) → (a || (b || c)) ≡ (b || (a || c))
before true true c = refl
before true false c = refl
before false b c = refl

pub merged : {X Y Z : Type 0} (R : X → Y → Type 0) (items : Y → List Z) (pass : X → Bool) (xs : List X) (us vs : List Y) → ArePaired R (filter pass xs) us → ArePaired R (filter (λ x. not (pass x)) xs) vs → Merged R items xs us vs
merged R items pass [] [] [] p q = record { whole = []; each = tt; same = λ test. refl }
merged R items pass [] [] (v ∷ vs) p q = absurd q
merged R items pass [] (u ∷ us) vs p q = absurd p
merged {X} {Y} {Z} R items pass (x ∷ xs) us vs p q = by (pass x) us vs p q (λ us vs p q. merged R items pass xs us vs p q) where
  by : (b : Bool) (us vs : List Y) → ArePaired R (cond b (x ∷ filter pass xs) (filter pass xs)) us → ArePaired R (cond (not b) (x ∷ filter (λ x. not (pass x)) xs) (filter (λ x. not (pass x)) xs)) vs
      → ((us vs : List Y) → ArePaired R (filter pass xs) us → ArePaired R (filter (λ x. not (pass x)) xs) vs → Merged R items xs us vs) → Merged R items (x ∷ xs) us vs
  by true [] vs p q later = absurd p
  by true (u ∷ us) vs p q later =
      let more = later us vs p.1 q in
      record {
        whole = u ∷ more.whole;
        each = (p.0, more.each);
        same = λ test. list_any-append test (items u) (flat_map items more.whole) ∙ ap (λ b. list_any test (items u) || b) (more.same test)
            ∙ sym (or_assoc (list_any test (items u)) (list_any test (flat_map items us)) (list_any test (flat_map items vs)))
            ∙ ap (λ b. b || list_any test (flat_map items vs)) (sym (list_any-append test (items u) (flat_map items us)));
      }
  by false us [] p q later = absurd q
  by false us (v ∷ vs) p q later =
      let more = later us vs p q.1 in
      record {
        whole = v ∷ more.whole;
        each = (q.0, more.each);
        same = λ test. list_any-append test (items v) (flat_map items more.whole) ∙ ap (λ b. list_any test (items v) || b) (more.same test)
            ∙ before (list_any test (items v)) (list_any test (flat_map items us)) (list_any test (flat_map items vs))
            ∙ ap (λ b. list_any test (flat_map items us) || b) (sym (list_any-append test (items v) (flat_map items vs)));
      }
