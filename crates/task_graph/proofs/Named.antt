-- Owners by their names and numbers.
use Rattle.std.proofs.Common.{◌≡◌, ℕ, zero, suc, ◌<◌, ◌≤◌, Bool, true, false, cond, List, [], ◌∷◌, ◌++◌, length, get_or, map, refl, sym, ap, ◌∙◌, arith}
use Rattle.std.specs.Prelude.{Some, filter}
use Rattle.std.specs.List.{HoldsAt}
use Rattle.std.specs.declared.cmp.Ordering.TheVariants.{Equal}
use Rattle.std.specs.Ordering.{is_eq}
use Rattle.std.proofs.lemmas.Map.Text.{is_eq-slice_cmp}
use Rattle.std.proofs.lemmas.Slice.Eq.{bytes_eq-Decides}
use Rattle.rel_path.specs.Paths.{name_cmp}
use Rattle.workspaces.specs.declared.member.Package.{Package}
use Rattle.workspaces.specs.Lists.{places}
use Rattle.workspaces.specs.Reach.{AreBelow}
use Rattle.workspaces.specs.Space.{Space, owners, owner_named, IsOwnerAt}
use Rattle.workspaces.specs.Steps.{name_at}
use Rattle.workspaces.proofs.Owners.{owners_count, root_less}
use Rattle.task_graph.specs.Entries.{chosen}

pub name_tied : (a b : List ℕ) → name_cmp a b ≡ Equal → a ≡ b
name_tied a b e = (bytes_eq-Decides a b).0 (sym (is_eq-slice_cmp a b) ∙ ap is_eq e)

-- ---- names by places

name-get : (ps : List Package) (i : ℕ) (d : Package) → i < length ps → name_at ps i ≡ (get_or ps i d).name
name-get [] i d less = absurd (omega arith)
name-get (p ∷ ps) zero d less = refl
name-get (p ∷ ps) (suc i) d less = name-get ps i d (omega arith)

-- the names of those that pass, by their places, whatever stands behind them
pub by_places : {X : Type 0} (f : List ℕ → X) (test : Package → Bool) (ps others : List Package) → map (λ p. f (name_at (ps ++ others) p)) (places test ps) ≡ map (λ (member : Package). f member.name) (filter test ps)
unfolding places
by_places f test [] others = refl
by_places {X} f test (p ∷ ps) others = by (test p) (moved (places test ps) ∙ by_places f test ps others) where
  moved : (ns : List ℕ) → map (λ n. f (name_at (p ∷ ps ++ others) n)) (map suc ns) ≡ map (λ n. f (name_at (ps ++ others) n)) ns
  moved [] = refl
  moved (n ∷ ns) = ap (λ xs. f (name_at (ps ++ others) n) ∷ xs) (moved ns)

  by : (t : Bool) → map (λ n. f (name_at (p ∷ ps ++ others) n)) (map suc (places test ps)) ≡ map (λ (member : Package). f member.name) (filter test ps)
      → map (λ n. f (name_at (p ∷ ps ++ others) n)) (cond t (zero ∷ map suc (places test ps)) (map suc (places test ps))) ≡ map (λ (member : Package). f member.name) (cond t (p ∷ filter test ps) (filter test ps))
  by true e = ap (λ xs. f p.name ∷ xs) e
  by false e = e

-- ---- what holds at a place

pub held_name : (ps : List Package) (i : ℕ) (x : List ℕ) → i < length ps → HoldsAt (λ (member : Package). x ≡ member.name) ps i → x ≡ name_at ps i
held_name [] i x less holds = absurd (omega arith)
held_name (p ∷ ps) i x less holds = holds p ∙ sym (name-get (p ∷ ps) i p less)

-- the owner of the name, with what holds of it
pub owner_held : (space : Space) (name : List ℕ) (o : ℕ) (P : Package → Type 0) → IsOwnerAt space name o → HoldsAt P (owners space) o → (member : Package) × (owner_named space name ≡ Some member) × P member
owner_held space name o P is holds = by (owners space) is.0 is.1 holds where
  by : (all : List Package) → o < length all → HoldsAt (λ (member : Package). owner_named space name ≡ Some member) all o → HoldsAt P all o → (member : Package) × (owner_named space name ≡ Some member) × P member
  by [] less named holds = absurd (omega arith)
  by (p ∷ all) less named holds = (get_or (p ∷ all) o p, named p, holds p)

-- ---- numbers of owners

below_some : (few many : ℕ) (places : List ℕ) → few ≤ many → AreBelow few places → AreBelow many places
below_some few many [] le below = tt
below_some few many (p ∷ places) le below = let less : p < few = below.0 in (omega (arith, less, le), below_some few many places le below.1)

-- packages are owners
pub are_owners : (space : Space) (places : List ℕ) → AreBelow (length space.packages) places → AreBelow (length (owners space)) places
are_owners space places below = let count = owners_count space in below_some (length space.packages) (length (owners space)) places (omega (arith, count)) below

pub chosen_below : (space : Space) (selected : List ℕ) (all : Bool) → AreBelow (length space.packages) selected → AreBelow (length (owners space)) (chosen space selected all)
chosen_below space selected false below = are_owners space selected below
chosen_below space selected true below = by selected (are_owners space selected below) where
  by : (places : List ℕ) → AreBelow (length (owners space)) places → AreBelow (length (owners space)) (places ++ length space.packages ∷ [])
  by [] owned = (root_less space, tt)
  by (p ∷ places) owned = (owned.0, by places owned.1)
