-- Owners: the packages, and behind them the root.
use Rattle.std.proofs.Common.{◌≡◌, ◌≢◌, ◌⊎◌, inl, inr, ℕ, zero, suc, ◌+◌, ◌<◌, ◌≤◌, Bool, true, false, cond, leb, List, [], ◌∷◌, length, get_or, refl, sym, ◌∙◌, ap, subst, arith}
use Rattle.std.specs.Prelude.{Some, None}
use Rattle.std.specs.Option.{option_or}
use Rattle.std.specs.List.{HoldsAt, slice_get, find}
use Rattle.std.specs.List.Sorted.{IsStrictlySortedBy}
use Rattle.std.proofs.Math.Seq.{get_or-append_seam}
use Rattle.std.proofs.lemmas.Bool.Decides.{leb_tells}
use Rattle.std.proofs.lemmas.List.{length-append, get_or_append_left}
use Rattle.std.proofs.lemmas.List.Folds.{find-append}
use Rattle.std.proofs.lemmas.Option.{slice_get-get_or}
use Rattle.rel_path.specs.Paths.{name_eq}
use Rattle.rel_path.proofs.PathLaws.{name_same, name_self}
use Rattle.workspaces.specs.declared.member.Package.{Package}
use Rattle.workspaces.specs.Space.{Space, root_name, root_package, owners, owner_named, IsOwnerAt}
use Rattle.workspaces.specs.Steps.{AscendingNames, IsNoName, IsNamedAt}
use Rattle.workspaces.proofs.Names.{less_apart, rises}

-- ---- by their numbers

pub owners_count : (space : Space) → length (owners space) ≡ length space.packages + 1
owners_count space = length-append space.packages (root_package space.root ∷ [])

pub package_less : (space : Space) (p : ℕ) → p < length space.packages → p < length (owners space)
package_less space p less = omega (arith, less, owners_count space)

pub root_less : (space : Space) → length space.packages < length (owners space)
root_less space = omega (arith, owners_count space)

pub package_owner : (space : Space) (p : ℕ) (d : Package) → p < length space.packages → get_or (owners space) p d ≡ get_or space.packages p d
package_owner space p d less = get_or_append_left space.packages (root_package space.root ∷ []) d p less

pub root_owner : (space : Space) (d : Package) → get_or (owners space) (length space.packages) d ≡ root_package space.root
root_owner space d = get_or-append_seam space.packages (root_package space.root) [] d

-- an owner is a package, or the root
pub owner_cases : (space : Space) (o : ℕ) → o < length (owners space) → (o < length space.packages) ⊎ (o ≡ length space.packages)
owner_cases space o less = by (leb_tells (length space.packages) o) where
  by : ((leb (length space.packages) o ≡ true) × (length space.packages ≤ o)) ⊎ ((leb (length space.packages) o ≡ false) × (o < length space.packages)) → (o < length space.packages) ⊎ (o ≡ length space.packages)
  by (inl behind) = inr (omega (arith, behind.1, less, owners_count space))
  by (inr before) = inl before.1

-- ---- what holds of an owner

pub package_slot : (space : Space) (p : ℕ) → p < length space.packages → slice_get (owners space) p ≡ slice_get space.packages p
package_slot space p less =
    let root = root_package space.root in
    slice_get-get_or (owners space) p root (package_less space p less)
    ∙ (ap (λ (m : Package). Some m) (package_owner space p root less) ∙ sym (slice_get-get_or space.packages p root less))

pub root_slot : (space : Space) → slice_get (owners space) (length space.packages) ≡ Some (root_package space.root)
root_slot space =
    let root = root_package space.root in
    slice_get-get_or (owners space) (length space.packages) root (root_less space) ∙ ap (λ (m : Package). Some m) (root_owner space root)

module _ (P : Package → Type 0) (space : Space) where
  pub at_package : (p : ℕ) → HoldsAt P (owners space) p → p < length space.packages → HoldsAt P space.packages p
  at_package p holds less d = subst P (package_owner space p d less) (holds d)

  pub package_at : (p : ℕ) → HoldsAt P space.packages p → p < length space.packages → HoldsAt P (owners space) p
  package_at p holds less d = subst P (sym (package_owner space p d less)) (holds d)

  pub at_root : HoldsAt P (owners space) (length space.packages) → P (root_package space.root)
  at_root holds = subst P (root_owner space (root_package space.root)) (holds (root_package space.root))

  pub root_at : P (root_package space.root) → HoldsAt P (owners space) (length space.packages)
  root_at is d = subst P (sym (root_owner space d)) is

-- ---- by their names

abbrev has_name : List ℕ → Package → Bool
has_name name p = name_eq p.name name

other : (a b : List ℕ) → a ≢ b → name_eq a b ≡ false
other a b apart = by (name_eq a b) refl where
  by : (t : Bool) → name_eq a b ≡ t → t ≡ false
  by true e = absurd (apart (name_same a b e))
  by false e = refl

found_first : (test : Package → Bool) (p : Package) (packages : List Package) → test p ≡ true → find test (p ∷ packages) ≡ Some p
found_first test p packages e = ap (λ t. cond t (Some p) (find test packages)) e

found_later : (test : Package → Bool) (p : Package) (packages : List Package) → test p ≡ false → find test (p ∷ packages) ≡ find test packages
found_later test p packages e = ap (λ t. cond t (Some p) (find test packages)) e

find_none : (name : List ℕ) (packages : List Package) → IsNoName packages name → find (has_name name) packages ≡ None
find_none name [] none = refl
find_none name (p ∷ packages) none =
    found_later (has_name name) p packages (other p.name name (none 0 p (omega arith)))
    ∙ find_none name packages (λ k d less. none (suc k) d (omega arith))

find_one : (name : List ℕ) (packages : List Package) → AscendingNames packages → (i : ℕ) (d : Package) → i < length packages → (get_or packages i d).name ≡ name → find (has_name name) packages ≡ Some (get_or packages i d)
unfolding IsStrictlySortedBy
find_one name [] up i d less is = absurd (omega arith)
find_one name (p ∷ packages) up zero d less is = found_first (has_name name) p packages (subst (λ n. name_eq p.name n ≡ true) is (name_self p.name))
find_one name (p ∷ packages) up (suc i) d less is =
    let apart : p.name ≢ name = λ same. less_apart p.name (get_or packages i d).name (rises (λ (m : Package). m.name) (p ∷ packages) up 0 (suc i) d (omega arith) less) (same ∙ sym is) in
    found_later (has_name name) p packages (other p.name name apart) ∙ find_one name packages up.1 i d (omega arith) is

-- the package that has the name
pub named_package : (space : Space) (name : List ℕ) → AscendingNames space.packages → (p : ℕ) (d : Package) → p < length space.packages → (get_or space.packages p d).name ≡ name → owner_named space name ≡ Some (get_or space.packages p d)
unfolding owner_named
named_package space name up p d less is =
    find-append (has_name name) space.packages (root_package space.root ∷ []) ∙ ap (λ f. option_or f (find (has_name name) (root_package space.root ∷ []))) (find_one name space.packages up p d less is)

-- no package has the name
named_behind : (space : Space) (name : List ℕ) → IsNoName space.packages name → owner_named space name ≡ find (has_name name) (root_package space.root ∷ [])
unfolding owner_named
named_behind space name none =
    find-append (has_name name) space.packages (root_package space.root ∷ []) ∙ ap (λ f. option_or f (find (has_name name) (root_package space.root ∷ []))) (find_none name space.packages none)

pub named_root : (space : Space) (name : List ℕ) → IsNoName space.packages name → name_eq root_name name ≡ true → owner_named space name ≡ Some (root_package space.root)
named_root space name none is = named_behind space name none ∙ found_first (has_name name) (root_package space.root) [] is

pub named_none : (space : Space) (name : List ℕ) → IsNoName space.packages name → name_eq root_name name ≡ false → owner_named space name ≡ None
named_none space name none is = named_behind space name none ∙ found_later (has_name name) (root_package space.root) [] is

found_named : (name : List ℕ) (packages : List Package) (p : Package) → find (has_name name) packages ≡ Some p → p.name ≡ name
found_named name [] p found = cc
found_named name (m ∷ packages) p found = by (name_eq m.name name) refl found (found_named name packages p) where
  by : (t : Bool) → name_eq m.name name ≡ t → cond t (Some m) (find (has_name name) packages) ≡ Some p → (find (has_name name) packages ≡ Some p → p.name ≡ name) → p.name ≡ name
  by true e found inner = let same : m ≡ p = cc in ap (λ (q : Package). q.name) (sym same) ∙ name_same m.name name e
  by false e found inner = inner found

-- the owner of a name has it
pub owner_name : (space : Space) (name : List ℕ) (p : Package) → owner_named space name ≡ Some p → p.name ≡ name
unfolding owner_named
owner_name space name p found = found_named name (owners space) p found

-- ---- the number that a name has

pub package_is_owner : (space : Space) (name : List ℕ) → AscendingNames space.packages → (p : ℕ) → IsNamedAt space.packages name p → IsOwnerAt space name p
package_is_owner space name up p named = (
  package_less space p named.0,
  package_at (λ m. owner_named space name ≡ Some m) space p (λ d. named_package space name up p d named.0 (named.1 d)) named.0,
)

pub root_is_owner : (space : Space) (name : List ℕ) → IsNoName space.packages name → name_eq root_name name ≡ true → IsOwnerAt space name (length space.packages)
root_is_owner space name none is = (root_less space, root_at (λ m. owner_named space name ≡ Some m) space (named_root space name none is))
