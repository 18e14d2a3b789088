-- Owners: their numbers, names and folders.
use Rattle.std.proofs.Common.{◌≡◌, ◌≢◌, ◌<◌, ◌⊎◌, inl, inr, ℕ, zero, suc, Bool, true, false, cond, List, [], ◌∷◌, length, get_or, refl, sym, ap, ◌∙◌, subst, arith}
use Rattle.std.specs.Prelude.{Some, None}
use Rattle.std.specs.List.{slice_get}
use Rattle.std.proofs.lemmas.Bool.{cases_eq, eqb-true}
use Rattle.std.proofs.lemmas.Option.{slice_get_within, slice_get-get_or, get_or_from_slice_get}
use Rattle.rel_path.specs.Paths.{Path, name_eq, strip}
use Rattle.rel_path.proofs.PathLaws.{name_same, name_self}
use Rattle.workspaces.specs.declared.member.Package.{Package}
use Rattle.workspaces.specs.Lists.{Has}
use Rattle.workspaces.specs.Space.{Space, IsProper, AreApart, root_package, owners, owner_named, is_root_folder}
use Rattle.workspaces.specs.Steps.{IsNamedAt}
use Rattle.workspaces.proofs.Owners.{owner_cases, package_slot, root_slot, named_package}
use Rattle.kept_packages.proofs.Lists.{some_same, has_get, get_has, all_has}

-- ---- packages among the owners

pub inner_slot : (space : Space) (n : ℕ) (p : Package) → slice_get space.packages n ≡ Some p → slice_get (owners space) n ≡ Some p
inner_slot space n p at = package_slot space n (slice_get_within space.packages n p at) ∙ at

-- the number of a package
pub package_number : (space : Space) (p : Package) → Has space.packages p → (n : ℕ) × (slice_get space.packages n ≡ Some p)
package_number space p has = has_get space.packages p has

pub less_package : (space : Space) (n : ℕ) (p : Package) → n < length space.packages → slice_get (owners space) n ≡ Some p → slice_get space.packages n ≡ Some p
less_package space n p less at = sym (package_slot space n less) ∙ at

-- ---- folders

root_is : (folder : Path) → is_root_folder folder ≡ true → folder ≡ []
root_is [] e = refl
root_is (name ∷ names) e = absurd (omega (arith, eqb-true (length (name ∷ names)) 0 e))

pub not_root : (folder : Path) → folder ≢ [] → is_root_folder folder ≡ false
not_root folder ne = by (is_root_folder folder) refl where
  by : (b : Bool) → is_root_folder folder ≡ b → b ≡ false
  by true e = absurd (ne (root_is folder e))
  by false e = refl

strip_self : (p : Path) → strip p p ≡ Some []
strip_self [] = refl
strip_self (x ∷ p) = ap (λ v. cond v (strip p p) None) (name_self x) ∙ strip_self p

pub not_inside : (a b : Path) → a ≡ b → strip a b ≡ None → ⊥
not_inside a b same none = let self : strip a b ≡ Some [] = ap (strip a) (sym same) ∙ strip_self a in cc

less_or_more : (a b : ℕ) → a ≢ b → (a < b) ⊎ (b < a)
less_or_more zero zero ne = absurd (ne refl)
less_or_more zero (suc b) ne = inl (omega arith)
less_or_more (suc a) zero ne = inr (omega arith)
less_or_more (suc a) (suc b) ne = elim (less_or_more a b (λ e. ne (ap suc e))) [ inl less ↦ inl (omega (arith, less)) | inr more ↦ inr (omega (arith, more)) ]

module _ (space : Space) (proper : IsProper space) where
  pub below_root : (n : ℕ) (p : Package) → slice_get space.packages n ≡ Some p → p.folder ≢ []
  below_root n p at = all_has (λ (m : Package). m.folder ≢ []) space.packages proper.below_root p (get_has space.packages n p at)

  -- of two packages neither's folder lies in the other's
  two_apart : (i k : ℕ) (m n : Package) → i < k → slice_get space.packages i ≡ Some m → slice_get space.packages k ≡ Some n → AreApart m.folder n.folder
  two_apart i k m n less at_i at_k =
      let both = proper.apart i k m less (slice_get_within space.packages k n at_k) in
      subst (λ (x : Package). AreApart x.folder n.folder) (get_or_from_slice_get space.packages i m m at_i)
      (subst (λ (y : Package). AreApart (get_or space.packages i m).folder y.folder) (get_or_from_slice_get space.packages k n m at_k) both)

  pub lie_apart : (i k : ℕ) (m n : Package) → i ≢ k → slice_get space.packages i ≡ Some m → slice_get space.packages k ≡ Some n → AreApart m.folder n.folder
  lie_apart i k m n ne at_i at_k = elim (less_or_more i k ne) [
    | inl less ↦ two_apart i k m n less at_i at_k
    | inr more ↦ let both = two_apart k i n m more at_k at_i in (both.1, both.0)
  ]

  same_folder : (i k : ℕ) (m n : Package) → slice_get space.packages i ≡ Some m → slice_get space.packages k ≡ Some n → m.folder ≡ n.folder → i ≡ k
  same_folder i k m n at_i at_k same = elim (cases_eq i k) [
    | inl e ↦ e
    | inr ne ↦ absurd (not_inside m.folder n.folder same (lie_apart i k m n ne at_i at_k).0)
  ]

  root_alone : (i k : ℕ) (m n : Package) → slice_get space.packages i ≡ Some m → slice_get (owners space) k ≡ Some n → k ≡ length space.packages → m.folder ≡ n.folder → ⊥
  root_alone i k m n at_i at_k last same =
      let root : root_package space.root ≡ n = some_same (root_package space.root) n (sym (root_slot space) ∙ ap (slice_get (owners space)) (sym last) ∙ at_k) in
      below_root i m at_i (same ∙ ap (λ (p : Package). p.folder) (sym root))

  -- owners have different folders
  pub one_folder : (i k : ℕ) (m n : Package) → slice_get (owners space) i ≡ Some m → slice_get (owners space) k ≡ Some n → m.folder ≡ n.folder → i ≡ k
  one_folder i k m n at_i at_k same = by (owner_cases space i (slice_get_within (owners space) i m at_i)) (owner_cases space k (slice_get_within (owners space) k n at_k)) where
    by : (i < length space.packages) ⊎ (i ≡ length space.packages) → (k < length space.packages) ⊎ (k ≡ length space.packages) → i ≡ k
    by (inl a) (inl b) = same_folder i k m n (less_package space i m a at_i) (less_package space k n b at_k) same
    by (inl a) (inr b) = absurd (root_alone i k m n (less_package space i m a at_i) at_k b same)
    by (inr a) (inl b) = absurd (root_alone k i n m (less_package space k n b at_k) at_i a (sym same))
    by (inr a) (inr b) = a ∙ sym b

  -- the package of a name, by its number and as a member
  pub one_named : (name : List ℕ) (n : ℕ) (q : Package) → IsNamedAt space.packages name n → Has space.packages q → name_eq q.name name ≡ true → slice_get (owners space) n ≡ Some q
  one_named name n q named has is =
      let k = package_number space q has in
      let within = slice_get_within space.packages k.0 q k.1 in
      let its : get_or space.packages k.0 q ≡ q = get_or_from_slice_get space.packages k.0 q q k.1 in
      let first : owner_named space name ≡ Some (get_or space.packages n q) = named_package space name proper.names n q named.0 (named.1 q) in
      let second : owner_named space name ≡ Some (get_or space.packages k.0 q) = named_package space name proper.names k.0 q within (ap (λ (p : Package). p.name) its ∙ name_same q.name name is) in
      package_slot space n named.0 ∙ slice_get-get_or space.packages n q named.0 ∙ sym first ∙ second ∙ ap (λ (p : Package). Some p) its
