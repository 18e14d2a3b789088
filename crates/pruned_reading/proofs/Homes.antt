-- Whose the files are that stand in a package's folder.
use Rattle.std.proofs.Common.{◌≡◌, ◌≢◌, ◌⊎◌, inl, inr, ℕ, Bool, true, false, cond, ◌&&◌, List, [], ◌∷◌, ◌++◌, length, map, refl, sym, ap, ◌∙◌, subst, arith}
use Rattle.std.specs.Prelude.{Option, Some, None, not}
use Rattle.std.specs.List.{list_any}
use Rattle.std.specs.Cmp.{first_so}
use Rattle.std.proofs.lemmas.Bool.{false≢true, false_from_ne_true, and_left, and_right, eqb-true}
use Rattle.rel_path.specs.Paths.{Path, name_eq, strip}
use Rattle.rel_path.proofs.PathLaws.{name_same, name_self, strip_append}
use Rattle.workspaces.specs.declared.member.Package.{Package}
use Rattle.workspaces.specs.Lists.{Has}
use Rattle.workspaces.specs.Space.{Space, IsProper, AreApart, owners, root_package, is_proper, lies_below, is_root_folder, lies_in_some, is_home_of, manifest_name, manifest_in}
use Rattle.workspaces.proofs.Apart.{members_apart}
use Rattle.task_definitions.specs.Setup.{Setup}
use Rattle.task_inputs.specs.Homes.{Home, Configured, home_of, folders_of, configured, is_home, declares_in, declared_in, is_declared}
use Rattle.repository.specs.Reading.{config_name, config_in}
use Rattle.pruned_reading.proofs.Lists.{any_none, has_any, map_has, has_map, has_front, front_or_last}

-- ---- folders above one path

none_some : {X : Type 0} (x : X) → None ≡ Some x → ⊥
none_some x e = cc

-- of two folders above one path one is above the other
clash : (a b path r s : Path) → strip a path ≡ Some r → strip b path ≡ Some s → strip a b ≡ None → strip b a ≡ None → ⊥
clash [] b path r s ea eb nab nba = none_some b (sym nab)
clash (x ∷ xs) [] path r s ea eb nab nba = none_some (x ∷ xs) (sym nba)
clash (x ∷ xs) (y ∷ ys) [] r s ea eb nab nba = none_some r ea
clash (x ∷ xs) (y ∷ ys) (n ∷ ns) r s ea eb nab nba = by (name_eq x n) refl (name_eq y n) refl ea eb (clash xs ys ns r s) where
  by : (t : Bool) → name_eq x n ≡ t → (u : Bool) → name_eq y n ≡ u → cond t (strip xs ns) None ≡ Some r → cond u (strip ys ns) None ≡ Some s → (strip xs ns ≡ Some r → strip ys ns ≡ Some s → strip xs ys ≡ None → strip ys xs ≡ None → ⊥) → ⊥
  by false e u f a b inner = none_some r a
  by true e false f a b inner = none_some s b
  by true e true f a b inner =
      let same : x ≡ y = name_same x n e ∙ sym (name_same y n f) in
      let there : name_eq x y ≡ true = subst (λ w. name_eq x w ≡ true) same (name_self x) in
      let back : name_eq y x ≡ true = subst (λ w. name_eq y w ≡ true) (sym same) (name_self y) in
      inner a b (ap (λ t. cond t (strip xs ys) None) (sym there) ∙ nab) (ap (λ t. cond t (strip ys xs) None) (sym back) ∙ nba)

rest_below : (path folder : Path) → lies_below path folder ≡ true → (rest : Path) × (strip folder path ≡ Some rest)
rest_below path folder below = by (strip folder path) refl below where
  by : (o : Option Path) → strip folder path ≡ o → is_proper o ≡ true → (rest : Path) × (strip folder path ≡ Some rest)
  by None e b = absurd (false≢true b)
  by (Some rest) e b = (rest, e)

root_is : (folder : Path) → is_root_folder folder ≡ true → folder ≡ []
root_is [] e = refl
root_is (name ∷ names) e = absurd (omega (arith, eqb-true (length (name ∷ names)) 0 e))

pub inner_folder : (folder : Path) → folder ≢ [] → is_root_folder folder ≡ false
inner_folder folder below = false_from_ne_true (is_root_folder folder) (λ e. below (root_is folder e))

below_file : (folder : Path) (name : List ℕ) → lies_below (folder ++ name ∷ []) folder ≡ true
below_file folder name = ap is_proper (strip_append folder (name ∷ []))

home_below : (folders : List Path) (folder path : Path) → is_home_of folders folder path ≡ true → lies_below path folder ≡ true
unfolding is_home_of
home_below folders folder path e = first_so (lies_below path folder) _ e

not_for_root : (folders : List Path) (path : Path) → lies_in_some folders path ≡ true → is_home_of folders [] path ≡ false
unfolding is_home_of
not_for_root folders path inside = ap (λ b. lies_below path [] && not (true && b)) inside ∙ and_right (lies_below path []) false refl

inner_home : (folders : List Path) (folder : Path) (name : List ℕ) → is_root_folder folder ≡ false → is_home_of folders folder (folder ++ name ∷ []) ≡ true
unfolding is_home_of
inner_home folders folder name inner = λ j. below_file folder name j && not (inner j && lies_in_some folders (folder ++ name ∷ []))

-- ---- names that no task declares

-- no tasks of an owner declare a file of this name that stands in the owner's folder
abbrev pub IsNeverOutput : List ℕ → Type 0
IsNeverOutput name = (folders : List Path) (folder : Path) (tasks : List Configured) → declares_in folders (folder ++ name ∷ []) (record { folder = folder; tasks = tasks }) ≡ false

pub manifest_never : IsNeverOutput manifest_name
manifest_never folders folder tasks = and_right (is_home_of folders folder (manifest_in folder)) _ (any_none _ tasks (λ t has. rw (strip_append folder (manifest_name ∷ [])) refl))

pub config_never : IsNeverOutput config_name
config_never folders folder tasks = and_right (is_home_of folders folder (config_in folder)) _ (any_none _ tasks (λ t has. rw (strip_append folder (config_name ∷ [])) refl))

-- ---- of a package and a file in its folder

module _ (setup : Setup) (space : Space) (proper : IsProper space) (p : Package) (has : Has space.packages p) (below : p.folder ≢ []) where
  pub owner : Has (owners space) p
  owner = has_front space.packages (root_package space.root ∷ []) p has

  abbrev folders : List Path
  folders = map (λ (q : Package). q.folder) (owners space)

  -- the package is the file's home
  pub own_home : (name : List ℕ) → is_home (owners space) p (p.folder ++ name ∷ []) ≡ true
  own_home name = inner_home folders p.folder name (inner_folder p.folder below)

  inside : (name : List ℕ) → lies_in_some folders (p.folder ++ name ∷ []) ≡ true
  inside name =
      let inner : is_root_folder p.folder ≡ false = inner_folder p.folder below in
      has_any (λ f. not (is_root_folder f) && lies_below (p.folder ++ name ∷ []) f) folders p.folder (map_has (λ (q : Package). q.folder) (owners space) p owner) (λ j. not (inner j) && below_file p.folder name j)

  -- and its only one
  pub one_home : (name : List ℕ) (q : Package) → Has (owners space) q → is_home (owners space) q (p.folder ++ name ∷ []) ≡ true → q ≡ p
  one_home name q also its = by (front_or_last space.packages (root_package space.root) q also) where
    apart_no : AreApart p.folder q.folder → ⊥
    apart_no both =
        let here = rest_below (p.folder ++ name ∷ []) p.folder (below_file p.folder name) in
        let there = rest_below (p.folder ++ name ∷ []) q.folder (home_below folders q.folder (p.folder ++ name ∷ []) its) in
        clash p.folder q.folder (p.folder ++ name ∷ []) here.0 there.0 here.1 there.1 both.0 both.1

    inner : (p ≡ q) ⊎ AreApart p.folder q.folder → q ≡ p
    inner (inl same) = sym same
    inner (inr both) = absurd (apart_no both)

    by : Has space.packages q ⊎ (root_package space.root ≡ q) → q ≡ p
    by (inl among) = inner (members_apart space.packages proper.apart p q has among)
    by (inr root) = absurd (false≢true (sym (not_for_root folders (p.folder ++ name ∷ []) (inside name)) ∙ subst (λ (r : Package). is_home_of folders r.folder (p.folder ++ name ∷ []) ≡ true) (sym root) its))

  -- ---- what its tasks declare

  folders_same : (members : List Package) → folders_of (map (home_of setup) members) ≡ map (λ q. q.folder) members
  folders_same [] = refl
  folders_same (q ∷ qs) = ap (λ fs. q.folder ∷ fs) (folders_same qs)

  not_by : (name : List ℕ) → IsNeverOutput name → (q : Package) → Has (owners space) q → declares_in folders (p.folder ++ name ∷ []) (home_of setup q) ≡ false
  not_by name never q also = by (is_home (owners space) q (p.folder ++ name ∷ [])) refl where
    by : (b : Bool) → is_home (owners space) q (p.folder ++ name ∷ []) ≡ b → declares_in folders (p.folder ++ name ∷ []) (home_of setup q) ≡ false
    by false e = and_left (is_home (owners space) q (p.folder ++ name ∷ [])) _ e
    by true e = subst (λ r. declares_in folders (p.folder ++ name ∷ []) (home_of setup r) ≡ false) (sym (one_home name q also e)) (never folders p.folder (configured setup p))

  pub never_declared : (name : List ℕ) → IsNeverOutput name → is_declared setup (owners space) (p.folder ++ name ∷ []) ≡ false
  unfolding declared_in
  never_declared name never =
      ap (λ fs. list_any (declares_in fs (p.folder ++ name ∷ [])) (map (home_of setup) (owners space))) (folders_same (owners space))
      ∙ any_none (declares_in folders (p.folder ++ name ∷ [])) (map (home_of setup) (owners space))
      (λ home among.
      let q = has_map (home_of setup) (owners space) home among in
      subst (λ (h : Home). declares_in folders (p.folder ++ name ∷ []) h ≡ false) q.2 (not_by name never q.0 q.1))
