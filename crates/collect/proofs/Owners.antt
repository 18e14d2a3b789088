-- Owners by their numbers, whose home a path is, and what their tasks declare.
use Rattle.std.proofs.Common.{◌≡◌, ◌≢◌, ◌<◌, ℕ, zero, suc, ◌⊎◌, inl, inr, Bool, true, false, cond, ◌||◌, ◌&&◌, List, [], ◌∷◌, ◌++◌, length, map, get_or, refl, sym, ap, ◌∙◌, subst, arith}
use Rattle.std.specs.Prelude.{Option, Some, None, not, find, codes}
use Rattle.std.specs.List.{list_any, slice_get, AllByRecursion}
use Rattle.std.proofs.lemmas.Bool.{cases_eq, false≢true, or_parts, and_parts, eqb-true}
use Rattle.std.proofs.lemmas.Option.{slice_get_within}
use Rattle.rel_path.specs.Paths.{Path, name_eq, is_among, strip}
use Rattle.rel_path.proofs.PathLaws.{name_same, name_self}
use Rattle.tree_walk.specs.Traversal.{passes, passes_if, reached}
use Rattle.tree_walk.specs.Walked.{is_open}
use Rattle.globs.specs.Lists.{list_takes}
use Rattle.globs.specs.Outputs.{may_declare, declares_below, declares}
use Rattle.folder_globs.specs.Exclusions.{exclusion, IsFolder, lies_below as excluded_below, is_proper as excluded_proper}
use Rattle.folder_globs.specs.Laws.{without, lies_below_any, ListLaw}
use Rattle.workspaces.specs.declared.member.Package.{Package}
use Rattle.workspaces.specs.Space.{Space, root_package, owners, owner_named, is_proper, lies_below, is_root_folder, lies_in_some, is_home_of, manifest_in, manifest_name}
use Rattle.workspaces.proofs.Owners.{owners_count, owner_cases, package_slot, root_slot}
use Rattle.task_inputs.specs.Homes.{LieApart, is_home}
use Rattle.collect.specs.Parts.{package_folders, exclusions_for}
use Rattle.collect.proofs.Lists.{got, all_to_map}
use Rattle.collect.proofs.IgnoreRules.{append_none}
use Rattle.collect.proofs.Whole.{and_right, get_map, some_same}
use Rattle.collect.proofs.Order.{any_from, all_get}
use Rattle.collect.proofs.Ascending.{all_ascending, ascending_all}

-- ---- two folders

-- none of two folders that lie apart has what lies in the other
clash : (a b path r s : Path) → strip a path ≡ Some r → strip b path ≡ Some s → strip a b ≡ None → strip b a ≡ None → ⊥
clash [] b path r s ea eb ab ba = cc
clash (x ∷ xs) [] path r s ea eb ab ba = cc
clash (x ∷ xs) (y ∷ ys) [] r s ea eb ab ba = cc
clash (x ∷ xs) (y ∷ ys) (n ∷ ns) r s ea eb ab ba = by (name_eq x n) refl (name_eq y n) refl ea eb (clash xs ys ns r s) where
  by : (t : Bool) → name_eq x n ≡ t → (u : Bool) → name_eq y n ≡ u → cond t (strip xs ns) None ≡ Some r → cond u (strip ys ns) None ≡ Some s → (strip xs ns ≡ Some r → strip ys ns ≡ Some s → strip xs ys ≡ None → strip ys xs ≡ None → ⊥) → ⊥
  by false e u f a b inner = cc
  by true e false f a b inner = cc
  by true e true f a b inner =
      let same : x ≡ y = name_same x n e ∙ sym (name_same y n f) in
      let xy : name_eq x y ≡ true = ap (name_eq x) (sym same) ∙ name_self x in
      let yx : name_eq y x ≡ true = ap (name_eq y) same ∙ name_self y in
      inner a b (ap (λ v. cond v (strip xs ys) None) (sym xy) ∙ ab) (ap (λ v. cond v (strip ys xs) None) (sym yx) ∙ ba)

-- neither folder lies in the other
abbrev Apart : Path → Path → Type 0
Apart a b = (strip a b ≡ None) × (strip b a ≡ None)

strip_self : (p : Path) → strip p p ≡ Some []
strip_self [] = refl
strip_self (x ∷ p) = ap (λ v. cond v (strip p p) None) (name_self x) ∙ strip_self p

not_inside : (a b : Path) → a ≡ b → strip a b ≡ None → ⊥
not_inside a b same none = let self : strip a b ≡ Some [] = ap (strip a) (sym same) ∙ strip_self a in cc

pub less_or_more : (a b : ℕ) → a ≢ b → (a < b) ⊎ (b < a)
less_or_more zero zero ne = absurd (ne refl)
less_or_more zero (suc b) ne = inl (omega arith)
less_or_more (suc a) zero ne = inr (omega arith)
less_or_more (suc a) (suc b) ne = elim (less_or_more a b (λ e. ne (ap suc e))) [ inl less ↦ inl (omega (arith, less)) | inr more ↦ inr (omega (arith, more)) ]

lie_apart : (packages : List Package) (i k : ℕ) (m n : Package) → LieApart packages → i < k → slice_get packages i ≡ Some m → slice_get packages k ≡ Some n → Apart m.folder n.folder
lie_apart packages i k m n apart less at_i at_k =
    let both = apart i k m less (slice_get_within packages k n at_k) in
    subst (λ (x : Package). Apart x.folder n.folder) (got packages i m m at_i) (subst (λ (y : Package). Apart (get_or packages i m).folder y.folder) (got packages k n m at_k) both)

-- ---- below a folder

root_is : (folder : Path) → is_root_folder folder ≡ true → folder ≡ []
root_is [] e = refl
root_is (name ∷ names) e = absurd (omega (arith, eqb-true (length (name ∷ names)) 0 e))

not_root : (folder : Path) → folder ≢ [] → is_root_folder folder ≡ false
not_root folder ne = by (is_root_folder folder) refl where
  by : (b : Bool) → is_root_folder folder ≡ b → b ≡ false
  by true e = absurd (ne (root_is folder e))
  by false e = refl

below_rest : (path folder : Path) → lies_below path folder ≡ true → (rest : Path) × (strip folder path ≡ Some rest)
below_rest path folder e = by (strip folder path) refl e where
  by : (o : Option Path) → strip folder path ≡ o → is_proper o ≡ true → (rest : Path) × (strip folder path ≡ Some rest)
  by None s f = absurd (false≢true f)
  by (Some rest) s f = (rest, s)

-- a single name lies below no folder but the root
pub one_name : (name : List ℕ) (folder : Path) → folder ≢ [] → lies_below (name ∷ []) folder ≡ false
one_name name [] ne = absurd (ne refl)
one_name name (x ∷ []) ne = by (name_eq x name) where
  by : (b : Bool) → is_proper (cond b (Some []) None) ≡ false
  by true = refl
  by false = refl
one_name name (x ∷ y ∷ folder) ne = by (name_eq x name) where
  by : (b : Bool) → is_proper (cond b None None) ≡ false
  by true = refl
  by false = refl

closed : (folder : Path) → is_open (codes ".turbo" ∷ (folder ++ manifest_name ∷ [])) ≡ false
unfolding reached passes_if passes
closed [] = refl
closed (x ∷ folder) = refl

-- nothing in the root's `.turbo` lies below a folder with a walked manifest
pub not_kept : (walk : List Path) → ((path : Path) → is_among walk path ≡ true → is_open path ≡ true) → (name : List ℕ) (folder : Path) → folder ≢ [] → is_among walk (manifest_in folder) ≡ true → lies_below (codes ".turbo" ∷ name ∷ []) folder ≡ false
not_kept walk outside name [] ne among = absurd (ne refl)
not_kept walk outside name (x ∷ folder) ne among = by (name_eq x (codes ".turbo")) refl where
  by : (b : Bool) → name_eq x (codes ".turbo") ≡ b → is_proper (cond b (strip folder (name ∷ [])) None) ≡ false
  by true e = absurd (false≢true (sym (closed folder) ∙ ap (λ n. is_open (n ∷ (folder ++ manifest_name ∷ []))) (sym (name_same x (codes ".turbo") e)) ∙ outside (manifest_in (x ∷ folder)) among))
  by false e = refl

-- ---- owners by their names

place_of : (members : List Package) (name : List ℕ) (m : Package) → find (λ p. name_eq p.name name) members ≡ Some m → (i : ℕ) × (slice_get members i ≡ Some m) × (m.name ≡ name)
place_of [] name m e = cc
place_of (p ∷ members) name m e = by (name_eq p.name name) refl e (place_of members name m) where
  by : (b : Bool) → name_eq p.name name ≡ b → cond b (Some p) (find (λ q. name_eq q.name name) members) ≡ Some m → (find (λ q. name_eq q.name name) members ≡ Some m → (i : ℕ) × (slice_get members i ≡ Some m) × (m.name ≡ name))
      → (i : ℕ) × (slice_get (p ∷ members) i ≡ Some m) × (m.name ≡ name)
  by true t f more = let same : p ≡ m = some_same p m f in (0, f, ap (λ (q : Package). q.name) (sym same) ∙ name_same p.name name t)
  by false t f more = let n = more f in (suc n.0, n.1, n.2)

-- the number of the owner of a name
pub owner_place : (space : Space) (name : List ℕ) (m : Package) → owner_named space name ≡ Some m → (i : ℕ) × (slice_get (owners space) i ≡ Some m) × (m.name ≡ name)
unfolding owner_named
owner_place space name m e = place_of (owners space) name m e

-- ---- lists

any_false : {X : Type 0} (test : X → Bool) (xs : List X) → list_any test xs ≡ false → AllByRecursion (λ x. test x ≡ false) xs
any_false test [] e = tt
any_false test (x ∷ xs) e = let both = or_parts (test x) (list_any test xs) e in (both.0, any_false test xs both.1)

pub both_true : (a b : Bool) → a ≡ true → b ≡ true → (a && b) ≡ true
both_true true b e f = f
both_true false b e f = e

pub and_none : (a : Bool) {b : Bool} → b ≡ false → (a && b) ≡ false
and_none true e = e
and_none false e = refl

-- ---- homes

same_below : (path folder : Path) → excluded_below path folder ≡ lies_below path folder
same_below path folder = by (strip folder path) where
  by : (o : Option Path) → excluded_proper o ≡ is_proper o
  by None = refl
  by (Some []) = refl
  by (Some (name ∷ names)) = refl

home_below : (members : List Package) (m : Package) (path : Path) → is_home members m path ≡ true → lies_below path m.folder ≡ true
unfolding is_home_of
home_below members m path e = (and_parts (lies_below path m.folder) _ e).0

pub declared_below : (outputs : List (List ℕ)) (folder path : Path) → declares outputs folder path ≡ true → lies_below path folder ≡ true
declared_below outputs folder path e = by (strip folder path) e where
  by : (o : Option Path) → declares_below outputs o ≡ true → is_proper o ≡ true
  by None f = absurd (false≢true f)
  by (Some []) f = absurd (false≢true f)
  by (Some (name ∷ names)) f = refl

abbrev folder_at : Package → Path
folder_at p = p.folder

abbrev is_inside : Path → Path → Bool
is_inside path f = not (is_root_folder f) && lies_below path f

none_inside : (root : Package) (path : Path) → root.folder ≡ [] → (packages : List Package) → ((i : ℕ) (p : Package) → slice_get packages i ≡ Some p → lies_below path p.folder ≡ false) → list_any (is_inside path) (map folder_at (packages ++ root ∷ [])) ≡ false
none_inside root path is [] each = ap (λ f. is_inside path f || false) is
none_inside root path is (p ∷ packages) each =
    ap (λ b. b || list_any (is_inside path) (map folder_at (packages ++ root ∷ []))) (and_none (not (is_root_folder p.folder)) (each 0 p refl)) ∙ none_inside root path is packages (λ i q at. each (suc i) q at)

module _ (space : Space) (apart : LieApart space.packages) (inner : AllByRecursion (λ p. p.folder ≢ []) space.packages) where
  -- of two owners the lower one is a package
  lower : (i k : ℕ) (m n : Package) → i < k → slice_get (owners space) i ≡ Some m → slice_get (owners space) k ≡ Some n → slice_get space.packages i ≡ Some m
  lower i k m n less at_i at_k =
      let within = slice_get_within (owners space) k n at_k in
      sym (package_slot space i (omega (arith, less, within, owners_count space))) ∙ at_i

  pub package_or_root : (k : ℕ) (n : Package) → slice_get (owners space) k ≡ Some n → (slice_get space.packages k ≡ Some n) ⊎ (n ≡ root_package space.root)
  package_or_root k n at = elim (owner_cases space k (slice_get_within (owners space) k n at)) [
    | inl less ↦ inl (sym (package_slot space k less) ∙ at)
    | inr last ↦ inr (some_same n (root_package space.root) (sym at ∙ ap (slice_get (owners space)) last ∙ root_slot space))
  ]

  pub inner_at : (i : ℕ) (p : Package) → slice_get space.packages i ≡ Some p → p.folder ≢ []
  inner_at i p at = all_get (λ (q : Package). q.folder ≢ []) space.packages i p at inner

  -- ---- one home

  root_alone : (path : Path) → is_home (owners space) (root_package space.root) path ≡ true → (i : ℕ) (m : Package) → slice_get (owners space) i ≡ Some m → m.folder ≢ [] → lies_below path m.folder ≡ true → ⊥
  unfolding is_home_of
  root_alone path home i m at ne below =
      let passes : is_inside path m.folder ≡ true = ap (λ b. not b && lies_below path m.folder) (not_root m.folder ne) ∙ below in
      let inside : lies_in_some (map folder_at (owners space)) path ≡ true = any_from (is_inside path) (map folder_at (owners space)) i m.folder (get_map folder_at (owners space) i m at) passes in
      false≢true (sym (ap not inside) ∙ and_right (lies_below path []) _ home)

  no_second : (i k : ℕ) (m n : Package) (path : Path) → i < k → slice_get (owners space) i ≡ Some m → slice_get (owners space) k ≡ Some n → is_home (owners space) m path ≡ true → is_home (owners space) n path ≡ true → ⊥
  no_second i k m n path less at_i at_k home_m home_n = elim (package_or_root k n at_k) [
    | inl here ↦
        let both = lie_apart space.packages i k m n apart less (lower i k m n less at_i at_k) here in
        let r = below_rest path m.folder (home_below (owners space) m path home_m) in
        let q = below_rest path n.folder (home_below (owners space) n path home_n) in
        clash m.folder n.folder path r.0 q.0 r.1 q.1 both.0 both.1
    | inr root ↦
        root_alone path (subst (λ (p : Package). is_home (owners space) p path ≡ true) root home_n) i m at_i (inner_at i m (lower i k m n less at_i at_k)) (home_below (owners space) m path home_m)
  ]

  -- a path has one home
  pub one_home : (i k : ℕ) (m n : Package) (path : Path) → slice_get (owners space) i ≡ Some m → slice_get (owners space) k ≡ Some n → is_home (owners space) m path ≡ true → is_home (owners space) n path ≡ true → i ≡ k
  one_home i k m n path at_i at_k home_m home_n = elim (cases_eq i k) [
    | inl e ↦ e
    | inr ne ↦ absurd (elim (less_or_more i k ne) [ inl less ↦ no_second i k m n path less at_i at_k home_m home_n | inr more ↦ no_second k i n m path more at_k at_i home_n home_m ])
  ]

  no_second_folder : (i k : ℕ) (m n : Package) → i < k → slice_get (owners space) i ≡ Some m → slice_get (owners space) k ≡ Some n → m.folder ≡ n.folder → ⊥
  no_second_folder i k m n less at_i at_k same = elim (package_or_root k n at_k) [
    | inl here ↦ not_inside m.folder n.folder same (lie_apart space.packages i k m n apart less (lower i k m n less at_i at_k) here).0
    | inr root ↦ inner_at i m (lower i k m n less at_i at_k) (same ∙ ap folder_at root)
  ]

  -- a folder is that of one owner
  pub one_folder : (i k : ℕ) (m n : Package) → slice_get (owners space) i ≡ Some m → slice_get (owners space) k ≡ Some n → m.folder ≡ n.folder → i ≡ k
  one_folder i k m n at_i at_k same = elim (cases_eq i k) [
    | inl e ↦ e
    | inr ne ↦ absurd (elim (less_or_more i k ne) [ inl less ↦ no_second_folder i k m n less at_i at_k same | inr more ↦ no_second_folder k i n m more at_k at_i (sym same) ])
  ]

  -- ---- which owner it is

  pub package_home : (i : ℕ) (m : Package) (path : Path) → slice_get space.packages i ≡ Some m → lies_below path m.folder ≡ true → is_home (owners space) m path ≡ true
  unfolding is_home_of
  package_home i m path at below =
      ap (λ b. lies_below path m.folder && not (b && lies_in_some (map folder_at (owners space)) path)) (not_root m.folder (inner_at i m at)) ∙ ap (λ b. b && true) below

  root_home : (name : List ℕ) (names : Path) → ((i : ℕ) (p : Package) → slice_get space.packages i ≡ Some p → lies_below (name ∷ names) p.folder ≡ false) → is_home (owners space) (root_package space.root) (name ∷ names) ≡ true
  unfolding is_home_of
  root_home name names each = ap not (none_inside (root_package space.root) (name ∷ names) refl space.packages each)

  -- ---- what is declared

  module _ (lists : ListLaw) (folders : AllByRecursion (λ p. IsFolder p.folder) space.packages) where
    all_folders : AllByRecursion IsFolder (package_folders space)
    all_folders = all_ascending IsFolder (map folder_at space.packages) (all_to_map IsFolder folder_at space.packages folders)

    below_none : (path : Path) → lies_below_any path (package_folders space) ≡ false → (i : ℕ) (p : Package) → slice_get space.packages i ≡ Some p → lies_below path p.folder ≡ false
    below_none path none i p at =
        let all = ascending_all (λ f. excluded_below path f ≡ false) (map folder_at space.packages) (any_false (λ f. excluded_below path f) (package_folders space) none) in
        sym (same_below path p.folder) ∙ all_get (λ f. excluded_below path f ≡ false) (map folder_at space.packages) i p.folder (get_map folder_at space.packages i p at) all

    root_own : (outputs : List (List ℕ)) (path : Path) → declares (without outputs (package_folders space)) [] path ≡ true → (declares outputs [] path ≡ true) × (is_home (owners space) (root_package space.root) path ≡ true)
    root_own outputs [] e = absurd (false≢true e)
    root_own outputs (name ∷ names) e =
        let both = and_parts (may_declare (name ∷ names)) (list_takes (without outputs (package_folders space)) (name ∷ names)) e in
        let taken = (lists outputs (package_folders space) all_folders).taken (name ∷ names) both.1 in
        (both_true (may_declare (name ∷ names)) (list_takes outputs (name ∷ names)) both.0 taken.0, root_home name names (below_none (name ∷ names) taken.1))

    -- what a task declares by its outputs and the exclusions of its owner, it declares by its outputs, and its owner is the path's home
    pub own : (i : ℕ) (m : Package) (outputs : List (List ℕ)) (path : Path) → slice_get (owners space) i ≡ Some m → declares (outputs ++ exclusions_for space m) m.folder path ≡ true → (declares outputs m.folder path ≡ true) × (is_home (owners space) m path ≡ true)
    own i m outputs path at e = elim (package_or_root i m at) [
      | inl here ↦
          let none : exclusions_for space m ≡ [] = ap (λ b. cond b (map exclusion (package_folders space)) []) (not_root m.folder (inner_at i m here)) in
          let mine : declares outputs m.folder path ≡ true = ap (λ texts. declares texts m.folder path) (sym (ap (λ more. outputs ++ more) none ∙ append_none outputs)) ∙ e in
          (mine, package_home i m path here (declared_below outputs m.folder path mine))
      | inr root ↦
          subst (λ (p : Package). (declares outputs p.folder path ≡ true) × (is_home (owners space) p path ≡ true)) (sym root)
          (root_own outputs path (subst (λ (p : Package). declares (outputs ++ exclusions_for space p) p.folder path ≡ true) root e))
    ]
