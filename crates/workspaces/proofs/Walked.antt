-- Packages whose manifests are walked files.
use Rattle.std.proofs.Common.{◌≡◌, ◌⊎◌, inl, inr, Bool, true, false, cond, ◌||◌, List, [], ◌∷◌, ◌++◌, ℕ, refl, sym, ap, ◌∙◌, subst}
use Rattle.std.specs.Prelude.{Option, Some, None, Result, Ok, Err, IfOk, filter, bytes_eq}
use Rattle.std.specs.Option.{option_map}
use Rattle.std.specs.List.{AllByRecursion, filter_map, cons_option}
use Rattle.std.proofs.lemmas.Bool.{false≢true}
use Rattle.rel_path.specs.Paths.{Path, path_eq, path_cmp, is_among}
use Rattle.rel_path.proofs.PathLaws.{path_cmp_total, path_self}
use Rattle.workspaces.specs.declared.member.Package.{Package}
use Rattle.workspaces.specs.Lists.{ascending, Has}
use Rattle.workspaces.specs.Order.{package_cmp, package_total}
use Rattle.workspaces.specs.Reading.{AreReadIn}
use Rattle.workspaces.specs.declared.error.SpaceErr.{SpaceErr}
use Rattle.workspaces.specs.Space.{Space, AreWalked, manifest_name, manifest_in, is_taken, folder_of, folders_in}
use Rattle.workspaces.proofs.Names.{same_name}
use Rattle.workspaces.proofs.Order.{all_from, has-ascending}

some_path : (a b : Path) → Some a ≡ Some b → a ≡ b
some_path a b e = cc

-- the folder of a path that ends in `package.json` gives the path back
folder_back : (path folder : Path) → folder_of path ≡ Some folder → path ≡ manifest_in folder
folder_back [] folder e = cc
folder_back (name ∷ []) folder e = by (bytes_eq name manifest_name) refl e where
  by : (t : Bool) → bytes_eq name manifest_name ≡ t → cond t (Some []) None ≡ Some folder → name ∷ [] ≡ manifest_in folder
  by true t f = ap (λ n. n ∷ []) (same_name name manifest_name t) ∙ ap manifest_in (some_path [] folder f)
  by false t f = cc
folder_back (name ∷ next ∷ rest) folder e = by (folder_of (next ∷ rest)) refl e (folder_back (next ∷ rest)) where
  by : (inner : Option Path) → folder_of (next ∷ rest) ≡ inner → option_map (λ f. name ∷ f) inner ≡ Some folder → ((f : Path) → folder_of (next ∷ rest) ≡ Some f → next ∷ rest ≡ manifest_in f) → name ∷ next ∷ rest ≡ manifest_in folder
  by None t f more = cc
  by (Some inner) t f more = ap (λ p. name ∷ p) (more inner t) ∙ ap manifest_in (some_path (name ∷ inner) folder f)

-- the folders of walked manifests
has_walked : (walk : List Path) (folder : Path) → Has (filter_map folder_of walk) folder → is_among walk (manifest_in folder) ≡ true
has_walked [] folder has = absurd has
has_walked (path ∷ walk) folder has = by (folder_of path) refl has (has_walked walk folder) where
  later : (a b : Bool) → b ≡ true → (a || b) ≡ true
  later true b e = refl
  later false b e = e

  first : (a b : Bool) → a ≡ true → (a || b) ≡ true
  first a b e = rw e refl

  by : (found : Option Path) → folder_of path ≡ found → Has (cons_option found (filter_map folder_of walk)) folder → (Has (filter_map folder_of walk) folder → is_among walk (manifest_in folder) ≡ true) → is_among (path ∷ walk) (manifest_in folder) ≡ true
  by None t among more = later (path_eq path (manifest_in folder)) (is_among walk (manifest_in folder)) (more among)
  by (Some inner) t (inl here) more = first (path_eq path (manifest_in folder)) (is_among walk (manifest_in folder)) (rw (folder_back path inner t, here) (path_self (manifest_in folder)))
  by (Some inner) t (inr among) more = later (path_eq path (manifest_in folder)) (is_among walk (manifest_in folder)) (more among)

has-filter : {X : Type 0} (test : X → Bool) (xs : List X) (x : X) → Has (filter test xs) x → Has xs x
has-filter test [] x has = absurd has
has-filter test (y ∷ ys) x has = by (test y) has (has-filter test ys x) where
  by : (t : Bool) → Has (cond t (y ∷ filter test ys) (filter test ys)) x → (Has (filter test ys) x → Has ys x) → Has (y ∷ ys) x
  by true (inl here) inner = inl here
  by true (inr later) inner = inr (inner later)
  by false has inner = inr (inner has)

taken_walked : (globs : List (List ℕ)) (walk : List Path) (folder : Path) → Has (folders_in globs walk) folder → is_among walk (manifest_in folder) ≡ true
unfolding folders_in
taken_walked globs walk folder has =
    has_walked walk folder (has-filter (is_taken globs) (filter_map folder_of walk) folder (has-ascending path_cmp path_cmp_total (filter (is_taken globs) (filter_map folder_of walk)) folder has))

pub all_walked : (globs : List (List ℕ)) (walk folders : List Path) (packages : List Package) → folders ≡ folders_in globs walk → AreReadIn folders packages → AreWalked walk (ascending package_cmp packages)
all_walked globs walk folders packages are read =
    all_from (λ (m : Package). is_among walk (manifest_in m.folder) ≡ true) (ascending package_cmp packages)
    (λ m has. taken_walked globs walk m.folder (subst (λ fs. Has fs m.folder) are (read.among m (has-ascending package_cmp package_total packages m has))))

pub found_walked : (walk : List Path) (space : Space) (result : Result Space SpaceErr) → IfOk result (λ s. s ≡ space) → AreWalked walk space.packages → IfOk result (λ s. AreWalked walk s.packages)
found_walked walk space (Ok s) is walked = subst (λ (t : Space). AreWalked walk t.packages) (sym is) walked
found_walked walk space (Err e) is walked = tt
