-- Whose the files that stay are, and which of them are declared.
use Rattle.std.proofs.Common.{◌≡◌, ◌⊎◌, ◌&&◌, ℕ, Bool, true, false, not, List, [], ◌∷◌, ◌++◌, map, refl, sym, ap, ◌∙◌, inl, inr}
use Rattle.std.specs.List.{list_any}
use Rattle.std.proofs.lemmas.Bool.{and_parts, and_from, false≢true, false_from_ne_true}
use Rattle.rel_path.specs.Paths.{Path}
use Rattle.rel_path.proofs.PathLaws.{strip_append}
use Rattle.globs.specs.Outputs.{may_declare, declares, declares_below}
use Rattle.workspaces.specs.declared.member.Package.{Package}
use Rattle.workspaces.specs.Lists.{Has}
use Rattle.workspaces.specs.Space.{Space, root_package, owners, is_root_folder, lies_below, lies_in_some, is_home_of}
use Rattle.task_definitions.specs.Setup.{Setup}
use Rattle.task_inputs.specs.Homes.{Configured, Home, home_of, folders_of, declares_in, declared_in, is_declared, is_home, configured}
use Rattle.prune_facts.proofs.Lists.{not_true, any_has, has_any, any-map}
use Rattle.prune_facts.proofs.Strips.{is_in, below_from, folder-in, folder_inside, inner_folder, in_empty}
use Rattle.prune_laws.proofs.Owners.{IsSound, owner_cases, package_owner, one_folder}

-- ---- homes among some owners

and_true : (b : Bool) → (b && true) ≡ b
and_true true = refl
and_true false = refl

pub home_is_below : (own : List Package) (p : Package) (path : Path) → is_home own p path ≡ true → lies_below path p.folder ≡ true
unfolding is_home_of
home_is_below own p path h = (and_parts (lies_below path p.folder) _ h).0

-- a package is the home of all that lies below its folder
pub package_home : (own : List Package) (p : Package) (path : Path) → (p.folder ≡ [] → ⊥) → is_home own p path ≡ lies_below path p.folder
unfolding is_home_of
package_home own p path inner = ap (λ b. lies_below path p.folder && not (b && lies_in_some (map (λ (q : Package). q.folder) own) path)) (inner_folder p.folder inner) ∙ and_true (lies_below path p.folder)

-- some package holds the path
abbrev pub some_holds : List Package → Path → Bool
some_holds own path = list_any (λ (q : Package). not (is_root_folder q.folder) && lies_below path q.folder) own

-- the root is that of what lies below no package
pub root_home : (own : List Package) (p : Package) (path : Path) → p.folder ≡ [] → is_home own p path ≡ (lies_below path [] && not (some_holds own path))
unfolding is_home_of
root_home own p path at =
    ap (λ f. is_home_of (map (λ (q : Package). q.folder) own) f path) at
    ∙ ap (λ b. lies_below path [] && not b) (any-map (λ f. not (is_root_folder f) && lies_below path f) (λ (q : Package). q.folder) own)

-- the owner is the path's home, and some of its tasks declares the path
abbrev pub declares_by : Setup → List Package → Path → Package → Bool
declares_by setup own path p = is_home own p path && list_any (λ (t : Configured). declares t.outputs p.folder path) (configured setup p)

map-map : {X Y Z : Type 0} (f : Y → Z) (g : X → Y) (xs : List X) → map f (map g xs) ≡ map (λ x. f (g x)) xs
map-map f g [] = refl
map-map f g (x ∷ xs) = ap (λ ys. f (g x) ∷ ys) (map-map f g xs)

pub declared_is : (setup : Setup) (own : List Package) (path : Path) → is_declared setup own path ≡ list_any (declares_by setup own path) own
unfolding declared_in
declared_is setup own path =
    any-map (declares_in (folders_of (map (home_of setup) own)) path) (home_of setup) own
    ∙ ap (λ folders. list_any (λ (p : Package). is_home_of folders p.folder path && list_any (λ (t : Configured). declares t.outputs p.folder path) (configured setup p)) own) (map-map (λ (h : Home). h.folder) (home_of setup) own)

never : (t : Configured) (folder : Path) (n : List ℕ) → may_declare (n ∷ []) ≡ false → declares t.outputs folder (folder ++ n ∷ []) ≡ false
never t folder n h = ap (declares_below t.outputs) (strip_append folder (n ∷ [])) ∙ rw h refl

any_never : {X : Type 0} (t : X → Bool) (xs : List X) → ((x : X) → t x ≡ false) → list_any t xs ≡ false
any_never t [] each = refl
any_never t (x ∷ xs) each = rw (each x) (any_never t xs each)

-- ---- where some packages stay

module _ (space : Space) (setup : Setup) (sound : IsSound space setup) where
  -- no task declares what no task may, directly in the folder of an owner
  pub never_declared : (p : Package) (n : List ℕ) → Has (owners space) p → may_declare (n ∷ []) ≡ false → is_declared setup (owners space) (p.folder ++ n ∷ []) ≡ false
  never_declared p n h k = declared_is setup (owners space) (p.folder ++ n ∷ []) ∙ false_from_ne_true _ (λ t.
      let q = any_has (declares_by setup (owners space) (p.folder ++ n ∷ [])) (owners space) t in
      let both = and_parts (is_home (owners space) q.0 (p.folder ++ n ∷ [])) _ q.2 in
      let same : p ≡ q.0 = it q.0 both.0 (owner_cases space p h) (owner_cases space q.0 q.1) in
      false≢true (sym (any_never (λ (t : Configured). declares t.outputs p.folder (p.folder ++ n ∷ [])) (configured setup q.0) (λ t. never t p.folder n k)) ∙ ap (λ (o : Package). list_any (λ (t : Configured). declares t.outputs o.folder (p.folder ++ n ∷ [])) (configured setup q.0)) same ∙ both.1))
    where
      inside : (q : Package) → is_home (owners space) q (p.folder ++ n ∷ []) ≡ true → is_in p.folder q.folder ≡ true
      inside q home = ap (λ f. is_in f q.folder) (sym (folder-in p.folder n)) ∙ folder_inside (p.folder ++ n ∷ []) q.folder (home_is_below (owners space) q (p.folder ++ n ∷ []) home)

      it : (q : Package) → is_home (owners space) q (p.folder ++ n ∷ []) ≡ true → Has space.packages p ⊎ (p ≡ root_package space.root) → Has space.packages q ⊎ (q ≡ root_package space.root) → p ≡ q
      it q home (inl a) (inl b) = one_folder space setup sound p q a b (inside q home)
      it q home (inl a) (inr b) = absurd (not_true (some_holds (owners space) (p.folder ++ n ∷ []))
          (and_parts (lies_below (p.folder ++ n ∷ []) []) _ (sym (root_home (owners space) q (p.folder ++ n ∷ []) (ap (λ (o : Package). o.folder) b)) ∙ home)).1
          (has_any (λ (o : Package). not (is_root_folder o.folder) && lies_below (p.folder ++ n ∷ []) o.folder) (owners space) p (package_owner space p a)
          (and_from (not (is_root_folder p.folder)) _ (ap not (inner_folder p.folder (sound.inner p a))) (below_from p.folder n []))))
      it q home (inr a) (inl b) = absurd (sound.inner q b (in_empty q.folder (ap (λ (o : Package). is_in o.folder q.folder) (sym a) ∙ inside q home)))
      it q home (inr a) (inr b) = a ∙ sym b
