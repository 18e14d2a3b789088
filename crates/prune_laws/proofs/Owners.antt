-- Owners that stay, and who has a name among them.
use Rattle.std.proofs.Common.{◌≡◌, ◌⊎◌, ◌==◌, ℕ, Bool, true, false, not, List, [], ◌∷◌, Some, length, codes, refl, sym, ap, ◌∙◌, subst, inl, inr}
use Rattle.std.specs.Prelude.{bytes_eq, is_some}
use Rattle.std.proofs.lemmas.Bool.{and_parts, false≢true}
use Rattle.rel_path.specs.Paths.{Path, name_eq}
use Rattle.rel_path.proofs.PathLaws.{name_same, name_self}
use Rattle.manifest.specs.Faults.{is_package_name}
use Rattle.turbo_config.specs.Names.{has_hash}
use Rattle.task_definitions.specs.Setup.{Setup, each_once}
use Rattle.workspaces.specs.declared.member.Package.{Package}
use Rattle.workspaces.specs.Lists.{Has}
use Rattle.workspaces.specs.Space.{Space, AreApart, root_name, root_package, owners, owner_named}
use Rattle.repository.specs.Reading.{script_names}
use Rattle.pruned_files.specs.Pruned.{kept_packages}
use Rattle.prune_facts.proofs.Lists.{not_true, not_from, has-append, append_left, append_right, filter-has, has-filter, find_has, find_one}
use Rattle.prune_facts.proofs.Strips.{is_in, one_in_other}

-- What reading gives: no package's folder is the root, that of another one or in that; each has a name that a package may have
-- and no other one has; and the scripts by name are those of the packages.
pub record IsSound (space : Space) (setup : Setup) : Type 0 where
  pub inner : (p : Package) → Has space.packages p → p.folder ≡ [] → ⊥
  pub apart : (p q : Package) → Has space.packages p → Has space.packages q → (p ≡ q) ⊎ AreApart p.folder q.folder
  pub names : (p : Package) → Has space.packages p → is_package_name p.name ≡ true
  pub once : (p q : Package) → Has space.packages p → Has space.packages q → p.name ≡ q.name → p ≡ q
  pub scripts : setup.scripts ≡ each_once [] (script_names space.packages)

-- the packages that stay, with the root manifest
abbrev pub part_of : Space → (Path → Bool) → Space
part_of space set = record { root = space.root; packages = kept_packages space set }

module _ (space : Space) where
  pub owner_cases : (p : Package) → Has (owners space) p → Has space.packages p ⊎ (p ≡ root_package space.root)
  owner_cases p h = elim (has-append space.packages (root_package space.root ∷ []) p h) [ inl a ↦ inl a | inr (inl e) ↦ inr (sym e) | inr (inr u) ↦ absurd u ]

  pub package_owner : (p : Package) → Has space.packages p → Has (owners space) p
  package_owner p h = append_left space.packages (root_package space.root ∷ []) p h

  pub root_owner : Has (owners space) (root_package space.root)
  root_owner = append_right space.packages (root_package space.root ∷ []) (root_package space.root) (inl refl)

  -- an owner has the name by which it is found
  pub found_owner : (name : List ℕ) (p : Package) → owner_named space name ≡ Some p → Has (owners space) p × (p.name ≡ name)
  unfolding owner_named
  found_owner name p e = let r = find_has (λ (o : Package). name_eq o.name name) (owners space) p e in (r.0, name_same p.name name r.1)

  -- where names tell owners apart, each is found by its own
  pub owner_is : ((p q : Package) → Has (owners space) p → Has (owners space) q → p.name ≡ q.name → p ≡ q) → (name : List ℕ) (p : Package) → Has (owners space) p → p.name ≡ name → owner_named space name ≡ Some p
  unfolding owner_named
  owner_is one name p h e = find_one (λ (o : Package). name_eq o.name name) (owners space) p h (ap (λ n. name_eq n name) e ∙ name_self name) (λ q u t. one q p u h (name_same q.name name t ∙ sym e))

module _ (space : Space) (setup : Setup) (sound : IsSound space setup) where
  pub not_root : (p : Package) → Has space.packages p → p.name ≡ root_name → ⊥
  not_root p h e = not_true (bytes_eq p.name (codes "//")) (and_parts (not (bytes_eq p.name (codes "//"))) _ (and_parts (not (length p.name == 0)) _ (sound.names p h)).1).0 (ap (λ n. bytes_eq n (codes "//")) e)

  pub plain_name : (p : Package) → Has (owners space) p → has_hash p.name ≡ false
  plain_name p h = elim (owner_cases space p h) [
    | inl a ↦ not_from (has_hash p.name) (and_parts (not (bytes_eq p.name (codes "//"))) (not (has_hash p.name)) (and_parts (not (length p.name == 0)) _ (sound.names p a)).1).1
    | inr e ↦ ap (λ (o : Package). has_hash o.name) e
  ]

  pub one_owner : (p q : Package) → Has (owners space) p → Has (owners space) q → p.name ≡ q.name → p ≡ q
  one_owner p q h k e = by (owner_cases space p h) (owner_cases space q k)
    where
      by : Has space.packages p ⊎ (p ≡ root_package space.root) → Has space.packages q ⊎ (q ≡ root_package space.root) → p ≡ q
      by (inl a) (inl b) = sound.once p q a b e
      by (inl a) (inr b) = absurd (not_root p a (e ∙ ap (λ (o : Package). o.name) b))
      by (inr a) (inl b) = absurd (not_root q b (sym e ∙ ap (λ (o : Package). o.name) a))
      by (inr a) (inr b) = a ∙ sym b

  -- of two packages neither's folder holds the other's
  pub one_folder : (p q : Package) → Has space.packages p → Has space.packages q → is_in p.folder q.folder ≡ true → p ≡ q
  one_folder p q h k i = elim (sound.apart p q h k) [ inl e ↦ e | inr apart ↦ absurd (false≢true (sym (ap is_some apart.1) ∙ i)) ]

  -- nor do two hold one path
  pub one_below : (p q : Package) (path : Path) → Has space.packages p → Has space.packages q → is_in path p.folder ≡ true → is_in path q.folder ≡ true → p ≡ q
  one_below p q path h k i j = elim (one_in_other p.folder q.folder path i j) [ inl u ↦ sym (one_folder q p k h u) | inr u ↦ one_folder p q h k u ]

  module _ (set : Path → Bool) where
    pub package_before : (p : Package) → Has (kept_packages space set) p → Has space.packages p × (set p.folder ≡ true)
    package_before p h = filter-has (λ (o : Package). set o.folder) space.packages p h

    pub owner_before : (p : Package) → Has (owners (part_of space set)) p → Has (owners space) p
    owner_before p h = elim (owner_cases (part_of space set) p h) [ inl a ↦ package_owner space p (package_before p a).0 | inr e ↦ subst (Has (owners space)) (sym e) (root_owner space) ]

    pub owner_still : (p : Package) → Has (owners space) p → set p.folder ≡ true → Has (owners (part_of space set)) p
    owner_still p h k = elim (owner_cases space p h) [
      | inl a ↦ package_owner (part_of space set) p (has-filter (λ (o : Package). set o.folder) space.packages p a k)
      | inr e ↦ subst (Has (owners (part_of space set))) (sym e) (root_owner (part_of space set))
    ]

    -- an owner that stays is found by its name as before
    pub named_still : (name : List ℕ) (p : Package) → owner_named space name ≡ Some p → set p.folder ≡ true → owner_named (part_of space set) name ≡ Some p
    named_still name p e k =
        let r = found_owner space name p e in
        owner_is (part_of space set) (λ a b h u. one_owner a b (owner_before a h) (owner_before b u)) name p (owner_still p r.0 k) r.1

    -- and no other one is found
    pub named_before : (name : List ℕ) (p : Package) → owner_named (part_of space set) name ≡ Some p → owner_named space name ≡ Some p
    named_before name p e =
        let r = found_owner (part_of space set) name p e in
        owner_is space one_owner name p (owner_before p r.0) r.1
