-- The definitions of the tasks of owners that stay.
use Rattle.std.proofs.Common.{◌≡◌, ◌⊎◌, ℕ, Bool, true, false, cond, List, [], ◌∷◌, Option, Some, None, map, refl, sym, ap, ◌∙◌, subst, inl, inr}
use Rattle.std.specs.Prelude.{is_some, bytes_eq}
use Rattle.std.specs.List.{list_any, flat_map, filter_map, cons_option}
use Rattle.std.specs.Option.{option_map}
use Rattle.std.proofs.lemmas.Bool.{false≢true}
use Rattle.std.proofs.lemmas.Slice.Eq.{bytes_eq-Decides}
use Rattle.rel_path.specs.Paths.{Path, name_eq}
use Rattle.rel_path.proofs.PathLaws.{name_self}
use Rattle.turbo_config.specs.declared.entry.TaskDef.{TaskDef}
use Rattle.task_definitions.specs.Setup.{Tasks, Setup, each_once, is_among, task_def}
use Rattle.workspaces.specs.declared.member.Package.{Package}
use Rattle.workspaces.specs.Edges.{text_by}
use Rattle.workspaces.specs.Lists.{Has}
use Rattle.workspaces.specs.Space.{Space, root_package, owners}
use Rattle.task_inputs.specs.Homes.{configured_by, configured_in, configured}
use Rattle.repository.specs.Reading.{script_names}
use Rattle.pruned_files.specs.Pruned.{kept_packages, pruned_setup}
use Rattle.prune_facts.proofs.Lists.{none≢some, has_any, append_left, append_right, has-map, has-filter}
use Rattle.prune_facts.proofs.Defining.{once_has, own_left, def_by, root_def_by}
use Rattle.prune_laws.proofs.Owners.{IsSound, owner_cases}

pub has_flat : {X Y : Type 0} (f : X → List Y) (xs : List X) (x : X) (y : Y) → Has xs x → Has (f x) y → Has (flat_map f xs) y
has_flat f [] x y h k = absurd h
has_flat f (z ∷ xs) x y (inl e) k = append_left (f z) (flat_map f xs) y (subst (λ w. Has (f w) y) (sym e) k)
has_flat f (z ∷ xs) x y (inr h) k = append_right (f z) (flat_map f xs) y (has_flat f xs x y h k)

-- the name of a script is one of a list's
text_has : (name : List ℕ) (pairs : List (List ℕ × List ℕ)) → is_some (text_by name pairs) ≡ true → Has (map (λ pair. pair.0) pairs) name
text_has name [] h = absurd (false≢true h)
text_has name (pair ∷ pairs) h = by (bytes_eq pair.0 name) refl h (text_has name pairs)
  where
    by : (b : Bool) → bytes_eq pair.0 name ≡ b → is_some (cond b (Some pair.1) (text_by name pairs)) ≡ true → (is_some (text_by name pairs) ≡ true → Has (map (λ p. p.0) pairs) name) → (pair.0 ≡ name) ⊎ Has (map (λ p. p.0) pairs) name
    by true e k rest = inl ((bytes_eq-Decides pair.0 name).0 e)
    by false e k rest = inr (rest k)

script_named : (p : Package) (packages : List Package) (task : List ℕ) → Has packages p → Has (map (λ (s : List ℕ × List ℕ). s.0) p.manifest.scripts) task → Has (script_names packages) task
script_named p packages task h k = has_flat (λ (o : Package). map (λ (s : List ℕ × List ℕ). s.0) o.manifest.scripts) packages p task h k

same_mapped : {X Y : Type 0} (f g : X → Option Y) (xs : List X) → ((x : X) → Has xs x → f x ≡ g x) → filter_map f xs ≡ filter_map g xs
same_mapped f g [] same = refl
same_mapped f g (x ∷ xs) same =
    let a = same x (inl refl) in
    let b = same_mapped f g xs (λ y h. same y (inr h)) in
    λ j. cons_option (a j) (b j)

-- a name by which definitions are settled: the root has a turbo.json, or the owner has a script of the name
abbrev pub IsFirm : Setup → Package → List ℕ → Type 0
IsFirm setup p task = ((tasks : Tasks) × (setup.root ≡ Some tasks)) ⊎ Has (map (λ (s : List ℕ × List ℕ). s.0) p.manifest.scripts) task

pub firm_script : (setup : Setup) (p : Package) (task : List ℕ) → is_some (text_by task p.manifest.scripts) ≡ true → IsFirm setup p task
firm_script setup p task h = inr (text_has task p.manifest.scripts h)

module _ (space : Space) (setup : Setup) (sound : IsSound space setup) (set : Path → Bool) where
  -- the definition of such a task of an owner that stays is the same
  pub same_def : (p : Package) (task : List ℕ) → Has (owners space) p → set p.folder ≡ true → IsFirm setup p task → task_def (pruned_setup setup space set) p.name task ≡ task_def setup p.name task
  same_def p task h k firm = by (owner_cases space p h)
    where
      stays : Has space.packages p → Has (kept_packages space set) p
      stays a = has-filter (λ (o : Package). set o.folder) space.packages p a k

      scripts : Has space.packages p → IsFirm setup p task → setup.root ≡ None → is_among (each_once [] (script_names (kept_packages space set))) task ≡ is_among setup.scripts task
      scripts a (inl written) none = absurd (none≢some written.0 (sym none ∙ written.1))
      scripts a (inr named) none =
          once_has [] (script_names (kept_packages space set)) task (script_named p (kept_packages space set) task (stays a) named)
          ∙ sym (ap (λ names. is_among names task) sound.scripts ∙ once_has [] (script_names space.packages) task (script_named p space.packages task a named))

      by : Has space.packages p ⊎ (p ≡ root_package space.root) → task_def (pruned_setup setup space set) p.name task ≡ task_def setup p.name task
      by (inl a) = def_by setup (pruned_setup setup space set) p.name task refl
          (own_left (λ name. list_any (λ (o : Package). name_eq o.name name) (kept_packages space set)) setup.packages p.name (has_any (λ (o : Package). name_eq o.name p.name) (kept_packages space set) p (stays a) (name_self p.name)))
          (scripts a firm)
      by (inr e) = ap (λ (o : Package). task_def (pruned_setup setup space set) o.name task) e ∙ root_def_by setup (pruned_setup setup space set) task refl ∙ sym (ap (λ (o : Package). task_def setup o.name task) e)

  -- and so are its configured tasks
  pub same_configured : (p : Package) → Has (owners space) p → set p.folder ≡ true → configured (pruned_setup setup space set) p ≡ configured setup p
  unfolding configured_in
  same_configured p h k =
      same_mapped (configured_by (pruned_setup setup space set) p.name) (configured_by setup p.name) p.manifest.scripts
      (λ s u. ap (option_map (λ (def : TaskDef). record { task = s.0; outputs = def.outputs })) (same_def p s.0 h k (inr (has-map (λ (s : List ℕ × List ℕ). s.0) p.manifest.scripts s u))))

  -- those of the root are whether it stays or not
  pub same_root : configured (pruned_setup setup space set) (root_package space.root) ≡ configured setup (root_package space.root)
  unfolding configured_in
  same_root = same_mapped (configured_by (pruned_setup setup space set) _) (configured_by setup _) space.root.scripts (λ s u. ap (option_map (λ (def : TaskDef). record { task = s.0; outputs = def.outputs })) (root_def_by setup (pruned_setup setup space set) s.0 refl))
