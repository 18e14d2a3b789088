-- The files that stay keep their homes where that matters, and are declared, or the manifest of a package, as before.
use Rattle.std.proofs.Common.{◌≡◌, ◌⊎◌, ◌&&◌, ◌||◌, ◌==◌, ℕ, Bool, true, false, not, List, [], ◌∷◌, ◌++◌, length, refl, sym, ap, ◌∙◌, inl, inr, arith}
use Rattle.std.specs.Prelude.{is_some}
use Rattle.std.specs.List.{list_any}
use Rattle.std.proofs.lemmas.Bool.{cases_Bool, or_cases, and_parts, and_from, false≢true, ne_eqb}
use Rattle.std.proofs.lemmas.List.Folds.{list_any-append}
use Rattle.rel_path.specs.Paths.{Path, path_eq, strip, is_among}
use Rattle.rel_path.proofs.PathLaws.{path_same}
use Rattle.globs.specs.Outputs.{declares}
use Rattle.workspaces.specs.declared.member.Package.{Package}
use Rattle.workspaces.specs.Lists.{Has}
use Rattle.workspaces.specs.Space.{root_package, owners, manifest_in, manifest_name, is_root_folder, lies_below}
use Rattle.task_definitions.specs.Setup.{Setup}
use Rattle.task_inputs.specs.Homes.{Configured, is_declared, is_home, configured}
use Rattle.task_inputs.specs.Ignores.{ignore_name, is_ignore_file}
use Rattle.task_inputs.specs.Inputs.{is_manifest, may_count}
use Rattle.task_inputs.specs.Rooted.{IsRooted}
use Rattle.collect.specs.Steps.{folder_of}
use Rattle.repository.specs.Steps.{at_root}
use Rattle.repository.specs.Reading.{Contents, config_name, lock_name}
use Rattle.kept_packages.specs.Kept.{IsClosed, has_root_task, kept_places}
use Rattle.pruned_files.specs.Cut.{kept_owners}
use Rattle.pruned_files.specs.Pruned.{npmrc_name, is_root_file, is_ignore_above, is_own_file, IsPrunedPath, kept_packages, pruned_setup}
use Rattle.prune_facts.proofs.Lists.{not_true, and_off, filter_test, any_same, any-filter, any_has, has_any, filter-has, filter_all, get_has, place_passes}
use Rattle.prune_facts.proofs.Strips.{is_in, below_from, below_in, in_trans, folder_inside, one_name, inner_folder, in_empty}
use Rattle.prune_laws.proofs.Owners.{IsSound, part_of, owner_cases, package_owner, one_below, one_folder}
use Rattle.prune_laws.proofs.Defs.{same_configured, same_root}
use Rattle.prune_laws.proofs.Homes.{home_is_below, package_home, some_holds, root_home, declares_by, declared_is}

module _ (contents : Contents) (targets : List (List ℕ)) (set : Path → Bool) (sound : IsSound contents.space contents.setup) (closed : IsClosed contents targets set) where
  abbrev own : List Package
  own = owners contents.space

  abbrev own' : List Package
  own' = owners (part_of contents.space set)

  abbrev setup' : Setup
  setup' = pruned_setup contents.setup contents.space set

  -- where the root stays, all packages do
  pub all_stay : set [] ≡ true → kept_packages contents.space set ≡ contents.space.packages
  all_stay k = filter_all (λ (q : Package). set q.folder) contents.space.packages (closed.all k)

  same_owners : set [] ≡ true → own' ≡ own
  same_owners k = ap (λ ps. ps ++ root_package contents.space.root ∷ []) (all_stay k)

  -- what an owner that stays is the home of
  pub same_home : (p : Package) → Has own p → set p.folder ≡ true → (path : Path) → is_home own' p path ≡ is_home own p path
  same_home p h k path = elim (owner_cases contents.space p h) [
    | inl a ↦ package_home own' p path (sound.inner p a) ∙ sym (package_home own p path (sound.inner p a))
    | inr e ↦ ap (λ o. is_home o p path) (same_owners (sym (ap (λ (o : Package). set o.folder) e) ∙ k))
  ]

  -- ---- a file that stays and lies below a package

  -- what a rooted file says of itself
  rooted_far : (path : Path) → (r : IsRooted contents.setup own (kept_places contents set) path) → (Has own r.member) × (set r.member.folder ≡ true)
  rooted_far path r = (get_has own r.place r.member r.stands, place_passes (λ (p : Package). set p.folder) own r.place r.member r.is_kept r.stands)

  rooted_counts : (path : Path) → IsRooted contents.setup own (kept_places contents set) path → may_count contents.setup own path ≡ true
  rooted_counts path r = (and_parts (may_count contents.setup own path) _ r.far).0

  single : (q : Package) → Has contents.space.packages q → (path : Path) (name : List ℕ) → path_eq path (at_root name) ≡ true → lies_below path q.folder ≡ true → ⊥
  single q h path name e b = false≢true (sym (one_name q.folder name (sound.inner q h)) ∙ ap (λ p. lies_below p q.folder) (sym (path_same path (at_root name) e)) ∙ b)

  root_file : (q : Package) → Has contents.space.packages q → (path : Path) → is_root_file path ≡ true → lies_below path q.folder ≡ true → ⊥
  root_file q h path r b =
      let n = any_has (λ name. path_eq path (at_root name)) (manifest_name ∷ config_name ∷ npmrc_name ∷ ignore_name ∷ []) r in
      single q h path n.0 n.2 b

  on_way : (q : Package) → Has contents.space.packages q → (path : Path) → is_ignore_above (kept_owners contents.space set) path ≡ true → lies_below path q.folder ≡ true → set q.folder ≡ true
  on_way q h path w b =
      let a = any_has (λ (p : Package). is_some (strip (folder_of path) p.folder)) (kept_owners contents.space set) (and_parts (is_ignore_file path) _ w).1 in
      let k = filter-has (λ (p : Package). set p.folder) own a.0 a.1 in
      let held : is_in a.0.folder q.folder ≡ true = in_trans a.0.folder (folder_of path) q.folder a.2 (folder_inside path q.folder b) in
      elim (owner_cases contents.space a.0 k.0) [
        | inl u ↦ ap (λ (o : Package). set o.folder) (sym (one_folder contents.space contents.setup sound a.0 q u h held)) ∙ k.1
        | inr e ↦ absurd (sound.inner q h (in_empty q.folder (ap (λ (o : Package). is_in o.folder q.folder) (sym e) ∙ held)))
      ]

  not_home : (path : Path) (p q : Package) → Has contents.space.packages q → p ≡ root_package contents.space.root → is_home own p path ≡ true → lies_below path q.folder ≡ true → ⊥
  not_home path p q h e home b =
      not_true (some_holds own path) (and_parts (lies_below path []) _ (sym (root_home own p path (ap (λ (o : Package). o.folder) e)) ∙ home)).1
      (has_any (λ (o : Package). not (is_root_folder o.folder) && lies_below path o.folder) own q (package_owner contents.space q h) (and_from (not (is_root_folder q.folder)) _ (ap not (inner_folder q.folder (sound.inner q h))) b))

  own_file : (q : Package) → Has contents.space.packages q → (path : Path) → is_own_file contents.setup own (kept_owners contents.space set) path ≡ true → lies_below path q.folder ≡ true → set q.folder ≡ true
  own_file q h path o b =
      let a = any_has (λ (p : Package). is_home own p path) (kept_owners contents.space set) (and_parts _ (not (is_declared contents.setup own path)) o).0 in
      let k = filter-has (λ (p : Package). set p.folder) own a.0 a.1 in
      elim (owner_cases contents.space a.0 k.0) [
        | inl u ↦ ap (λ (o : Package). set o.folder) (sym (one_below contents.space contents.setup sound a.0 q path u h (below_in path a.0.folder (home_is_below own a.0 path a.2)) (below_in path q.folder b))) ∙ k.1
        | inr e ↦ absurd (not_home path a.0 q h e a.2 b)
      ]

  -- the package stays, or some task of an owner that stays gets the file from anywhere
  pub home_stays : (path : Path) → IsPrunedPath contents set path → (q : Package) → Has contents.space.packages q → lies_below path q.folder ≡ true → (set q.folder ≡ true) ⊎ IsRooted contents.setup own (kept_places contents set) path
  home_stays path (inl e) q h b = absurd (single q h path lock_name e b)
  home_stays path (inr (inr r)) q h b = inr r
  home_stays path (inr (inl s)) q h b =
      elim (or_cases (is_root_file path) _ s) [
        | inl r ↦ absurd (root_file q h path r b)
        | inr t ↦ elim (or_cases (is_ignore_above (kept_owners contents.space set) path) _ t) [
          | inl w ↦ inl (on_way q h path w b)
          | inr o ↦ inl (own_file q h path o b)
        ]
      ]

  -- where the root has a task, the package stays
  home_kept : (path : Path) → is_among contents.walk path ≡ true → IsPrunedPath contents set path → has_root_task contents ≡ true → (q : Package) → Has contents.space.packages q → lies_below path q.folder ≡ true → set q.folder ≡ true
  home_kept path walked stays task q h b = elim (home_stays path stays q h b) [
    | inl k ↦ k
    | inr r ↦
        let f = rooted_far path r in
        closed.files task r.member q (record { owner = f.0; stays = f.1 }) h (record {
          task = r.task;
          listed = r.named;
          def = r.def;
          defined = r.defined;
          path = path;
          walked = walked;
          far = r.far;
          home = package_home own q path (sound.inner q h) ∙ b;
        })
  ]

  -- ---- what is declared

  counts_not_declared : (path : Path) → may_count contents.setup own path ≡ true → is_declared contents.setup own path ≡ true → ⊥
  counts_not_declared path c d = not_true (is_declared contents.setup own path) (and_parts (not (is_declared contents.setup own path)) _ c).0 d

  package_declares : (path : Path) → IsPrunedPath contents set path → list_any (declares_by setup' own' path) (kept_packages contents.space set) ≡ list_any (declares_by contents.setup own path) contents.space.packages
  package_declares path stays =
      any-filter (declares_by setup' own' path) (λ (q : Package). set q.folder) contents.space.packages
      ∙ any_same _ _ contents.space.packages (λ q h. filter_test (set q.folder) (declares_by setup' own' path q) (declares_by contents.setup own path q)
      (λ k. let a = same_home q (package_owner contents.space q h) k path in let c = same_configured contents.space contents.setup sound set q (package_owner contents.space q h) k in
      λ j. a j && list_any (λ (t : Configured). declares t.outputs q.folder path) (c j))
      (λ d. elim (home_stays path stays q h (home_is_below own q path (and_parts (is_home own q path) _ d).0)) [
        | inl k ↦ k
        | inr r ↦ absurd (counts_not_declared path (rooted_counts path r) (declared_is contents.setup own path ∙ has_any (declares_by contents.setup own path) own q (package_owner contents.space q h) d))
      ]))

  abbrev root : Package
  root = root_package contents.space.root

  -- without a task the root declares nothing
  idle : has_root_task contents ≡ false → configured contents.setup root ≡ []
  idle e = by (configured contents.setup root) e
    where
      by : (ts : List Configured) → not (length ts == 0) ≡ false → ts ≡ []
      by [] k = refl
      by (t ∷ ts) k = absurd (false≢true (sym k ∙ ap not (ne_eqb (length (t ∷ ts)) 0 (λ z. omega (arith, z)))))

  root_holds : (path : Path) → is_among contents.walk path ≡ true → IsPrunedPath contents set path → has_root_task contents ≡ true → is_home own' root path ≡ is_home own root path
  root_holds path walked stays task =
      root_home own' root path refl ∙ ap (λ b. lies_below path [] && not b) holds ∙ sym (root_home own root path refl)
    where
      held : Package → Bool
      held q = not (is_root_folder q.folder) && lies_below path q.folder

      holds : some_holds own' path ≡ some_holds own path
      holds =
          list_any-append held (kept_packages contents.space set) (root ∷ [])
          ∙ ap (λ b. b || list_any held (root ∷ [])) (any-filter held (λ (q : Package). set q.folder) contents.space.packages
          ∙ any_same _ _ contents.space.packages (λ q h. filter_test (set q.folder) (held q) (held q) (λ k. refl) (λ b. home_kept path walked stays task q h (and_parts (not (is_root_folder q.folder)) _ b).1)))
          ∙ sym (list_any-append held contents.space.packages (root ∷ []))

  root_declares : (path : Path) → is_among contents.walk path ≡ true → IsPrunedPath contents set path → declares_by setup' own' path root ≡ declares_by contents.setup own path root
  root_declares path walked stays =
      ap (λ ts. is_home own' root path && list_any (λ (t : Configured). declares t.outputs [] path) ts) (same_root contents.space contents.setup sound set)
      ∙ elim (cases_Bool (has_root_task contents)) [
        | inl t ↦ ap (λ b. b && list_any (λ (t : Configured). declares t.outputs [] path) (configured contents.setup root)) (root_holds path walked stays t)
        | inr f ↦
            let none : list_any (λ (t : Configured). declares t.outputs [] path) (configured contents.setup root) ≡ false = ap (list_any (λ (t : Configured). declares t.outputs [] path)) (idle f) in
            and_off (is_home own' root path) _ none ∙ sym (and_off (is_home own root path) _ none)
      ]

  -- a walked file that stays is declared as before
  pub same_declared : (path : Path) → is_among contents.walk path ≡ true → IsPrunedPath contents set path → is_declared setup' own' path ≡ is_declared contents.setup own path
  same_declared path walked stays =
      declared_is setup' own' path
      ∙ list_any-append (declares_by setup' own' path) (kept_packages contents.space set) (root ∷ [])
      ∙ (λ j. package_declares path stays j || (root_declares path walked stays j || false))
      ∙ sym (list_any-append (declares_by contents.setup own path) contents.space.packages (root ∷ []))
      ∙ sym (declared_is contents.setup own path)

  -- ---- manifests of packages

  manifest_counts : (path : Path) → may_count contents.setup own path ≡ true → is_manifest own path ≡ true → ⊥
  manifest_counts path c m = not_true (is_manifest own path) (and_parts (not (is_declared contents.setup own path)) (not (is_manifest own path)) c).1 m

  pub same_manifest : (path : Path) → IsPrunedPath contents set path → is_manifest own' path ≡ is_manifest own path
  same_manifest path stays =
      list_any-append is_its (kept_packages contents.space set) (root ∷ [])
      ∙ ap (λ b. b || list_any is_its (root ∷ [])) (any-filter is_its (λ (q : Package). set q.folder) contents.space.packages
      ∙ any_same _ _ contents.space.packages (λ q h. filter_test (set q.folder) (is_its q) (is_its q) (λ k. refl) (λ t. by q h t)))
      ∙ sym (list_any-append is_its contents.space.packages (root ∷ []))
    where
      is_its : Package → Bool
      is_its q = not (is_root_folder q.folder) && path_eq path (manifest_in q.folder)

      by : (q : Package) → Has contents.space.packages q → is_its q ≡ true → set q.folder ≡ true
      by q h t =
          let at = path_same path (manifest_in q.folder) (and_parts (not (is_root_folder q.folder)) _ t).1 in
          elim (home_stays path stays q h (ap (λ p. lies_below p q.folder) at ∙ below_from q.folder manifest_name [])) [
            | inl k ↦ k
            | inr r ↦ absurd (manifest_counts path (rooted_counts path r) (has_any is_its own q (package_owner contents.space q h) t))
          ]

  -- so it may count as before
  pub same_counting : (path : Path) → is_among contents.walk path ≡ true → IsPrunedPath contents set path → may_count setup' own' path ≡ may_count contents.setup own path
  same_counting path walked stays = let d = same_declared path walked stays in let m = same_manifest path stays in λ j. not (d j) && not (m j)
