-- Which files stay, and which ignore files do with the files of an owner that stays: these are ignored as before.
use Rattle.std.proofs.Common.{◌≡◌, ◌⊎◌, ◌&&◌, ℕ, Bool, true, false, cond, not, List, [], ◌∷◌, ◌++◌, filter, refl, sym, ap, ◌∙◌, subst, inl, inr}
use Rattle.std.specs.Prelude.{is_some}
use Rattle.std.proofs.lemmas.Bool.{cases_Bool, or_left, or_right, and_parts, and_from, false≢true, false_from_ne_true}
use Rattle.rel_path.specs.Paths.{Path, path_eq, strip, is_among}
use Rattle.rel_path.specs.Files.{FileMap}
use Rattle.rel_path.proofs.PathLaws.{path_same, path_self}
use Rattle.workspaces.specs.declared.member.Package.{Package}
use Rattle.workspaces.specs.Lists.{Has}
use Rattle.workspaces.specs.Space.{root_package, owners, is_root_folder, lies_below}
use Rattle.task_definitions.specs.Setup.{Setup}
use Rattle.task_inputs.specs.Homes.{is_declared, is_home}
use Rattle.task_inputs.specs.Ignores.{ignore_name, is_ignore_file, is_rule_file, rule_files, rules_found, rules_by, is_left_out}
use Rattle.collect.specs.Steps.{folder_of}
use Rattle.repository.specs.Reading.{Contents}
use Rattle.pruned_files.specs.Cut.{kept_owners}
use Rattle.pruned_files.specs.Pruned.{is_root_file, is_ignore_above, is_own_file, lock_path, IsPrunedPath, Pruning, IsPruning, pruned_files, pruned_setup}
use Rattle.prune_facts.proofs.Lists.{bool_same, not_true, and_off, any_has, has_any, filter-has, has-filter}
use Rattle.prune_facts.proofs.Strips.{is_in, in_from, below_from, below_in, one_in_other, below_above, folder-in, folder_inside, below_root}
use Rattle.prune_facts.proofs.Near.{same_ignored}
use Rattle.prune_laws.proofs.Owners.{IsSound, part_of, owner_cases}
use Rattle.prune_laws.proofs.Homes.{home_is_below, package_home, some_holds, root_home}
use Rattle.prune_laws.proofs.Staying.{same_declared}

pub among_has : (paths : List Path) (path : Path) → is_among paths path ≡ true → Has paths path
among_has paths path h = let q = any_has (λ other. path_eq other path) paths h in subst (Has paths) (path_same q.0 path q.2) q.1

pub has_among : (paths : List Path) (path : Path) → Has paths path → is_among paths path ≡ true
has_among paths path h = has_any (λ other. path_eq other path) paths path h (path_self path)

pub among-filter : (t : Path → Bool) (paths : List Path) (path : Path) → is_among (filter t paths) path ≡ (is_among paths path && t path)
among-filter t paths path = bool_same _ _
    (λ h. let q = filter-has t paths path (among_has (filter t paths) path h) in and_from (is_among paths path) (t path) (has_among paths path q.0) q.1)
    (λ h. let q = and_parts (is_among paths path) (t path) h in has_among (filter t paths) path (has-filter t paths path (among_has paths path q.0) q.1))

ignore_in : (folder : Path) → is_ignore_file (folder ++ ignore_name ∷ []) ≡ true
ignore_in [] = refl
ignore_in (f ∷ []) = refl
ignore_in (f ∷ g ∷ fs) = ignore_in (g ∷ fs)

not_lock : (folder : Path) → path_eq (folder ++ ignore_name ∷ []) lock_path ≡ false
not_lock [] = refl
not_lock (f ∷ []) = false_from_ne_true _ (λ e. let s = path_same (f ∷ ignore_name ∷ []) lock_path e in cc)
not_lock (f ∷ g ∷ fs) = false_from_ne_true _ (λ e. let s = path_same (f ∷ g ∷ (fs ++ ignore_name ∷ [])) lock_path e in cc)

-- the rules in a folder
rules_are : (setup : Setup) (own : List Package) (files : FileMap) (walk : List Path) (folder : Path) → rules_by setup own files walk folder
    ≡ cond (is_among walk (folder ++ ignore_name ∷ []) && not (is_declared setup own (folder ++ ignore_name ∷ []))) (rules_found (files (folder ++ ignore_name ∷ []))) []
unfolding rules_by rule_files
rules_are setup own files walk folder =
    ap (λ b. cond b (rules_found (files (folder ++ ignore_name ∷ []))) [])
    (among-filter (is_rule_file setup own) walk (folder ++ ignore_name ∷ []) ∙ ap (λ b. is_among walk (folder ++ ignore_name ∷ []) && (b && not (is_declared setup own (folder ++ ignore_name ∷ [])))) (ignore_in folder))

module _ (contents : Contents) (targets : List (List ℕ)) (p : Pruning) (files : FileMap) (sound : IsSound contents.space contents.setup) (is : IsPruning contents targets p) where
  abbrev own : List Package
  own = owners contents.space

  abbrev own' : List Package
  own' = owners (part_of contents.space p.set)

  abbrev setup' : Setup
  setup' = pruned_setup contents.setup contents.space p.set

  abbrev files' : FileMap
  files' = pruned_files p files

  abbrev pub ignored : Path → Bool
  ignored = is_left_out contents.setup (owners contents.space) files contents.walk

  abbrev pub ignored' : Path → Bool
  ignored' = is_left_out (pruned_setup contents.setup contents.space p.set) (owners (part_of contents.space p.set)) (pruned_files p files) p.paths

  -- a walked file stays
  pub in_paths : (path : Path) → is_among p.paths path ≡ (is_among contents.walk path && is.picked.test path)
  in_paths path = ap (λ paths. is_among paths path) is.picked.are ∙ among-filter is.picked.test contents.walk path

  pub file_kept : (path : Path) → is_among p.paths path ≡ true → path_eq path lock_path ≡ false → pruned_files p files path ≡ files path
  file_kept path a n = rw (a, n) refl

  pub own_stays : (q : Package) (path : Path) → Has own q → p.set q.folder ≡ true → is_home own q path ≡ true → is_declared contents.setup own path ≡ false → IsPrunedPath contents p.set path
  own_stays q path h k home free =
      inr (inl (or_right (is_root_file path) _ (or_right (is_ignore_above (kept_owners contents.space p.set) path) _
      (and_from _ (not (is_declared contents.setup own path)) (has_any (λ (o : Package). is_home own o path) (kept_owners contents.space p.set) q (has-filter (λ (o : Package). p.set o.folder) own q h k) home) (ap not free)))))

  module _ (q : Package) (h : Has (owners contents.space) q) (k : p.set q.folder ≡ true) where
    -- ---- ignore files

    root_above : (path folder : Path) (name : List ℕ) (rest : Path) → q ≡ root_package contents.space.root → is_home own q path ≡ true → path ≡ folder ++ name ∷ rest → is_home own q (folder ++ ignore_name ∷ []) ≡ true
    root_above path folder name rest e home at =
        root_home own q (folder ++ ignore_name ∷ []) (ap (λ (o : Package). o.folder) e)
        ∙ and_from (lies_below (folder ++ ignore_name ∷ []) []) _ (below_root folder ignore_name) (ap not (false_from_ne_true _ (λ t.
        let o = any_has (λ (o : Package). not (is_root_folder o.folder) && lies_below (folder ++ ignore_name ∷ []) o.folder) own t in
        let both = and_parts (not (is_root_folder o.0.folder)) _ o.2 in
        let above : is_in folder o.0.folder ≡ true = ap (λ f. is_in f o.0.folder) (sym (folder-in folder ignore_name)) ∙ folder_inside (folder ++ ignore_name ∷ []) o.0.folder both.1 in
        let held : lies_below path o.0.folder ≡ true = below_above path folder o.0.folder (ap (λ w. lies_below w folder) at ∙ below_from folder name rest) above in
        not_true (some_holds own path) (and_parts (lies_below path []) _ (sym (root_home own q path (ap (λ (x : Package). x.folder) e)) ∙ home)).1
        (has_any (λ (x : Package). not (is_root_folder x.folder) && lies_below path x.folder) own o.0 o.1 (and_from (not (is_root_folder o.0.folder)) _ both.0 held)))))

    -- an ignore file in a folder above a file of the owner stays, where none of its home's tasks declares it
    way_stays : (path folder : Path) (name : List ℕ) (rest : Path) → is_home own q path ≡ true → path ≡ folder ++ name ∷ rest → is_declared contents.setup own (folder ++ ignore_name ∷ []) ≡ false → IsPrunedPath contents p.set (folder ++ ignore_name ∷ [])
    way_stays path folder name rest home at free = by (owner_cases contents.space q h)
      where
        held : is_in path folder ≡ true
        held = ap (λ w. is_in w folder) at ∙ in_from folder (name ∷ rest)

        above : is_in q.folder folder ≡ true → IsPrunedPath contents p.set (folder ++ ignore_name ∷ [])
        above u =
            inr (inl (or_right (is_root_file (folder ++ ignore_name ∷ [])) _ (or_left _ (is_own_file contents.setup own (kept_owners contents.space p.set) (folder ++ ignore_name ∷ []))
            (and_from (is_ignore_file (folder ++ ignore_name ∷ [])) _ (ignore_in folder)
            (has_any (λ (o : Package). is_some (strip (folder_of (folder ++ ignore_name ∷ [])) o.folder)) (kept_owners contents.space p.set) q (has-filter (λ (o : Package). p.set o.folder) own q h k) (ap (λ f. is_in q.folder f) (folder-in folder ignore_name) ∙ u))))))

        by : Has contents.space.packages q ⊎ (q ≡ root_package contents.space.root) → IsPrunedPath contents p.set (folder ++ ignore_name ∷ [])
        by (inr e) = own_stays q (folder ++ ignore_name ∷ []) h k (root_above path folder name rest e home at) free
        by (inl a) = elim (one_in_other q.folder folder path (below_in path q.folder (home_is_below own q path home)) held) [
          | inl u ↦ own_stays q (folder ++ ignore_name ∷ []) h k (package_home own q (folder ++ ignore_name ∷ []) (sound.inner q a) ∙ below_above (folder ++ ignore_name ∷ []) folder q.folder (below_from folder ignore_name []) u) free
          | inr u ↦ above u
        ]

    same_rules : (path folder : Path) (name : List ℕ) (rest : Path) → is_home own q path ≡ true → path ≡ folder ++ name ∷ rest → rules_by setup' own' files' p.paths folder ≡ rules_by contents.setup own files contents.walk folder
    same_rules path folder name rest home at =
        rules_are setup' own' files' p.paths folder ∙ by (cases_Bool (is_among contents.walk f)) (cases_Bool (is.picked.test f)) ∙ sym (rules_are contents.setup own files contents.walk folder)
      where
        f : Path
        f = folder ++ ignore_name ∷ []

        left : is_among p.paths (folder ++ ignore_name ∷ []) ≡ false → cond (is_among p.paths (folder ++ ignore_name ∷ []) && not (is_declared setup' own' (folder ++ ignore_name ∷ []))) (rules_found (files' (folder ++ ignore_name ∷ []))) [] ≡ []
        left a = rw a refl

        by : (is_among contents.walk (folder ++ ignore_name ∷ []) ≡ true) ⊎ (is_among contents.walk (folder ++ ignore_name ∷ []) ≡ false) → (is.picked.test (folder ++ ignore_name ∷ []) ≡ true) ⊎ (is.picked.test (folder ++ ignore_name ∷ []) ≡ false)
            → cond (is_among p.paths (folder ++ ignore_name ∷ []) && not (is_declared setup' own' (folder ++ ignore_name ∷ []))) (rules_found (files' (folder ++ ignore_name ∷ []))) []
            ≡ cond (is_among contents.walk (folder ++ ignore_name ∷ []) && not (is_declared contents.setup own (folder ++ ignore_name ∷ []))) (rules_found (files (folder ++ ignore_name ∷ []))) []
        by (inr w) t = left (in_paths (folder ++ ignore_name ∷ []) ∙ ap (λ b. b && is.picked.test (folder ++ ignore_name ∷ [])) w) ∙ rw w refl
        by (inl w) (inl t) =
            let a : is_among p.paths (folder ++ ignore_name ∷ []) ≡ true = in_paths (folder ++ ignore_name ∷ []) ∙ and_from (is_among contents.walk (folder ++ ignore_name ∷ [])) _ w t in
            let b = a ∙ sym w in
            let d = same_declared contents targets p.set sound is.kept.0 (folder ++ ignore_name ∷ []) w (is.picked.sound (folder ++ ignore_name ∷ []) t) in
            let e = file_kept (folder ++ ignore_name ∷ []) a (not_lock folder) in
            λ j. cond (b j && not (d j)) (rules_found (e j)) []
        by (inl w) (inr t) =
            left (in_paths (folder ++ ignore_name ∷ []) ∙ and_off (is_among contents.walk (folder ++ ignore_name ∷ [])) _ t)
            ∙ ap (λ b. cond b (rules_found (files (folder ++ ignore_name ∷ []))) [])
            (sym (and_off (is_among contents.walk (folder ++ ignore_name ∷ [])) _ (ap not (true_from (is_declared contents.setup own (folder ++ ignore_name ∷ [])) (λ free. false≢true (sym t ∙ is.picked.whole (folder ++ ignore_name ∷ []) (way_stays path folder name rest home at free)))))))
          where
            true_from : (b : Bool) → (b ≡ false → ⊥) → b ≡ true
            true_from true never = refl
            true_from false never = absurd (never refl)

    pub same_ignoring : (path : Path) → is_home own q path ≡ true → ignored' path ≡ ignored path
    same_ignoring path home = same_ignored (rules_by setup' own' files' p.paths) (rules_by contents.setup own files contents.walk) path (λ folder name rest at. same_rules path folder name rest home at)
