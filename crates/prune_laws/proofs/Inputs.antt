-- The input files of a task of an owner that stays.
use Rattle.std.proofs.Common.{◌≡◌, ◌⊎◌, ◌&&◌, ◌||◌, ℕ, Bool, true, false, not, List, [], ◌∷◌, ◌++◌, Option, Some, None, filter, codes, refl, sym, ap, ◌∙◌, subst, inl, inr}
use Rattle.std.specs.Prelude.{is_some, eqb}
use Rattle.std.specs.List.{list_any, filter_map, cons_option, starts_with}
use Rattle.std.proofs.lemmas.Bool.{cases_Bool, or_cases, or_left, or_right, and_parts, and_from, false≢true, false_from_ne_true}
use Rattle.rel_path.specs.Paths.{Path, path_eq, is_among}
use Rattle.rel_path.specs.Files.{FileMap, has}
use Rattle.rel_path.proofs.PathLaws.{path_same}
use Rattle.globs.specs.Match.{matches}
use Rattle.globs.specs.Outputs.{may_declare}
use Rattle.globs.specs.Lists.{is_kind}
use Rattle.workspaces.specs.declared.member.Package.{Package}
use Rattle.workspaces.specs.Lists.{Has}
use Rattle.workspaces.specs.Space.{root_package, owners, manifest_in, manifest_name, is_root_folder, lies_below}
use Rattle.turbo_config.specs.declared.entry.TaskDef.{TaskDef}
use Rattle.task_definitions.specs.Setup.{Setup, task_def}
use Rattle.task_inputs.specs.Homes.{is_declared, is_home}
use Rattle.input_entries.specs.Entries.{is_default_entry, entry_of, entries_of, has_default, rest_where, matches_from, any_reaches, is_wide, any_wide}
use Rattle.task_inputs.specs.Ignores.{is_left_out}
use Rattle.task_inputs.specs.Inputs.{is_default, rest_in, is_explicit, is_asked, is_global, may_count, config_in, always_counts, is_input, is_asked_from_root, is_far_input}
use Rattle.task_inputs.specs.Rooted.{IsRooted}
use Rattle.collect.specs.Steps.{folder_of}
use Rattle.collect.specs.Parts.{takes_input}
use Rattle.repository.specs.Reading.{Contents}
use Rattle.kept_packages.specs.Kept.{kept_places}
use Rattle.pruned_files.specs.Pruned.{lock_path, IsPrunedPath, Pruning, IsPruning, pruned_files, pruned_setup}
use Rattle.prune_facts.proofs.Lists.{none≢some, some_inj, not_true, not_from, and_off, any_has, filter-has, filter-filter, filter_same, has_place}
use Rattle.prune_facts.proofs.Strips.{is_in, below_from, folder_inside, below_root, in_empty}
use Rattle.prune_facts.proofs.Defining.{defined_name}
use Rattle.prune_laws.proofs.Owners.{IsSound, part_of, owner_cases, plain_name}
use Rattle.prune_laws.proofs.Homes.{package_home, root_home, never_declared}
use Rattle.prune_laws.proofs.Staying.{same_home, same_counting}
use Rattle.prune_laws.proofs.Ignoring.{has_among, in_paths, file_kept, own_stays, same_ignoring}

-- ---- what a task asks for

any_read : {T X : Type 0} (read : T → Option X) (f g : X → Bool) (ts : List T) → ((t : T) (x : X) → read t ≡ Some x → f x ≡ true → g x ≡ true) → list_any f (filter_map read ts) ≡ true → list_any g (filter_map read ts) ≡ true
any_read read f g [] gives h = h
any_read read f g (t ∷ ts) gives h = by (read t) refl h (any_read read f g ts gives)
  where
    by : (o : Option _) → read t ≡ o → list_any f (cons_option o (filter_map read ts)) ≡ true → (list_any f (filter_map read ts) ≡ true → list_any g (filter_map read ts) ≡ true) → list_any g (cons_option o (filter_map read ts)) ≡ true
    by None e k rest = rest k
    by (Some x) e k rest = elim (or_cases (f x) (list_any f (filter_map read ts)) k) [ inl a ↦ or_left (g x) _ (gives t x e a) | inr b ↦ or_right (g x) _ (rest b) ]

-- where the owner is not the path's home, only globs of the root give it
wide_reach : (texts : List (List ℕ)) (path : Path) → any_reaches false (entries_of texts) path None ≡ true → any_wide (entries_of texts) path ≡ true
unfolding any_reaches any_wide entry_of
wide_reach texts path h = any_read entry_of (λ entry. is_kind entry.excluded false && matches_from entry.base entry.glob path None) (λ entry. is_wide entry && matches entry.glob path) texts
    (λ text x e k. elim (cases_Bool (is_default_entry text)) [
      | inl a ↦ absurd (none≢some x (rw a at e))
      | inr a ↦ elim (cases_Bool (starts_with eqb text (codes "$TURBO_ROOT$/"))) [
        | inl b ↦ let s = some_inj _ x (rw (a, b) at e) in sym (ap (λ entry. is_wide entry && matches entry.glob path) s) ∙ ap (λ entry. is_kind entry.excluded false && matches_from entry.base entry.glob path None) s ∙ k
        | inr b ↦ elim (cases_Bool (starts_with eqb text (codes "!$TURBO_ROOT$/"))) [
          | inl c ↦ let s = some_inj _ x (rw (a, b, c) at e) in absurd (false≢true (ap (λ entry. is_kind entry.excluded false && matches_from entry.base entry.glob path None) s ∙ k))
          | inr c ↦ elim (cases_Bool (starts_with eqb text (codes "!"))) [
            | inl d ↦ let s = some_inj _ x (rw (a, b, c, d) at e) in absurd (false≢true (ap (λ entry. is_kind entry.excluded false && matches_from entry.base entry.glob path None) s ∙ k))
            | inr d ↦ let s = some_inj _ x (rw (a, b, c, d) at e) in absurd (false≢true (ap (λ entry. is_kind entry.excluded false && matches_from entry.base entry.glob path None) s ∙ k))
          ]
        ]
      ]
    ]) h

far_by : (ignored : Path → Bool) (own : List Package) (p : Package) (inputs : Option (List (List ℕ))) (path : Path) → is_home own p path ≡ false → is_asked ignored own p inputs path ≡ true → is_asked_from_root own p inputs path ≡ true
unfolding is_explicit
far_by ignored own p None path away h = absurd (false≢true (sym away ∙ (and_parts (is_home own p path) _ h).0))
far_by ignored own p (Some texts) path away h =
    let both = and_parts (any_reaches false (entries_of texts) path (rest_in own p path) || (has_default texts && is_default ignored own p path)) (not (any_reaches true (entries_of texts) path (rest_in own p path))) h in
    and_from (any_wide (entries_of texts) path) _ (elim (or_cases (any_reaches false (entries_of texts) path (rest_in own p path)) _ both.0) [
      | inl r ↦ wide_reach texts path (ap (λ b. any_reaches false (entries_of texts) path (rest_where b p.folder path)) (sym away) ∙ r)
      | inr d ↦ absurd (false≢true (sym away ∙ (and_parts (is_home own p path) _ (and_parts (has_default texts) _ d).1).0))
    ]) both.1

module _ (contents : Contents) (targets : List (List ℕ)) (p : Pruning) (files : FileMap) (sound : IsSound contents.space contents.setup) (is : IsPruning contents targets p) where
  abbrev own : List Package
  own = owners contents.space

  abbrev own' : List Package
  own' = owners (part_of contents.space p.set)

  abbrev setup' : Setup
  setup' = pruned_setup contents.setup contents.space p.set

  abbrev files' : FileMap
  files' = pruned_files p files

  abbrev pub ignored : Path → Bool
  ignored = is_left_out contents.setup (owners contents.space) files contents.walk

  abbrev pub ignored' : Path → Bool
  ignored' = is_left_out (pruned_setup contents.setup contents.space p.set) (owners (part_of contents.space p.set)) (pruned_files p files) p.paths

  module _ (q : Package) (h : Has (owners contents.space) q) (k : p.set q.folder ≡ true) where
    same_default : (path : Path) → is_default ignored' own' q path ≡ is_default ignored own q path
    same_default path =
        ap (λ b. b && not (ignored' path)) (same_home contents targets p.set sound is.kept.0 q h k path)
        ∙ elim (cases_Bool (is_home own q path)) [
          | inl t ↦ ap (λ b. is_home own q path && not b) (same_ignoring contents targets p files sound is q h k path t)
          | inr f ↦ rw f refl
        ]

    same_asked : (path : Path) (inputs : Option (List (List ℕ))) → is_asked ignored' own' q inputs path ≡ is_asked ignored own q inputs path
    unfolding is_explicit
    same_asked path None = same_default path
    same_asked path (Some texts) =
        let a = same_home contents targets p.set sound is.kept.0 q h k path in
        let d = same_default path in
        λ j. (any_reaches false (entries_of texts) path (rest_where (a j) q.folder path) || (has_default texts && d j)) && not (any_reaches true (entries_of texts) path (rest_where (a j) q.folder path))

    -- a walked file that stays is an input as before
    pub same_input : (def : TaskDef) (path : Path) → is_among contents.walk path ≡ true → IsPrunedPath contents p.set path → is_input ignored' (pruned_setup contents.setup contents.space p.set) (owners (part_of contents.space p.set)) q def path ≡ is_input ignored contents.setup (owners contents.space) q def path
    unfolding is_input
    same_input def path walked stays =
        let c = same_counting contents targets p.set sound is.kept.0 path walked stays in
        let a = same_asked path def.inputs in
        λ j. always_counts q path || (c j && (a j || is_global contents.setup path))

    own_file_stays : (name : List ℕ) → may_declare (name ∷ []) ≡ false → IsPrunedPath contents p.set (q.folder ++ name ∷ [])
    own_file_stays name never = own_stays contents targets p files sound is q (q.folder ++ name ∷ []) h k (by (owner_cases contents.space q h)) (never_declared contents.space contents.setup sound q name h never)
      where
        by : Has contents.space.packages q ⊎ (q ≡ root_package contents.space.root) → is_home own q (q.folder ++ name ∷ []) ≡ true
        by (inl a) = package_home own q (q.folder ++ name ∷ []) (sound.inner q a) ∙ below_from q.folder name []
        by (inr e) =
            let at : q.folder ≡ [] = ap (λ (o : Package). o.folder) e in
            root_home own q (q.folder ++ name ∷ []) at
            ∙ and_from (lies_below (q.folder ++ name ∷ []) []) _ (below_root q.folder name) (ap not (false_from_ne_true _ (λ t.
            let o = any_has (λ (o : Package). not (is_root_folder o.folder) && lies_below (q.folder ++ name ∷ []) o.folder) own t in
            let both = and_parts (not (is_root_folder o.0.folder)) _ o.2 in
            let f : o.0.folder ≡ [] = in_empty o.0.folder (ap (λ w. is_in w o.0.folder) (sym (ap (λ w. folder_of (w ++ name ∷ [])) at) ∙ refl) ∙ folder_inside (q.folder ++ name ∷ []) o.0.folder both.1) in
            not_true (is_root_folder o.0.folder) both.0 (ap is_root_folder f))))

    -- a walked file that is an input stays
    pub input_stays : (task : List ℕ) (def : TaskDef) → task_def contents.setup q.name task ≡ Some def → (path : Path) → is_input ignored contents.setup (owners contents.space) q def path ≡ true → IsPrunedPath contents p.set path
    unfolding is_input
    input_stays task def defined path t = elim (or_cases (always_counts q path) _ t) [
      | inl a ↦ elim (or_cases (path_eq path (manifest_in q.folder)) _ a) [
        | inl e ↦ subst (IsPrunedPath contents p.set) (sym (path_same path (manifest_in q.folder) e)) (own_file_stays manifest_name refl)
        | inr e ↦ subst (IsPrunedPath contents p.set) (sym (path_same path (config_in q.folder) e)) (own_file_stays (codes "turbo.json") refl)
      ]
      | inr c ↦ let both = and_parts (may_count contents.setup own path) _ c in elim (cases_Bool (is_home own q path)) [
        | inl home ↦ own_stays contents targets p files sound is q path h k home (not_from _ (and_parts (not (is_declared contents.setup own path)) _ both.0).0)
        | inr away ↦ inr (inr (rooted path (and_from (may_count contents.setup own path) _ both.0 (elim (or_cases (is_asked ignored own q def.inputs path) _ both.1) [
          | inl asked ↦ or_left (is_asked_from_root own q def.inputs path) _ (far_by ignored own q def.inputs path away asked)
          | inr global ↦ or_right (is_asked_from_root own q def.inputs path) _ global
        ]))))
      ]
    ]
      where
        rooted : (path : Path) → is_far_input contents.setup own q def path ≡ true → IsRooted contents.setup own (kept_places contents p.set) path
        rooted path far =
            let place = has_place (λ (o : Package). p.set o.folder) own q h k in
            record {
              place = place.0;
              is_kept = place.1;
              member = q;
              stands = place.2;
              task = task;
              named = defined_name contents.setup q.name task (plain_name contents.space contents.setup sound q h) def defined;
              def = def;
              defined = defined;
              far = far;
            }

    -- ---- the files that a task takes

    module _ (task : List ℕ) (def : TaskDef) (defined : task_def contents.setup q.name task ≡ Some def) (no_lock : is_input ignored contents.setup (owners contents.space) q def lock_path ≡ false) where
      abbrev takes : Path → Bool
      takes = takes_input contents.setup contents.space files contents.walk q def

      abbrev takes' : Path → Bool
      takes' = takes_input setup' (part_of contents.space p.set) files' p.paths q def

      -- of a walked file that stays
      pub same_taking : (path : Path) → is_among contents.walk path ≡ true → is.picked.test path ≡ true → takes' path ≡ takes path
      same_taking path walked t =
          let a : is_among p.paths path ≡ true = in_paths contents targets p files sound is path ∙ and_from (is_among contents.walk path) _ walked t in
          let s = same_input def path walked (is.picked.sound path t) in
          elim (cases_Bool (path_eq path lock_path)) [
            | inl e ↦
                let none : is_input ignored contents.setup own q def path ≡ false = ap (is_input ignored contents.setup own q def) (path_same path lock_path e) ∙ no_lock in
                and_off (has files' path) _ (s ∙ none) ∙ sym (and_off (has files path) _ none)
            | inr n ↦ let f = file_kept contents targets p files sound is path a n in λ j. is_some (f j) && s j
          ]

      pub taken_stays : (path : Path) → takes path ≡ true → is.picked.test path ≡ true
      taken_stays path t = is.picked.whole path (input_stays task def defined path (and_parts (has files path) _ t).1)

      -- the task takes the same walked files
      pub same_inputs : filter (takes_input contents.setup contents.space files contents.walk q def) contents.walk ≡ filter (takes_input (pruned_setup contents.setup contents.space p.set) (part_of contents.space p.set) (pruned_files p files) p.paths q def) p.paths
      same_inputs =
          sym (filter-filter takes is.picked.test contents.walk (λ path u t. taken_stays path t))
          ∙ sym (filter_same takes' takes (filter is.picked.test contents.walk) (λ path u. let r = filter-has is.picked.test contents.walk path u in same_taking path (has_among contents.walk path r.0) r.1))
          ∙ ap (filter takes') (sym is.picked.are)

      -- with the same bytes
      pub same_bytes : (path : Path) → is_among contents.walk path ≡ true → takes path ≡ true → files path ≡ files' path
      same_bytes path walked t =
          let a : is_among p.paths path ≡ true = in_paths contents targets p files sound is path ∙ and_from (is_among contents.walk path) _ walked (taken_stays path t) in
          sym (file_kept contents targets p files sound is path a (false_from_ne_true (path_eq path lock_path) (λ e. false≢true (sym no_lock ∙ ap (is_input ignored contents.setup own q def) (sym (path_same path lock_path e)) ∙ (and_parts (has files path) _ t).1))))
