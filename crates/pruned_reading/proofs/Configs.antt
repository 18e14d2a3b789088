-- What the turbo.json files that stay say.
use Rattle.std.proofs.Common.{◌≡◌, ◌⊎◌, inl, inr, ℕ, Bool, true, false, cond, List, [], ◌∷◌, ◌++◌, filter, map, refl, sym, ap, ◌∙◌, subst, append-nil}
use Rattle.std.specs.Prelude.{Option, Some, None, Result, Ok, Err}
use Rattle.std.specs.List.{AllByRecursion, list_any}
use Rattle.std.specs.List.Sorted.{IsStrictlySortedBy}
use Rattle.std.specs.BTreeMap.{insert_entry}
use Rattle.std.specs.Cmp.{IsTotalOrder, on_total, both_ways}
use Rattle.std.specs.declared.cmp.Ordering.TheVariants.{Equal}
use Rattle.rel_path.specs.Paths.{Path, name_eq, name_cmp, strip}
use Rattle.rel_path.specs.Files.{FileMap}
use Rattle.rel_path.specs.Limits.{file_limit}
use Rattle.rel_path.proofs.PathLaws.{name_same, name_self, path_cmp_total, strip_append}
use Rattle.tree_dev.specs.Tree.{within}
use Rattle.workspaces.specs.declared.member.Package.{Package}
use Rattle.workspaces.specs.Lists.{Has}
use Rattle.workspaces.specs.Space.{IsProper, AreApart, manifest_in, manifest_name}
use Rattle.workspaces.proofs.Apart.{AnyApart, members_apart}
use Rattle.turbo_config.specs.declared.files.PackageConfig.{PackageConfig}
use Rattle.turbo_config.specs.RootFile.{RootFile}
use Rattle.turbo_config.specs.Files.{package_of}
use Rattle.task_definitions.specs.Setup.{Setup, setup_of, by_name}
use Rattle.refusals.specs.declared.refusal.Refusal.{Refusal}
use Rattle.repository.specs.Reading.{Contents, config_name, config_in, config_at, root_config, package_config, package_configs, and_more, folder_cmp, by_folder, homes_of, own_configs, script_names, setup_with, setup_from, setup_in, lock_name}
use Rattle.pruned_files.specs.Pruned.{Pruning, IsPruning, pruned_files, kept_packages, pruned_setup}
use Rattle.pruned_reading.proofs.Lists.{any_has, has_any, filter_has, filter_test, has_filter, map_filter}
use Rattle.pruned_reading.proofs.Ascending.{path_tied, name_not_less, ascending_has, ascending_filter, one_by_key}
use Rattle.pruned_reading.proofs.Read.{IsRead}
use Rattle.pruned_reading.proofs.Found.{proper, member_found, below_root, manifest_walked}
use Rattle.pruned_reading.proofs.Homes.{config_never}
use Rattle.pruned_reading.proofs.Staying.{own_stays, not_at_root}
use Rattle.pruned_reading.proofs.Walking.{open_beside, stays}
use Rattle.pruned_reading.proofs.RootFiles.{config_same}
use Rattle.pruned_reading.proofs.Entries.{Ascends, ascends_put, put_kept, put_left}

abbrev Files : Type 0
Files = List (List ℕ × PackageConfig)

-- ---- files by the names of their packages

module _ (named : List ℕ → Bool) where
  abbrev is_named : List ℕ × PackageConfig → Bool
  is_named own = named own.0

  by_name_filter : (so_far own : Files) → Ascends so_far → by_name (filter is_named so_far) (filter is_named own) ≡ filter is_named (by_name so_far own)
  by_name_filter so_far [] up = refl
  by_name_filter so_far (f ∷ fs) up = by (named f.0) refl (by_name_filter (insert_entry name_cmp so_far f.0 f.1) fs (ascends_put so_far f.0 f.1 up)) where
    by : (b : Bool) → named f.0 ≡ b → by_name (filter is_named (insert_entry name_cmp so_far f.0 f.1)) (filter is_named fs) ≡ filter is_named (by_name (insert_entry name_cmp so_far f.0 f.1) fs)
        → by_name (filter is_named so_far) (cond b (f ∷ filter is_named fs) (filter is_named fs)) ≡ filter is_named (by_name (insert_entry name_cmp so_far f.0 f.1) fs)
    by true k more = ap (λ es. by_name es (filter is_named fs)) (sym (put_kept named so_far f.0 f.1 up k)) ∙ more
    by false k more = ap (λ es. by_name es (filter is_named fs)) (sym (put_left named so_far f.0 f.1 k)) ∙ more

  all_by_name : (own : Files) → by_name [] (filter is_named own) ≡ filter is_named (by_name [] own)
  unfolding IsStrictlySortedBy
  all_by_name own = by_name_filter [] own tt

-- ---- files folder by folder

module _ (files after : FileMap) (set : Path → Bool) (named : List ℕ → Bool) where
  abbrev Home : Type 0
  Home = Path × List ℕ

  abbrev is_home_kept : Home → Bool
  is_home_kept home = set home.0

  -- where the folder stays its file is as it was, and it stays where the name is one of those that stay
  abbrev pub IsAlike : Home → Type 0
  IsAlike home = (set home.0 ≡ true → package_config after home.0 ≡ package_config files home.0) × (set home.0 ≡ named home.1)

  abbrev kept_files : Files → Files
  kept_files own = filter (λ f. named f.0) own

  -- the files of the first home, and those of the others
  left : (name : List ℕ) (one : Result (Option PackageConfig) Refusal) (more : Result Files Refusal) (own : Files) → and_more name one more ≡ Ok own → named name ≡ false → (rest : Files) × (more ≡ Ok rest) × (kept_files own ≡ kept_files rest)
  left name (Err reason) more own e k = absurd (cc)
  left name (Ok None) more own e k = (own, e, refl)
  left name (Ok (Some file)) (Err reason) own e k = absurd (cc)
  left name (Ok (Some file)) (Ok rest) own e k =
      let is : (name, file) ∷ rest ≡ own = cc in
      (rest, refl, ap kept_files (sym is) ∙ ap (λ b. cond b ((name, file) ∷ kept_files rest) (kept_files rest)) k)

  kept : (name : List ℕ) (one : Result (Option PackageConfig) Refusal) (more : Result Files Refusal) (own : Files) → and_more name one more ≡ Ok own → named name ≡ true
      → (rest : Files) × (more ≡ Ok rest) × (and_more name one (Ok (kept_files rest)) ≡ Ok (kept_files own))
  kept name (Err reason) more own e k = absurd (cc)
  kept name (Ok None) more own e k = (own, e, refl)
  kept name (Ok (Some file)) (Err reason) own e k = absurd (cc)
  kept name (Ok (Some file)) (Ok rest) own e k =
      let is : (name, file) ∷ rest ≡ own = cc in
      (rest, refl, ap Ok (sym (ap kept_files (sym is) ∙ ap (λ b. cond b ((name, file) ∷ kept_files rest) (kept_files rest)) k)))

  configs_stay : (homes : List Home) (own : Files) → package_configs files homes ≡ Ok own → AllByRecursion IsAlike homes → package_configs after (filter is_home_kept homes) ≡ Ok (kept_files own)
  unfolding package_configs
  configs_stay [] own e all = let none : [] ≡ own = cc in ap (λ fs. Ok (kept_files fs)) none
  configs_stay (h ∷ homes) own e all = by (λ rest f. configs_stay homes rest f all.1) (set h.0) refl where
    by : ((rest : Files) → package_configs files homes ≡ Ok rest → package_configs after (filter is_home_kept homes) ≡ Ok (kept_files rest)) → (b : Bool) → set h.0 ≡ b
        → package_configs after (cond b (h ∷ filter is_home_kept homes) (filter is_home_kept homes)) ≡ Ok (kept_files own)
    by more true k =
        let n = kept h.1 (package_config files h.0) (package_configs files homes) own e (sym all.0.1 ∙ k) in
        let one : package_config after h.0 ≡ package_config files h.0 = all.0.0 k in
        let later = more n.0 n.1 in
        (λ j. and_more h.1 (one j) (later j)) ∙ n.2
    by more false k =
        let n = left h.1 (package_config files h.0) (package_configs files homes) own e (sym all.0.1 ∙ k) in
        more n.0 n.1 ∙ ap Ok (sym n.2)

-- ---- the homes of packages

folder_total : IsTotalOrder folder_cmp
folder_total = on_total (λ (p : Package). p.folder) path_cmp_total

one_apart : (packages : List Package) → AnyApart packages → (p q : Package) → Has packages p → Has packages q → folder_cmp p q ≡ Equal → p ≡ q
one_apart packages apart p q a b e = by (apart p q a b) where
  itself : strip p.folder q.folder ≡ None → ⊥
  itself none =
      let same : p.folder ≡ q.folder = path_tied p.folder q.folder e in
      let found : strip p.folder (p.folder ++ []) ≡ Some [] = strip_append p.folder [] in
      let back : strip p.folder p.folder ≡ None = subst (λ f. strip p.folder f ≡ None) (sym same) none in
      let whole : strip p.folder p.folder ≡ Some [] = rw append-nil at found in
      absurd (cc)

  by : (p ≡ q) ⊎ AreApart p.folder q.folder → p ≡ q
  by (inl same) = same
  by (inr both) = absurd (itself both.0)

homes_filter : (set : Path → Bool) (packages : List Package) → AnyApart packages → homes_of (filter (λ p. set p.folder) packages) ≡ filter (λ home. set home.0) (homes_of packages)
homes_filter set packages apart =
    ap (map (λ (p : Package). (p.folder, p.name))) (ascending_filter folder_cmp folder_total (λ p. set p.folder) packages (one_apart packages apart))
    ∙ map_filter (λ (p : Package). (p.folder, p.name)) (λ home. set home.0) (by_folder packages)

module _ {files : FileMap} {contents : Contents} {targets : List (List ℕ)} {p : Pruning} (read : IsRead files contents) (is : IsPruning contents targets p) where
  abbrev packages : List Package
  packages = contents.space.packages

  abbrev remaining : List Package
  remaining = kept_packages contents.space p.set

  its_proper : IsProper contents.space
  its_proper = proper read.space read.walk

  abbrev named_here : List ℕ → Bool
  named_here name = list_any (λ (m : Package). name_eq m.name name) remaining

  -- a package stays by its folder where it stays by its name
  alike : (m : Package) → Has packages m → p.set m.folder ≡ named_here m.name
  alike m has = both_ways (p.set m.folder) (named_here m.name) (λ k. has_any (λ (q : Package). name_eq q.name m.name) remaining m (has_filter (λ (q : Package). p.set q.folder) packages m has k) (name_self m.name)) back where
    back : named_here m.name ≡ true → p.set m.folder ≡ true
    back k =
        let q = any_has (λ (q : Package). name_eq q.name m.name) remaining k in
        let same : q.0 ≡ m = one_by_key name_cmp (λ (r : Package). r.name) name_not_less packages its_proper.names q.0 m (filter_has (λ (r : Package). p.set r.folder) packages q.0 q.1) has (name_same q.0.name m.name q.2) in
        ap (λ (r : Package). p.set r.folder) (sym same) ∙ filter_test (λ (r : Package). p.set r.folder) packages q.0 q.1

  same_config : (m : Package) → Has packages m → p.set m.folder ≡ true → package_config (pruned_files p files) m.folder ≡ package_config files m.folder
  unfolding package_config
  same_config m has k =
      let found = member_found read.space read.walk m has in
      let entered = open_beside m.folder manifest_name config_name (read.few.kept (manifest_in m.folder) (manifest_walked read.space read.walk m found)) in
      let below = below_root read.space read.walk m found in
      ap (λ there. config_at package_of (config_in m.folder) (within file_limit there))
      (stays read is (config_in m.folder) (own_stays contents its_proper p.set m has below config_name k config_never) entered (not_at_root m.folder config_name lock_name below))

  homes_alike : AllByRecursion (IsAlike files (pruned_files p files) p.set named_here) (homes_of packages)
  homes_alike = all_map (by_folder packages) (λ m has. ascending_has folder_cmp folder_total packages m has) where
    all_map : (ps : List Package) → ((m : Package) → Has ps m → Has packages m) → AllByRecursion (IsAlike files (pruned_files p files) p.set named_here) (map (λ (m : Package). (m.folder, m.name)) ps)
    all_map [] each = tt
    all_map (m ∷ ps) each = let has = each m (inl refl) in ((same_config m has, alike m has), all_map ps (λ q later. each q (inr later)))

  any_apart : AnyApart packages
  any_apart = members_apart packages its_proper.apart

  own_stay : (own : Files) → package_configs files (homes_of packages) ≡ Ok own → package_configs (pruned_files p files) (homes_of remaining) ≡ Ok (filter (λ f. named_here f.0) own)
  own_stay own e = ap (package_configs (pruned_files p files)) (homes_filter p.set packages any_apart) ∙ configs_stay files (pruned_files p files) p.set named_here (homes_of packages) own e homes_alike

  -- ---- the setup

  made : (root : Option RootFile) (own : Files) → setup_of root (filter (λ f. named_here f.0) own) (script_names remaining) ≡ pruned_setup (setup_of root own (script_names packages)) contents.space p.set
  unfolding setup_of
  made root own =
      let same = all_by_name named_here own in
      λ j. record (pruned_setup (setup_of root own (script_names packages)) contents.space p.set) { packages = same j }

  own_again : (root : Option RootFile) (own : Files) → own_configs files packages root ≡ Ok own → own_configs (pruned_files p files) remaining root ≡ Ok (filter (λ f. named_here f.0) own)
  own_again None own e = let none : [] ≡ own = cc in ap (λ fs. Ok (filter (λ f. named_here f.0) fs)) none
  own_again (Some root) own e = own_stay own e

  abbrev setup_after : Setup
  setup_after = pruned_setup contents.setup contents.space p.set

  with_own : (root : Option RootFile) (result : Result Files Refusal) → own_configs files packages root ≡ result → setup_with (script_names packages) root result ≡ Ok contents.setup
      → setup_with (script_names remaining) root (own_configs (pruned_files p files) remaining root) ≡ Ok setup_after
  with_own root (Err reason) o e = absurd (cc)
  with_own root (Ok own) o e =
      let is : setup_of root own (script_names packages) ≡ contents.setup = cc in
      ap (setup_with (script_names remaining) root) (own_again root own o) ∙ ap Ok (made root own) ∙ ap (λ s. Ok (pruned_setup s contents.space p.set)) is

  with_root : (found : Result (Option RootFile) Refusal) → setup_from files packages found ≡ Ok contents.setup → setup_from (pruned_files p files) remaining found ≡ Ok setup_after
  with_root (Err reason) e = absurd (cc)
  with_root (Ok root) e = with_own root (own_configs files packages root) refl e

  pub setup_stays : setup_in (pruned_files p files) remaining ≡ Ok setup_after
  unfolding setup_in
  setup_stays = ap (setup_from (pruned_files p files) remaining) (config_same read is) ∙ with_root (root_config files) read.setup
