-- What tasks of owners that stay take of the files is the same in the pruned repository.
use Rattle.std.proofs.Common.{◌≡◌, ℕ, Bool, true, false, not, List, ◌++◌, Option, Some, None, filter, refl, sym, ap, ◌∙◌, subst, inl, inr}
use Rattle.std.specs.Prelude.{sum_by, length}
use Rattle.std.specs.Option.{option_map}
use Rattle.std.proofs.lemmas.Bool.{and_parts, and_from, false≢true, false_from_ne_true}
use Rattle.rel_path.specs.Paths.{Path, path_eq, is_among}
use Rattle.rel_path.specs.Files.{FileMap}
use Rattle.rel_path.proofs.PathLaws.{path_same}
use Rattle.workspaces.specs.declared.member.Package.{Package}
use Rattle.workspaces.specs.Lists.{Has}
use Rattle.workspaces.specs.Space.{Space, owners, owner_named}
use Rattle.turbo_config.specs.declared.entry.TaskDef.{TaskDef}
use Rattle.task_definitions.specs.Setup.{Setup, task_def}
use Rattle.task_inputs.specs.Ignores.{is_ignore_file, is_rule_file, rule_files}
use Rattle.task_inputs.specs.Inputs.{is_input}
use Rattle.collect.specs.declared.wanted.Wanted.{Wanted}
use Rattle.collect.specs.Parts.{takes_input}
use Rattle.collect.specs.Listings.{takes_by, takes_in, is_needed, needed, with_bytes}
use Rattle.collect.specs.Refusals.{is_large, large_file, total_bytes}
use Rattle.repository.specs.Reading.{Contents}
use Rattle.pruned_files.specs.Pruned.{Pruning, IsPruning, pruned_files, pruned_setup, lock_path}
use Rattle.prune_facts.proofs.Lists.{any_same, any_has, has-append, append_left, append_right, filter-has, has-filter, filter_same, filter-filter}
use Rattle.prune_laws.specs.Laws.{HasNoLockInput}
use Rattle.prune_laws.proofs.Owners.{IsSound, part_of, found_owner, named_still}
use Rattle.prune_laws.proofs.Staying.{same_declared}
use Rattle.prune_laws.proofs.Ignoring.{has_among, in_paths, file_kept}
use Rattle.prune_laws.proofs.Inputs.{ignored, same_taking, taken_stays, same_bytes}
use Rattle.prune_plans.proofs.Lists.{find_none, none_found, same_mapped}
use Rattle.prune_plans.proofs.Reaching.{IsFine, fine_def}

module _ (contents : Contents) (targets : List (List ℕ)) (p : Pruning) (files : FileMap) (sound : IsSound contents.space contents.setup) (is : IsPruning contents targets p) (free : HasNoLockInput files contents p) where
  abbrev part : Space
  part = part_of contents.space p.set

  abbrev setup' : Setup
  setup' = pruned_setup contents.setup contents.space p.set

  abbrev files' : FileMap
  files' = pruned_files p files

  abbrev takes : Package → TaskDef → Path → Bool
  takes = takes_input contents.setup contents.space files contents.walk

  abbrev takes' : Package → TaskDef → Path → Bool
  takes' = takes_input setup' part files' p.paths

  pub no_lock : (q : Package) (task : List ℕ) (def : TaskDef) → Has (owners contents.space) q → p.set q.folder ≡ true → task_def contents.setup q.name task ≡ Some def
      → is_input (ignored contents targets p files sound is) contents.setup (owners contents.space) q def lock_path ≡ false
  no_lock q task def h k e = free q task def (record { owner = h; stays = k }) e

  -- ---- one wanted task

  module _ (w : Wanted) (fine : IsFine contents p.set w.id) where
    abbrev q : Package
    q = fine.owner

    its_owner : Has (owners contents.space) fine.owner
    its_owner = (found_owner contents.space w.id.«package» fine.owner fine.owned).0

    -- what it takes, by its owner and definition
    taken_here : (path : Path) → takes_in takes contents.setup w path (owner_named contents.space w.id.«package») ≡ takes_by takes path q (task_def contents.setup q.name w.id.task)
    taken_here path = ap (takes_in takes contents.setup w path) fine.owned

    taken_there : (path : Path) → takes_in takes' setup' w path (owner_named part w.id.«package») ≡ takes_by takes' path q (task_def contents.setup q.name w.id.task)
    taken_there path =
        ap (takes_in takes' setup' w path) (named_still contents.space contents.setup sound p.set w.id.«package» fine.owner fine.owned fine.stays)
        ∙ ap (takes_by takes' path q) (fine_def contents targets p.set sound is.kept.0 w.id fine)

    -- a walked file that stays is taken as before
    same_taken : (path : Path) → is_among contents.walk path ≡ true → is.picked.test path ≡ true → takes_in takes' setup' w path (owner_named part w.id.«package») ≡ takes_in takes contents.setup w path (owner_named contents.space w.id.«package»)
    same_taken path walked t = taken_there path ∙ by (task_def contents.setup q.name w.id.task) refl ∙ sym (taken_here path)
      where
        by : (o : Option TaskDef) → task_def contents.setup q.name w.id.task ≡ o → takes_by takes' path q o ≡ takes_by takes path q o
        by None e = refl
        by (Some def) e = same_taking contents targets p files sound is q its_owner fine.stays w.id.task def e (no_lock q w.id.task def its_owner fine.stays e) path walked t

    -- and a file that is taken stays as it is
    taken_kept : (path : Path) → is_among contents.walk path ≡ true → takes_in takes contents.setup w path (owner_named contents.space w.id.«package») ≡ true → (is.picked.test path ≡ true) × (files path ≡ files' path)
    taken_kept path walked t = by (task_def contents.setup q.name w.id.task) refl (sym (taken_here path) ∙ t)
      where
        by : (o : Option TaskDef) → task_def contents.setup q.name w.id.task ≡ o → takes_by takes path q o ≡ true → (is.picked.test path ≡ true) × (files path ≡ files' path)
        by None e k = absurd (false≢true k)
        by (Some def) e k =
            let none = no_lock q w.id.task def its_owner fine.stays e in (
              taken_stays contents targets p files sound is q its_owner fine.stays w.id.task def e none path k,
              same_bytes contents targets p files sound is q its_owner fine.stays w.id.task def e none path walked k,
            )

  -- ---- all wanted tasks

  module _ (wanted : List Wanted) (fine : (w : Wanted) → Has wanted w → IsFine contents p.set w.id) where
    abbrev need : Path → Bool
    need = is_needed contents.setup contents.space files contents.walk wanted

    abbrev need' : Path → Bool
    need' = is_needed setup' part files' p.paths wanted

    needed_kept : (path : Path) → Has contents.walk path → need path ≡ true → (is.picked.test path ≡ true) × (files path ≡ files' path)
    needed_kept path h n =
        let w = any_has (λ (w : Wanted). takes_in takes contents.setup w path (owner_named contents.space w.id.«package»)) wanted n in
        taken_kept w.0 (fine w.0 w.1) path (has_among contents.walk path h) w.2

    same_need : (path : Path) → Has (filter is.picked.test contents.walk) path → need' path ≡ need path
    same_need path h =
        let r = filter-has is.picked.test contents.walk path h in
        any_same (λ (w : Wanted). takes_in takes' setup' w path (owner_named part w.id.«package»)) (λ (w : Wanted). takes_in takes contents.setup w path (owner_named contents.space w.id.«package»)) wanted
        (λ w u. same_taken w (fine w u) path (has_among contents.walk path r.0) r.1)

    -- the same files are needed
    pub same_needed : needed setup' part files' p.paths wanted ≡ needed contents.setup contents.space files contents.walk wanted
    unfolding needed
    same_needed =
        ap (filter need') is.picked.are
        ∙ filter_same need' need (filter is.picked.test contents.walk) same_need
        ∙ filter-filter need is.picked.test contents.walk (λ path h n. (needed_kept path h n).0)

    needed_bytes : (path : Path) → Has (needed contents.setup contents.space files contents.walk wanted) path → files path ≡ files' path
    unfolding needed
    needed_bytes path h = let r = filter-has need contents.walk path h in (needed_kept path r.0 r.1).1

    -- with the same bytes
    pub same_files : with_bytes files' (needed setup' part files' p.paths wanted) ≡ with_bytes files (needed contents.setup contents.space files contents.walk wanted)
    same_files =
        ap (with_bytes files') same_needed
        ∙ same_mapped (λ path. option_map (λ bytes. (path, bytes)) (files' path)) (λ path. option_map (λ bytes. (path, bytes)) (files path)) (needed contents.setup contents.space files contents.walk wanted)
        (λ path h. ap (option_map (λ bytes. (path, bytes))) (sym (needed_bytes path h)))

    pub same_total : total_bytes setup' part files' p.paths wanted ≡ total_bytes contents.setup contents.space files contents.walk wanted
    unfolding total_bytes
    same_total = ap (sum_by (λ (file : Path × List ℕ). length file.1)) same_files

    -- ---- large files

    not_lock : (path : Path) → is_ignore_file path ≡ true → path_eq path lock_path ≡ false
    not_lock path h = false_from_ne_true (path_eq path lock_path) (λ e. false≢true (ap is_ignore_file (sym (path_same path lock_path e)) ∙ h))

    -- an ignore file that counts there counts here, and has the same bytes
    rule_before : (path : Path) → Has (rule_files setup' (owners part) p.paths) path → Has (rule_files contents.setup (owners contents.space) contents.walk) path × (files' path ≡ files path)
    unfolding rule_files
    rule_before path h =
        let r = filter-has (is_rule_file setup' (owners part)) p.paths path h in
        let a = has_among p.paths path r.0 in
        let both = and_parts (is_among contents.walk path) (is.picked.test path) (sym (in_paths contents targets p files sound is path) ∙ a) in
        let rule = and_parts (is_ignore_file path) _ r.1 in
        let declared = same_declared contents targets p.set sound is.kept.0 path both.0 (is.picked.sound path both.1) in
        let walked = (filter-has is.picked.test contents.walk path (subst (λ paths. Has paths path) is.picked.are r.0)).0 in (
          has-filter (is_rule_file contents.setup (owners contents.space)) contents.walk path walked (and_from (is_ignore_file path) _ rule.0 (ap not (sym declared) ∙ rule.1)),
          file_kept contents targets p files sound is path a (not_lock path rule.0),
        )

    -- no file is too large
    pub none_large : large_file contents.setup contents.space files contents.walk wanted ≡ None → large_file setup' part files' p.paths wanted ≡ None
    unfolding large_file
    none_large none = find_none (λ path. is_large (files' path)) (rule_files setup' (owners part) p.paths ++ needed setup' part files' p.paths wanted)
        (λ path h. elim (has-append (rule_files setup' (owners part) p.paths) (needed setup' part files' p.paths wanted) path h) [
          | inl rule ↦ let r = rule_before path rule in ap is_large r.1 ∙ small path (append_left (rule_files contents.setup (owners contents.space) contents.walk) (needed contents.setup contents.space files contents.walk wanted) path r.0)
          | inr input ↦
              let n = subst (λ paths. Has paths path) same_needed input in
              ap is_large (sym (needed_bytes path n)) ∙ small path (append_right (rule_files contents.setup (owners contents.space) contents.walk) (needed contents.setup contents.space files contents.walk wanted) path n)
        ])
      where
        small : (path : Path) → Has (rule_files contents.setup (owners contents.space) contents.walk ++ needed contents.setup contents.space files contents.walk wanted) path → is_large (files path) ≡ false
        small path h = none_found (λ path. is_large (files path)) (rule_files contents.setup (owners contents.space) contents.walk ++ needed contents.setup contents.space files contents.walk wanted) path none h
