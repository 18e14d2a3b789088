-- The root's manifest, lockfile and turbo.json among the files that stay.
use Rattle.std.proofs.Common.{◌≡◌, ◌≤◌, ◌&&◌, inl, ℕ, true, cond, List, [], length, refl, sym, ap, ◌∙◌, subst}
use Rattle.std.specs.Prelude.{Option, Some, None, is_some, Ok, IfSome}
use Rattle.rel_path.specs.Paths.{path_eq, is_among}
use Rattle.rel_path.specs.Files.{FileMap, has}
use Rattle.rel_path.specs.Limits.{file_limit}
use Rattle.tree_dev.specs.Tree.{within}
use Rattle.tree_walk.specs.Walked.{is_open}
use Rattle.workspaces.specs.Space.{manifest_name}
use Rattle.turbo_config.specs.Files.{root_of}
use Rattle.repository.specs.Steps.{at_root}
use Rattle.repository.specs.Reading.{Contents, root_from, root_manifest, lock_from, data_from, lockfile, lock_name, config_name, config_in, config_at, root_config}
use Rattle.pruned_files.specs.Pruned.{lock_path, Pruning, IsPruning, pruned_files}
use Rattle.pruned_reading.proofs.Read.{IsRead}
use Rattle.pruned_reading.proofs.Locks.{none_read, whole_text, cut_none, IsWritten}
use Rattle.pruned_reading.proofs.Staying.{root_stays}
use Rattle.pruned_reading.proofs.Walking.{open_at_root, walked, is_kept, missing, gone, stays, written}

module _ {files : FileMap} {contents : Contents} {targets : List (List ℕ)} {p : Pruning} (read : IsRead files contents) (is : IsPruning contents targets p) where
  -- ---- files that are copied

  manifest_file : pruned_files p files (at_root manifest_name) ≡ files (at_root manifest_name)
  manifest_file = stays read is (at_root manifest_name) (root_stays contents p.set (at_root manifest_name) refl) (open_at_root manifest_name) refl

  pub root_same : root_manifest (pruned_files p files) ≡ root_manifest files
  unfolding root_manifest
  root_same = ap (λ found. root_from (within file_limit found)) manifest_file

  config_file : pruned_files p files (config_in []) ≡ files (config_in [])
  config_file = stays read is (config_in []) (root_stays contents p.set (config_in []) refl) (open_at_root config_name) refl

  pub config_same : root_config (pruned_files p files) ≡ root_config files
  unfolding root_config
  config_same = ap (λ found. config_at root_of (config_in []) (within file_limit found)) config_file

  -- ---- the lockfile

  lock_kept : (bytes : List ℕ) → files lock_path ≡ Some bytes → pruned_files p files lock_path ≡ p.text
  lock_kept bytes e =
      let here : has files lock_path ≡ true = ap is_some e in
      let entered : is_open lock_path ≡ true = open_at_root lock_name in
      let at : is_among contents.walk lock_path ≡ true = walked read is lock_path ∙ (λ j. here j && entered j) in
      ap (λ b. cond b (cond (path_eq lock_path lock_path) p.text (files lock_path)) None) (is_kept read is lock_path at (inl refl))

  some_lock : (bytes : List ℕ) → files lock_path ≡ Some bytes → IfSome p.text (λ text. length text ≤ file_limit) → lockfile (pruned_files p files) ≡ Ok p.lock
  unfolding lockfile
  some_lock bytes e small =
      let w : IsWritten p.lock p.text = written read is bytes e in
      let short : length w.bytes ≤ file_limit = subst (λ o. IfSome o (λ text. length text ≤ file_limit)) w.its_text small in
      ap (λ found. lock_from (within file_limit found)) (lock_kept bytes e ∙ w.its_text) ∙ ap lock_from (whole_text w.bytes short) ∙ ap data_from w.back ∙ ap Ok (sym w.its_value)

  no_lock : files lock_path ≡ None → lockfile (pruned_files p files) ≡ Ok p.lock
  unfolding lockfile
  no_lock e =
      let none = none_read contents.lock (ap (λ found. lock_from (within file_limit found)) (sym e) ∙ read.lock) in
      ap (λ found. lock_from (within file_limit found)) (gone read is lock_path (missing read is lock_path e))
      ∙ ap Ok (sym (cut_none contents p.set contents.lock p.lock p.text none is.cut))

  -- the cut lockfile, where its text is within the limit
  pub lock_stays : IfSome p.text (λ text. length text ≤ file_limit) → lockfile (pruned_files p files) ≡ Ok p.lock
  lock_stays small = by (files lock_path) refl where
    by : (found : Option (List ℕ)) → files lock_path ≡ found → lockfile (pruned_files p files) ≡ Ok p.lock
    by None e = no_lock e
    by (Some bytes) e = some_lock bytes e small
