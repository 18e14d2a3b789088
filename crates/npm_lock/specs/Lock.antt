-- What holds of the fields of each lock.
use Rattle.std.specs.Prelude.{◌≡◌, ◌≤◌, ◌<◌, ◌^◌, ℕ, List, length, map, Option, None, codes}
use Rattle.serde_json.specs.Data.{depth}
use Rattle.serde_json.specs.Find.{get}
use Rattle.serde_json.specs.Read.{max_depth}
use Rattle.serde_json.specs.View.{view}
use Rattle.serde_json.specs.declared.value.Value.{Value}
use Rattle.lock_entries.specs.declared.entry.Entry.{Entry}
use Rattle.lock_entries.specs.Lockfile.{lock_refusal, entries_in, Ascend}
use Rattle.npm_lock.specs.Externals.{texts_in}
use Rattle.npm_lock.specs.Finds.{found_by}

pub record IsLock (value : Value) (entries : List Entry) (finds : List (List (Option ℕ))) (texts : List (List ℕ)) : Type 0 where
  pub accepted : lock_refusal (view value) ≡ None
  pub shallow : depth (view value) ≤ max_depth
  pub read : entries ≡ entries_in (view value)
  pub found : finds ≡ map (found_by entries) entries
  pub printed : texts ≡ texts_in (get (codes "packages") (view value)) entries
  pub ascend : Ascend entries
  pub few : length entries < 2 ^ 32
