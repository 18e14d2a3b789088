-- Log files, and when the tasks of a listing keep out of each other's way.
use Rattle.std.specs.Prelude.{Bool, ◌≡◌, ◌≢◌, ℕ, ◌<◌, ◌==◌, true, false, List, [], ◌∷◌, ◌++◌, length, if◌then◌else◌, codes}
use Rattle.std.specs.List.{list_any}
use Rattle.rel_path.specs.Paths.{Path}
use Rattle.globs.specs.Outputs.{takes, shares}
use Rattle.listing.specs.declared.part.Part.{Part}
use Rattle.listing.specs.declared.part.Listing.{Listing}
use Rattle.run_laws.specs.Ancestors.{part_at, has_script}
use Rattle.run_laws.specs.Closures.{names}

-- a task's name in the name of a file: `:` and `/` are spelled out
abbrev pub spelled : List ℕ → List ℕ
spelled [] = []
spelled (b ∷ bs) = (if b == 58 then codes "$colon$" else if b == 47 then codes "$slash$" else b ∷ []) ++ spelled bs

-- the name of the file in which the log of a task is kept
abbrev pub log_name : List ℕ → List ℕ
log_name task = codes "turbo-" ++ (spelled task ++ codes ".log")

-- where it is kept (Turborepo docs, "Caching", logs: `.turbo/turbo-<task>.log` in the package's folder)
abbrev pub log_path : Part → Path
log_path part = part.folder ++ codes ".turbo" ∷ log_name part.task ∷ []

-- a `$`, which no name of a task holds that `turbo.json` can give
abbrev pub has_dollar : List ℕ → Bool
has_dollar task = list_any (λ b. b == 36) task

-- tasks without `$` in their names that have one log file have one folder and one name
abbrev pub LogLaw : Type 0
LogLaw = (a b : Part) → has_dollar a.task ≡ false → has_dollar b.task ≡ false → log_path a ≡ log_path b → (a.folder ≡ b.folder) × (a.task ≡ b.task)

-- No two tasks have one name. Of the tasks with scripts no two own one path or have one log file, and none owns an
-- input or a path that another one shares. No log file is an input, or owned or shared by a task with a script.
pub record AreApart (l : Listing) : Type 0 where
  pub ids : (j k : ℕ) → j < length l.parts → k < length l.parts → (part_at l j).package ≡ (part_at l k).package → (part_at l j).task ≡ (part_at l k).task → j ≡ k
  pub outs : (j k : ℕ) → j ≢ k → has_script (part_at l j) ≡ true → has_script (part_at l k) ≡ true → (path : Path) → takes (part_at l j).outs path ≡ true
      → takes (part_at l k).outs path ≡ false
  pub shared : (j k : ℕ) → j ≢ k → has_script (part_at l j) ≡ true → has_script (part_at l k) ≡ true → (path : Path) → takes (part_at l j).outs path ≡ true
      → shares (part_at l k).outs path ≡ false
  pub inputs : (j : ℕ) → has_script (part_at l j) ≡ true → (path : Path) → takes (part_at l j).outs path ≡ true → names l.parts path ≡ false
  pub logs : (j k : ℕ) → j ≢ k → has_script (part_at l j) ≡ true → has_script (part_at l k) ≡ true → log_path (part_at l j) ≢ log_path (part_at l k)
  pub log_inputs : (j : ℕ) → has_script (part_at l j) ≡ true → names l.parts (log_path (part_at l j)) ≡ false
  pub log_outs : (j k : ℕ) → has_script (part_at l j) ≡ true → has_script (part_at l k) ≡ true → takes (part_at l j).outs (log_path (part_at l k)) ≡ false
  pub log_shared : (j k : ℕ) → has_script (part_at l j) ≡ true → has_script (part_at l k) ≡ true → shares (part_at l j).outs (log_path (part_at l k)) ≡ false
