-- How a task is marked (Turborepo docs, "Caching": cache hit and cache miss; `--force` of `turbo run` and `cache`
-- of `turbo.json`).
use Rattle.std.specs.Prelude.{ℕ, Bool, true, false, not, ◌&&◌, List, Option, is_some, if◌then◌else◌}
use Rattle.listing.specs.declared.part.Part.{Part}
use Rattle.listing.specs.declared.part.Listing.{Listing}
use Rattle.run_laws.specs.declared.mark.Mark.{Mark}
use Rattle.run_laws.specs.declared.mark.Mark.TheVariants.{Hit, Miss, Bypass}
use Rattle.run_laws.specs.Ancestors.{part_at, has_script}
use Rattle.cache_api.specs.Artifacts.{Artifact}
use Rattle.cache_api.specs.Pairs.{Pair}
use Rattle.cache_api.specs.Reading.{artifact_in}
use Rattle.cache_api.specs.Found.{found}
use Rattle.run_laws.specs.Keys.{key_of}

-- what these pairs hold for the task at place i
abbrev pub found_for : List Pair → Listing → ℕ → Option Artifact
found_for pairs l i = found artifact_in (key_of l i) (part_at l i).outs pairs

-- the mark of a task with a script; nothing is looked up under `--force` and for a task with `"cache": false`
abbrev pub mark : List Pair → Bool → Listing → ℕ → Mark
mark pairs bypasses l i = if bypasses then Bypass else if is_some (found_for pairs l i) then Hit else Miss

abbrev pub is_hit : Mark → Bool
is_hit Hit = true
is_hit Miss = false
is_hit Bypass = false

-- the command of the task is to run: it has a script and is no hit
abbrev pub is_to_run : Part → Mark → Bool
is_to_run part m = has_script part && not (is_hit m)
