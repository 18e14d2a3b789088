-- The run without a cache: each task's outcome, in the order of the plan (Turborepo docs, "Running tasks", and
-- `--continue` of `turbo run`). It knows no store, no key, no number of commands at once and no order of ends.
use Rattle.std.specs.Prelude.{ℕ, zero, suc, Bool, true, false, not, ◌&&◌, ◌==◌, List, [], ◌∷◌, ◌++◌, map, length, slice_get, slice_index_or, Option, Some, None, if◌then◌else◌}
use Rattle.std.specs.List.{list_any}
use Rattle.rel_path.specs.Paths.{Path}
use Rattle.rel_path.specs.Files.{FileMap, file_at, over}
use Rattle.listing.specs.declared.part.Part.{Part}
use Rattle.listing.specs.declared.part.Listing.{Listing}
use Rattle.run_core.specs.declared.states.Mode.{Mode}
use Rattle.run_core.specs.declared.states.Mode.TheVariants.{Never, DependenciesSuccessful, Always}
use Rattle.run_laws.specs.declared.outcome.Outcome.{Outcome}
use Rattle.run_laws.specs.declared.outcome.Outcome.TheVariants.{Skipped, Passed, Done}
use Rattle.run_laws.specs.Picks.{pick}
use Rattle.run_laws.specs.Ancestors.{part_at, is_nil, is_above}
use Rattle.run_laws.specs.Closures.{names}
use Rattle.run_laws.specs.Effects.{Book}
use Rattle.spawn_dev.specs.Effects.{Seen, pair_eq}

-- ---- outcomes

-- a failure leaves out the tasks above it (`--continue`: in every mode but `always`)
abbrev pub skips : Mode → Bool
skips Never = true
skips DependenciesSuccessful = true
skips Always = false

-- the outcome of a dependency because of which a task is left out: it was left out itself, or it failed
abbrev pub is_bad : Option Outcome → Bool
is_bad None = false
is_bad (Some Skipped) = true
is_bad (Some Passed) = false
is_bad (Some (Done effect)) = not (effect.status == 0)

-- the files of an outcome
abbrev pub written : Outcome → List (Path × List ℕ)
written Skipped = []
written Passed = []
written (Done effect) = effect.files

-- ---- what a task sees

-- one of these parts uses the installed package
abbrev pub has_external : List Part → List ℕ × List ℕ → Bool
has_external parts e = list_any (λ part. list_any (pair_eq e) part.externals) parts

-- the files that these parts name
abbrev pub inputs_of : List Part → List (Path × List ℕ) → FileMap
inputs_of parts files = λ path. if names parts path then file_at files path else None

-- these files, and over them each list of files in turn, a later one over an earlier one
abbrev pub over_all : FileMap → List (List (Path × List ℕ)) → FileMap
over_all below [] = below
over_all below (files ∷ later) = over_all (over below (file_at files)) later

-- what a part sees, by the parts and the outcomes of its ancestors: the inputs of all of them, and over these the
-- files that the ancestors wrote, those of a later place over those of an earlier one
abbrev pub seen_by : List (Path × List ℕ) → Part → List Part → List Outcome → Seen
seen_by files part above outcomes =
    record {
      «package» = part.package;
      folder = part.folder;
      task = part.task;
      scripts = part.scripts;
      words = part.args;
      env = part.env;
      outs = part.outs;
      externals = has_external (part ∷ above);
      files = over_all (inputs_of (part ∷ above) files) (map written outcomes);
    }

-- what the task at place i sees, by the outcomes at the places
unfoldable pub seen : Listing → ℕ → List Outcome → Seen
seen l i outcomes = seen_by l.files (part_at l i) (pick (is_above l i) l.parts) (pick (is_above l i) outcomes)

-- ---- the run

-- Left out, where a dependency was left out or failed and the mode says so; else passed over, where the task has
-- no script; else what its command does.
unfoldable pub outcome : Mode → Book → Listing → ℕ → List Outcome → Outcome
outcome mode book l i outcomes =
    if skips mode && list_any (λ d. is_bad (slice_get outcomes d)) (part_at l i).deps then Skipped
    else if is_nil (part_at l i).scripts then Passed
    else Done (book (seen l i outcomes))

-- the outcomes at the first n places, each by those before it
abbrev pub clean_upto : Mode → Book → Listing → ℕ → List Outcome
clean_upto mode book l zero = []
clean_upto mode book l (suc n) = clean_upto mode book l n ++ outcome mode book l n (clean_upto mode book l n) ∷ []

-- the outcomes at all places
abbrev pub clean : Mode → Book → Listing → List Outcome
clean mode book l = clean_upto mode book l (length l.parts)

-- the outcome of a place in such a list
abbrev pub outcome_in : List Outcome → ℕ → Outcome
outcome_in outcomes i = slice_index_or outcomes i Skipped
