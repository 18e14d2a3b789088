-- A whole run over files and a store, move by move, in whatever order commands end (Turborepo docs, "Running
-- tasks": tasks run as soon as those that they depend on are done).
use Rattle.std.specs.Prelude.{◌≡◌, ◌≢◌, ℕ, ◌<◌, ◌==◌, Bool, true, false, List, [], ◌∷◌, ◌++◌, map, length, slice_get, Some, if◌then◌else◌}
use Rattle.std.specs.List.{AllByRecursion}
use Rattle.rel_path.specs.Paths.{Path}
use Rattle.rel_path.specs.Files.{FileMap, file_at, over}
use Rattle.listing.specs.declared.part.Listing.{Listing}
use Rattle.run_core.specs.declared.states.Mode.{Mode}
use Rattle.spawn_dev.specs.declared.effect.Effect.{Effect}
use Rattle.run_laws.specs.declared.outcome.Outcome.{Outcome}
use Rattle.run_laws.specs.declared.outcome.Outcome.TheVariants.{Skipped, Passed, Done}
use Rattle.run_laws.specs.Ancestors.{part_at, has_script, is_above}
use Rattle.run_laws.specs.Closures.{names}
use Rattle.run_laws.specs.Valid.{IsValid}
use Rattle.run_laws.specs.Effects.{Book}
use Rattle.spawn_dev.specs.Effects.{IsWellBehaved, no_effect}
use Rattle.run_laws.specs.Clean.{clean, outcome_in}
use Rattle.cache_api.specs.Artifacts.{Artifact}
use Rattle.cache_api.specs.Pairs.{Pair}
use Rattle.run_laws.specs.Keys.{IsStorable}
use Rattle.run_laws.specs.Pairs.{IsGood, due_pair, Adds}
use Rattle.run_laws.specs.declared.mark.Mark.{Mark}
use Rattle.run_laws.specs.declared.mark.Mark.TheVariants.{Hit}
use Rattle.run_laws.specs.Marks.{found_for, mark, is_to_run}
use Rattle.run_laws.specs.Plans.{AreApart}
use Rattle.run_laws.specs.Worlds.{Stages, seen_in, logged, is_finished, is_well, put_at, Holds, Leaves}
use Rattle.globs.specs.OwnedFiles.{cleared, restored}
use Rattle.run_laws.specs.Worlds.Stage.{Untouched, Running, Finished}

-- ---- runs

-- What a run stands on: how it goes on after a failure, what commands do, its listing, for which tasks nothing is
-- looked up, and the files and pairs at the opening.
pub record Setting : Type 0 where
  pub mode : Mode
  pub book : Book
  pub listing : Listing
  pub bypasses : ℕ → Bool
  pub files : FileMap
  pub pairs : List Pair

-- How far it has come. What a running command will do is fixed at its start.
pub record Progress : Type 0 where
  pub stages : Stages
  pub files : FileMap
  pub pairs : List Pair
  pub will : ℕ → Effect

-- What happens next: a task without a script is passed over, an artifact is replayed, a command starts, or a
-- running one ends and its artifact is put into the store or not.
pub data Move : Type 0 where
  Pass : (place : ℕ) → Move
  Replay : (place : ℕ) (artifact : Artifact) → Move
  Start : (place : ℕ) → Move
  End : (place : ℕ) (stores : Bool) → Move

abbrev pub opening : Setting → Progress
opening s = record { stages = λ t. Untouched; files = s.files; pairs = s.pairs; will = λ t. no_effect }

-- all dependencies stand well
abbrev pub HasWellDeps : Setting → Progress → ℕ → Type 0
HasWellDeps s now t = AllByRecursion (λ d. is_well s.mode (now.stages d) ≡ true) (part_at s.listing t).deps

-- the mark of the task, by the store at the opening
abbrev pub mark_at : Setting → ℕ → Mark
mark_at s t = mark s.pairs (s.bypasses t) s.listing t

-- the task was not begun
pub record IsFresh (s : Setting) (now : Progress) (t : ℕ) : Type 0 where
  pub below : t < length s.listing.parts
  pub stage : now.stages t ≡ Untouched

-- When a move may come. An artifact is put only after status 0, where all ancestors stand with status 0 too.
abbrev pub Allows : Setting → Progress → Move → Type 0
Allows s now (Pass t) = IsFresh s now t × (has_script (part_at s.listing t) ≡ false) × HasWellDeps s now t
Allows s now (Replay t artifact) = IsFresh s now t × (has_script (part_at s.listing t) ≡ true) × (mark_at s t ≡ Hit) × (found_for s.pairs s.listing t ≡ Some artifact)
Allows s now (Start t) = IsFresh s now t × (is_to_run (part_at s.listing t) (mark_at s t) ≡ true) × ((a : ℕ) → is_above s.listing t a ≡ true → is_well s.mode (now.stages a) ≡ true)
Allows s now (End t stores) = (now.stages t ≡ Running) × (stores ≡ true → ((now.will t).status ≡ 0) × ((a : ℕ) → is_above s.listing t a ≡ true → now.stages a ≡ Finished 0))

-- the pairs with one more, or not
abbrev pub put_if : Bool → List Pair → Pair → List Pair
put_if stores pairs pair = if stores then pairs ++ pair ∷ [] else pairs

-- what it does
abbrev pub after : Setting → Progress → Move → Progress
after s now (Pass t) = record now { stages = put_at now.stages t (Finished 0) }
after s now (Replay t artifact) =
    record now {
      stages = put_at now.stages t (Finished 0);
      files = logged (part_at s.listing t) artifact.0 (restored (part_at s.listing t).outs artifact.1 now.files);
    }
after s now (Start t) =
    record now {
      stages = put_at now.stages t Running;
      files = cleared (part_at s.listing t).outs now.files;
      will = λ u. if u == t then s.book (seen_in s.listing t (cleared (part_at s.listing t).outs now.files)) else now.will u;
    }
after s now (End t stores) =
    record now {
      stages = put_at now.stages t (Finished (now.will t).status);
      files = logged (part_at s.listing t) (now.will t).log (over now.files (file_at (now.will t).files));
      pairs = put_if stores now.pairs (due_pair s.listing t (now.will t));
    }

-- these moves lead from here to there
abbrev pub Leads : Setting → Progress → List Move → Progress → Type 0
Leads s now [] last = now ≡ last
Leads s now (move ∷ moves) last = Allows s now move × Leads s (after s now move) moves last

-- ---- what holds of them

-- What is asked of a run: a valid listing of tasks that keep out of each other's way; commands that write their own
-- outputs alone, and in this run no more than a store can keep; good pairs, as earlier runs left them; the listing's inputs among the
-- files.
pub record IsReady (s : Setting) : Type 0 where
  pub valid : IsValid s.listing
  pub apart : AreApart s.listing
  pub behaved : IsWellBehaved s.book
  pub storable : IsStorable s.mode s.book s.listing
  pub good : IsGood s.book s.pairs
  pub inputs : (path : Path) → names s.listing.parts path ≡ true → s.files path ≡ file_at s.listing.files path

-- the places whose artifacts were put, in order of ends
abbrev pub puts_of : List Move → List ℕ
puts_of [] = []
puts_of (Pass t ∷ moves) = puts_of moves
puts_of (Replay t artifact ∷ moves) = puts_of moves
puts_of (Start t ∷ moves) = puts_of moves
puts_of (End t true ∷ moves) = t ∷ puts_of moves
puts_of (End t false ∷ moves) = puts_of moves

abbrev pub effect_in : Outcome → Effect
effect_in Skipped = no_effect
effect_in Passed = no_effect
effect_in (Done effect) = effect

-- the pair of a task by its clean outcome
abbrev pub clean_pair : Setting → ℕ → Pair
clean_pair s t = due_pair s.listing t (effect_in (outcome_in (clean s.mode s.book s.listing) t))

-- Where a run stands: the files hold what they are to hold, each running command will do what it does in the run
-- without a cache, and the pairs are those of the opening followed by the clean ones of the ends that were put,
-- which are due; so the pairs are good. Where nothing runs, the finished tasks have left their clean outcomes and
-- all else is as before.
pub record Stands (s : Setting) (moves : List Move) (now : Progress) : Type 0 where
  pub holds : Holds s.mode s.book s.listing s.files now.stages now.files
  pub will : (t : ℕ) → now.stages t ≡ Running → slice_get (clean s.mode s.book s.listing) t ≡ Some (Done (now.will t))
  pub pairs : now.pairs ≡ s.pairs ++ map (clean_pair s) (puts_of moves)
  pub adds : Adds s.book s.pairs now.pairs
  pub good : IsGood s.book now.pairs
  pub leaves : ((t : ℕ) → now.stages t ≢ Running) → Leaves s.mode s.book s.listing (λ t. is_finished (now.stages t)) s.files now.files

-- so it is after any moves
abbrev pub RunLaw : Type 0
RunLaw = (s : Setting) (moves : List Move) (last : Progress) → IsReady s → Leads s (opening s) moves last → Stands s moves last
