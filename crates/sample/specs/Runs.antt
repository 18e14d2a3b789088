-- The runs of a sample.
use Rattle.std.specs.Prelude.{◌≡◌, ◌≢◌, ◌<◌, ℕ, ◌-◌, true, false, List, [], ◌∷◌, ◌++◌, None}
use Rattle.std.specs.Prelude.{length, codes}
use Rattle.rel_path.specs.Files.{file_at}
use Rattle.cli_words.specs.declared.order.Access.{Access}
use Rattle.cli_words.specs.declared.order.KeepOn.TheVariants.{Never}
use Rattle.cli_words.specs.declared.order.RunOrder.{RunOrder}
use Rattle.spawn_dev.specs.Books.{effect_of}
use Rattle.spawn_dev.specs.Progress.{starts_in}
use Rattle.spawn_dev.specs.declared.book.Rule.{Rule}
use Rattle.refusals.specs.Refusals.{line_of, refusal_text}
use Rattle.refusals.specs.declared.refusal.Refusal.{Refusal}
use Rattle.answers.specs.declared.answer.Answer.{Answer}
use Rattle.answers.specs.declared.answer.Answer.TheVariants.{OutOfMemory}
use Rattle.answers.specs.Answers.{IfDone, IfRefused, exit_status}
use Rattle.answers.specs.Stops.{IfFault}
use Rattle.store_answers.specs.Stores.{stores_of}
use Rattle.run_orders.specs.Asking.{IsRefusedRunOrder}
use Rattle.run_orders.specs.Outcomes.{RanOrder}
use Rattle.run_orders.specs.Stops.{StoppedRun}
use Rattle.sample_repository.specs.Changes.{changed_at}
use Rattle.sample_repository.specs.Repository.{sample_files, sample_rules, source_path}
use Rattle.sample.specs.RunLines.{size_line, run_line}
use Rattle.sample.specs.States.{State, files_in, moment_in}

-- the local store alone
abbrev pub local_alone : Access
local_alone = record {
  local_reads = true;
  local_puts = true;
  second_reads = false;
  second_puts = false;
}

-- the words of each run
abbrev pub build_words : List (List ℕ)
build_words = codes "run" ∷ codes "build" ∷ codes "--concurrency=4" ∷ []

-- what these words ask for
abbrev pub build_order : RunOrder
build_order = record {
  tasks = codes "build" ∷ [];
  filters = [];
  args = [];
  width = 4;
  force = false;
  dry = false;
  keep_on = Never;
  logs = None;
  env_word = None;
  access = local_alone;
  shared = false;
}

-- the made repository and two empty stores, before the first run
abbrev pub first_state : ℕ → State
first_state n = record {
  files = file_at (sample_files n);
  steps = [];
  stores = stores_of [] [];
  printed = [];
  lines = size_line n;
}

-- The source of a package begins with another byte, and no command was started since. All else is
-- as it was.
abbrev pub changed : ℕ → ℕ → State → State
changed number first old = record {
  files = changed_at (source_path number) first old.files;
  steps = [];
  stores = old.stores;
  printed = old.printed;
  lines = old.lines;
}

-- how many commands were started between two states
abbrev pub started_between : State → State → ℕ
started_between old new = length (starts_in new.steps) - length (starts_in old.steps)

-- What a run of the words, without an environment, makes of one state where commands do what the
-- rules say, and what it answers: it came to its end, was refused or was stopped, each as
-- `run_orders` says it of every run.
pub record Runs (rules : List Rule) (old new : State) (answer : Answer) : Type 0 where
  pub ran : IfDone answer
      (RanOrder (effect_of rules) build_order [] (Unit {0}) (moment_in old) (moment_in new))
  pub refused : IfRefused answer (IsRefusedRunOrder build_order [] old.files (files_in old))
  pub stopped : IfFault answer
      (StoppedRun build_order (effect_of rules) [] (Unit {0}) (moment_in old) (moment_in new))

-- the bytes of a store stay, but at most nine may become an empty store
abbrev pub IsKept : List ℕ → List ℕ → Type 0
IsKept old new = 9 < length old → new ≡ old

-- A run that was refused leaves all as it was, but that the line of the refusal was printed, and
-- that a store was perhaps begun.
pub record LeavesAlone (old new : State) (reason : Refusal) : Type 0 where
  pub files : new.files ≡ old.files
  pub steps : new.steps ≡ old.steps
  pub store : IsKept old.stores.store new.stores.store
  pub spare : IsKept old.stores.spare new.stores.spare
  pub printed : new.printed ≡ old.printed ++ line_of (refusal_text reason)

-- A run of the words that had this exit status. One for which memory was wanting has none.
pub record RunsTo (rules : List Rule) (old new : State) (status : ℕ) : Type 0 where
  pub answer : Answer
  pub remembered : answer ≢ OutOfMemory
  pub runs : Runs rules old new answer
  pub kept : IfRefused answer (LeavesAlone old new)
  pub status_is : status ≡ exit_status answer

-- a run of this number in a repository of n packages, and a line more that tells what it did
pub record IsTold (n run : ℕ) (old new : State) : Type 0 where
  pub status : ℕ
  pub runs : RunsTo (sample_rules n) old new status
  pub told : new.lines ≡ old.lines ++ run_line n run (started_between old new) status
