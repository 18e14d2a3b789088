-- What stands between two runs: in the definitions, and in the devices in memory.
use Rattle.std.specs.Prelude.{ℕ, List, []}
use Rattle.rel_path.specs.Files.{FileMap}
use Rattle.tree_dev.specs.declared.sink.MemSink.{MemSink}
use Rattle.store_dev.specs.MemStore.{bytes_of}
use Rattle.store_dev.specs.declared.memory.MemStore.{MemStore}
use Rattle.spawn_dev.specs.MemWorld.{state_of, runs_of}
use Rattle.spawn_dev.specs.declared.command.Step.{Step}
use Rattle.spawn_dev.specs.declared.world.MemWorld.{MemWorld}
use Rattle.store_answers.specs.Stores.{Stores, stores_of}
use Rattle.run_orders.specs.Moments.{OrderMoment, StoreFiles}

-- the files, the starts and ends of commands so far, the bytes of the stores, what the runs
-- printed, and the lines that tell of them
pub record State : Type 0 where
  pub files : FileMap
  pub steps : List Step
  pub stores : Stores
  pub printed : List ℕ
  pub lines : List ℕ

-- the stores of a run: these two, an empty second one, and an empty shared file
abbrev pub files_in : State → StoreFiles
files_in state = record { local = state.stores; second = []; shared = []; coming = [] }

-- what a run sees of it
abbrev pub moment_in : State → OrderMoment
moment_in state = record {
  files = state.files;
  steps = state.steps;
  held = files_in state;
  printed = state.printed;
}

-- what these devices hold, and these lines
abbrev pub state_at : MemWorld → MemStore → MemStore → MemSink → List ℕ → State
state_at world store spare pages lines = record {
  files = (state_of world).files;
  steps = (runs_of world).steps;
  stores = stores_of (bytes_of store) (bytes_of spare);
  printed = pages.written.items;
  lines = lines;
}
