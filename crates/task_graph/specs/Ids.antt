-- Tasks in the order of their packages and then of their names.
use Rattle.std.specs.Prelude.{ℕ, Bool, List}
use Rattle.std.specs.List.{list_any}
use Rattle.std.specs.declared.cmp.Ordering.{Ordering}
use Rattle.std.specs.Ordering.{ordering_then}
use Rattle.std.specs.BTreeMap.{is_at}
use Rattle.rel_path.specs.Paths.{name_cmp}
use Rattle.turbo_config.specs.declared.task_id.TaskId.{TaskId}

abbrev pub id_cmp : TaskId → TaskId → Ordering
id_cmp a b = ordering_then (name_cmp a.«package» b.«package») (name_cmp a.task b.task)

abbrev pub task_id : List ℕ → List ℕ → TaskId
task_id pkg task = record { «package» = pkg; task = task }

-- the task is one of these
abbrev pub has : List TaskId → TaskId → Bool
has ids id = list_any (is_at (id_cmp id)) ids
