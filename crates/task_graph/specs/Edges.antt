-- What a task depends on (Turborepo, "Configuring turbo.json", "dependsOn").
use Rattle.std.specs.Prelude.{ℕ, ◌&&◌, Bool, false, not, if◌then◌else◌, List, [], ◌∷◌, ◌++◌, Option, Some, None, map, filter, find, drop}
use Rattle.turbo_config.specs.declared.task_id.TaskId.{TaskId}
use Rattle.turbo_config.specs.declared.entry.TaskDef.{TaskDef}
use Rattle.turbo_config.specs.Names.{begins_caret}
use Rattle.task_definitions.specs.Setup.{Setup, task_def, ends_in}
use Rattle.workspaces.specs.declared.member.Package.{Package}
use Rattle.workspaces.specs.Edges.{has_edge}
use Rattle.workspaces.specs.Lists.{ascending}
use Rattle.workspaces.specs.Space.{Space, owner_named}
use Rattle.task_graph.specs.declared.edges.Row.{Row}
use Rattle.task_graph.specs.Ids.{id_cmp, task_id}
use Rattle.task_graph.specs.Tasks.{has_def, is_task, is_full, full_id}

-- the packages that an owner depends on
abbrev pub needed_by : Space → Option Package → List Package
needed_by space None = []
needed_by space (Some member) = filter (has_edge member) space.packages

-- the task of that name in each package that an owner depends on, where it has a definition
unfoldable pub upstream : Space → Setup → List ℕ → List ℕ → List TaskId
upstream space config pkg name = filter (has_def config) (map (λ member. task_id member.name name) (needed_by space (owner_named space pkg)))

-- the task, if it passes
abbrev pub only : (TaskId → Bool) → TaskId → List TaskId
only test id = if test id then id ∷ [] else []

-- what one text of `dependsOn` stands for: `^task` for the task in each package that this one depends on; `package#task` for
-- that task, one of the root among them; `task` for the task of the same package
unfoldable pub text_tasks : Space → Setup → TaskId → List ℕ → List TaskId
text_tasks space config id text =
    if begins_caret text then upstream space config id.«package» (drop 1 text) else
    (if is_full text then only (is_task space config) (full_id text) else only (has_def config) (task_id id.«package» text))

-- the text stands for nothing, and is refused: `^task` may stand for nothing, and so may `task` where some other package has it
-- by a key `package#task` of the root
unfoldable pub is_refused : Space → Setup → TaskId → List ℕ → Bool
is_refused space config id text =
    if begins_caret text then false else
    (if is_full text then not (is_task space config (full_id text)) else not (has_def config (task_id id.«package» text)) && not (ends_in config.root text))

-- the texts of its `dependsOn`
abbrev pub texts_of : Option TaskDef → List (List ℕ)
texts_of None = []
texts_of (Some def) = def.depends_on

unfoldable pub depends_on : Setup → TaskId → List (List ℕ)
depends_on config id = texts_of (task_def config id.«package» id.task)

abbrev pub tasks_of : Space → Setup → TaskId → List (List ℕ) → List TaskId
tasks_of space config id [] = []
tasks_of space config id (text ∷ texts) = text_tasks space config id text ++ tasks_of space config id texts

-- the tasks that a task depends on, ascending, each once
unfoldable pub edges : Space → Setup → TaskId → List TaskId
edges space config id = ascending id_cmp (tasks_of space config id (depends_on config id))

-- the first text of its `dependsOn` that is refused
unfoldable pub first_refused : Space → Setup → TaskId → Option (List ℕ)
first_refused space config id = find (is_refused space config id) (depends_on config id)

abbrev pub row_of : Space → Setup → TaskId → Row
row_of space config id = record { deps = edges space config id; refused = first_refused space config id }
