-- The tasks that the words of a command line name (Turborepo, "turbo run").
use Rattle.std.specs.Prelude.{ℕ, Bool, not, if◌then◌else◌, List, [], ◌∷◌, ◌++◌, length, Result, Ok, Err}
use Rattle.turbo_config.specs.declared.task_id.TaskId.{TaskId}
use Rattle.task_definitions.specs.Setup.{Setup, is_name}
use Rattle.workspaces.specs.Space.{Space, owners}
use Rattle.task_graph.specs.declared.error.GraphErr.{GraphErr}
use Rattle.task_graph.specs.declared.error.GraphErr.TheVariants.{NoSuchTask}
use Rattle.task_graph.specs.Tasks.{tasks_in, is_task, is_full, full_id}

-- the owners whose tasks a word `task` names: the selected packages and, where no filter stands, the root
abbrev pub chosen : Space → List ℕ → Bool → List ℕ
chosen space selected all = if all then selected ++ length space.packages ∷ [] else selected

-- `package#task` names that task, one of the root among them; another word names the task of that name of each of these owners
abbrev pub tasks_by : Space → Setup → List ℕ → List ℕ → List TaskId
tasks_by space config places word = if is_full word then full_id word ∷ [] else tasks_in (owners space) config places word

-- the tasks that a word names; `all` says that no filter stands
unfoldable pub word_tasks : Space → Setup → List ℕ → Bool → List ℕ → List TaskId
word_tasks space config selected all word = tasks_by space config (chosen space selected all) word

-- the word names nothing that the repository has
unfoldable pub is_unknown : Space → Setup → List ℕ → Bool
is_unknown space config word = if is_full word then not (is_task space config (full_id word)) else not (is_name config word)

abbrev pub and_more : List TaskId → Result (List TaskId) GraphErr → Result (List TaskId) GraphErr
and_more tasks (Ok more) = Ok (tasks ++ more)
and_more tasks (Err fault) = Err fault

-- the tasks of all words, or the first that names nothing
abbrev pub entry_tasks : Space → Setup → List ℕ → Bool → List (List ℕ) → Result (List TaskId) GraphErr
entry_tasks space config selected all [] = Ok []
entry_tasks space config selected all (word ∷ words) =
    if is_unknown space config word then Err (NoSuchTask word)
    else and_more (word_tasks space config selected all word) (entry_tasks space config selected all words)
