-- The summary of a run (Turborepo docs, "run": tasks, cached, failed).
use Rattle.std.specs.Prelude.{ℕ, List, [], ◌∷◌, ◌++◌, codes, decimal}
use Rattle.turbo_config.specs.declared.task_id.TaskId.{TaskId}
use Rattle.page.specs.Tasks.{joined}

abbrev pub tasks_line : ℕ → ℕ → List ℕ
tasks_line good total = codes " Tasks:    " ++ (decimal good ++ (codes " successful, " ++ (decimal total ++ codes " total\n")))

abbrev pub cached_line : ℕ → ℕ → List ℕ
cached_line cached total = codes "Cached:    " ++ (decimal cached ++ (codes " cached, " ++ (decimal total ++ codes " total\n")))

-- the failed tasks, where there are any
abbrev pub failed_line : List TaskId → List ℕ
failed_line [] = []
failed_line (task ∷ tasks) = codes "Failed:    " ++ (joined (codes ", ") (task ∷ tasks) ++ codes "\n")

-- an empty line, and how the run went
abbrev pub summary_text : ℕ → ℕ → ℕ → List TaskId → List ℕ
summary_text good cached total failed = codes "\n" ++ (tasks_line good total ++ (cached_line cached total ++ failed_line failed))
