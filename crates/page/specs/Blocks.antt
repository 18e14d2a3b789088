-- The lines of a task in a run (Turborepo docs, "run": logs behind the names of their tasks, and `--output-logs`).
use Rattle.std.specs.Prelude.{ℕ, ◌==◌, Bool, true, false, not, if◌then◌else◌, List, [], ◌∷◌, ◌++◌, length, codes, decimal}
use Rattle.std.specs.List.{slice_split}
use Rattle.turbo_config.specs.declared.task_id.TaskId.{TaskId}
use Rattle.turbo_config.specs.declared.entry.LogMode.{LogMode}
use Rattle.turbo_config.specs.declared.entry.LogMode.TheVariants as mode
use Rattle.page.specs.Tasks.{path_text}
use Rattle.page.specs.declared.blocks.Mark.{Mark}
use Rattle.page.specs.declared.blocks.Mark.TheVariants.{Hit, Miss, Bypass}
use Rattle.page.specs.declared.blocks.Note.{Note}
use Rattle.page.specs.declared.blocks.Note.TheVariants as note
use Rattle.page.specs.declared.blocks.Shown.{Shown}
use Rattle.page.specs.declared.blocks.Shown.TheVariants.{All, WithoutLog, FirstLine, Nothing}

-- which lines a mode shows, by where the result comes from and whether the task failed
abbrev pub lines_shown : LogMode → Mark → Bool → Shown
lines_shown mode.Full mark failed = All
lines_shown mode.HashOnly mark failed = WithoutLog
lines_shown mode.NewOnly Hit failed = FirstLine
lines_shown mode.NewOnly Miss failed = All
lines_shown mode.NewOnly Bypass failed = All
lines_shown mode.ErrorsOnly mark true = All
lines_shown mode.ErrorsOnly mark false = Nothing
lines_shown mode.Silent mark failed = Nothing

abbrev pub is_failure : ℕ → Bool
is_failure status = not (status == 0)

-- what stands in front of each line of a task
abbrev pub front_of : TaskId → List ℕ
front_of task = task.package ++ (codes ":" ++ (task.task ++ codes ": "))

abbrev pub mark_words : Mark → List ℕ
mark_words Hit = codes "cache hit, replaying logs"
mark_words Miss = codes "cache miss, executing"
mark_words Bypass = codes "cache bypass, force executing"

-- where the result comes from, with the fingerprint
abbrev pub mark_line : List ℕ → Mark → List ℕ → List ℕ
mark_line front mark print = front ++ (mark_words mark ++ (codes " " ++ (print ++ codes "\n")))

abbrev pub is_newline : ℕ → Bool
is_newline b = b == 10

-- all texts but the last where that is empty
abbrev pub but_empty_last : List (List ℕ) → List (List ℕ)
but_empty_last [] = []
but_empty_last (line ∷ []) = if length line == 0 then [] else line ∷ []
but_empty_last (line ∷ next ∷ lines) = line ∷ but_empty_last (next ∷ lines)

-- a log's lines without their newlines; what stands behind the last newline is a line unless it is empty
abbrev pub lines_of : List ℕ → List (List ℕ)
lines_of log = but_empty_last (slice_split is_newline log)

-- each line behind the front
abbrev pub put_behind : List ℕ → List (List ℕ) → List ℕ
put_behind front [] = []
put_behind front (line ∷ lines) = front ++ (line ++ (codes "\n" ++ put_behind front lines))

abbrev pub log_lines : List ℕ → List ℕ → List ℕ
log_lines front log = put_behind front (lines_of log)

-- the status of a task that failed
abbrev pub failure_line : List ℕ → ℕ → List ℕ
failure_line front status = if status == 0 then [] else front ++ (codes "failed with status " ++ (decimal status ++ codes "\n"))

-- why a result was not stored
abbrev pub note_line : List ℕ → Note → List ℕ
note_line front note.Stored = []
note_line front (note.Shared path) = front ++ (codes "not stored, shared " ++ (path_text path ++ codes "\n"))
note_line front (note.Large path) = front ++ (codes "not stored, large " ++ (path_text path ++ codes "\n"))
note_line front note.Full = front ++ codes "not stored, store full\n"

-- of the four groups of lines those that are shown
abbrev pub shown_of : Shown → List ℕ → List ℕ → List ℕ → List ℕ → List ℕ
shown_of All first log failure note = first ++ (log ++ (failure ++ note))
shown_of WithoutLog first log failure note = first ++ (failure ++ note)
shown_of FirstLine first log failure note = first
shown_of Nothing first log failure note = []

-- the four groups of a task's lines, as its mode shows them
abbrev pub block_text : TaskId → Mark → List ℕ → List ℕ → ℕ → Note → LogMode → List ℕ
block_text task mark print log status note mode = shown_of (lines_shown mode mark (is_failure status)) (mark_line (front_of task) mark print) (log_lines (front_of task) log) (failure_line (front_of task) status) (note_line (front_of task) note)
