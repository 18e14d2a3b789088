-- What a dry run says of a task (Turborepo docs, "run": `--dry`).
use Rattle.std.specs.Prelude.{ℕ, List, ◌++◌, Option, Some, None, codes}
use Rattle.turbo_config.specs.declared.task_id.TaskId.{TaskId}
use Rattle.page.specs.Tasks.{task_name, joined}
use Rattle.page.specs.declared.dry.DryMark.{DryMark}
use Rattle.page.specs.declared.dry.DryMark.TheVariants.{Hit, Miss, Bypass, NoScript}

abbrev pub held_word : DryMark → List ℕ
held_word Hit = codes "HIT"
held_word Miss = codes "MISS"
held_word Bypass = codes "BYPASS"
held_word NoScript = codes "NONE"

-- the task's own script
abbrev pub script_text : Option (List ℕ) → List ℕ
script_text (Some script) = script
script_text None = codes "<NONEXISTENT>"

-- a key with its value, behind two blanks
abbrev pub key_line : List ℕ → List ℕ → List ℕ
key_line key value = codes "  " ++ (key ++ (codes " = " ++ (value ++ codes "\n")))

abbrev pub dry_block_text : TaskId → List ℕ → DryMark → Option (List ℕ) → List TaskId → List ℕ
dry_block_text task print held script deps =
    task_name task ++ (codes "\n" ++ (key_line (codes "hash") print ++ (key_line (codes "cache") (held_word held) ++ (key_line (codes "command") (script_text script) ++ key_line (codes "dependencies") (joined (codes ", ") deps)))))
