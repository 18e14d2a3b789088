-- The end of a command, and what is kept of it.
use Rattle.std.specs.Prelude.{ℕ, Bool, List}
use Rattle.rel_path.specs.Files.{FileMap}
use Rattle.cache_api.specs.Pairs.{Pair}
use Rattle.page.specs.declared.blocks.Note.{Note}
use Rattle.spawn_dev.specs.declared.command.Ended.{Ended}
use Rattle.run_laws.specs.Ancestors.{part_at}
use Rattle.run_laws.specs.Keys.{key_of}
use Rattle.run_laws.specs.Worlds.{logged}
use Rattle.run_plan.specs.declared.plan.Plan.{Plan}
use Rattle.run_plan.specs.Results.{KeptAs}
use Rattle.run_plan.specs.StoryLaws.{KeptIf, to_put}
use Rattle.task_devices.specs.Keeping.{MayBeKept}

-- these files, with the log of the end
abbrev pub with_log : Plan → Ended → FileMap → FileMap
with_log plan end files = logged (part_at plan.listing end.place) end.log files

-- what came of the result of the end: it was kept for the reason that the note gives, or is not to
-- be put
abbrev pub IsKeptOf : Plan → Ended → Bool → FileMap → List Pair → ℕ → List Pair → Note → Type 0
IsKeptOf plan end sound files before room after note =
    KeptIf (to_put plan sound end.place end.status)
    (KeptAs (with_log plan end files) (part_at plan.listing end.place).outs plan.limit
    (key_of plan.listing end.place) end.log before room after note) note before after

-- its result was put behind these pairs or not
abbrev pub MayBeKeptOf : Plan → Ended → Bool → FileMap → List Pair → List Pair → Type 0
MayBeKeptOf plan end sound files before after =
    MayBeKept (to_put plan sound end.place end.status)
    (with_log plan end files) (part_at plan.listing end.place).outs plan.limit
    (key_of plan.listing end.place) end.log before after
