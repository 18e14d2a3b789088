-- The prune law.
use Rattle.env_select.specs.Choice.{ChosenOnce}
use Rattle.prune_laws.specs.Laws.{PruneLaw}
use Rattle.prune_laws.proofs.Reading.{sound_of}
use Rattle.prune_laws.proofs.Running.{run_of}
use Rattle.prune_laws.proofs.Law.{task_closure}
use Rattle.pruned_files.specs.Pruned.{pruned_files, pruned_contents}

pub pruned_alike : ChosenOnce → PruneLaw
pruned_alike choice files contents targets p env whole part are i j id stands =
    task_closure choice files contents targets p env whole part (sound_of files contents are.means) are.pruning are.no_lock
    (run_of contents are.order env files whole are.plans) (run_of (pruned_contents contents p) are.other env (pruned_files p files) part are.plans_part) are.words
    i j id stands.kept.member stands.kept.is stands.kept.stays stands.scripted stands.here stands.there
