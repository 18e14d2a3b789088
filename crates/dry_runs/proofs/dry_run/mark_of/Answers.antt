use Rattle.cache_api.specs.Keys.{text_of}
use Rattle.dry_runs.proofs.LastFacts.{none-lacks}
use Rattle.dry_runs.proofs.dry_run.mark_of.Goals as goal

pub look_up-requires-clause-due : goal.look_up-requires-clause-due
look_up-requires-clause-due g c told =
    none-lacks (g.C.Cache.state c.args.cache.now) (text_of c.args.key) (c.requires.last told)
