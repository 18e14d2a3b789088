use Rattle.cache_api.specs.Moments.{started}
use Rattle.cache_api.specs.Pairs.{IsPartSince}
use Rattle.shared_runs.specs.Shared.{state_of, moment_of, left_of}
use Rattle.shared_runs.specs.SharedLaws.{rests}
use Rattle.shared_runs.proofs.cache.SharedStoreCache.settle.Goals as goal

pub returns-clause-left : goal.returns-clause-left
returns-clause-left g c told =
    let s = c.args.self.now in
    started moment_of left_of s
    (λ image. IsPartSince (state_of s).lasting (state_of s).pairs image.pairs)
    (λ image left.
    rests s (λ b now. g.met.H.Shared.only_now s.turns.shared b now) image told c.requires left)
