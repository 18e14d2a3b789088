use Rattle.std.proofs.Common.{◌≡◌, length}
use Rattle.cache_api.specs.Artifacts.{ascends, ascends_from}
use Rattle.cache_api.proofs.reading.ascends.Given as goal

abbrev pub invariant-loop-path : goal.invariant-loop-path
invariant-loop-path l = ascends l.fn.files ≡ ascends_from l.last l.rest

abbrev pub decreases-loop-path : goal.decreases-loop-path
decreases-loop-path l = length l.rest
