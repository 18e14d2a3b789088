use Rattle.std.proofs.Common.{◌≡◌, [], map, length}
use Rattle.cache_api.specs.Hits.{each_before}
use Rattle.artifact_reader.proofs.artifact.ascends.Given as goal

abbrev pub invariant-loop-file : goal.invariant-loop-file
invariant-loop-file l = each_before [] (map (λ file. file.path) l.fn.files) ≡ each_before l.last (map (λ file. file.path) l.rest)

abbrev pub decreases-loop-file : goal.decreases-loop-file
decreases-loop-file l = length l.rest
