use Rattle.std.proofs.Common.{◌≡◌, drop}
use Rattle.capture.specs.Owned.{first_shared}
use Rattle.capture.proofs.taking.first_shared.Given as goal

abbrev pub invariant-loop-path : goal.invariant-loop-path
invariant-loop-path l = first_shared l.outs (drop l.path-index l.paths) ≡ first_shared l.outs l.paths
