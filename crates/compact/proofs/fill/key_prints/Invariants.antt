use Rattle.std.proofs.Common.{◌≡◌, map, take}
use Rattle.sha2.specs.Sha256.{sha256}
use Rattle.compact.proofs.fill.key_prints.Given as goal

-- the fingerprints of the keys so far
abbrev pub invariant-loop-pair : goal.invariant-loop-pair
invariant-loop-pair l =
    map (λ key. sha256 key.now) l.keys.items
    ≡ map (λ pair. sha256 pair.key) (take l.pair-index l.held)
