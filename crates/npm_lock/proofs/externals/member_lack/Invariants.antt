use Rattle.std.proofs.Common.{◌≡◌, drop}
use Rattle.npm_lock.specs.Lacks.{least_after, beyond, member_lacks}
use Rattle.npm_lock.specs.Reach.{set_of}
use Rattle.npm_lock.proofs.externals.member_lack.Given as goal

abbrev pub invariant-loop-i : goal.invariant-loop-i
invariant-loop-i l =
    let further = beyond (set_of l.entries l.base) (set_of l.entries l.set) in
    least_after (member_lacks l.entries further (drop l.i l.entries)) l.least ≡ least_after (member_lacks l.entries further l.entries) l.initial.least
