use Rattle.std.proofs.Common.{◌≡◌, ◌++◌, map, filter, drop}
use Rattle.serde_json.specs.View.{view}
use Rattle.npm_lock.specs.Externals.{entry_text}
use Rattle.npm_lock.specs.Reach.{set_of}
use Rattle.npm_lock.proofs.lock.Lock.members.Given as goal

abbrev pub invariant-loop-i : goal.invariant-loop-i
invariant-loop-i l =
    l.pairs ++ map (λ e. (e.location, entry_text (view l.fn.self) e.location)) (filter (λ e. set_of l.entries l.set e.location) (drop l.i l.entries))
    ≡ map (λ e. (e.location, entry_text (view l.fn.self) e.location)) (filter (λ e. set_of l.entries l.set e.location) l.entries)
