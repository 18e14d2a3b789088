use Rattle.std.proofs.Common.{rules, ◌≡◌, sym, subst, arith}
use Rattle.store_dev.specs.Memory.{origin, ImagesFrom, crash_of}
use Rattle.store_dev.proofs.Crashed.{synced_le, crash_left}
use Rattle.store_dev.proofs.memory.MemStore.crash.Goals as goal

pub split_at-requires : goal.split_at-requires
split_at-requires c =
    let m = c.args.self.now in
    omega (arith, m.last_sync, synced_le m.steps.items)

pub returns-clause-allowed : goal.returns-clause-allowed
returns-clause-allowed c =
    let m = c.args.self.now in
    let start = origin m.bytes.items m.first.items m.steps.items in
    let is : c.over.result.bytes.items ≡ crash_of c.args.fill c.args.keep start m.steps.items = search rules in
    subst (ImagesFrom start m.steps.items) (sym is) (crash_left c.args.fill c.args.keep start m.steps.items)
