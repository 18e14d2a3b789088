use Rattle.std.proofs.Common.{◌∙◌, ◌++◌, ◌∷◌, [], sym, ap, arith}
use Rattle.run_core.proofs.Members.{in-at}
use Rattle.run_core.proofs.Adding.{added}
use Rattle.run_core.proofs.tables.add_dependent.Goals as goal

pub bounds-lists-d : goal.bounds-lists-d
bounds-lists-d c = omega (arith, c.requires _ (in-at c.args.deps.now c.loop-d.d-index c.loop-d-test.true), c.loop-d.auto.lists)

pub loop-d-preserved : goal.loop-d-preserved
loop-d-preserved c =
    let inside = c.requires _ (in-at c.args.deps.now c.loop-d.d-index c.loop-d-test.true) in
    added c.args.lists.now c.loop-d.lists c.args.deps.now c.loop-d.d-index c.args.task c.index-lists-d.result c.push.new.self c.loop-d-test.true (omega (arith, inside, c.loop-d.auto.lists)) c.index-lists-d.is (c.in_ok-push.ensures.pushed ∙ ap (λ xs. xs ++ c.args.task ∷ []) (sym c.index-lists-d.is)) c.loop-d.invariant
