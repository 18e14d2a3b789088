use Rattle.std.proofs.Common.{◌==◌, ◌-◌, ◌∙◌, sym, get_or}
use Rattle.std.proofs.lemmas.Bool.{or_left, or_right, eq-eqb}
use Rattle.run_laws.specs.Ancestors.{reaches}
use Rattle.run_laws_tests.proofs.Walking.{reaches-most, any_drop, any_over}
use Rattle.run_laws_tests.proofs.program.+reaches.Goals as goal
use Rattle.run_laws_tests.proofs.program.+reaches.Goals.{then-dep-to-via-then-dep-to, then-dep-to-via-else-dep-to+then-reaches}

pub returns-then-dep-to : goal.returns-then-dep-to
returns-then-dep-to t c =
    let d = get_or c.deps_at-dep-items.result.now c.loop-dep.dep-index 0 in
    sym
    (reaches-most c.args.listing.now c.args.most c.args.from c.args.to c.if-most-eq0.false
    ∙ c.loop-dep.invariant
    ∙ any_drop _ c.deps_at-dep-items.result.now c.loop-dep.dep-index c.loop-dep-test.true
    (elim c.then-dep-to.branch [
      | then-dep-to-via-then-dep-to w ↦ or_left (d == c.args.to) (reaches c.args.listing.now (c.args.most - 1) d c.args.to) (eq-eqb d c.args.to w.if-dep-to.true)
      | then-dep-to-via-else-dep-to+then-reaches w ↦ or_right (d == c.args.to) (reaches c.args.listing.now (c.args.most - 1) d c.args.to) (sym w.reaches.ensures ∙ w.if-reaches.true)
    ]))

pub returns : goal.returns
returns t c =
    sym
    (reaches-most c.args.listing.now c.args.most c.args.from c.args.to c.if-most-eq0.false
    ∙ c.loop-dep.invariant
    ∙ any_over _ c.deps_at-dep-items.result.now c.loop-dep.dep-index c.loop-dep-test.false)
