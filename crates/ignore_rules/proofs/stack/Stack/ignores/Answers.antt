use Rattle.std.proofs.Common.{◌∙◌, sym, arith}
use Rattle.std.proofs.Math.ListN.{drop_of_length-le}
use Rattle.ignore_rules.specs.Stacks.{rules_in}
use Rattle.ignore_rules.specs.Ignored.{is_ignored, left_out_below}
use Rattle.ignore_rules.proofs.Says.{left_out_at}
use Rattle.ignore_rules.proofs.stack.Stack.ignores.Goals as goal

pub returns-then-leaves_out : goal.returns-then-leaves_out
unfolding is_ignored
returns-then-leaves_out c =
    let path = c.args.path.now in
    let here = left_out_at (rules_in c.args.self.now) path c.loop-end.end (omega arith) in
    let out = sym c.leaves_out.ensures ∙ c.if-leaves_out.true in
    (sym (c.loop-end.invariant.1 ∙ (rw out at here)))

pub loop-end-preserved : goal.loop-end-preserved
loop-end-preserved c =
    let path = c.args.path.now in
    let here = left_out_at (rules_in c.args.self.now) path c.loop-end.end (omega arith) in
    let kept = sym c.leaves_out.ensures ∙ c.if-leaves_out.false in
    (omega arith, c.loop-end.invariant.1 ∙ (rw kept at here))

pub returns : goal.returns
unfolding is_ignored left_out_below
returns c =
    let path = c.args.path.now in
    let none = drop_of_length-le path {i = c.loop-end.end} (omega arith) in
    (sym (rw none at c.loop-end.invariant.1))
