use Rattle.std.proofs.Common.{sym, ◌∙◌, drop, arith}
use Rattle.std.proofs.lemmas.Bool.{false≢true}
use Rattle.std.proofs.lemmas.List.{nil_from_length}
use Rattle.wildcards.specs.Spells.{spells}
use Rattle.wildcards.proofs.Decides.{same_test, after_some_decides, spells_decides}
use Rattle.wildcards.proofs.Walk.{Passes, at_run, at_one, at_return, at_end, all_runs, stuck_none, stuck_one}
use Rattle.wildcards.proofs.matching.spells_somewhere.Goals as goal
use Rattle.wildcards.proofs.matching.spells_somewhere.Goals.{in_default-split_first-via-in-Some-2+else-takes, in_default-split_first-via-in_default-split_first}

pub loop-element-preserved-then-is_run : goal.loop-element-preserved-then-is_run
loop-element-preserved-then-is_run g c =
    let first = c.in-Some-split_first.ensures.cases in
    let inv = c.loop-element.invariant in
    let w = rw first.0 at inv.0 in
    (at_run g.I.Item.is_run (Passes g.I.Item.takes) _ _ _ _ _ _ (sym c.if-is_run.ensures) w, omega arith, omega arith)

pub loop-element-preserved-then-takes : goal.loop-element-preserved-then-takes
loop-element-preserved-then-takes g c =
    let first = c.in-Some-split_first.ensures.cases in
    let inv = c.loop-element.invariant in
    let w = rw (first.0, c.in-Some.ensures) at inv.0 in
    (rw c.behind-rest.ensures (at_one g.I.Item.is_run (Passes g.I.Item.takes) _ _ _ _ _ _ _ (sym c.if-is_run.ensures) (sym c.if-takes.ensures) w), omega arith, omega arith)

pub loop-element-preserved : goal.loop-element-preserved
loop-element-preserved g c =
    let inv = c.loop-element.invariant in
    let w = rw (c.in-Some.ensures, c.in-Some-first.ensures) at inv.0 in
    elim c.in_default-split_first.branch [
      | in_default-split_first-via-in-Some-2+else-takes arm ↦
          let w' = rw arm.in-Some-split_first.ensures.cases.0 at w in
          let never = stuck_one g.I.Item.is_run (Passes g.I.Item.takes) _ arm.in-Some-split_first.more.now c.in-Some.element.now (drop 1 (g.C.Elements.elements c.loop-element.rest)) (sym arm.if-is_run.ensures) (λ t. absurd (false≢true (arm.if-takes.ensures ∙ t))) in
          (rw c.behind-back.ensures (at_return g.I.Item.is_run (Passes g.I.Item.takes) _ _ _ _ _ _ never w'), omega arith, omega arith)
      | in_default-split_first-via-in_default-split_first arm ↦
          let w' = rw (nil_from_length c.loop-element.left.now arm.in_default-split_first.ensures.cases) at w in
          let never = stuck_none g.I.Item.is_run (Passes g.I.Item.takes) c.in-Some.element.now (drop 1 (g.C.Elements.elements c.loop-element.rest)) in
          (rw c.behind-back.ensures (at_return g.I.Item.is_run (Passes g.I.Item.takes) _ _ _ _ _ _ never w'), omega arith, omega arith)
    ]

pub returns : goal.returns
returns g c =
    let inv = c.loop-element.invariant in
    let w = rw c.in_default.ensures at inv.0 in
    let ends = at_end g.I.Item.is_run (Passes g.I.Item.takes) _ _ _ _ w in
    let runs = all_runs g.I.Item.is_run (Passes g.I.Item.takes) c.loop-element.left.now in
    let all = c.are_runs.ensures in
    same_test c.are_runs.result _ (λ t. ends.1 (runs.1 (sym all ∙ t)), λ g. all ∙ runs.0 (ends.0 g))
    (after_some_decides (spells g.I.Item.is_run g.I.Item.takes c.args.items.now) _ (spells_decides g.I.Item.is_run g.I.Item.takes (Passes g.I.Item.takes) (λ i e. (λ t. t, λ t. t)) c.args.items.now) (g.C.Elements.elements c.args.elements))
