use Rattle.std.proofs.Common.{◌≡◌, ◌+◌, ◌-◌, ◌<◌, ◌∙◌, length, sym, ap, arith}
use Rattle.std.proofs.lemmas.Bool.{eqb-true, eqb-false}
use Rattle.task_inputs.proofs.Homes.{home_of_number, home_at_root, home_of_none}
use Rattle.task_inputs.proofs.declared.Declared.home.Goals as goal

pub returns-in-Some-clause-home : goal.returns-in-Some-clause-home
returns-in-Some-clause-home c = home_of_number c.args.self.now c.folders.result.now c.args.path.now c.folders.ensures c.in-Some.number (rw c.components-names.ensures.value at c.in-Some.ensures)

pub returns-in-None-clause-home : goal.returns-in-None-clause-home
returns-in-None-clause-home c =
    let none : length c.args.path.now ≡ 0 = omega (arith, ap length c.components-names.ensures.value, eqb-true (length c.components-names.result.now) 0 (sym c.is_empty.ensures ∙ c.if-is_empty.true)) in
    home_of_none c.args.self.now c.args.path.now none

pub returns-in-None-2-clause-home : goal.returns-in-None-2-clause-home
returns-in-None-2-clause-home c =
    let long : 0 < length c.args.path.now = omega (arith, ap length c.components-names.ensures.value, eqb-false (length c.components-names.result.now) 0 (sym c.is_empty.ensures ∙ c.if-is_empty.false)) in
    let count : length c.args.self.now ≡ (c.count.result - 1) + 1 = omega (arith, c.count.ensures.value, c.count.ensures.homes.count) in
    home_at_root c.args.self.now c.folders.result.now c.args.path.now c.folders.ensures _ long count (rw c.components-names.ensures.value at c.in-None-2.ensures)
