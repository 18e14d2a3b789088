use Rattle.kept_packages.proofs.Naming.{known_next, numbers_next, unknown_here}
use Rattle.kept_packages.proofs.targets.target_numbers.Goals as goal

pub returns-in-None-clause-refused : goal.returns-in-None-clause-refused
returns-in-None-clause-refused c = unknown_here c.args.packages.now c.args.targets.now c.loop-target.target-index c.target-item.result c.loop-target-test.true c.target-item.is c.loop-target.invariant.known c.in_ok-name-in-None.name c.in-None.ensures c.in_ok-name-in-None.ensures.value

pub loop-target-preserved : goal.loop-target-preserved
loop-target-preserved c =
    let space = c.args.packages.now in
    let targets = c.args.targets.now in
    let i = c.loop-target.target-index in
    let target = c.target-item.result in
    let known = c.loop-target.invariant.known in
    record {
      known = known_next space targets i target c.loop-target-test.true c.target-item.is known c.in-Some.number c.in-Some.ensures;
      numbers = numbers_next space targets i target c.loop-target-test.true c.target-item.is known c.requires c.in-Some.number c.loop-target.numbers.items c.push.new.self.items c.in-Some.ensures c.in_ok-push-in-Some.ensures.items c.loop-target.invariant.numbers;
    }
