use Rattle.std.proofs.Common.{◌≡◌, ◌∙◌, ◌+◌, sym, ap, subst, map, arith}
use Rattle.workspaces.specs.Space.{owners}
use Rattle.workspaces.proofs.Owners.{owners_count}
use Rattle.task_inputs.specs.Homes.{home_of}
use Rattle.task_inputs.specs.Folders.{AreHomes}
use Rattle.task_inputs.proofs.Homes.{home_more, homes_whole, homes_are}
use Rattle.task_inputs.proofs.declared.all_homes.Goals as goal
use Rattle.task_inputs.proofs.declared.all_homes.Goals.{else-loop-owner-test, then-loop-owner-test+in_ok-tasks_of+in_ok-push+else-owner-owner-end}

pub loop-owner-preserved : goal.loop-owner-preserved
loop-owner-preserved c =
    home_more c.args.config.now (owners c.args.packages.now) c.loop-owner.owner c.in_ok-tasks_of.field-0 c.loop-owner.homes.items c.push.new.self.items
    (omega (arith, owners_count c.args.packages.now)) c.in_ok-tasks_of.ensures.value c.loop-owner.invariant c.in_ok-push.ensures.items

whole : (c : goal.Left-loop-owner) → c.loop-owner-test.homes.items ≡ map (home_of c.args.config.now) (owners c.args.packages.now)
whole c = elim c.loop-owner-test.branch [
  | else-loop-owner-test w ↦ absurd (omega (arith, w.loop-owner-test.false, c.loop-owner.auto.owner-end))
  | then-loop-owner-test+in_ok-tasks_of+in_ok-push+else-owner-owner-end w ↦
      ap (λ hs. hs.items) w.homes-is
      ∙ homes_whole c.args.config.now (owners c.args.packages.now) (c.loop-owner.owner + 1) w.push.new.self.items (omega (arith, owners_count c.args.packages.now, c.count-owner-end.ensures.value))
      (home_more c.args.config.now (owners c.args.packages.now) c.loop-owner.owner w.in_ok-tasks_of.field-0 c.loop-owner.homes.items w.push.new.self.items
      (omega (arith, owners_count c.args.packages.now)) w.in_ok-tasks_of.ensures.value c.loop-owner.invariant w.in_ok-push.ensures.items)
]

pub returns-clause-value : goal.returns-clause-value
returns-clause-value c = whole c

pub returns-clause-homes : goal.returns-clause-homes
returns-clause-homes c = subst AreHomes (sym (whole c)) (homes_are c.args.config.now c.args.packages.now c.requires.apart c.count-owner-end.ensures.proper)
