use Rattle.std.proofs.Common.{◌∙◌, refl, arith}
use Rattle.tree_dev.specs.Cause.{is_failed}
use Rattle.runner.proofs.CacheFacts.{grows-then}
use Rattle.runner.proofs.DrainFacts.{calm-some, grows-some, over-some, waited-more, waited-none, waits-for}
use Rattle.runner.proofs.FileFacts.{elsewhere-over, elsewhere-then}
use Rattle.runner.proofs.GoesFacts.{world-none}
use Rattle.runner.proofs.HaltFacts.{halts-waited}
use Rattle.runner.proofs.WorldFacts.{ours-over}
use Rattle.runner.proofs.draining.drain.Goals as goal

pub waits-init : goal.waits-init
waits-init g c = record {
  world = world-none g.W.Tree.tells c.args.plan.now (g.W.Spawner.runs c.args.world.now)
      (g.W.Tree.state c.args.world.now) c.requires.ours;
  stays = λ told o now least pairs room stands halts. halts;
  waited = λ told. waited-none (g.W.Spawner.runs c.args.world.now);
  tree = refl;
  later = omega arith;
}

pub waits-preserved-in-waits : goal.waits-preserved-in-waits
waits-preserved-in-waits g c =
    let plan = c.args.plan.now in
    let inv = c.waits.invariant in
    let first = g.W.Spawner.runs c.args.world.now in
    let mid = g.W.Spawner.runs c.waits.world in
    let new = g.W.Spawner.runs c.wait.new.self in
    let before = (g.W.Tree.state c.args.world.now).files in
    let files = (g.W.Tree.state c.waits.world).files in
    let later = (g.W.Tree.state c.wait.new.self).files in
    let wait = c.wait.ensures in
    let w = over-some mid new files later c.wait.result wait.over wait.failed in
    record {
      world = record {
        book = wait.book ∙ inv.world.book;
        ours = ours-over plan mid new w.0 w.1.at inv.world.ours;
        further = λ told. grows-then first.steps mid.steps new.steps (inv.world.further told)
            (grows-some mid new files later c.wait.result (wait.ends told) wait.unsaid);
        elsewhere = λ told. elsewhere-then plan before files later (inv.world.elsewhere told)
            (elsewhere-over plan mid new w.0 files later inv.world.ours w.1);
      };
      stays = λ told o now least pairs room stands halts.
          halts-waited plan c.halt_law.ensures o now stands least mid new files later pairs room
          inv.world.ours wait.others (inv.stays told o now least pairs room stands halts)
          c.wait.result wait.over (wait.ends told) wait.failed wait.unsaid;
      waited = λ told. waited-more first mid new files later (inv.waited told) c.wait.result wait.over
          (wait.ends told) wait.failed wait.unsaid
          (calm-some is_failed mid.faults new.faults c.wait.result wait.cause.counted);
      tree = wait.tree ∙ inv.tree;
      later = omega (arith, wait.cause.later, inv.later);
    }

pub waits-preserved : goal.waits-preserved
waits-preserved g c =
    let plan = c.args.plan.now in
    let inv = c.waits.invariant in
    let first = g.W.Spawner.runs c.args.world.now in
    let mid = g.W.Spawner.runs c.waits.world in
    let new = g.W.Spawner.runs c.wait.new.self in
    let before = (g.W.Tree.state c.args.world.now).files in
    let files = (g.W.Tree.state c.waits.world).files in
    let later = (g.W.Tree.state c.wait.new.self).files in
    let wait = c.wait.ensures in
    let w = over-some mid new files later c.wait.result wait.over wait.failed in
    record {
      world = record {
        book = wait.book ∙ inv.world.book;
        ours = ours-over plan mid new w.0 w.1.at inv.world.ours;
        further = λ told. grows-then first.steps mid.steps new.steps (inv.world.further told)
            (grows-some mid new files later c.wait.result (wait.ends told) wait.unsaid);
        elsewhere = λ told. elsewhere-then plan before files later (inv.world.elsewhere told)
            (elsewhere-over plan mid new w.0 files later inv.world.ours w.1);
      };
      stays = λ told o now least pairs room stands halts.
          halts-waited plan c.halt_law.ensures o now stands least mid new files later pairs room
          inv.world.ours wait.others (inv.stays told o now least pairs room stands halts)
          c.wait.result wait.over (wait.ends told) wait.failed wait.unsaid;
      waited = λ told. waited-more first mid new files later (inv.waited told) c.wait.result wait.over
          (wait.ends told) wait.failed wait.unsaid
          (calm-some is_failed mid.faults new.faults c.wait.result wait.cause.counted);
      tree = wait.tree ∙ inv.tree;
      later = omega (arith, wait.cause.later, inv.later);
    }

pub returns-clause-waits : goal.returns-clause-waits
returns-clause-waits g c told =
    waits-for (g.W.Spawner.runs c.args.world.now) (g.W.Spawner.runs c.waits.world)
    (c.waits.invariant.waited told) (c.is_idle.ensures.idle c.waits-test.false)
