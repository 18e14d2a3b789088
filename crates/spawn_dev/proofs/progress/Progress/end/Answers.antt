use Rattle.std.proofs.Common.{ap, ◌∙◌, sym}
use Rattle.std.specs.Result.{is_ok}
use Rattle.spawn_dev.specs.Progress.{starts_in}
use Rattle.spawn_dev.proofs.RunningLists.{starts_end_if}
use Rattle.spawn_dev.proofs.progress.Progress.end.Goals as goal

pub invariant_of-self : goal.invariant_of-self
invariant_of-self c =
    let old = c.args.self.now in
    record {
      distinct = old.distinct;
      apart = old.apart;
      owned = old.owned;
      started = old.started ∙ sym (starts_end_if (is_ok c.push.result) old.steps.items c.args.end) ∙ ap starts_in (sym c.push.ensures.items);
    }
