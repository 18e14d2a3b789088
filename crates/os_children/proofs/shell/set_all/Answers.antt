use Rattle.std.proofs.Common.{◌≡◌, ◌∷◌, length, drop, ap, ◌∙◌}
use Rattle.os_children.specs.Shell.{set_over}
use Rattle.os_children.proofs.PairLists.{drop-before, whole-before}
use Rattle.os_children.proofs.shell.set_all.Goals as goal

pub loop-pair-preserved : goal.loop-pair-preserved
loop-pair-preserved c =
    let old = c.loop-pair.invariant in
    let is = c.in-Some.ensures.cases.0 in
    let left : drop (length c.in-Some.before.now) c.args.pairs.now ≡ c.in-Some.pair.now ∷ drop (length c.loop-pair.rest.now) c.args.pairs.now =
    drop-before _ _ _ _ old.whole is in
    let step = c.in_ok-set_var.ensures in
    record {
      whole = whole-before _ _ _ _ old.whole is;
      set = λ name. rw left (step.set name ∙ ap (λ was. set_over was c.in-Some.pair.now name) (old.set name));
      clears = step.clears ∙ old.clears;
      call = (step.call.0 ∙ old.call.0, step.call.1 ∙ old.call.1);
    }
