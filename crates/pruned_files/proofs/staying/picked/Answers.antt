use Rattle.std.proofs.Common.{◌≡◌, ◌∙◌, ◌||◌, ap}
use Rattle.rel_path.specs.Paths.{path_eq}
use Rattle.pruned_files.specs.Calls.{settles, stays}
use Rattle.pruned_files.specs.Pruned.{lock_path}
use Rattle.pruned_files.proofs.Picking.{first_at, behind_at, picked_more}
use Rattle.pruned_files.proofs.staying.picked.Goals as goal

pub loop-path-preserved : goal.loop-path-preserved
loop-path-preserved c = λ contents kept test knows are.
    let walk = c.args.walk.now in let left = c.loop-path.left.now in let i = c.loop-path.path-index in let p = c.path-item.result in
    let so = c.loop-path.invariant contents kept test knows are in
    let first : c.is_first-is_rooted.result ≡ test p = c.is_first-is_rooted.ensures ∙ first_at test walk left i p c.loop-path-test.true c.path-item.is so.0 in
    let stay : c.stays.result ≡ stays contents kept test p = c.stays.ensures contents kept knows ∙ ap (λ b. path_eq p lock_path || (settles contents kept p || b)) first in (
      c.behind-left.ensures ∙ behind_at test walk left i p c.loop-path-test.true c.path-item.is so.0,
      picked_more (stays contents kept test) walk c.loop-path.paths c.add_if.new.paths i p c.stays.result c.loop-path-test.true c.path-item.is stay so.1 c.in_ok-add_if.ensures.added,
    )
