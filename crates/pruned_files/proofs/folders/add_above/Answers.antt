use Rattle.std.proofs.Common.{◌∙◌, ◌||◌, ap}
use Rattle.pruned_files.specs.Folders.{is_folder}
use Rattle.pruned_files.proofs.Sets.{root_above, above_turn}
use Rattle.pruned_files.proofs.folders.add_above.Goals as goal

pub loop-depth-init : goal.loop-depth-init
loop-depth-init c = λ other. c.in_ok-add.ensures.added other ∙ ap (λ b. is_folder c.args.folders.now other || b) (root_above other)

pub loop-depth-preserved : goal.loop-depth-preserved
loop-depth-preserved c = λ other. above_turn other c.args.folder.now c.loop-depth.depth (is_folder c.args.folders.now other) (is_folder c.loop-depth.folders other) (is_folder c.add-in-loop-depth.new.folders other) c.loop-depth-test.true (c.loop-depth.invariant other) (c.in_ok-add-2.ensures.added other)
