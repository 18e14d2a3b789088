use Rattle.std.proofs.Common.{◌∙◌, ◌||◌, length, ap}
use Rattle.std.specs.Prelude.{is_some}
use Rattle.rel_path.specs.Paths.{Path, strip}
use Rattle.workspaces.specs.declared.member.Package.{Package}
use Rattle.workspaces.specs.Space.{owners}
use Rattle.pruned_files.specs.Folders.{is_folder}
use Rattle.pruned_files.proofs.Members.{any_more, below_at, some_owner}
use Rattle.pruned_files.proofs.folders.folders_above.Goals as goal

pub loop-number-preserved : goal.loop-number-preserved
loop-number-preserved c = λ other.
    let space = c.args.packages.now in let numbers = c.args.numbers.now in let i = c.loop-number.number-index in
    any_more (λ (p : Package). is_some (strip other p.folder)) space numbers i (some_owner space) (is_folder c.loop-number.folders other) (is_folder c.add_above.new.folders other) c.loop-number-test.true (below_at (length (owners space)) numbers i c.loop-number-test.true c.requires) (c.loop-number.invariant other)
    (c.in_ok-add_above.ensures.added other ∙ ap (λ (f : Path). is_folder c.loop-number.folders other || is_some (strip other f)) (c.components.ensures.value ∙ c.folder.ensures (some_owner space)))
