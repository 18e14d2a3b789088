use Rattle.std.proofs.Common.{◌∙◌, ◌||◌, length, ap}
use Rattle.rel_path.specs.Paths.{Path, path_eq}
use Rattle.workspaces.specs.declared.member.Package.{Package}
use Rattle.workspaces.specs.Space.{owners}
use Rattle.pruned_files.specs.Folders.{is_folder}
use Rattle.pruned_files.proofs.Members.{any_more, below_at, some_owner}
use Rattle.pruned_files.proofs.folders.owner_folders.Goals as goal

pub loop-number-preserved : goal.loop-number-preserved
loop-number-preserved c = λ other.
    let space = c.args.packages.now in let numbers = c.args.numbers.now in let i = c.loop-number.number-index in
    any_more (λ (p : Package). path_eq other p.folder) space numbers i (some_owner space) (is_folder c.loop-number.folders other) (is_folder c.add.new.folders other) c.loop-number-test.true (below_at (length (owners space)) numbers i c.loop-number-test.true c.requires) (c.loop-number.invariant other)
    (c.in_ok-add.ensures.added other ∙ ap (λ (f : Path). is_folder c.loop-number.folders other || path_eq other f) (c.components.ensures.value ∙ c.folder.ensures (some_owner space)))
