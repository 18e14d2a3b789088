use Rattle.std.proofs.Common.{◌∙◌, ◌||◌, ◌<◌, length, take, sym, ap, arith}
use Rattle.std.specs.List.{list_any}
use Rattle.std.proofs.lemmas.List.Folds.{list_any_more}
use Rattle.rel_path.specs.Paths.{Path, path_eq}
use Rattle.workspaces.specs.declared.member.Package.{Package}
use Rattle.workspaces.proofs.Owners.{package_owner}
use Rattle.pruned_files.proofs.Members.{some_owner}
use Rattle.pruned_files.proofs.folders.package_folders.Goals as goal

pub loop-number-preserved : goal.loop-number-preserved
loop-number-preserved c = λ other.
    let space = c.args.packages.now in let i = c.loop-number.number in let d = some_owner space in
    let lt : i < length space.packages = omega (arith, c.loop-number-test.true, c.count-number-end.ensures.value) in
    c.in_ok-add.ensures.added other ∙ ap (λ b. b || path_eq other c.components.result.now) (c.loop-number.invariant other)
    ∙ ap (λ (f : Path). list_any (λ (p : Package). path_eq other p.folder) (take i space.packages) || path_eq other f) (c.components.ensures.value ∙ c.folder.ensures d ∙ ap (λ (p : Package). p.folder) (package_owner space i d lt))
    ∙ sym (list_any_more (λ (p : Package). path_eq other p.folder) space.packages i d lt)
