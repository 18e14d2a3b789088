use Rattle.std.proofs.Common.{◌∙◌, IfOk, ap, subst}
use Rattle.rel_path.specs.Files.{FileMap, file_at}
use Rattle.sample_repository.specs.Changes.{changed_at}
use Rattle.sample_repository.specs.Worlds.{IsFresh}
use Rattle.sample_repository.proofs.ChangeLaws.{file_at-files_with}
use Rattle.sample_repository.proofs.world.changed_world.Goals as goal

pub returns-clause-fresh : goal.returns-clause-fresh
returns-clause-fresh c =
    let files = c.args.files.now in
    let first = c.args.first in
    let P : FileMap → Type 0 = λ all. IfOk c.world_over.result (IsFresh c.args.n all) in
    let same = ap file_at c.in_ok-files_with.ensures.value
    ∙ file_at-files_with c.in_ok-path.path first files
    ∙ ap (λ path. changed_at path first (file_at files)) c.in_ok-path.ensures.value in
    subst P same c.world_over.ensures.fresh
