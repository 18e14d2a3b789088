use Rattle.rel_path.proofs.Parts.{below_is}
use Rattle.std.proofs.Common.{rules}
use Rattle.rel_path.proofs.path.RelPath.below.Goals as goal

pub returns-then-path-folder : goal.returns-then-path-folder
returns-then-path-folder c =
    let is = below_is c.args.self.now c.args.folder.now c.starts_with.result (search rules) (search rules) in
    search (rules, is)
