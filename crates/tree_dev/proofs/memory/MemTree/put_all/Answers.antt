use Rattle.std.proofs.Common.{◌≡◌, ◌++◌, arith}
use Rattle.std.proofs.lemmas.Grind.{common_steps}
use Rattle.tree_dev.proofs.FileLists.{before_others}
use Rattle.tree_dev.proofs.memory.MemTree.put_all.Goals as goal

pub returns-in-Ok-clause-files : goal.returns-in-Ok-clause-files
returns-in-Ok-clause-files c =
    let all : c.from_vec.result ≡ c.args.files ++ c.args.self.now.files = grind (arith, common_steps) in
    rw all (before_others c.args.files c.args.self.now.files)
