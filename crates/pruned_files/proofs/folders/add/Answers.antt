use Rattle.pruned_files.proofs.Sets.{folder_put}
use Rattle.pruned_files.proofs.folders.add.Goals as goal

pub returns-clause-added : goal.returns-clause-added
returns-clause-added c = λ other. folder_put other c.args.folders.now c.insert.new.self c.in_ok-names.names c.args.folder.now c.in_ok-names.ensures.value c.in_ok-insert.ensures.keys
