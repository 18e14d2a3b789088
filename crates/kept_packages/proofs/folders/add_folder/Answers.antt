use Rattle.task_inputs.proofs.Homes.{number_put}
use Rattle.kept_packages.proofs.folders.add_folder.Goals as goal

pub returns-clause-added : goal.returns-clause-added
returns-clause-added c = λ other. number_put c.args.folder.now other c.args.folders.now c.insert.new.self c.in_ok-names.names c.args.number c.in_ok-names.ensures.value c.in_ok-insert.ensures.entries
