use Rattle.run_laws.proofs.FileFacts.{files_law_lem}
use Rattle.run_laws.proofs.FoundFacts.{artifact_law_lem}
use Rattle.run_laws.proofs.laws.artifact_law.Goals as goal

pub returns-clause-texts : goal.returns-clause-texts
returns-clause-texts c = artifact_law_lem

pub returns-clause-files : goal.returns-clause-files
returns-clause-files c = files_law_lem
