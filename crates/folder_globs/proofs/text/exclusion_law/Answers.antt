use Rattle.folder_globs.proofs.Lists.{exclusion_law, list_law}
use Rattle.folder_globs.proofs.text.exclusion_law.Goals as goal

pub returns : goal.returns
returns c = record { folder = exclusion_law; list = list_law }
