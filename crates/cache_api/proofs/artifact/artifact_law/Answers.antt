use Rattle.cache_api.proofs.Text.{text_back, text_was}
use Rattle.cache_api.proofs.Only.{text_only}
use Rattle.cache_api.proofs.artifact.artifact_law.Goals as goal

pub returns : goal.returns
returns c = record { back = text_back; text = text_was; only = text_only }
