use Rattle.pair_frames.proofs.Texts.{key_flat, value_flat, artifact_cut}
use Rattle.pair_frames.proofs.laws.runs_law.Goals as goal

pub returns : goal.returns
returns c = record { key = key_flat; value = value_flat; artifact = artifact_cut }
