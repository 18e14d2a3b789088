-- The laws of the rooms below that stories stand on.
use Rattle.run_core.specs.Machine.{NextLaw}
use Rattle.run_core.specs.Moves.{RunLaw as CoreLaw}
use Rattle.run_laws.specs.ClosureLaws.{ClosureIsOrdered}
use Rattle.run_laws.specs.CleanLaws.{EffectLaw}
use Rattle.run_laws.specs.FoundLaws.{FilesDiffer, FoundLaw}
use Rattle.run_laws.specs.PairLaws.{KeysLaw, HitLaw, DueLaw}
use Rattle.run_laws.specs.Runs.{RunLaw}
use Rattle.run_laws.specs.WorldLaws.{ShowsLaw}

pub record Laws : Type 0 where
  pub runs : RunLaw
  pub keys : KeysLaw
  pub found : FoundLaw
  pub hit : HitLaw
  pub effects : EffectLaw
  pub files : FilesDiffer
  pub ordered : ClosureIsOrdered
  pub core : CoreLaw
  pub next : NextLaw

-- with those that tell of a run that stops
pub record HaltGrounds : Type 0 where
  pub laws : Laws
  pub due : DueLaw
  pub shows : ShowsLaw
