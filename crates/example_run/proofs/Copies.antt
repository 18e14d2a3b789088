-- The outcomes of the example, computed.
use Rattle.std.proofs.Common.{◌≡◌, refl}
use Rattle.std.specs.Str.{chars}
use Rattle.glob_syntax.specs.Reading.{glob_from}
use Rattle.glob_syntax.specs.Match.{spells_name}
use Rattle.globs.specs.Match.{matches}
use Rattle.globs.specs.Lists.{list_takes}
use Rattle.globs.specs.Outputs.{takes, any_declares}
use Rattle.run_core.specs.declared.states.Mode.TheVariants.{Never}
use Rattle.spawn_dev.specs.Books.{effect_of}
use Rattle.run_laws.specs.Clean.{clean, outcome, seen}
use Rattle.example_run.specs.Example.{rules, listing, outcomes}

pub copies : clean Never (effect_of rules) listing ≡ outcomes
unfolding outcome seen takes list_takes chars matches glob_from spells_name any_declares
copies = refl
