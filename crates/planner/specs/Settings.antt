-- What options of the command line set for a run (Turborepo docs, "run": `--continue`, `--output-logs`, `--env-mode`).
use Rattle.std.specs.Prelude.{Option, Some, None, unwrap_or}
use Rattle.cli_words.specs.declared.order.KeepOn.{KeepOn}
use Rattle.cli_words.specs.declared.order.KeepOn.TheVariants as keep
use Rattle.cli_words.specs.declared.order.LogWord.{LogWord}
use Rattle.cli_words.specs.declared.order.LogWord.TheVariants as word
use Rattle.cli_words.specs.declared.order.EnvWord.{EnvWord}
use Rattle.cli_words.specs.declared.order.EnvWord.TheVariants as env
use Rattle.env_select.specs.declared.choose.EnvMode.{EnvMode}
use Rattle.env_select.specs.declared.choose.EnvMode.TheVariants.{Strict, Loose}
use Rattle.run_core.specs.declared.states.Mode.{Mode}
use Rattle.run_core.specs.declared.states.Mode.TheVariants as mode
use Rattle.turbo_config.specs.declared.entry.LogMode.{LogMode}
use Rattle.turbo_config.specs.declared.entry.LogMode.TheVariants as logs

abbrev pub mode_of : KeepOn → Mode
mode_of keep.Never = mode.Never
mode_of keep.DependenciesSuccessful = mode.DependenciesSuccessful
mode_of keep.Always = mode.Always

abbrev pub log_mode_of : LogWord → LogMode
log_mode_of word.Full = logs.Full
log_mode_of word.HashOnly = logs.HashOnly
log_mode_of word.NewOnly = logs.NewOnly
log_mode_of word.ErrorsOnly = logs.ErrorsOnly
log_mode_of word.Silent = logs.Silent

-- `--env-mode`, or else `envMode`, or else strict
abbrev pub env_mode_for : Option EnvWord → Option EnvMode → EnvMode
env_mode_for (Some env.Strict) written = Strict
env_mode_for (Some env.Loose) written = Loose
env_mode_for None written = unwrap_or written Strict
