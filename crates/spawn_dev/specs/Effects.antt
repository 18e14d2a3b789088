-- What a command may depend on, and what it does.
use Rattle.std.specs.Prelude.{◌≡◌, ℕ, ◌<◌, Bool, true, ◌&&◌, ◌||◌, List, [], None, if◌then◌else◌}
use Rattle.std.specs.List.{list_any}
use Rattle.rel_path.specs.Paths.{Path, name_eq, is_among}
use Rattle.rel_path.specs.Files.{FileMap}
use Rattle.globs.specs.declared.out_set.OutSet.{OutSet}
use Rattle.globs.specs.Outputs.{takes}
use Rattle.globs.specs.OwnedFiles.{owns_all}
use Rattle.spawn_dev.specs.declared.command.Command.{Command}
use Rattle.spawn_dev.specs.declared.effect.Effect.{Effect}
use Rattle.spawn_dev.specs.Orders.{AscendByPath}

-- All that a command may depend on (Turborepo docs, "Caching", task inputs: the package's files, its variables,
-- the lockfile's entries and what the tasks before it made). Its place in the plan and variables that are only
-- passed through are no part of it.
pub record Seen : Type 0 where
  pub «package» : List ℕ
  pub folder : Path
  pub task : List ℕ
  pub scripts : List (List ℕ)
  pub words : List (List ℕ)
  pub env : List (List ℕ × List ℕ)
  pub outs : OutSet
  -- whether an installed package, by location and lockfile entry, is one that the task or an ancestor uses
  pub externals : List ℕ × List ℕ → Bool
  pub files : FileMap

abbrev pub pair_eq : List ℕ × List ℕ → List ℕ × List ℕ → Bool
pair_eq a b = name_eq a.0 b.0 && name_eq a.1 b.1

-- the command may read the path: an ancestor owns it, or it is an input
abbrev pub may_read : Command → Path → Bool
may_read command path = list_any (λ outs. takes outs path) command.above || is_among command.reads path

-- what a command sees that starts over these files
abbrev pub seen_by : Command → FileMap → Seen
seen_by command files = record {
  «package» = command.package;
  folder = command.dir;
  task = command.task;
  scripts = command.scripts;
  words = command.args;
  env = command.env;
  outs = command.outs;
  externals = λ e. list_any (pair_eq e) command.externals;
  files = λ path. if may_read command path then files path else None;
}

-- What holds of what a command does: its status is a byte (POSIX, `wait`), and the files that count as written are
-- outputs of the task alone (Turborepo docs, `outputs`), in ascending order.
pub record IsEffect (outs : OutSet) (effect : Effect) : Type 0 where
  pub status : effect.status < 256
  pub owned : owns_all outs effect.files ≡ true
  pub ascend : AscendByPath effect.files

abbrev pub IsWellBehaved : (Seen → Effect) → Type 0
IsWellBehaved does = (seen : Seen) → IsEffect seen.outs (does seen)

-- nothing printed, nothing written, and success
abbrev pub no_effect : Effect
no_effect = record { log = []; status = 0; files = [] }
