-- What runs, and what starting a command and waiting for one does to it and to the files.
use Rattle.std.specs.Prelude.{◌≡◌, ℕ, ◌+◌, ◌==◌, Bool, true, false, List, [], ◌∷◌, ◌++◌, Option, Some, None, is_some, if◌then◌else◌}
use Rattle.rel_path.specs.Paths.{Path}
use Rattle.rel_path.specs.Files.{FileMap, file_at, over}
use Rattle.globs.specs.Outputs.{takes}
use Rattle.globs.specs.OwnedFiles.{SameOutside}
use Rattle.tree_dev.specs.Tree.{TreeState}
use Rattle.spawn_dev.specs.Effects.{Seen, may_read, seen_by}
use Rattle.spawn_dev.specs.declared.command.Command.{Command}
use Rattle.spawn_dev.specs.declared.command.Ended.{Ended}
use Rattle.spawn_dev.specs.declared.command.Step.{Step}
use Rattle.spawn_dev.specs.declared.command.Step.TheVariants.{Start, End}
use Rattle.spawn_dev.specs.declared.effect.Effect.{Effect}

-- The book by which effects follow from what is seen; the command that runs at each place; what each of these
-- will do at its end; the starts and ends so far; how many run; the count of faults.
pub record Runs (B : Type 0) : Type 0 where
  pub book : B
  pub at : ℕ → Option Command
  pub will : ℕ → Effect
  pub steps : List Step
  pub count : ℕ
  pub faults : ℕ

-- a command runs at the place
abbrev pub live : {B : Type 0} → Runs B → ℕ → Bool
live runs place = is_some (runs.at place)

abbrev pub IsBusy : {B : Type 0} → Runs B → Type 0
IsBusy runs = (place : ℕ) × (live runs place ≡ true)

abbrev pub IsIdle : {B : Type 0} → Runs B → Type 0
IsIdle runs = (place : ℕ) → live runs place ≡ false

-- the same but for this at one place
abbrev pub put_at : {X : Type 0} → (ℕ → X) → ℕ → X → ℕ → X
put_at f place x = λ other. if other == place then x else f other

-- ---- what may run beside what

-- one of those that run owns the path
pub record IsOwned {B : Type 0} (runs : Runs B) (path : Path) : Type 0 where
  pub place : ℕ
  pub command : Command
  pub at : runs.at place ≡ Some command
  pub takes_it : takes command.outs path ≡ true

-- no path that the command owns does one of those that run own or read
abbrev pub KeepsClear : {B : Type 0} → Command → Runs B → Type 0
KeepsClear command runs = (place : ℕ) (other : Command) → runs.at place ≡ Some other → (path : Path) → takes command.outs path ≡ true
    → (takes other.outs path ≡ false) × (may_read other path ≡ false)

-- no file stands that the command owns
abbrev pub OwnsNothing : Command → FileMap → Type 0
OwnsNothing command files = (path : Path) → takes command.outs path ≡ true → files path ≡ None

-- no path that the command may read may change at any time
abbrev pub ReadsFree : Command → (Path → Bool) → Type 0
ReadsFree command held = (path : Path) → may_read command path ≡ true → held path ≡ false

-- ---- a start

-- what starting leaves of the tree
pub record SameTree {R : Type 0} (old new : TreeState R) : Type 0 where
  pub files : new.files ≡ old.files
  pub reach : new.reach ≡ old.reach
  pub faults : new.faults ≡ old.faults

-- the command runs now, beside the others
pub record Starts {B : Type 0} (command : Command) (old new : Runs B) : Type 0 where
  pub at : new.at ≡ put_at old.at command.place (Some command)
  pub count : new.count ≡ old.count + 1

-- told: its effect is fixed by the files at its start, and its start is the last step
pub record BeginsAs {B : Type 0} (effect : B → Seen → Effect) (files : FileMap) (command : Command) (old new : Runs B) : Type 0 where
  pub will : new.will command.place ≡ effect old.book (seen_by command files)
  pub steps : new.steps ≡ old.steps ++ Start command ∷ []

-- nothing was started
pub record Refuses {B : Type 0} (old new : Runs B) : Type 0 where
  pub at : new.at ≡ old.at
  pub steps : new.steps ≡ old.steps
  pub count : new.count ≡ old.count

-- ---- an end

-- the command of a place ran, and runs no more, and the others do; every path that it doesn't own is as before
pub record IsOver {B : Type 0} (place : ℕ) (old new : Runs B) (before after : FileMap) : Type 0 where
  pub command : Command
  pub ran : old.at place ≡ Some command
  pub at : new.at ≡ put_at old.at place None
  pub count : old.count ≡ new.count + 1
  pub outside : SameOutside command.outs before after

-- told: the end is what the command's effect says, its files stand over the others, and it is the last step
pub record EndsAs {B : Type 0} (ended : Ended) (old new : Runs B) (before after : FileMap) : Type 0 where
  pub status : ended.status ≡ (old.will ended.place).status
  pub log : ended.log ≡ (old.will ended.place).log
  pub files : after ≡ over before (file_at (old.will ended.place).files)
  pub steps : new.steps ≡ old.steps ++ End ended ∷ []

-- a command that runs before and after will do what it would have done
abbrev pub KeepsWill : {B : Type 0} → Runs B → Runs B → Type 0
KeepsWill old new = (place : ℕ) → live old place ≡ true → live new place ≡ true → new.will place ≡ old.will place
