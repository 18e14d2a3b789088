-- What the calls behind the public one answer.
use Rattle.std.specs.Prelude.{◌≡◌, ◌≢◌, ◌&&◌, ℕ, true, not, List, [], Option, Some, None, Result, IfErr, if◌then◌else◌, find}
use Rattle.std.specs.List.{list_any, slice_get, before_first, join_with_byte}
use Rattle.rel_path.specs.Paths.{Path, AreNames}
use Rattle.workspaces.specs.declared.member.Package.{Package}
use Rattle.workspaces.specs.Lists.{Has}
use Rattle.workspaces.specs.Space.{Space, IsProper, owners, owner_named}
use Rattle.turbo_config.specs.declared.entry.TaskDef.{TaskDef}
use Rattle.turbo_config.specs.Names.{begins_caret}
use Rattle.task_definitions.specs.Setup.{Setup, task_def, AreNames as AreTaskNames}
use Rattle.task_graph.specs.Tasks.{is_hash, is_full}
use Rattle.task_inputs.specs.Folders.{Folders, number_at}
use Rattle.task_inputs.specs.Homes.{is_home}
use Rattle.repository.specs.Reading.{Contents}
use Rattle.kept_packages.specs.declared.error.KeptErr.{KeptErr}
use Rattle.kept_packages.specs.declared.error.KeptErr.TheVariants.{NoPackage, OutOfMemory}
use Rattle.kept_packages.specs.declared.needs.Known.{Known}
use Rattle.kept_packages.specs.Answers.{is_unknown}
use Rattle.kept_packages.specs.Kept.{names_package, has_root_task}

-- no error but want of memory, which may come at any time
abbrev pub OnlyMemory : {T : Type 0} → Result T KeptErr → Type 0
OnlyMemory result = IfErr result (λ e. e ≡ OutOfMemory)

-- the first name that no package has is refused
abbrev pub MayRefuse : List Package → List (List ℕ) → KeptErr → Type 0
MayRefuse packages targets (NoPackage name) = find (is_unknown packages) targets ≡ Some name
MayRefuse packages targets OutOfMemory = Unit {0}

-- ---- texts of `dependsOn`

-- what stands before the first `#`, where the text is `package#task`
abbrev pub package_of : List ℕ → Option (List ℕ)
package_of text = if not (begins_caret text) && is_full text then Some (before_first is_hash text) else None

-- one of the texts is `package#task` with the name of this owner
pub record NamesOwner (space : Space) (texts : List (List ℕ)) (q : Package) : Type 0 where
  pub name : List ℕ
  pub named : list_any (names_package name) texts ≡ true
  pub is : owner_named space name ≡ Some q

-- so does a text of the task of this name of an owner of that name
pub record TaskNames (space : Space) (setup : Setup) (owner task : List ℕ) (q : Package) : Type 0 where
  pub def : TaskDef
  pub defined : task_def setup owner task ≡ Some def
  pub names : NamesOwner space def.depends_on q

-- so does one of the tasks of these names
pub record AnyTaskNames (space : Space) (setup : Setup) (owner : List ℕ) (tasks : List (List ℕ)) (q : Package) : Type 0 where
  pub task : List ℕ
  pub among : Has tasks task
  pub names : TaskNames space setup owner task q

-- ---- packages by their folders

-- each package's folder has the package's number, and no other folder has one
pub record IsIndex (space : Space) (folders : Folders) : Type 0 where
  pub sound : (folder : Path) (n : ℕ) → number_at folders folder ≡ Some n → (p : Package) × (slice_get space.packages n ≡ Some p) × (p.folder ≡ folder)
  pub whole : (n : ℕ) (p : Package) → slice_get space.packages n ≡ Some p → number_at folders p.folder ≡ Some n
  pub names : (n : ℕ) (p : Package) → slice_get space.packages n ≡ Some p → AreNames p.folder
  pub inner : (n : ℕ) (p : Package) → slice_get space.packages n ≡ Some p → p.folder ≢ []

-- the number of the package that is so, if there is one
pub record IsNumber (packages : List Package) (P : Package → Type 0) (found : Option ℕ) : Type 0 where
  pub sound : (n : ℕ) → found ≡ Some n → (p : Package) × (slice_get packages n ≡ Some p) × P p
  pub whole : (n : ℕ) (p : Package) → slice_get packages n ≡ Some p → P p → found ≡ Some n

-- the package whose folder the text writes
abbrev pub IsWritten : List ℕ → Package → Type 0
IsWritten text p = join_with_byte 47 p.folder ≡ text

-- a package whose folder is one of the texts
pub record IsWrittenIn (space : Space) (texts : List (List ℕ)) (q : Package) : Type 0 where
  pub inner : Has space.packages q
  pub text : List ℕ
  pub among : Has texts text
  pub writes : IsWritten text q

-- the package that is the path's home
abbrev pub IsHome : Space → Path → Package → Type 0
IsHome space path p = is_home (owners space) p path ≡ true

-- a package that is the home of one of the paths
pub record IsHomeIn (space : Space) (paths : List Path) (q : Package) : Type 0 where
  pub inner : Has space.packages q
  pub path : Path
  pub among : Has paths path
  pub home : IsHome space path q

-- ---- what is known before any owner is looked at

pub record IsKnown (contents : Contents) (known : Known) : Type 0 where
  pub proper : IsProper contents.space
  pub folders : IsIndex contents.space known.folders
  pub names : AreTaskNames contents.setup known.names
  pub files : known.with_files ≡ has_root_task contents
