-- The part of a task in a listing (Turborepo docs, "Caching": what the hash of a task is made of; npm docs, "scripts", for the scripts before and after).
use Rattle.std.specs.Prelude.{◌≡◌, ℕ, Bool, true, false, ◌&&◌, List, [], ◌∷◌, ◌++◌, map, filter, Option, Some, None, if◌then◌else◌, unwrap_or, Ok, codes}
use Rattle.std.specs.List.{join_with_byte}
use Rattle.serde_json.specs.Data.{Data}
use Rattle.rel_path.specs.Paths.{Path, path_cmp}
use Rattle.rel_path.specs.Files.{FileMap, has}
use Rattle.env_select.specs.Choice.{is_hashed, IsChosen}
use Rattle.npm_lock.specs.declared.start.Start.{Start}
use Rattle.npm_lock.specs.Externals.{Externals}
use Rattle.workspaces.specs.declared.member.Package.{Package}
use Rattle.workspaces.specs.declared.needs.Needs.{Needs}
use Rattle.workspaces.specs.Edges.{text_by, needs_of}
use Rattle.workspaces.specs.Lists.{ascending}
use Rattle.workspaces.specs.Space.{Space, owners, owner_named, is_root_folder}
use Rattle.turbo_config.specs.declared.entry.TaskDef.{TaskDef}
use Rattle.task_definitions.specs.Setup.{Setup, task_def}
use Rattle.globs.specs.declared.out_set.OutSet.{OutSet}
use Rattle.folder_globs.specs.Exclusions.{exclusion}
use Rattle.listing.specs.declared.part.Part.{Part}
use Rattle.task_inputs.specs.Homes.{configured, others_than}
use Rattle.task_inputs.specs.Inputs.{is_input}
use Rattle.task_inputs.specs.Ignores.{is_left_out}
use Rattle.collect.specs.declared.wanted.Wanted.{Wanted}

-- ---- scripts

-- its own script alone, or between those before and after it, with the empty text for one that does not exist
abbrev pub scripts_by : Option (List ℕ) → Option (List ℕ) → Option (List ℕ) → List (List ℕ)
scripts_by None before after = []
scripts_by (Some own) None None = own ∷ []
scripts_by (Some own) None (Some after) = [] ∷ own ∷ after ∷ []
scripts_by (Some own) (Some before) after = before ∷ own ∷ unwrap_or after [] ∷ []

-- the scripts of a task: none where its owner has no script of its name
unfoldable pub scripts_of : List (List ℕ × List ℕ) → List ℕ → List (List ℕ)
scripts_of scripts task = scripts_by (text_by task scripts) (text_by (codes "pre" ++ task) scripts) (text_by (codes "post" ++ task) scripts)

-- ---- installed packages

abbrev pub start_at : List ℕ → Bool → List ℕ → Start
start_at from soft name = record { from = from; name = name; soft = soft }

-- the names that are needed from outside, looked up from a folder
abbrev pub starts_from : List ℕ → Needs → List Start
starts_from from needs = map (start_at from false) needs.hard ++ map (start_at from true) needs.soft

-- what is looked up for an owner: what it needs from its folder, and what the root manifest needs from the root
unfoldable pub starts_of : Space → Package → List Start
starts_of space p = starts_from (join_with_byte 47 p.folder) (needs_of space.packages p.manifest) ++ starts_from [] (needs_of space.packages space.root)

-- the installed packages that an owner uses, with their lockfile entries; none without a lockfile
abbrev pub Uses : Space → Option Data → Package → List (List ℕ × List ℕ) → Type 0
Uses space None p pairs = pairs ≡ []
Uses space (Some lock) p pairs = Externals lock (starts_of space p) (Ok pairs)

-- ---- outputs

-- the folders of the packages, ascending
abbrev pub package_folders : Space → List Path
package_folders space = ascending path_cmp (map (λ p. p.folder) space.packages)

-- of an owner with this folder: the root's tasks get the texts, those of packages none
abbrev pub texts_at : List (List ℕ) → Path → List (List ℕ)
texts_at texts folder = if is_root_folder folder then texts else []

-- what stands behind the outputs of a task of the root: for each package one text that excludes what lies below its folder
abbrev pub exclusions_for : Space → Package → List (List ℕ)
exclusions_for space p = texts_at (map exclusion (package_folders space)) p.folder

-- the output set of a task: its own outputs, and those of the other configured tasks of its package or of the root
abbrev pub out_set_of : Setup → Space → Package → List ℕ → TaskDef → OutSet
out_set_of setup space p task def = record {
  folder = p.folder;
  mine = def.outputs ++ exclusions_for space p;
  others = others_than task (configured setup p);
}

-- ---- inputs

-- the files that a task of the owner takes, by those of the walk that are there
abbrev pub takes_input : Setup → Space → FileMap → List Path → Package → TaskDef → Path → Bool
takes_input setup space files walk p def path = has files path && is_input (is_left_out setup (owners space) files walk) setup (owners space) p def path

-- ---- the part

pub record IsPart (setup : Setup) (space : Space) (lock : Option Data) (files : FileMap) (walk : List Path) (env : List (List ℕ × List ℕ)) (wanted : Wanted) (part : Part) : Type 0 where
  pub member : Package
  pub stands : owner_named space wanted.id.«package» ≡ Some member
  pub def : TaskDef
  pub defined : task_def setup member.name wanted.id.task ≡ Some def
  pub «package» : part.«package» ≡ wanted.id.«package»
  pub folder : part.folder ≡ member.folder
  pub task : part.task ≡ wanted.id.task
  pub scripts : part.scripts ≡ scripts_of member.manifest.scripts wanted.id.task
  pub args : part.args ≡ wanted.args
  pub outs : part.outs ≡ out_set_of setup space member wanted.id.task def
  pub env_pairs : IsChosen (is_hashed def.env setup.globals.env) env part.env
  pub inputs : part.inputs ≡ filter (takes_input setup space files walk member def) walk
  pub externals : Uses space lock member part.externals
  pub deps : part.deps ≡ wanted.deps
