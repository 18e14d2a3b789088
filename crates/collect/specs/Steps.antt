-- What the steps of collecting a listing answer.
use Rattle.std.specs.Prelude.{◌≡◌, ◌<◌, ◌≤◌, ◌+◌, ◌==◌, ℕ, Bool, true, false, ◌&&◌, List, [], ◌∷◌, ◌++◌, length, map, filter, zip, get_or, take, sum_by, Option, Some, None, is_some, unwrap_or, Result, Ok, Err, IfErr, IfSome, find, if◌then◌else◌}
use Rattle.std.specs.Option.{option_map}
use Rattle.std.specs.List.{AllByRecursion, HoldsAt, slice_get, slice_index_or, list_any, filter_map, join_with_byte}
use Rattle.serde_json.specs.Data.{Data}
use Rattle.serde_json.specs.View.{view}
use Rattle.rel_path.specs.Paths.{Path}
use Rattle.rel_path.specs.Files.{FileMap, file_at}
use Rattle.globs.specs.declared.out_set.OutSet.{OutSet}
use Rattle.env_select.specs.Choice.{is_hashed, IsChosen}
use Rattle.ignore_rules.specs.declared.rule.Rule.{Rule}
use Rattle.ignore_rules.specs.Rules.{rules_of}
use Rattle.npm_lock.specs.declared.start.Start.{Start}
use Rattle.npm_lock.specs.Externals.{IsReachIn}
use Rattle.workspaces.specs.declared.member.Package.{Package}
use Rattle.workspaces.specs.Edges.{needs_of}
use Rattle.workspaces.specs.Space.{Space, IsProper, owners, owner_named}
use Rattle.turbo_config.specs.declared.entry.TaskDef.{TaskDef}
use Rattle.turbo_config.specs.declared.task_id.TaskId.{TaskId}
use Rattle.task_definitions.specs.Setup.{Setup, task_def}
use Rattle.listing.specs.declared.part.Part.{Part}
use Rattle.task_inputs.specs.declared.definitions.DefinedTask.{DefinedTask}
use Rattle.task_inputs.specs.Homes.{Home, home_of, others_than}
use Rattle.task_inputs.specs.Inputs.{input_row}
use Rattle.task_inputs.specs.Ignores.{is_ignore_file, rule_files}
use Rattle.collect.specs.declared.wanted.Wanted.{Wanted}
use Rattle.collect.specs.declared.error.CollectErr.{CollectErr}
use Rattle.collect.specs.declared.error.CollectErr.TheVariants.{Missing, TooLarge, TooMuch, Failed, OutOfMemory}
use Rattle.collect.specs.declared.reading.Gathered.{Gathered}
use Rattle.collect.specs.declared.collecting.Plan.{Plan}
use Rattle.collect.specs.declared.collecting.Rows.{Rows}
use Rattle.collect.specs.declared.parts.Source.{Source}
use Rattle.collect.specs.declared.parts.Job.{Job}
use Rattle.collect.specs.declared.uses.Installed.{Installed}
use Rattle.folder_globs.specs.Exclusions.{exclusion, IsFolder}
use Rattle.collect.specs.Parts.{scripts_of, starts_from, package_folders, texts_at, Uses}
use Rattle.collect.specs.Listings.{ArePaired, with_bytes}
use Rattle.collect.specs.Refusals.{is_large, first_large, IsMissingOf}
use Rattle.rel_path.specs.Limits.{sum_limit}

abbrev pub OnlyMemory : {T : Type 0} → Result T CollectErr → Type 0
OnlyMemory result = IfErr result (λ e. e ≡ OutOfMemory)

-- ---- tasks

-- the task by the number of its owner and its definition
pub record IsTaskOf (setup : Setup) (space : Space) (id : TaskId) (t : DefinedTask) : Type 0 where
  pub member : Package
  pub stands : owner_named space id.«package» ≡ Some member
  pub at : slice_get (owners space) t.owner ≡ Some member
  pub def : task_def setup member.name id.task ≡ Some t.def

-- ---- installed packages

abbrev pub GivesUses : Space → Option Data → Package → Result (List (List ℕ × List ℕ)) CollectErr → Type 0
GivesUses space lock p (Ok pairs) = Uses space lock p pairs
GivesUses space lock p (Err (Missing from name)) = IsMissingOf space lock p from name
GivesUses space lock p (Err (TooLarge path)) = ⊥
GivesUses space lock p (Err (TooMuch bytes)) = ⊥
GivesUses space lock p (Err Failed) = ⊥
GivesUses space lock p (Err OutOfMemory) = Unit {0}

-- what is looked up for an owner from its folder
abbrev pub own_starts : Space → Package → List Start
own_starts space p = starts_from (join_with_byte 47 p.folder) (needs_of space.packages p.manifest)

-- what is looked up for every owner from the root
abbrev pub root_starts : Space → List Start
root_starts space = starts_from [] (needs_of space.packages space.root)

abbrev pub lock_in : Option Installed → Option Data
lock_in installed = option_map (λ i. view i.lock.now) installed

-- what the root needs reaches this in the lockfile
pub record IsRootReach (space : Space) (i : Installed) : Type 0 where
  pub starts : i.root.starts ≡ root_starts space
  pub reached : IsReachIn (view i.lock.now) i.root

abbrev pub IsFitInstalled : Space → Option Installed → Type 0
IsFitInstalled space installed = IfSome installed (IsRootReach space)

-- the installed packages that the owner of this number uses
abbrev pub UsesAt : Space → Option Data → ℕ → List (List ℕ × List ℕ) → Type 0
UsesAt space lock number pairs = HoldsAt (λ p. Uses space lock p pairs) (owners space) number

-- what some of the owners use, by their numbers
pub record AreKnown (space : Space) (lock : Option Data) (known : List (Option (List (List ℕ × List ℕ)))) : Type 0 where
  pub size : length known ≡ length (owners space)
  pub each : (number : ℕ) → IfSome (get_or known number None) (UsesAt space lock number)

-- the owner of this number finds each name
abbrev pub FindsAt : Space → Option Data → ℕ → Type 0
FindsAt space lock number = (pairs : List (List ℕ × List ℕ)) × UsesAt space lock number pairs

pub record MissesFirst (space : Space) (lock : Option Data) (tasks : List DefinedTask) (from name : List ℕ) : Type 0 where
  pub place : ℕ
  pub task : DefinedTask
  pub stands : slice_get tasks place ≡ Some task
  pub found : AllByRecursion (λ t. FindsAt space lock t.owner) (take place tasks)
  pub misses : HoldsAt (λ p. IsMissingOf space lock p from name) (owners space) task.owner

abbrev pub AllUses : {X : Type 0} → Space → Option Data → List DefinedTask → (X → List (List (List ℕ × List ℕ))) → Result X CollectErr → Type 0
AllUses space lock tasks items (Ok uses) = ArePaired (λ t pairs. UsesAt space lock t.owner pairs) tasks (items uses)
AllUses space lock tasks items (Err (Missing from name)) = MissesFirst space lock tasks from name
AllUses space lock tasks items (Err (TooLarge path)) = ⊥
AllUses space lock tasks items (Err (TooMuch bytes)) = ⊥
AllUses space lock tasks items (Err Failed) = ⊥
AllUses space lock tasks items (Err OutOfMemory) = Unit {0}

-- ---- reading

abbrev pub IsTooLarge : Path → CollectErr → Type 0
IsTooLarge path (Missing from name) = ⊥
IsTooLarge path (TooLarge large) = large ≡ path
IsTooLarge path (TooMuch bytes) = ⊥
IsTooLarge path Failed = ⊥
IsTooLarge path OutOfMemory = Unit {0}

-- what reading these bytes answers, which are over the limit or not
abbrev pub ReadsOne : Option (List ℕ) → Bool → Path → Result (Option (List ℕ)) CollectErr → Type 0
ReadsOne bytes large path (Ok now) = (now ≡ bytes) × (large ≡ false)
ReadsOne bytes large path (Err (Missing from name)) = ⊥
ReadsOne bytes large path (Err (TooLarge other)) = (other ≡ path) × (large ≡ true)
ReadsOne bytes large path (Err (TooMuch total)) = ⊥
ReadsOne bytes large path (Err Failed) = Unit {0}
ReadsOne bytes large path (Err OutOfMemory) = Unit {0}

abbrev pub known_at : Path → Option (List ℕ) → List (Path × List ℕ)
known_at path None = []
known_at path (Some bytes) = (path, bytes) ∷ []

abbrev pub ReadsAll : FileMap → List Path → Result (List (Path × List ℕ)) CollectErr → Type 0
ReadsAll files paths (Ok got) = (got ≡ with_bytes files paths) × (first_large files paths ≡ None)
ReadsAll files paths (Err (Missing from name)) = ⊥
ReadsAll files paths (Err (TooLarge path)) = first_large files paths ≡ Some path
ReadsAll files paths (Err (TooMuch total)) = ⊥
ReadsAll files paths (Err Failed) = Unit {0}
ReadsAll files paths (Err OutOfMemory) = Unit {0}

-- the files, where the ignore files are these
abbrev pub known : List (Path × List ℕ) → FileMap → FileMap
known ignores files path = if is_ignore_file path then file_at ignores path else files path

-- the file is over the limit and is not an ignore file
abbrev pub large_at : FileMap → Path → Bool
large_at files path = if is_ignore_file path then false else is_large (files path)

-- the bytes at a path, if it is marked
abbrev pub known_if : FileMap → Bool × Path → Option (List ℕ)
known_if files m = if m.0 then files m.1 else None

abbrev pub is_large_at : FileMap → Bool × Path → Bool
is_large_at files m = m.0 && large_at files m.1

abbrev pub size_of : Option (List ℕ) → ℕ
size_of None = 0
size_of (Some bytes) = length bytes

-- one path more
pub record Adds (path : Path) (now : Option (List ℕ)) (old new : Gathered) : Type 0 where
  pub found : new.found.items ≡ old.found.items ++ is_some now ∷ []
  pub total : new.total ≡ old.total + size_of now
  pub files : new.total ≤ sum_limit → new.files ≡ old.files ++ known_at path now

-- of walked paths with their marks
abbrev pub marked_files : FileMap → List (Bool × Path) → List (Path × List ℕ)
marked_files files ms = filter_map (λ m. option_map (λ bytes. (m.1, bytes)) (known_if files m)) ms

pub record GathersAll (files : FileMap) (large : Bool × Path → Bool) (ms : List (Bool × Path)) (g : Gathered) : Type 0 where
  pub found : g.found.items ≡ map (λ m. is_some (known_if files m)) ms
  pub total : g.total ≡ sum_by (λ file. length file.1) (marked_files files ms)
  pub files_are : g.total ≤ sum_limit → g.files ≡ marked_files files ms
  pub small : find large ms ≡ None

abbrev pub Gathers : FileMap → (Bool × Path → Bool) → List (Bool × Path) → Result Gathered CollectErr → Type 0
Gathers files large ms (Ok g) = GathersAll files large ms g
Gathers files large ms (Err (Missing from name)) = ⊥
Gathers files large ms (Err (TooLarge path)) = option_map (λ m. m.1) (find large ms) ≡ Some path
Gathers files large ms (Err (TooMuch total)) = ⊥
Gathers files large ms (Err Failed) = Unit {0}
Gathers files large ms (Err OutOfMemory) = Unit {0}

-- ---- whatever the tree tells

-- these are files of those paths
abbrev pub ReadsSome : List Path → List (Path × List ℕ) → Type 0
ReadsSome paths got = (files : FileMap) × (got ≡ with_bytes files paths)

-- what was found at a path with its mark: what is known of an ignore file, or else some bytes or none
abbrev pub KnowsSome : List (Path × List ℕ) → Bool × Path → Option (List ℕ) → Type 0
KnowsSome ignores m now = (bytes : Option (List ℕ)) × (now ≡ known_if (known ignores (λ path. bytes)) m)

abbrev pub never : Bool × Path → Bool
never m = false

-- gathered of some files, and of the ignore files that are known
abbrev pub GathersSome : List (Path × List ℕ) → List (Bool × Path) → Gathered → Type 0
GathersSome ignores ms g = (files : FileMap) × GathersAll (known ignores files) never ms g

-- ---- rules

abbrev pub folder_of : Path → Path
folder_of [] = []
folder_of (name ∷ []) = []
folder_of (name ∷ next ∷ rest) = name ∷ folder_of (next ∷ rest)

-- the rules of an ignore file, and its folder
abbrev pub rules_file : Path × List ℕ → Path × List Rule
rules_file file = (folder_of file.0, rules_of file.1)

-- ---- marks

abbrev pub marked : List Bool → ℕ → Bool
marked marks j = slice_index_or marks j false

abbrev pub in_row : ℕ → List ℕ → Bool
in_row j row = list_any (λ d. d == j) row

-- ---- parts

abbrev pub text_or_none : Option (List ℕ) → List ℕ
text_or_none text = unwrap_or text []

-- the output set of a task in the folder, with these texts behind its outputs where that is the root
abbrev pub out_set_by : List (List ℕ) → Path → Home → List ℕ → TaskDef → OutSet
out_set_by texts folder home task def = record {
  folder = folder;
  mine = def.outputs ++ texts_at texts folder;
  others = others_than task home.tasks;
}

-- the paths at these places that were found
abbrev pub inputs_at : List Path → List Bool → List ℕ → List Path
inputs_at walk found row = map (λ k. get_or walk k []) (filter (λ k. marked found k) row)

-- a part, by what it is made of
pub record IsMade (owners : List Package) (homes : List Home) (texts : List (List ℕ)) (globals : List (List ℕ)) (env : List (List ℕ × List ℕ)) (walk : List Path) (found : List Bool) (wanted : Wanted) (task : DefinedTask) (row : List ℕ) (uses : List (List ℕ × List ℕ)) (part : Part) : Type 0 where
  pub member : Package
  pub at : slice_get owners task.owner ≡ Some member
  pub home : Home
  pub home_at : slice_get homes task.owner ≡ Some home
  pub «package» : part.«package» ≡ wanted.id.«package»
  pub folder : part.folder ≡ member.folder
  pub task_is : part.task ≡ wanted.id.task
  pub scripts : part.scripts ≡ scripts_of member.manifest.scripts wanted.id.task
  pub args : part.args ≡ wanted.args
  pub outs : part.outs ≡ out_set_by texts member.folder home wanted.id.task task.def
  pub env_pairs : IsChosen (is_hashed task.def.env globals) env part.env
  pub inputs : part.inputs ≡ inputs_at walk found row
  pub externals : part.externals ≡ uses
  pub deps : part.deps ≡ wanted.deps

-- the same of what parts are made of
abbrev pub IsMadeFrom : Source → Wanted → DefinedTask → List ℕ → List (List ℕ × List ℕ) → Part → Type 0
IsMadeFrom source wanted task row uses part = IsMade (owners source.packages.now) source.declared.now source.exclusions.now source.globals.now source.env.now source.walk.now source.found.now wanted task row uses part

-- a home for each owner, and a mark for each walked file
pub record IsFitSource (source : Source) : Type 0 where
  pub homes : length source.declared.now ≡ length (owners source.packages.now)
  pub same : length source.found.now ≡ length source.walk.now

-- the task's owner is there, and its places are those of walked files
pub record IsFitJob (source : Source) (job : Job) : Type 0 where
  pub number : job.task.now.owner < length (owners source.packages.now)
  pub below : AllByRecursion (λ k. k < length source.walk.now) job.row.now

-- a task, a row and uses for each wanted task; of so many owners that of the task is there, and the places are below the length of the walk
pub record AreFit (count long : ℕ) (wanted : List Wanted) (tasks : List DefinedTask) (rows : List (List ℕ)) (uses : List (List (List ℕ × List ℕ))) : Type 0 where
  pub numbers : AllByRecursion (λ t. t.owner < count) tasks
  pub below : AllByRecursion (AllByRecursion (λ k. k < long)) rows
  pub same_tasks : length tasks ≡ length wanted
  pub same_rows : length rows ≡ length wanted
  pub same_uses : length uses ≡ length wanted

-- wanted tasks with what is known of each
abbrev pub jobs : List Wanted → List DefinedTask → List (List ℕ) → List (List (List ℕ × List ℕ)) → List ((Wanted × DefinedTask) × (List ℕ × List (List ℕ × List ℕ)))
jobs wanted tasks rows uses = zip (zip wanted tasks) (zip rows uses)

abbrev pub IsMadeOf : (Wanted → DefinedTask → List ℕ → List (List ℕ × List ℕ) → Part → Type 0) → (Wanted × DefinedTask) × (List ℕ × List (List ℕ × List ℕ)) → Part → Type 0
IsMadeOf R j part = R j.0.0 j.0.1 j.1.0 j.1.1 part

-- each of them is
abbrev pub AreMade : (Wanted → DefinedTask → List ℕ → List (List ℕ × List ℕ) → Part → Type 0) → List Wanted → List DefinedTask → List (List ℕ) → List (List (List ℕ × List ℕ)) → List Part → Type 0
AreMade R wanted tasks rows uses parts = ArePaired (IsMadeOf R) (jobs wanted tasks rows uses) parts

-- ---- the whole

pub record IsPlan (setup : Setup) (space : Space) (lock : Option Data) (walk : List Path) (wanted : List Wanted) (plan : Plan) : Type 0 where
  pub tasks : ArePaired (λ w t. IsTaskOf setup space w.id t) wanted plan.tasks.items
  pub uses : ArePaired (λ t pairs. UsesAt space lock t.owner pairs) plan.tasks.items plan.uses.items
  pub declared : plan.declared ≡ map (home_of setup) (owners space)
  pub rules : plan.rules ≡ rule_files setup (owners space) walk
  pub exclusions : plan.exclusions ≡ map exclusion (package_folders space)
  pub globals : plan.globals ≡ setup.globals.env
  pub folders : AllByRecursion (λ p. IsFolder p.folder) space.packages
  pub proper : IsProper space

abbrev pub Plans : Setup → Space → Option Data → List Path → List Wanted → Result Plan CollectErr → Type 0
Plans setup space lock walk wanted (Ok plan) = IsPlan setup space lock walk wanted plan
Plans setup space lock walk wanted (Err (Missing from name)) = (tasks : List DefinedTask) × ArePaired (λ w t. IsTaskOf setup space w.id t) wanted tasks × MissesFirst space lock tasks from name
Plans setup space lock walk wanted (Err (TooLarge path)) = ⊥
Plans setup space lock walk wanted (Err (TooMuch total)) = ⊥
Plans setup space lock walk wanted (Err Failed) = ⊥
Plans setup space lock walk wanted (Err OutOfMemory) = Unit {0}

pub record AreRows (setup : Setup) (owners : List Package) (walk : List Path) (ignored : Path → Bool) (tasks : List DefinedTask) (r : Rows) : Type 0 where
  pub rows : r.rows.items ≡ map (input_row ignored setup owners walk) tasks
  pub same : length r.marks.items ≡ length walk
  pub marks : (j : ℕ) → marked r.marks.items j ≡ list_any (in_row j) r.rows.items
