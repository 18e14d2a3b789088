-- Which packages have to stand in a repository that is made of a part of another one (Turborepo docs, "prune": the packages that are named, with the workspace packages that they depend on; what else stays is this project's own rule).
use Rattle.std.specs.Prelude.{◌≡◌, ℕ, Bool, true, ◌&&◌, ◌==◌, not, length, List, [], Option, Some, None}
use Rattle.std.specs.List.{list_any, join_with_byte, before_first}
use Rattle.rel_path.specs.Paths.{Path, is_among, name_eq}
use Rattle.serde_json.specs.Data.{Data}
use Rattle.lock_entries.specs.Lockfile.{entries_in}
use Rattle.npm_lock.specs.Externals.{IsExternals, IsLinked}
use Rattle.workspaces.specs.declared.member.Package.{Package}
use Rattle.workspaces.specs.Edges.{has_edge}
use Rattle.workspaces.specs.Lists.{Has, places}
use Rattle.workspaces.specs.Reach.{IsLeast}
use Rattle.workspaces.specs.Space.{owners, owner_named, root_package}
use Rattle.turbo_config.specs.declared.entry.TaskDef.{TaskDef}
use Rattle.turbo_config.specs.Names.{begins_caret}
use Rattle.task_definitions.specs.Setup.{task_def, is_name}
use Rattle.task_graph.specs.Tasks.{is_hash, is_full}
use Rattle.task_inputs.specs.Homes.{is_home, configured}
use Rattle.task_inputs.specs.Inputs.{is_far_input}
use Rattle.collect.specs.Parts.{starts_of}
use Rattle.repository.specs.Reading.{Contents}

-- ---- what one owner, a package or the root, needs of another

-- a text of `dependsOn` is `package#task` with this name of a package
abbrev pub names_package : List ℕ → List ℕ → Bool
names_package name text = not (begins_caret text) && (is_full text && name_eq (before_first is_hash text) name)

-- a task of the one, whose name is that of a task, depends on a task of the other by its name
pub record NamesTaskOf (contents : Contents) (p q : Package) : Type 0 where
  pub task : List ℕ
  pub listed : is_name contents.setup task ≡ true
  pub def : TaskDef
  pub defined : task_def contents.setup p.name task ≡ Some def
  pub name : List ℕ
  pub named : list_any (names_package name) def.depends_on ≡ true
  pub is : owner_named contents.space name ≡ Some q

-- of the installed packages that the one uses some is a link to the folder of the other
abbrev pub LinksTo : Contents → Option Data → Package → Package → Type 0
LinksTo contents None p q = ⊥
LinksTo contents (Some lock) p q = (set : List ℕ → Bool) × IsExternals (entries_in lock) (starts_of contents.space p) set × IsLinked (entries_in lock) set (join_with_byte 47 q.folder)

-- a task of the one, whose name is that of a task, gets a file of the other through a glob of the root or a global one
pub record TakesFrom (contents : Contents) (p q : Package) : Type 0 where
  pub task : List ℕ
  pub listed : is_name contents.setup task ≡ true
  pub def : TaskDef
  pub defined : task_def contents.setup p.name task ≡ Some def
  pub path : Path
  pub walked : is_among contents.walk path ≡ true
  pub far : is_far_input contents.setup (owners contents.space) p def path ≡ true
  pub home : is_home (owners contents.space) q path ≡ true

-- ---- the packages that stay

-- the root has a script with a definition
abbrev pub has_root_task : Contents → Bool
has_root_task contents = not (length (configured contents.setup (root_package contents.space.root)) == 0)

abbrev pub is_target : List (List ℕ) → Package → Bool
is_target targets p = list_any (name_eq p.name) targets

-- an owner whose folder is in the set
pub record Stays (contents : Contents) (set : Path → Bool) (p : Package) : Type 0 where
  pub owner : Has (owners contents.space) p
  pub stays : set p.folder ≡ true

-- The folders of owners, which differ. They have the named packages and those that the root depends on, and with each owner what it
-- needs. Where the root has tasks, they have each package of which a file is taken; where the root is among them, all packages.
pub record IsClosed (contents : Contents) (targets : List (List ℕ)) (set : Path → Bool) : Type 0 where
  pub named : (q : Package) → Has contents.space.packages q → is_target targets q ≡ true → set q.folder ≡ true
  pub rooted : (q : Package) → Has contents.space.packages q → has_edge (root_package contents.space.root) q ≡ true → set q.folder ≡ true
  pub edges : (p q : Package) → Stays contents set p → Has contents.space.packages q → has_edge p q ≡ true → set q.folder ≡ true
  pub tasks : (p q : Package) → Stays contents set p → NamesTaskOf contents p q → set q.folder ≡ true
  pub links : (p q : Package) → Stays contents set p → Has contents.space.packages q → LinksTo contents contents.lock p q → set q.folder ≡ true
  pub files : has_root_task contents ≡ true → (p q : Package) → Stays contents set p → Has contents.space.packages q → TakesFrom contents p q → set q.folder ≡ true
  pub all : set [] ≡ true → (q : Package) → Has contents.space.packages q → set q.folder ≡ true

-- the least such set
abbrev pub IsKept : Contents → List (List ℕ) → (Path → Bool) → Type 0
IsKept contents targets set = IsLeast (IsClosed contents targets) set

-- the numbers of the owners that stay
abbrev pub kept_places : Contents → (Path → Bool) → List ℕ
kept_places contents set = places (λ p. set p.folder) (owners contents.space)
