-- That a pruned repository has the plan of the whole one, where an order asks for tasks of a
-- package that the pruning was made for.
use Rattle.std.specs.Prelude.{◌≡◌, ◌≤◌, ◌↔◌, ℕ, true, false, List, [], ◌∷◌, length, Some, Ok, is_some, IfSome}
use Rattle.std.specs.List.{AllByRecursion}
use Rattle.rel_path.specs.Files.{FileMap}
use Rattle.rel_path.specs.Limits.{file_limit}
use Rattle.cli_words.specs.declared.order.RunOrder.{RunOrder}
use Rattle.workspaces.specs.declared.member.Package.{Package}
use Rattle.workspaces.specs.Edges.{text_by}
use Rattle.workspaces.specs.Lists.{Has}
use Rattle.task_definitions.specs.Setup.{Setup, task_def}
use Rattle.filters.specs.declared.filter.Core.TheVariants.{Name}
use Rattle.filters.specs.declared.filter.End.TheVariants.{Bare}
use Rattle.filters.specs.declared.filter.Filter.{Filter}
use Rattle.filters.specs.Words.{filter_of}
use Rattle.run_plan.specs.declared.plan.Plan.{Plan}
use Rattle.repository.specs.Reading.{Contents, Means}
use Rattle.planner.specs.Plans.{Answer, Plans}
use Rattle.plan_laws.specs.Laws.{AsksFor}
use Rattle.kept_packages.specs.Kept.{is_target}
use Rattle.pruned_files.specs.Pruned.{Pruning, IsPruning, pruned_files, pruned_contents}
use Rattle.prune_laws.specs.Laws.{HasNoLockInput, ArePruned}

-- ---- what is asked for

-- the filter that is a name alone: no `!`, no `...`, no `*`, no folder
abbrev pub by_name : List ℕ → Filter
by_name name = record { excludes = false; front = Bare; core = Name name; back = Bare }

-- the package has a script of the name, and the task has a definition
pub record IsConfigured (setup : Setup) (p : Package) (task : List ℕ) : Type 0 where
  pub scripted : is_some (text_by task p.manifest.scripts) ≡ true
  pub defined : is_some (task_def setup p.name task) ≡ true

-- `run TASK.. --filter=TARGET`: one filter, which is the plain name of a package that the pruning
-- was made for, and configured tasks of that package
pub record AsksTarget (contents : Contents) (targets : List (List ℕ)) (order : RunOrder)
    : Type 0 where
  pub target : Package
  pub stands : Has contents.space.packages target
  pub named : is_target targets target ≡ true
  pub filters : order.filters ≡ target.name ∷ []
  pub plain : filter_of target.name ≡ Some (by_name target.name)
  pub tasks : AllByRecursion (IsConfigured contents.setup target) order.tasks

-- Files that make a repository, what a pruning leaves of them, and an order for a target with its
-- plan in the whole repository. The lockfile, which is cut, is no input of a task of an owner that
-- stays.
pub record Asked : Type 0 where
  pub files : FileMap
  pub contents : Contents
  pub targets : List (List ℕ)
  pub pruning : Pruning
  pub order : RunOrder
  pub env : List (List ℕ × List ℕ)
  pub plan : Plan
  pub means : Means files (Ok contents)
  pub prunes : IsPruning contents targets pruning
  pub no_lock : HasNoLockInput files contents pruning
  pub asks : AsksTarget contents targets order
  pub plans : Plans contents order env files (Ok plan)

-- the plan of the order in the pruned repository, or why there is none
abbrev pub PlansThere : Asked → Answer → Type 0
PlansThere a answer =
    Plans (pruned_contents a.contents a.pruning) a.order a.env
    (pruned_files a.pruning a.files) answer

-- ---- what then holds

-- The pruned repository has that very plan: the same tasks in the same order, each with the same
-- inputs, installed packages, variables, outputs and words.
abbrev pub PlanLaw : Type 0
PlanLaw = (a : Asked) → PlansThere a (Ok a.plan)

-- It has no other plan, and refuses the order for no reason.
abbrev pub AnswerLaw : Type 0
AnswerLaw = (a : Asked) (answer : Answer) → PlansThere a answer → answer ≡ Ok a.plan

-- So two plans of the order, one of each repository, are as the laws on tasks ask for.
abbrev pub PairLaw : Type 0
PairLaw = (a : Asked) (there : Plan) → PlansThere a (Ok there)
    → ArePruned a.files a.contents a.targets a.pruning a.env a.plan there

-- Said of files: where the cut lockfile is within the limit of a file, the order asks for that
-- plan over the files that are left, and for nothing else.
abbrev pub FilesLaw : Type 0
FilesLaw = (a : Asked) → IfSome a.pruning.text (λ text. length text ≤ file_limit)
    → (answer : Answer)
    → AsksFor a.order a.env (pruned_files a.pruning a.files) answer ↔ (answer ≡ Ok a.plan)
