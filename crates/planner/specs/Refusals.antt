-- Why words and a repository give no plan.
use Rattle.std.specs.Prelude.{Option, Some, None}
use Rattle.refusals.specs.declared.refusal.Refusal.{Refusal}
use Rattle.refusals.specs.declared.refusal.Refusal.TheVariants as refusal
use Rattle.filters.specs.declared.error.FilterErr.{FilterErr}
use Rattle.filters.specs.declared.error.FilterErr.TheVariants as filter
use Rattle.task_graph.specs.declared.error.GraphErr.{GraphErr}
use Rattle.task_graph.specs.declared.error.GraphErr.TheVariants as graph
use Rattle.collect.specs.declared.error.CollectErr.{CollectErr}
use Rattle.collect.specs.declared.error.CollectErr.TheVariants as collected

-- that memory was wanting, or a device failed, is no matter of words and files
abbrev pub filter_refusal : FilterErr → Option Refusal
filter_refusal (filter.Unreadable word) = Some (refusal.Filter word)
filter_refusal (filter.NoPackage name) = Some (refusal.NoPackage name)
filter_refusal filter.OutOfMemory = None

abbrev pub graph_refusal : GraphErr → Option Refusal
graph_refusal (graph.NoSuchTask name) = Some (refusal.NoSuchTask name)
graph_refusal (graph.NoSuchDependency task text) = Some (refusal.NoSuchDependency task text)
graph_refusal (graph.Cycle tasks) = Some (refusal.Cycle tasks)
graph_refusal graph.OutOfMemory = None

abbrev pub collect_refusal : CollectErr → Option Refusal
collect_refusal (collected.Missing from name) = Some (refusal.LockMissing from name)
collect_refusal (collected.TooLarge path) = Some (refusal.TooLarge path)
collect_refusal (collected.TooMuch bytes) = Some (refusal.TooMuch bytes)
collect_refusal collected.Failed = None
collect_refusal collected.OutOfMemory = None
