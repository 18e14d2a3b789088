use Rattle.std.proofs.Common.{◌≡◌, drop}
use Rattle.task_graph.specs.Entries.{and_more, entry_tasks}
use Rattle.task_graph.proofs.entries.entry_tasks.Given as goal

abbrev pub invariant-loop-word : goal.invariant-loop-word
invariant-loop-word l = and_more l.tasks.items (entry_tasks l.packages l.config l.selected l.all (drop l.word-index l.fn.words)) ≡ entry_tasks l.packages l.config l.selected l.all l.fn.words
