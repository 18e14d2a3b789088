-- Results that follow what was made before.
use Rattle.std.proofs.Common.{List, ◌++◌, Result, Ok, Err}
use Rattle.task_graph.specs.declared.error.GraphErr.{GraphErr}

abbrev pub and_then : {X : Type 0} → List X → Result (List X) GraphErr → Result (List X) GraphErr
and_then xs (Ok more) = Ok (xs ++ more)
and_then xs (Err fault) = Err fault
