use Rattle.std.proofs.Common.{◌≡◌, ◌++◌, take}
use Rattle.collect.proofs.parts.outputs_of.Given as goal

-- the outputs, and behind them the texts so far
abbrev pub invariant-loop-text : goal.invariant-loop-text
invariant-loop-text l = l.all ≡ l.outputs ++ take l.text-index l.texts
