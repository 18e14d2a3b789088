use Rattle.std.proofs.Common.{◌≡◌, ◌++◌, drop, map}
use Rattle.run_plan.proofs.keys.texts_of.Given as goal

abbrev pub invariant-loop-key : goal.invariant-loop-key
invariant-loop-key l = map (λ text. text.now) l.texts.items ++ drop l.key-index l.keys ≡ l.keys
