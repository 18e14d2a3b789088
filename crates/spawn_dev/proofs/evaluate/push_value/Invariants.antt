use Rattle.std.proofs.Common.{◌≡◌, drop}
use Rattle.spawn_dev.specs.Books.{value_of}
use Rattle.spawn_dev.proofs.evaluate.push_value.Given as goal

abbrev pub invariant-loop-pair : goal.invariant-loop-pair
invariant-loop-pair l = record {
  log : l.to.items ≡ l.initial.to.items;
  value : value_of l.pairs l.name ≡ value_of (drop l.pair-index l.pairs) l.name;
}
