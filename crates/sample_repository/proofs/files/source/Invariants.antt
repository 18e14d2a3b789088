use Rattle.std.proofs.Common.{◌≡◌, ◌<◌, ◌^◌, ◌*◌, ◌+◌}
use Rattle.sample_repository.specs.Repository.{letters, state_behind}
use Rattle.sample_repository.proofs.files.source.Given as goal

abbrev pub invariant-loop : goal.invariant-loop
invariant-loop l = record {
  small : l.x < 2 ^ 31;
  state : l.x ≡ state_behind l.counter (l.n * 1000 + l.number);
  made : l.bytes.items ≡ letters l.counter (l.n * 1000 + l.number);
}
