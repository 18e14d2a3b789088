use Rattle.std.proofs.Common.{take}
use Rattle.cache_api.specs.Keys.{new_pairs}
use Rattle.relay_store.proofs.Turn.{InTurn}
use Rattle.relay_store.proofs.relay.Relay.put_in_turn.Given as goal

abbrev pub invariant-loop-pair : goal.invariant-loop-pair
invariant-loop-pair g l = InTurn l.fn.self l.self (new_pairs (take l.pair-index l.pairs)) l.puts
