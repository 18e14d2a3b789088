use Rattle.std.proofs.Common.{rules, ◌<◌, ◌+◌, List, [], ◌∷◌, ◌++◌, length, take, drop, Ok, Err}
use Rattle.std.proofs.Common.{sym, subst}
use Rattle.std.proofs.lemmas.Result.{err_from_is_err_and}
use Rattle.cache_api.specs.declared.error.CacheErr.TheVariants.{OutOfMemory}
use Rattle.cache_api.specs.declared.puts.Put.{Put}
use Rattle.cache_api.specs.declared.puts.Puts.{Puts}
use Rattle.cache_api.specs.Keys.{new_pairs}
use Rattle.cache_api.specs.Pairs.{Pair, chosen}
use Rattle.pair_writer.specs.Putting.{new_pair}
use Rattle.relay_store.specs.Relays.{stores}
use Rattle.relay_store.specs.Calls.{IsPutting}
use Rattle.relay_store.specs.Relays.{stores_of}
use Rattle.relay_store.specs.Devices.{HasPut}
use Rattle.relay_store.proofs.Turn.{InTurn, around, one_more, no_turn, next_turn, turn_err}
use Rattle.relay_store.proofs.Turn.{turn_memory, turn_gives}
use Rattle.relay_store.proofs.relay.Relay.put_in_turn.Goals as goal

pub loop-pair-init : goal.loop-pair-init
loop-pair-init g c =
    subst (λ (l : List Put). InTurn c.args.self.now c.args.self.now [] l) (sym c.new-puts.ensures)
    (no_turn c.args.self.now g.met.S.StoreDevice.only_now g.met.R.StoreDevice.only_now c.requires)

pub returns-in_err-put-clause-putting : goal.returns-in_err-put-clause-putting
returns-in_err-put-clause-putting g c =
    let start = c.args.self.now in
    let pairs = c.args.pairs.now in
    let i = c.loop-pair.pair-index in
    let x = c.pair-item.result in
    let within : i < length pairs = search rules in
    let p = err_from_is_err_and c.from_residual.result c.from_residual.ensures.1 in
    let e = c.in_err-put.field-0.0 in
    rw (p.1, p.2)
    (subst (λ (l : List Pair). IsPutting {T = Puts} start c.put_one.new.self
    (chosen l (stores start l)) (Err e))
    (sym (around pairs i x within c.pair-item.is))
    (turn_err start c.loop-pair.self c.put_one.new.self (new_pairs (take i pairs))
    c.loop-pair.puts (new_pair x) c.loop-pair.invariant
    (new_pairs (drop (i + 1) pairs)) e c.in_err-put.ensures.putting))

pub returns-in_err-push-clause-putting : goal.returns-in_err-push-clause-putting
returns-in_err-push-clause-putting g c =
    let start = c.args.self.now in
    let pairs = c.args.pairs.now in
    let i = c.loop-pair.pair-index in
    let x = c.pair-item.result in
    let within : i < length pairs = search rules in
    let p = err_from_is_err_and c.from_residual-in_err-push.result
    c.from_residual-in_err-push.ensures.1 in
    rw (p.1, p.2)
    (subst (λ (l : List Pair). IsPutting {T = Puts} start c.put_one.new.self
    (chosen l (stores start l)) (Err OutOfMemory))
    (sym (around pairs i x within c.pair-item.is))
    (turn_memory start c.loop-pair.self c.put_one.new.self (new_pairs (take i pairs))
    c.loop-pair.puts (new_pair x) c.loop-pair.invariant
    (new_pairs (drop (i + 1) pairs)) c.in_ok-put.put c.in_ok-put.ensures.putting))

pub loop-pair-preserved : goal.loop-pair-preserved
loop-pair-preserved g c =
    let start = c.args.self.now in
    let now = c.put_one.new.self in
    let pairs = c.args.pairs.now in
    let i = c.loop-pair.pair-index in
    let x = c.pair-item.result in
    let within : i < length pairs = search rules in
    let y = c.in_ok-put.ensures in
    let next = next_turn start c.loop-pair.self now (new_pairs (take i pairs)) c.loop-pair.puts
    (new_pair x) c.loop-pair.invariant
    c.in_ok-put.put y.outcome y.room y.spaces y.putting y.devices in
    subst (λ (l : List Pair). InTurn start now l c.push.new.self)
    (sym (one_more pairs i x within c.pair-item.is))
    (subst (λ (l : List Put). InTurn start now (new_pairs (take i pairs) ++ new_pair x ∷ []) l)
    (sym c.in_ok-push.ensures.pushed) next)

pub returns-in_err-put-clause-devices : goal.returns-in_err-put-clause-devices
returns-in_err-put-clause-devices g c =
    let start = c.args.self.now in
    let now = c.put_one.new.self in
    let pairs = c.args.pairs.now in
    let i = c.loop-pair.pair-index in
    let x = c.pair-item.result in
    let within : i < length pairs = search rules in
    let p = err_from_is_err_and c.from_residual.result c.from_residual.ensures.1 in
    let e = c.in_err-put.field-0.0 in
    rw (p.1, p.2)
    (subst (λ (l : List Pair). HasPut start (stores_of now) l (Err e))
    (sym (around pairs i x within c.pair-item.is))
    (turn_gives start c.loop-pair.self now (new_pairs (take i pairs)) c.loop-pair.puts (new_pair x)
    c.loop-pair.invariant (new_pairs (drop (i + 1) pairs)) (Err e) e
    c.in_err-put.ensures.devices))

pub returns-in_err-push-clause-devices : goal.returns-in_err-push-clause-devices
returns-in_err-push-clause-devices g c =
    let start = c.args.self.now in
    let now = c.put_one.new.self in
    let pairs = c.args.pairs.now in
    let i = c.loop-pair.pair-index in
    let x = c.pair-item.result in
    let within : i < length pairs = search rules in
    let p = err_from_is_err_and c.from_residual-in_err-push.result
    c.from_residual-in_err-push.ensures.1 in
    rw (p.1, p.2)
    (subst (λ (l : List Pair). HasPut start (stores_of now) l (Err OutOfMemory))
    (sym (around pairs i x within c.pair-item.is))
    (turn_gives start c.loop-pair.self now (new_pairs (take i pairs)) c.loop-pair.puts (new_pair x)
    c.loop-pair.invariant (new_pairs (drop (i + 1) pairs)) (Ok c.in_ok-put.put) OutOfMemory
    c.in_ok-put.ensures.devices))
