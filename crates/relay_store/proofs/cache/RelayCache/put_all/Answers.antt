use Rattle.std.proofs.Common.{◌≡◌, List, length, sym, ◌∙◌, ap, subst, arith}
use Rattle.std.specs.Prelude.{sum_by}
use Rattle.std.proofs.lemmas.Result.{IfOk-weaker}
use Rattle.cache_api.specs.declared.puts.Puts.{Puts}
use Rattle.cache_api.specs.Cache.{ample, AllAfter, ArePut}
use Rattle.cache_api.specs.Keys.{new_pairs}
use Rattle.cache_api.specs.Pairs.{Pair, chosen}
use Rattle.relay_store.specs.Parts as part
use Rattle.relay_store.specs.Relays.{state_of, spaces, stores, stores_of}
use Rattle.relay_store.proofs.Devices.{both_tell, gives_all, gives_stores}
use Rattle.relay_store.specs.Rooms.{each_space, are_to_put}
use Rattle.relay_store.proofs.Filled.{local_there, second_there, room_local, room_second}
use Rattle.relay_store.proofs.Fitting.{fit_ample}
use Rattle.relay_store.proofs.Putting.{putting_as, all_after, no_fewer, put_left}
use Rattle.relay_store.proofs.Spaces.{stores_all, chosen_all}
use Rattle.relay_store.proofs.cache.RelayCache.put_all.Goals as goal

pub put_fitting-requires-clause-local : goal.put_fitting-requires-clause-local
put_fitting-requires-clause-local g c puts told =
    let r = c.args.self.now in
    let room = c.has_ample_room.ensures.0 c.if-has_ample_room.true in
    let le = room_local r.access.local_puts r.access.second_puts (part.state_of r.local).room
    (part.state_of r.second).room puts in
    fit_ample r.local (new_pairs c.args.pairs.now) (local_there r.serves puts)
    (omega (arith, room, le))

pub put_fitting-requires-clause-second : goal.put_fitting-requires-clause-second
put_fitting-requires-clause-second g c puts told =
    let r = c.args.self.now in
    let room = c.has_ample_room.ensures.0 c.if-has_ample_room.true in
    let le = room_second r.access.local_puts r.access.second_puts (part.state_of r.local).room
    (part.state_of r.second).room puts in
    fit_ample r.second (new_pairs c.args.pairs.now) (second_there r.serves puts)
    (omega (arith, room, le))

pub returns-then-has_ample_room-clause-devices : goal.returns-then-has_ample_room-clause-devices
returns-then-has_ample_room-clause-devices g c =
    let r = c.args.self.now in
    let news = new_pairs c.args.pairs.now in
    let new = c.put_fitting.new.self in
    let x = c.put_fitting.ensures in
    let all = stores_all news (spaces r)
    (each_space r (sum_by ample news) (c.has_ample_room.ensures.0 c.if-has_ample_room.true)) in
    gives_all r new news (state_of new).room c.put_fitting.result x.local_grown x.second_grown
    x.room (λ told. all) x.local_stored x.second_stored

pub returns-then-has_ample_room-clause-outcome : goal.returns-then-has_ample_room-clause-outcome
returns-then-has_ample_room-clause-outcome g c told =
    let r = c.args.self.now in
    let new = c.put_fitting.new.self in
    gives_stores (λ (puts : Puts). puts) r (stores_of new) (new_pairs c.args.pairs.now)
    c.put_fitting.result (both_tell r.access told.0 told.1)
    (IfOk-weaker c.put_fitting.result (ArePut (state_of new).room (new_pairs c.args.pairs.now))
    (λ puts. length puts ≡ length (new_pairs c.args.pairs.now)) (λ puts x. x.even)
    c.put_fitting.ensures.room) (returns-then-has_ample_room-clause-devices g c)

pub returns-then-has_ample_room-clause-pairs : goal.returns-then-has_ample_room-clause-pairs
returns-then-has_ample_room-clause-pairs g c told =
    let r = c.args.self.now in
    let news = new_pairs c.args.pairs.now in
    let all = stores_all news (spaces r)
    (each_space r (sum_by ample news) (c.has_ample_room.ensures.0 c.if-has_ample_room.true)) in
    let chosen_are : news ≡ chosen news (stores r news) = sym
    (ap (chosen news) all ∙ chosen_all news) in
    subst (λ (l : List Pair). AllAfter c.put_fitting.result (state_of r).lasting
    (state_of r).pairs l (state_of c.put_fitting.new.self).pairs) chosen_are
    (all_after c.put_fitting.result (state_of r).pairs news (state_of c.put_fitting.new.self).pairs
    (c.put_fitting.ensures.putting.pairs told) (c.put_fitting.ensures.unchanged told.0 told.1))

pub returns-then-has_ample_room-clause-full : goal.returns-then-has_ample_room-clause-full
returns-then-has_ample_room-clause-full g c told =
    are_to_put c.args.self.now (new_pairs c.args.pairs.now)

pub returns-then-has_ample_room-clause-lasting : goal.returns-then-has_ample_room-clause-lasting
returns-then-has_ample_room-clause-lasting g c told =
    no_fewer c.put_fitting.result (state_of c.args.self.now).pairs (new_pairs c.args.pairs.now)
    (state_of c.put_fitting.new.self).pairs
    (c.put_fitting.ensures.putting.pairs told) (c.put_fitting.ensures.unchanged told.0 told.1)

pub returns-then-has_ample_room-clause-left : goal.returns-then-has_ample_room-clause-left
returns-then-has_ample_room-clause-left g c told =
    let r = c.args.self.now in
    let news = new_pairs c.args.pairs.now in
    let all = stores_all news (spaces r)
    (each_space r (sum_by ample news) (c.has_ample_room.ensures.0 c.if-has_ample_room.true)) in
    let chosen_are : news ≡ chosen news (stores r news) = sym
    (ap (chosen news) all ∙ chosen_all news) in
    put_left r c.put_fitting.new.self (chosen news (stores r news))
    ((putting_as r c.put_fitting.new.self news (chosen news (stores r news)) c.put_fitting.result
    (λ both. chosen_are) c.put_fitting.ensures.putting).left told)

pub returns-else-has_ample_room-clause-pairs : goal.returns-else-has_ample_room-clause-pairs
returns-else-has_ample_room-clause-pairs g c told =
    let r = c.args.self.now in
    let news = new_pairs c.args.pairs.now in
    all_after c.put_each.result (state_of r).pairs (chosen news (stores r news))
    (state_of c.put_each.new.self).pairs
    (c.put_each.ensures.putting.pairs told) (c.put_each.ensures.unchanged told.0 told.1)

pub returns-else-has_ample_room-clause-full : goal.returns-else-has_ample_room-clause-full
returns-else-has_ample_room-clause-full g c told =
    are_to_put c.args.self.now (new_pairs c.args.pairs.now)

pub returns-else-has_ample_room-clause-lasting : goal.returns-else-has_ample_room-clause-lasting
returns-else-has_ample_room-clause-lasting g c told =
    let r = c.args.self.now in
    let news = new_pairs c.args.pairs.now in
    no_fewer c.put_each.result (state_of r).pairs (chosen news (stores r news))
    (state_of c.put_each.new.self).pairs
    (c.put_each.ensures.putting.pairs told) (c.put_each.ensures.unchanged told.0 told.1)

pub returns-else-has_ample_room-clause-left : goal.returns-else-has_ample_room-clause-left
returns-else-has_ample_room-clause-left g c told =
    let r = c.args.self.now in
    let news = new_pairs c.args.pairs.now in
    put_left r c.put_each.new.self (chosen news (stores r news))
    (c.put_each.ensures.putting.left told)
