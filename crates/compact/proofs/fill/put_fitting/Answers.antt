use Rattle.std.proofs.Common.{◌≡◌, ◌++◌, List, sym, ◌∙◌, ap, subst}
use Rattle.std.specs.Prelude.{All}
use Rattle.cache_api.specs.declared.puts.Put.TheVariants.{Stored}
use Rattle.cache_api.specs.Keys.{new_pairs}
use Rattle.cache_api.specs.Pairs as cache
use Rattle.cache_api.specs.Pairs.{Pair}
use Rattle.artifact_store.specs.Outcomes.{outcomes}
use Rattle.artifact_store.specs.Store.{state_of, frames_of, device_of, stores}
use Rattle.compact.specs.Picks.{held_pairs}
use Rattle.compact.proofs.Filling.{all_chosen, all_stored, room_is, room_small, puts_none, puts_put, put_lacks}
use Rattle.compact.proofs.fill.put_fitting.Goals as goal

pub returns-in_err-pairs-clause-puts : goal.returns-in_err-pairs-clause-puts
returns-in_err-pairs-clause-puts g c =
    puts_none c.args.to.now c.requires.whole (g.met.P.StoreDevice.only_now (device_of c.args.to.now))

pub returns-in_err-puts-clause-puts : goal.returns-in_err-puts-clause-puts
returns-in_err-puts-clause-puts g c =
    let to = c.args.to.now in
    let news = new_pairs c.as_slice.result.now in
    puts_put to c.put_all.new.self (cache.chosen news (stores to news)) c.put_all.ensures.keeps.base c.put_all.ensures.left

pub returns-then-not-stored-clause-puts : goal.returns-then-not-stored-clause-puts
returns-then-not-stored-clause-puts g c =
    let to = c.args.to.now in
    let news = new_pairs c.as_slice.result.now in
    puts_put to c.put_all.new.self (cache.chosen news (stores to news)) c.put_all.ensures.keeps.base c.put_all.ensures.left

pub returns-then-not-stored-clause-room : goal.returns-then-not-stored-clause-room
returns-then-not-stored-clause-room g c told =
    let to = c.args.to.now in
    let pairs = held_pairs c.args.held.now in
    let few = g.met.P.StoreDevice.few_bytes (device_of to) told in
    let small = room_small to c.requires.whole told few in
    let stored = all_stored (state_of to).room (frames_of to) pairs c.requires.texts small (c.requires.room told) in
    let puts : c.in_ok-puts.puts ≡ outcomes (state_of to).room (frames_of to) pairs =
    c.in_ok-puts.ensures.outcome told ∙ ap (outcomes (state_of to).room (frames_of to)) (ap new_pairs c.as_slice.ensures.value ∙ c.in_ok-pairs.ensures) in
    let all : All (λ put. put ≡ Stored) c.in_ok-puts.puts = subst (λ l. All (λ put. put ≡ Stored) l) (sym puts) stored in
    let yes = c.are_stored-stored.ensures.1 (subst (λ l. All (λ put. put ≡ Stored) l) (sym c.as_slice-2.ensures) all) in
    let no = c.if-not-stored.true in
    absurd (cc (yes, no))

pub returns-clause-puts : goal.returns-clause-puts
returns-clause-puts g c =
    let to = c.args.to.now in
    let news = new_pairs c.as_slice.result.now in
    puts_put to c.put_all.new.self (cache.chosen news (stores to news)) c.put_all.ensures.keeps.base c.put_all.ensures.left

pub returns-clause-room : goal.returns-clause-room
returns-clause-room g c told =
    let to = c.args.to.now in
    put_lacks (state_of to).room (frames_of to) (frames_of c.put_all.new.self) (held_pairs c.args.held.now) (new_pairs c.as_slice.result.now)
    (room_is to c.requires.whole told) (ap new_pairs c.as_slice.ensures.value ∙ c.in_ok-pairs.ensures) (c.requires.room told) (c.in_ok-puts.ensures.frames told)

pub returns-clause-pairs : goal.returns-clause-pairs
returns-clause-pairs g c told =
    let to = c.args.to.now in
    let pairs = held_pairs c.args.held.now in
    let few = g.met.P.StoreDevice.few_bytes (device_of to) told in
    let small = room_small to c.requires.whole told few in
    c.in_ok-puts.ensures.pairs told
    ∙ ap (λ (l : List Pair). (state_of to).pairs ++ cache.chosen l (outcomes (state_of to).room (frames_of to) l)) (ap new_pairs c.as_slice.ensures.value ∙ c.in_ok-pairs.ensures)
    ∙ ap (λ (l : List Pair). (state_of to).pairs ++ l) (all_chosen (state_of to).room (frames_of to) pairs c.requires.texts small (c.requires.room told))
