use Rattle.std.proofs.Common.{refl}
use Rattle.std.proofs.lemmas.Bool.{and_parts}
use Rattle.relay_store.proofs.Devices.{read_store}
use Rattle.relay_store.proofs.Relays.{relay_reads, unread}
use Rattle.relay_store.proofs.cache.RelayCache.hit_log.Goals as goal

pub returns-then-hit-eq-LOCAL-clause-reads : goal.returns-then-hit-eq-LOCAL-clause-reads
returns-then-hit-eq-LOCAL-clause-reads g c =
    let r = c.args.self.now in
    let parts = and_parts _ _ c.requires.whole in
    let both = and_parts _ _ parts.1 in
    let x = c.hit_log.ensures.asked.read in
    let y = unread g.met.R.StoreDevice.only_now r.second both.1 in
    relay_reads r _ refl refl parts.0 x.first y.first x.reads y.reads

pub returns-else-hit-eq-LOCAL-clause-reads : goal.returns-else-hit-eq-LOCAL-clause-reads
returns-else-hit-eq-LOCAL-clause-reads g c =
    let r = c.args.self.now in
    let parts = and_parts _ _ c.requires.whole in
    let both = and_parts _ _ parts.1 in
    let x = unread g.met.S.StoreDevice.only_now r.local both.0 in
    let y = c.hit_log-else-hit-eq-LOCAL.ensures.asked.read in
    relay_reads r _ refl refl parts.0 x.first y.first x.reads y.reads

pub returns-then-hit-eq-LOCAL-clause-local : goal.returns-then-hit-eq-LOCAL-clause-local
returns-then-hit-eq-LOCAL-clause-local g c =
    read_store c.args.self.now.local c.hit_log.new.self c.hit_log.ensures.asked.read

pub returns-then-hit-eq-LOCAL-clause-second : goal.returns-then-hit-eq-LOCAL-clause-second
returns-then-hit-eq-LOCAL-clause-second g c =
    let r = c.args.self.now in
    let both = and_parts _ _ (and_parts _ _ c.requires.whole).1 in
    read_store r.second r.second (unread g.met.R.StoreDevice.only_now r.second both.1)

pub returns-else-hit-eq-LOCAL-clause-local : goal.returns-else-hit-eq-LOCAL-clause-local
returns-else-hit-eq-LOCAL-clause-local g c =
    let r = c.args.self.now in
    let both = and_parts _ _ (and_parts _ _ c.requires.whole).1 in
    read_store r.local r.local (unread g.met.S.StoreDevice.only_now r.local both.0)

pub returns-else-hit-eq-LOCAL-clause-second : goal.returns-else-hit-eq-LOCAL-clause-second
returns-else-hit-eq-LOCAL-clause-second g c =
    let call = c.hit_log-else-hit-eq-LOCAL in
    read_store c.args.self.now.second call.new.self call.ensures.asked.read
