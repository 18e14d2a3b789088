use Rattle.std.proofs.Common.{◌≡◌, ℕ, Bool, true, false, cond, Option, refl, ap, subst}
use Rattle.std.specs.Prelude.{◌==◌, IfOk}
use Rattle.std.proofs.lemmas.Bool.{and_parts, eq-eqb}
use Rattle.codes.specs.Views.{found_as}
use Rattle.cache_api.specs.declared.hit.Hit.{Hit}
use Rattle.cache_api.specs.Artifacts.{Artifact}
use Rattle.cache_api.specs.Keys.{text_of}
use Rattle.relay_store.specs.Parts.{shows}
use Rattle.relay_store.proofs.Devices.{read_store}
use Rattle.relay_store.proofs.Finding.{found_when}
use Rattle.relay_store.proofs.Relays.{relay_reads, found_local, found_second}
use Rattle.relay_store.proofs.cache.RelayCache.lookup_keyed.Goals as goal

pub returns-then-self-clause-found : goal.returns-then-self-clause-found
returns-then-self-clause-found g c told =
    let r = c.args.self.now in
    let parts = and_parts _ _ c.requires in
    let show = λ (hit : Hit). cond (hit.side == 0) (shows c.look_up.new.last hit)
    (shows c.look_up.new.first hit) in
    subst (λ (o : Option Artifact). IfOk c.look_up.result (λ found. found_as show found ≡ o))
    (found_local r parts.0 told.0 told.1 (text_of c.args.key) c.args.outs.now c.if-self.true)
    (c.look_up.ensures.found told.0 told.1 show
    (λ hit side. ap (λ (b : Bool). cond b (shows c.look_up.new.last hit)
    (shows c.look_up.new.first hit)) (eq-eqb hit.side 0 side))
    (λ hit side. ap (λ (n : ℕ). cond (n == 0) (shows c.look_up.new.last hit)
    (shows c.look_up.new.first hit)) side))

pub returns-then-self-clause-reads : goal.returns-then-self-clause-reads
returns-then-self-clause-reads g c =
    let r = c.args.self.now in
    let parts = and_parts _ _ c.requires in
    let x = c.look_up.ensures.last_read in
    let y = c.look_up.ensures.first_read in
    relay_reads r _ refl refl parts.0 x.first y.first x.reads y.reads

pub returns-else-self-clause-found : goal.returns-else-self-clause-found
returns-else-self-clause-found g c told =
    let r = c.args.self.now in
    let parts = and_parts _ _ c.requires in
    let look = c.look_up-else-self in
    let show = λ (hit : Hit). cond (hit.side == 0) (shows look.new.first hit)
    (shows look.new.last hit) in
    subst (λ (o : Option Artifact). IfOk look.result (λ found. found_as show found ≡ o))
    (found_second r parts.0 told.0 told.1 (text_of c.args.key) c.args.outs.now c.if-self.false)
    (look.ensures.found told.1 told.0 show
    (λ hit side. ap (λ (n : ℕ). cond (n == 0) (shows look.new.first hit)
    (shows look.new.last hit)) side)
    (λ hit side. ap (λ (b : Bool). cond b (shows look.new.first hit) (shows look.new.last hit))
    (eq-eqb hit.side 0 side)))

pub returns-else-self-clause-reads : goal.returns-else-self-clause-reads
returns-else-self-clause-reads g c =
    let r = c.args.self.now in
    let parts = and_parts _ _ c.requires in
    let x = c.look_up-else-self.ensures.first_read in
    let y = c.look_up-else-self.ensures.last_read in
    relay_reads r _ refl refl parts.0 x.first y.first x.reads y.reads

pub returns-then-self-clause-local : goal.returns-then-self-clause-local
returns-then-self-clause-local g c =
    read_store c.args.self.now.local c.look_up.new.last c.look_up.ensures.last_read

pub returns-then-self-clause-second : goal.returns-then-self-clause-second
returns-then-self-clause-second g c =
    read_store c.args.self.now.second c.look_up.new.first c.look_up.ensures.first_read

pub returns-else-self-clause-local : goal.returns-else-self-clause-local
returns-else-self-clause-local g c =
    let look = c.look_up-else-self in
    read_store c.args.self.now.local look.new.first look.ensures.first_read

pub returns-else-self-clause-second : goal.returns-else-self-clause-second
returns-else-self-clause-second g c =
    let look = c.look_up-else-self in
    read_store c.args.self.now.second look.new.last look.ensures.last_read

pub returns-then-self-clause-local_found : goal.returns-then-self-clause-local_found
returns-then-self-clause-local_found g c told =
    found_when c.look_up.result 0 (Unit {0}) _ (shows c.look_up.new.last) _ (λ asked. tt)
    (c.look_up.ensures.last_found told)

pub returns-then-self-clause-second_found : goal.returns-then-self-clause-second_found
returns-then-self-clause-second_found g c told =
    let puts = c.if-self.true in
    found_when c.look_up.result 1 ⊥ (c.args.self.now.access.local_puts ≡ false)
    (shows c.look_up.new.first) _ (λ asked. absurd (cc)) (c.look_up.ensures.first_found told)

pub returns-else-self-clause-local_found : goal.returns-else-self-clause-local_found
returns-else-self-clause-local_found g c told =
    let look = c.look_up-else-self in
    let puts = c.if-self.false in
    found_when look.result 0 ⊥ (c.args.self.now.access.local_puts ≡ true)
    (shows look.new.first) _ (λ asked. absurd (cc)) (look.ensures.first_found told)

pub returns-else-self-clause-second_found : goal.returns-else-self-clause-second_found
returns-else-self-clause-second_found g c told =
    let look = c.look_up-else-self in
    found_when look.result 1 (Unit {0}) _ (shows look.new.last) _ (λ asked. tt)
    (look.ensures.last_found told)
