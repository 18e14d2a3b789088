use Rattle.std.proofs.Common.{◌≡◌, Option, refl, sym, subst}
use Rattle.std.specs.Prelude.{IfOk}
use Rattle.codes.specs.Views.{found_as}
use Rattle.cache_api.specs.Artifacts.{Artifact}
use Rattle.cache_api.specs.Keys.{text_of}
use Rattle.cache_api.specs.Reading.{artifact_in}
use Rattle.cache_api.proofs.Lacking.{found_lacking}
use Rattle.held_results.specs.Held.{held_pairs}
use Rattle.held_results.proofs.LookedUp.{held_reads, lacks_each}
use Rattle.held_results.proofs.cache.HeldCache.lookup_keyed.Goals as goal

pub returns-clause-found : goal.returns-clause-found
returns-clause-found g c told =
    let h = c.args.self.now in
    let key = text_of c.args.key in
    let lacks = (lacks_each h (g.met.C.Cache.within h.inner) key told (c.requires.due told)).1 in
    subst (λ (a : Option Artifact). IfOk c.lookup_keyed.result (λ o. found_as (g.C.Cache.shows c.lookup_keyed.new.self) o ≡ a))
    (sym (found_lacking artifact_in key c.args.outs.now (g.C.Cache.state h.inner).pairs (held_pairs h) lacks)) (c.lookup_keyed.ensures.found told)

pub returns-clause-reads : goal.returns-clause-reads
returns-clause-reads g c = held_reads c.args.self.now (g.met.C.Cache.within c.args.self.now.inner) _ refl c.lookup_keyed.ensures.reads
