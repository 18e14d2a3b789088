use Rattle.std.proofs.Common.{◌∙◌, Ok, Err, refl}
use Rattle.std.proofs.lemmas.Bool.{and_parts}
use Rattle.cache_api.specs.Keys.{new_pairs}
use Rattle.relay_store.specs.Parts.{more_of}
use Rattle.relay_store.proofs.Putting.{putting_grown, unchanged, counted_true, counted_false}
use Rattle.relay_store.proofs.Putting.{agree_grown}
use Rattle.relay_store.proofs.relay.Relay.put_fitting.Goals.{then-self, else-self}
use Rattle.relay_store.proofs.relay.Relay.put_fitting.Goals as goal

pub returns-after-self-clause-putting : goal.returns-after-self-clause-putting
returns-after-self-clause-putting g c =
    let parts = and_parts _ _ c.requires.whole in
    let x = c.in-Ok.ensures in
    putting_grown c.args.self.now _ (new_pairs c.args.pairs.now) (Ok c.in-Ok.puts) refl x.local
    x.second parts.0 parts.0 x.answers x.cause

pub returns-in-Err-clause-putting : goal.returns-in-Err-clause-putting
returns-in-Err-clause-putting g c =
    let parts = and_parts _ _ c.requires.whole in
    let x = c.in-Err.ensures in
    putting_grown c.args.self.now _ (new_pairs c.args.pairs.now) (Err c.in-Err.fault) refl x.local
    x.second parts.0 tt x.answers x.cause

pub returns-in-Err-clause-unchanged : goal.returns-in-Err-clause-unchanged
returns-in-Err-clause-unchanged g c t u =
    let parts = and_parts _ _ c.requires.whole in
    unchanged c.args.self.now _ (new_pairs c.args.pairs.now) (Err c.in-Err.fault) parts.0
    (returns-in-Err-clause-putting g c) t u

pub invariant_of-self-clause-leads : goal.invariant_of-self-clause-leads
invariant_of-self-clause-leads g c t u both =
    let parts = and_parts _ _ c.requires.whole in
    c.in-Ok.ensures.leads t u both ((c.args.self.now.agrees parts.0 t u).same both)

pub invariant_of-self-clause-agrees : goal.invariant_of-self-clause-agrees
invariant_of-self-clause-agrees g c whole t u =
    let r = c.args.self.now in
    let parts = and_parts _ _ c.requires.whole in
    let both = and_parts _ _ parts.1 in
    let l = c.put_into.new.local in
    let s = c.put_into.new.second in
    let x = c.in-Ok.ensures in
    agree_grown r l s c.if-self.self (new_pairs c.args.pairs.now) whole t u x.local.grown.first
    x.second.grown.first (x.local.all t) (x.second.all u)
    (elim c.if-self.branch [
      | then-self w ↦ counted_true r.access.local_puts c.if-self.self (more_of l) (more_of s)
          w.if-self.true
          (w.self-is ∙ w.added-self.ensures t (x.local.whole ∙ both.0))
      | else-self w ↦ counted_false r.access.local_puts c.if-self.self (more_of l) (more_of s)
          w.if-self.false
          (w.self-is ∙ w.added-self-else-self.ensures u (x.second.whole ∙ both.1))
    ])
