use Rattle.std.proofs.Common.{◌++◌, length, refl, sym, ap, ◌∙◌, arith}
use Rattle.std.proofs.lemmas.Bool.{eqb-true}
use Rattle.std.proofs.lemmas.List.{append-nil, nil_from_length}
use Rattle.cache_api.specs.Moments.{started}
use Rattle.held_results.specs.Due.{due_pairs}
use Rattle.held_results.specs.Held.{state_of}
use Rattle.held_results.specs.Laws.{below_whole, held_rest, held_rests}
use Rattle.held_results.proofs.cache.HeldCache.settle.Goals as goal

pub returns-then-is_empty-clause-pairs : goal.returns-then-is_empty-clause-pairs
returns-then-is_empty-clause-pairs g c told =
    let h = c.args.self.now in
    let none = nil_from_length h.due.items (omega (arith, h.due.ok.0, eqb-true _ _ (sym c.is_empty.ensures ∙ c.if-is_empty.true))) in
    let alone = ap (λ due. (g.C.Cache.state h.inner).pairs ++ due_pairs due) none ∙ append-nil (g.C.Cache.state h.inner).pairs in
    (refl, (held_rests h c.requires told).0 ∙ ap length (sym alone))

pub returns-then-is_empty-clause-left : goal.returns-then-is_empty-clause-left
returns-then-is_empty-clause-left g c told =
    let h = c.args.self.now in
    started g.C.Cache.moment g.C.Cache.left h.inner _ (λ image at. held_rest h image (g.met.C.Cache.within h.inner told)
    (g.met.C.Cache.at_rest h.inner image told (below_whole h c.requires) at))

pub returns-clause-pairs : goal.returns-clause-pairs
returns-clause-pairs g c told =
    (c.in_ok-put_all.ensures.pairs told ∙ append-nil (state_of c.args.self.now).pairs, c.in_ok-put_all.ensures.lasts told)
