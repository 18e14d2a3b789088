use Rattle.std.proofs.Common.{◌∙◌}
use Rattle.compact.specs.Current.{newer_of}
use Rattle.compact.proofs.Faulting.{first_sound, opened_generation}
use Rattle.compact.proofs.currents.current.Goals as goal

pub returns-in-Err-open-clause-first_fault : goal.returns-in-Err-open-clause-first_fault
returns-in-Err-open-clause-first_fault g c told =
    first_sound c.open_err-in-Err-open.result c.spare_err.result (g.S.StoreDevice.content c.args.store)
    (g.S.StoreDevice.content c.in-Ok.first.device) c.spare_err.ensures (c.in-Ok.ensures.ok told)

pub returns-in-Ok-open-clause-side : goal.returns-in-Ok-open-clause-side
returns-in-Ok-open-clause-side g c first spare =
    let s = g.S.StoreDevice in
    let p = g.P.StoreDevice in
    let a = opened_generation (s.content c.args.store) (s.content c.in-Ok.first.device) c.generation.result (c.in-Ok.ensures.ok first) (c.generation.ensures c.in-Ok.ensures.whole first) in
    let b = opened_generation (p.content c.args.spare) (p.content c.in-Ok-open.second.device) c.generation-in-Ok-open.result (c.in-Ok-open.ensures.ok spare) (c.generation-in-Ok-open.ensures c.in-Ok-open.ensures.whole spare) in
    c.newer-side.ensures ∙ (λ i. newer_of (a i) (b i))
