-- What the device of a store holds is what the store holds.
use Rattle.std.proofs.Common.{◌∙◌, Some, sym, ap, subst}
use Rattle.std.specs.Prelude.{IsTrue}
use Rattle.relay_store.specs.Stores.{state_in}
use Rattle.second_runs.proofs.opened.device_in.Goals as goal

pub returns-clause-device : goal.returns-clause-device
returns-clause-device g c = (c.in-Some.store, c.in-Some.is, c.device.ensures.device)

pub returns-clause-held : goal.returns-clause-held
returns-clause-held g c told whole =
    let now = subst (λ o. IsTrue (state_in o).whole) c.in-Some.is whole in
    let pairs = c.device.ensures.pairs told now ∙ ap (λ o. Some (state_in o).pairs) (sym c.in-Some.is) in
    let free = sym (c.device.ensures.free told now) ∙ ap (λ o. (state_in o).room) (sym c.in-Some.is) in
    λ i. record { pairs = pairs i; free = free i }

pub returns-clause-lasts : goal.returns-clause-lasts
returns-clause-lasts g c told whole =
    c.device.ensures.lasts told (subst (λ o. IsTrue (state_in o).whole) c.in-Some.is whole)
