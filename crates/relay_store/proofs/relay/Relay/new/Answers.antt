use Rattle.std.proofs.Common.{List, ◌++◌, sym, ◌∙◌, ap}
use Rattle.std.proofs.lemmas.List.{append-nil}
use Rattle.cache_api.specs.Pairs.{Pair}
use Rattle.relay_store.specs.Stores.{state_in}
use Rattle.relay_store.specs.Parts.{first_of}
use Rattle.relay_store.specs.Rests.{parted}
use Rattle.relay_store.proofs.relay.Relay.new.Goals as goal

pub returns-clause-local_pairs : goal.returns-clause-local_pairs
returns-clause-local_pairs g c told =
    let part = c.new.result in
    sym (parted part ∙ ap (λ (l : List Pair). first_of part ++ l) (c.new.ensures.first told)
    ∙ append-nil (first_of part))
    ∙ ap (λ o. (state_in o).pairs) c.new.ensures.store

pub returns-clause-second_pairs : goal.returns-clause-second_pairs
returns-clause-second_pairs g c told =
    let part = c.new-2.result in
    sym (parted part ∙ ap (λ (l : List Pair). first_of part ++ l) (c.new-2.ensures.first told)
    ∙ append-nil (first_of part))
    ∙ ap (λ o. (state_in o).pairs) c.new-2.ensures.store
