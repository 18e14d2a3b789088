use Rattle.std.proofs.Common.{◌++◌, ◌∷◌, ◌∙◌, ℕ, [], ap, sym, length, zero-add}
use Rattle.std.proofs.lemmas.List.FromFn.{map-range_with_len_more}
use Rattle.std.proofs.lemmas.List.Sorted.{IsNonDecreasingBy-from_sort}
use Rattle.listing.specs.Memory.{capped}
use Rattle.run_laws.specs.Keys.{key_of}
use Rattle.run_plan.proofs.plan.Plan.key_lengths.Goals as goal

pub places-preserved : goal.places-preserved
places-preserved c =
    let len = λ (place : ℕ). capped (length (key_of c.args.self.now.listing place)) in
    let place = c.places.place in
    c.in_ok-push.ensures.items ∙ ap (λ n. c.places.lengths.items ++ n ∷ [])
    c.in_ok-closure_key_len.ensures.value ∙ ap (λ l. l ++ len place ∷ []) c.places.invariant
    ∙ sym (map-range_with_len_more len 0 place place (zero-add place))

pub returns-clause-ascend : goal.returns-clause-ascend
returns-clause-ascend c = IsNonDecreasingBy-from_sort (λ n. n) _ c.in_ok-sort.ensures.sorted
