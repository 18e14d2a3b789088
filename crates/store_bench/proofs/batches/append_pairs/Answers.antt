use Rattle.std.proofs.Common.{◌≡◌, refl, sym, ◌∙◌, subst, arith, List, true}
use Rattle.record_log.specs.declared.frame.NewFrame.{NewFrame}
use Rattle.record_log.specs.Log.{frames_in}
use Rattle.record_log.specs.Frames.{all_formed}
use Rattle.record_log.specs.Batch.{new_entries, AllKnown, EachWithin}
use Rattle.store_bench.proofs.Pairs.{pairs_known, pairs_within, pairs_formed}
use Rattle.store_bench.proofs.batches.append_pairs.Goals as goal

pub append_all-requires-clause-known : goal.append_all-requires-clause-known
append_all-requires-clause-known g c =
    let is = c.deref.ensures.value ∙ c.in_ok-frames.ensures.items_if_clones_equal (λ y same. same) in
    subst (λ (l : List NewFrame). AllKnown (new_entries l)) (sym is) (pairs_known _ _ (record { kind = refl; key = omega arith; value = c.requires.value }))

pub append_all-requires-clause-lengths : goal.append_all-requires-clause-lengths
append_all-requires-clause-lengths g c =
    let is = c.deref.ensures.value ∙ c.in_ok-frames.ensures.items_if_clones_equal (λ y same. same) in
    subst (λ (l : List NewFrame). EachWithin (new_entries l)) (sym is) (pairs_within _ _ (record { kind = refl; key = omega arith; value = c.requires.value }))

pub append_all-requires-clause-form : goal.append_all-requires-clause-form
append_all-requires-clause-form g c told =
    let is = c.deref.ensures.value ∙ c.in_ok-frames.ensures.items_if_clones_equal (λ y same. same) in
    subst (λ (l : List NewFrame). all_formed (frames_in c.args.log.now) (new_entries l) ≡ true) (sym is) (pairs_formed _ _ _ (record { kind = refl; key = omega arith; value = c.requires.value }))
