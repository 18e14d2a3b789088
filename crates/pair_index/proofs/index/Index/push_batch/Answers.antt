use Rattle.std.proofs.Common.{◌≡◌, ◌++◌, ℕ, List, take, sym, ◌∙◌, ap, subst}
use Rattle.pair_frames.specs.Pairs.{pairs_in}
use Rattle.pair_index.specs.Keys.{IsKeysOf}
use Rattle.pair_index.proofs.IndexLaws.{Below, below_both}
use Rattle.pair_index.proofs.index.Index.push_batch.Goals as goal

pub returns-clause-index : goal.returns-clause-index
returns-clause-index c fs first batch x = record {
  frames = c.in_ok-extend_from_slice.ensures.items
      ∙ (λ i. x.frames i ++ c.as_slice-3.ensures.value i) ∙ sym batch.places;
  keys = subst (IsKeysOf c.push_all.new.self) (sym batch.pairs_are)
      (c.in_ok-push_all.ensures.keys (pairs_in (take first fs)) batch.pairs x.keys (c.as_slice.ensures.value ∙ batch.keys));
}

pub returns-clause-below : goal.returns-clause-below
returns-clause-below c below n le known =
    let old = c.args.self.now.frames.items in
    let batch = c.args.batch.now in
    let grown : c.extend_from_slice.new.self.items ≡ old ++ batch.numbers.items =
    c.in_ok-extend_from_slice.ensures.items ∙ ap (λ (l : List ℕ). old ++ l) c.as_slice-3.ensures.value in
    subst (λ (l : List ℕ). Below l batch.next) (sym grown)
    (below_both old batch.numbers.items n batch.next known below le)
