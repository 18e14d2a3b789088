use Rattle.std.proofs.Common.{◌≡◌, ◌+◌, ◌++◌, length, sym, ◌∙◌, ap, subst, arith}
use Rattle.pair_frames.specs.Pairs.{pairs_in}
use Rattle.pair_frames.specs.Reading.{record_places, record_places-append}
use Rattle.pair_writer.specs.Staged.{entries}
use Rattle.pair_index.specs.Keys.{IsKeysOf}
use Rattle.pair_index.proofs.IndexLaws.{below_more}
use Rattle.pair_index.proofs.index.Index.learn.Goals as goal

pub returns-clause-index : goal.returns-clause-index
returns-clause-index c fs x at pairs =
    let from_zero : c.args.first ≡ 0 + length fs = omega (arith, at) in
    record {
      frames = c.learn_frames.ensures.frames
          ∙ (λ i. x.frames i ++ record_places (from_zero i) (c.as_slice.ensures i))
          ∙ sym (record_places-append 0 fs (entries c.args.staged.now));
      keys = subst (IsKeysOf c.learn_all.new.self) (sym pairs)
          (c.learn_all.ensures.keys (pairs_in fs) (subst (λ k. IsKeysOf k (pairs_in fs)) (sym c.learn_frames.ensures.keys) x.keys));
    }

pub returns-clause-below : goal.returns-clause-below
returns-clause-below c below =
    below_more c.args.self.now c.learn_frames.new.self c.args.first (entries c.args.staged.now)
    (c.learn_frames.ensures.frames ∙ ap (λ l. c.args.self.now.frames.items ++ record_places c.args.first l) c.as_slice.ensures) below
