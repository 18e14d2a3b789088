use Rattle.std.proofs.Common.{rules, ◌≡◌, ◌+◌, ◌*◌, ◌∙◌, arith}
use Rattle.sha_lanes.proofs.Vectors.{HasWords_four, block_words}
use Rattle.sha_lanes.proofs.load.words_at.Goals as goal

pub rows-init : goal.rows-init
rows-init c = (search rules, λ k lt. absurd (omega arith), λ k lt. absurd (omega arith), λ k lt. absurd (omega arith), λ k lt. absurd (omega arith))

pub rows-preserved : goal.rows-preserved
rows-preserved c =
    let long = c.rows.invariant.0 in
    let next : 4 * c.rows.place + 4 ≡ 4 * (c.rows.place + 1) = omega arith in (
      search rules,
      HasWords_four c.rows.w 0 _ _ _ c.four_words.result c.rows.invariant.1 (omega arith) next
          (λ k lt. c.four_words.ensures.first k lt ∙ block_words c.args.first.now c.args.at c.rows.place k (omega arith) lt),
      HasWords_four c.rows.w 1 _ _ _ c.four_words.result c.rows.invariant.2 (omega arith) next
          (λ k lt. c.four_words.ensures.second k lt ∙ block_words c.args.second.now c.args.at c.rows.place k (omega arith) lt),
      HasWords_four c.rows.w 2 _ _ _ c.four_words.result c.rows.invariant.3 (omega arith) next
          (λ k lt. c.four_words.ensures.third k lt ∙ block_words c.args.third.now c.args.at c.rows.place k (omega arith) lt),
      HasWords_four c.rows.w 3 _ _ _ c.four_words.result c.rows.invariant.4 (omega arith) next
          (λ k lt. c.four_words.ensures.fourth k lt ∙ block_words c.args.fourth.now c.args.at c.rows.place k (omega arith) lt),
    )

pub returns : goal.returns
returns c = record {
  first = λ k lt. c.rows.invariant.1 k (omega arith);
  second = λ k lt. c.rows.invariant.2 k (omega arith);
  third = λ k lt. c.rows.invariant.3 k (omega arith);
  fourth = λ k lt. c.rows.invariant.4 k (omega arith);
}
