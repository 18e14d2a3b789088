use Rattle.std.proofs.Common.{◌∙◌, arith}
use Rattle.sha_lanes.proofs.load.four_words.Goals as goal

pub returns : goal.returns
returns c = record {
  first = λ k lt. c.transposed.ensures 0 k (omega arith) lt ∙ c.row.ensures k lt;
  second = λ k lt. c.transposed.ensures 1 k (omega arith) lt ∙ c.row-2.ensures k lt;
  third = λ k lt. c.transposed.ensures 2 k (omega arith) lt ∙ c.row-3.ensures k lt;
  fourth = λ k lt. c.transposed.ensures 3 k (omega arith) lt ∙ c.row-4.ensures k lt;
}
