use Rattle.std.proofs.Common.{rules, ◌∙◌, sym, arith}
use Rattle.sha2.specs.Sha256.{schedule}
use Rattle.sha2.proofs.Schedule256.{slice_index-first_words, slice_index-schedule_first, slice_index-schedule_next}
use Rattle.sha_lanes.proofs.Vectors.{HasWords_more}
use Rattle.sha_lanes.proofs.block.extend.Goals as goal

pub words-init : goal.words-init
words-init c = (
  search rules,
  λ j block h has k lt. has k lt ∙ slice_index-first_words block 16 k lt ∙ sym (slice_index-schedule_first block 48 k lt),
)

pub words-preserved : goal.words-preserved
words-preserved c = (
  search rules,
  λ j block h has.
      let before = c.words.invariant.1 j block h has in
      HasWords_more c.words.w j (schedule block 48) c.words.t c.next_word.result before (omega arith)
      (c.next_word.ensures j (schedule block 48) h before ∙ sym (slice_index-schedule_next block 48 c.words.t (omega arith) (omega arith))),
)

pub returns : goal.returns
returns c j block h has k lt = c.words.invariant.1 j block h has k (omega arith)
