-- What a dry run has put so far.
use Rattle.std.proofs.Common.{add-one, ◌≡◌, ℕ, ◌+◌, ◌++◌, ◌∙◌, ap, sym, List, append_assoc}
use Rattle.cache_api.specs.Pairs.{Pair}
use Rattle.run_plan.specs.declared.plan.Plan.{Plan}
use Rattle.run_plan.specs.DryPages.{dry_block, dry_blocks}

-- the block of one more task was put
pub page-more : (plan : Plan) (pairs now : List Pair) (n : ℕ) (first before after : List ℕ)
    → after ≡ before ++ dry_block plan now n → now ≡ pairs
    → before ≡ first ++ dry_blocks plan pairs n → after ≡ first ++ dry_blocks plan pairs (n + 1)
page-more plan pairs now n first before after put same page =
    put ∙ ap (λ list. before ++ dry_block plan list n) same
    ∙ ap (λ list. list ++ dry_block plan pairs n) page
    ∙ append_assoc first (dry_blocks plan pairs n) (dry_block plan pairs n)
    ∙ ap (λ k. first ++ dry_blocks plan pairs k) (sym (add-one n))
