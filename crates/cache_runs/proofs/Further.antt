-- The pairs of a cache are further than themselves.
use Rattle.std.proofs.Common.{◌≡◌, List, Some, [], sym, ◌∙◌, ap, append-nil}
use Rattle.std.specs.Prelude.{Option}
use Rattle.cache_api.specs.Pairs.{Pair}
use Rattle.runner.specs.Answers.{IsFurther}

pub further_same : {X : Type 0} (says : X → Option (List Pair)) (pairs : List Pair) (image : X)
    → says image ≡ Some pairs → IsFurther pairs (says image)
further_same says pairs image is = ([], is ∙ ap (λ (l : List Pair). Some l) (sym (append-nil pairs)))
