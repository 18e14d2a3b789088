use Rattle.std.proofs.Common.{◌∙◌, sym, ap}
use Rattle.std.proofs.Math.Path.{fun_ext}
use Rattle.std.proofs.lemmas.List.Sorted.{list_any-IsPermutation}
use Rattle.rel_path.specs.Paths.{name_eq}
use Rattle.npm_lock.specs.Cut.{is_in}
use Rattle.npm_lock.proofs.cut.sorted.Goals as goal

pub returns-clause-same : goal.returns-clause-same
returns-clause-same c =
    fun_ext (λ t. sym (list_any-IsPermutation (name_eq t) _ _ c.in_ok-sort.ensures.permutation)) ∙ ap is_in (c.into_vec-sorted.ensures ∙ c.in_ok-copy.ensures.value)
