use Rattle.std.proofs.Common.{◌∙◌, ap, sym, subst}
use Rattle.std.specs.List.Sorted.{IsStrictlySortedBy}
use Rattle.rel_path.specs.Paths.{path_cmp, is_among}
use Rattle.capture.proofs.Sought.{sought, map_same}
use Rattle.capture.proofs.lacking.is_listed.Goals as goal

pub returns : goal.returns
returns c =
    let paths = c.args.listed.now in
    let path = c.args.path.now in
    c.is_ok.ensures.value
    ∙ sought (λ p. p) path paths c.binary_search.result
    (subst (IsStrictlySortedBy path_cmp) (sym (map_same paths)) c.requires)
    c.binary_search.ensures.bound c.binary_search.ensures.position
    ∙ ap (λ ps. is_among ps path) (map_same paths)
