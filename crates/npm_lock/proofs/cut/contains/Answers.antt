use Rattle.std.proofs.Common.{◌∙◌}
use Rattle.rel_path.specs.Paths.{name_cmp}
use Rattle.std.proofs.lemmas.Fn.{always_returns_same}
use Rattle.npm_lock.proofs.Sought.{sought}
use Rattle.npm_lock.proofs.cut.contains.Goals as goal

pub returns : goal.returns
returns c =
    let text = c.args.text.now in
    let at = c.binary_search_by.ensures.position (λ other. name_cmp other text) (always_returns_same _ _ _ (λ a r f' h. (h.met.0, h.met.1))) in
    c.is_ok.ensures.value ∙ sought c.args.texts.now text c.binary_search_by.result c.requires c.binary_search_by.ensures.bound at
