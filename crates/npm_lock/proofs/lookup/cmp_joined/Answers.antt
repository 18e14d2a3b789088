use Rattle.std.proofs.Common.{None, Some, ◌∙◌, ap, sym, ◌++◌}
use Rattle.std.proofs.lemmas.Bool.Decides.{Decides-eqb}
use Rattle.std.proofs.lemmas.Slice.Eq.{strip_prefix_is}
use Rattle.rel_path.specs.Paths.{name_cmp}
use Rattle.npm_lock.proofs.Joined.{cmp_front, cmp_rest}
use Rattle.npm_lock.proofs.lookup.cmp_joined.Goals as goal

pub returns-in-None : goal.returns-in-None
returns-in-None c =
    c.cmp.ensures ∙ cmp_front c.args.text.now c.args.front.now c.args.back.now (strip_prefix_is Decides-eqb c.args.text.now c.args.front.now None c.in-None.ensures.cases)

pub returns-in-Some : goal.returns-in-Some
returns-in-Some c =
    let is = strip_prefix_is Decides-eqb c.args.text.now c.args.front.now (Some c.in-Some.rest) c.in-Some.ensures.cases in
    c.cmp-in-Some.ensures ∙ cmp_rest c.args.front.now c.in-Some.rest.now c.args.back.now ∙ ap (λ t. name_cmp t (c.args.front.now ++ c.args.back.now)) (sym is)
