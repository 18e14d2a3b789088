use Rattle.std.proofs.Common.{◌∙◌, ap, subst}
use Rattle.cache_api.specs.Pairs.{Pair}
use Rattle.compact.specs.Picks.{IsDigestOf}
use Rattle.compact.proofs.Batching.{if_some}
use Rattle.compact.proofs.Picking.{picks_pushed}
use Rattle.compact.proofs.choose.pick.Goals as goal

pub returns-clause-picks : goal.returns-clause-picks
returns-clause-picks g c =
    let digests = c.args.picks.now.prints.digests in
    let digest = c.in-Some-2.digest in
    picks_pushed c.args.from.now c.args.picks.now c.push.new.self c.args.number digest c.requires.picks
    c.in_ok-push.ensures.numbers c.in_ok-push.ensures.prints c.requires.number
    (λ told. subst (λ k. IsDigestOf digests k digest) (c.as_slice-2.ensures ∙ ap (λ (p : Pair). p.0) (c.in_ok-key.ensures.pair told))
    (if_some c.in_ok-digest.field-0 digest (IsDigestOf digests c.as_slice-2.result.now) c.in-Some-2.is c.in_ok-digest.ensures.digest))
