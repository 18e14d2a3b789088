use Rattle.std.proofs.Common.{◌∙◌, sym, ap, [], map, arith}
use Rattle.std.proofs.lemmas.List.{get_or-map, length-set}
use Rattle.sha2.specs.Sha256.{sha256}
use Rattle.sha_lanes.proofs.Found.{HasDigests_all, HasDigests_more}
use Rattle.sha_lanes.proofs.find_alone.Goals as goal

pub texts-preserved : goal.texts-preserved
texts-preserved c = (
  length-set c.texts.found c.texts.i c.digest.result ∙ c.texts.invariant.0,
  HasDigests_more (map (λ text. text.now) c.args.texts.now) c.texts.found c.texts.i c.digest.result c.texts.invariant.1 (omega (arith, c.texts.invariant.0))
      (c.digest.ensures ∙ ap sha256 (sym (get_or-map (λ text. text.now) c.args.texts.now c.texts.i _ [] c.texts-test.true))),
)

pub returns : goal.returns
returns c = HasDigests_all c.args.texts.now c.texts.found c.texts.invariant.0 (λ k lt. c.texts.invariant.1 k (omega arith))
