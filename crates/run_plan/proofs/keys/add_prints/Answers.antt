use Rattle.std.proofs.Common.{◌++◌, ◌∙◌, ap, sym, map}
use Rattle.std.proofs.lemmas.Simd.{map-map}
use Rattle.sha2.specs.Sha256.{sha256}
use Rattle.run_plan.proofs.keys.add_prints.Goals as goal

pub returns-clause-added : goal.returns-clause-added
returns-clause-added c =
    let texts = c.as_slice.ensures.value in
    let keys = c.in_ok-texts.ensures.texts in
    c.in_ok-extend_from_slice.ensures.items ∙ ap (λ l. c.args.prints.now.items ++ l)
    (c.as_slice-2.ensures.value ∙ c.in_ok-added.ensures ∙ ap (map (λ text. sha256 text.now)) texts
    ∙ sym (map-map sha256 (λ text. text.now) _) ∙ ap (map sha256) keys)
