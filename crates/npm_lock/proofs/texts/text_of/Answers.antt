use Rattle.std.proofs.Common.{ap, ◌∙◌, sym, option_map, []}
use Rattle.std.specs.Prelude.{unwrap_or}
use Rattle.serde_json.specs.View.{view}
use Rattle.serde_json.specs.Written.{compact_text}
use Rattle.npm_lock.specs.Externals.{text_in}
use Rattle.npm_lock.proofs.Whole.{part_whole}
use Rattle.npm_lock.proofs.texts.text_of.Goals as goal

pub returns : goal.returns
unfolding text_in
returns c =
    let whole = part_whole c.args.location.now (view c.args.packages.now) (view c.in-Some.value.now) (sym c.in-Some.ensures) c.requires.whole in
    c.from_string.ensures ∙ c.in_ok-to_string-in-Some.ensures.text whole ∙ ap (λ o. unwrap_or (option_map compact_text o) []) c.in-Some.ensures
