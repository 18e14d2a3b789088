use Rattle.std.proofs.Common.{◌∙◌, sym, append_assoc, arith}
use Rattle.std.proofs.lemmas.Grind.{common_steps}
use Rattle.folder_globs.proofs.Characters.{escaped_special, escaped_plain}
use Rattle.folder_globs.proofs.text.push_character.Goals as goal
use Rattle.folder_globs.proofs.text.push_character.Goals.{then-is_special+in_ok-push, else-is_special}

pub returns : goal.returns
returns c = elim c.if-is_special.branch [
  | then-is_special+in_ok-push w ↦
      let both = escaped_special c.args.c (sym c.is_special.ensures ∙ w.if-is_special.true) in
      grind (arith, common_steps, append_assoc, both)
  | else-is_special w ↦
      let alone = escaped_plain c.args.c (sym c.is_special.ensures ∙ w.if-is_special.false) in
      grind (arith, common_steps, alone)
]
