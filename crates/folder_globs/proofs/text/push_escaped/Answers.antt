use Rattle.std.proofs.Common.{append_assoc, arith}
use Rattle.std.proofs.lemmas.Grind.{common_steps}
use Rattle.folder_globs.proofs.Characters.{escaped_more}
use Rattle.folder_globs.proofs.text.push_escaped.Goals as goal

pub loop-c-preserved : goal.loop-c-preserved
loop-c-preserved c =
    let more = escaped_more c.loop-c.yielded c.in-Some.c in
    grind (arith, common_steps, append_assoc, more)
