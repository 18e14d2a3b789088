use Rattle.std.proofs.lemmas.Slice.Eq.{strip_prefix_is, bytes_eq-Decides}
use Rattle.globs.proofs.Outputs.{strip_as}
use Rattle.input_entries.proofs.relative.strip.Goals as goal

pub returns : goal.returns
returns c = strip_as c.args.folder.now c.args.path.now c.strip_prefix.result (strip_prefix_is bytes_eq-Decides c.args.path.now c.args.folder.now c.strip_prefix.result c.strip_prefix.ensures.cases)
