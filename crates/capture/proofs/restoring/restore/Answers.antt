use Rattle.capture.proofs.Ascents.{owns_each, sorted_files}
use Rattle.capture.proofs.restoring.restore.Goals as goal

pub put_all-requires-clause-fits : goal.put_all-requires-clause-fits
put_all-requires-clause-fits g c = rw c.as_slice.ensures (owns_each c.args.outs.now c.args.artifact.now.files c.requires.owns)

pub put_all-requires-clause-ascend : goal.put_all-requires-clause-ascend
put_all-requires-clause-ascend g c = rw c.as_slice.ensures (sorted_files c.args.artifact.now.files c.requires.ascend)
