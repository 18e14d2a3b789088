use Rattle.std.proofs.Common.{vec_len}
use Rattle.os_edge.proofs.files.remove_folders.Given as goal

abbrev pub decreases-loop-folder : goal.decreases-loop-folder
decreases-loop-folder g l = vec_len l.folders
