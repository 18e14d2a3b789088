use Rattle.std.proofs.Common.{subst, List}
use Rattle.rel_path.specs.Paths.{Path}
use Rattle.rel_path.specs.Files.{FileMap}
use Rattle.std.specs.Prelude.{Ok, Err}
use Rattle.capture.specs.Owned.{ReadsAll}
use Rattle.capture.proofs.Takings.{takes_read, takes_shared}
use Rattle.capture.proofs.Ascents.{declared_below}
use Rattle.capture.proofs.taking.owned_files.Goals as goal

pub returns-in-Some-clause-takes : goal.returns-in-Some-clause-takes
returns-in-Some-clause-takes g c = λ told.
    takes_shared _ c.args.outs.now c.in-Ok.paths (c.in-Ok.ensures.lists.exact told) c.args.limit c.in-Some.path.now _ c.in-Ok.ensures.lists.ascend (rw c.as_slice.ensures at c.in-Some.ensures) c.shared.ensures

pub returns-in-Ok-read_all-clause-takes : goal.returns-in-Ok-read_all-clause-takes
returns-in-Ok-read_all-clause-takes g c = λ told.
    takes_read _ c.args.outs.now c.in-Ok.paths (c.in-Ok.ensures.lists.exact told) c.args.limit (Ok c.in-Ok-read_all.files) (rw c.as_slice.ensures at c.in-None.ensures) (rw (c.in-Ok.ensures.looks.files, c.as_slice-2.ensures) at (c.in-Ok-read_all.ensures.reads told))

pub returns-clause-takes : goal.returns-clause-takes
returns-clause-takes g c = λ told.
    takes_read (g.T.Tree.state c.args.tree.now).files c.args.outs.now c.in-Ok.paths (c.in-Ok.ensures.lists.exact told) c.args.limit (Err c.in-Err-read_all.e) (rw c.as_slice.ensures at c.in-None.ensures)
    (subst (λ (f : FileMap). ReadsAll f c.args.limit c.in-Ok.paths (Err c.in-Err-read_all.e)) c.in-Ok.ensures.looks.files
    (subst (λ (x : List Path). ReadsAll (g.T.Tree.state c.declared_paths.new.tree).files c.args.limit x (Err c.in-Err-read_all.e)) c.as_slice-2.ensures (c.in-Err-read_all.ensures.reads told)))

pub returns-in-Ok-read_all-clause-below : goal.returns-in-Ok-read_all-clause-below
returns-in-Ok-read_all-clause-below g c = λ path h.
    declared_below c.args.outs.now path (c.in-Ok.ensures.lists.taken path (rw (← c.as_slice-2.ensures) (c.in-Ok-read_all.ensures.within path h)))
