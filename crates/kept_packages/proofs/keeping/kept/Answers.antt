use Rattle.std.proofs.Common.{[], length}
use Rattle.workspaces.specs.Reach.{AreBelow}
use Rattle.workspaces.specs.Space.{owners}
use Rattle.repository.specs.Reading.{contents_of}
use Rattle.kept_packages.specs.Needs.{Gains, IsFirst, Reaches}
use Rattle.kept_packages.proofs.Reaching.{gained_below}
use Rattle.kept_packages.proofs.Staying.{kept_are, keeps_from}
use Rattle.kept_packages.proofs.keeping.kept.Goals as goal

pub reached-requires-clause-first : goal.reached-requires-clause-first
reached-requires-clause-first c =
    let space = c.args.repository.now.packages in
    let below : AreBelow (length (owners space)) c.in_ok-first.first.items = gained_below space (IsFirst space c.as_slice.result.now) c.in_ok-first.first.items c.in_ok-first.ensures.first in
    rw c.as_slice-2.ensures.value below

pub returns : goal.returns
returns c =
    let contents = contents_of c.args.repository.now in
    let targets = c.args.targets.now in
    let first = c.in_ok-first.first.items in
    let marks = c.in_ok-marks.marks.items in
    let gains : Gains contents.space (IsFirst contents.space targets) [] first = rw c.as_slice.ensures at c.in_ok-first.ensures.first in
    let reaches : Reaches contents first marks = rw c.as_slice-2.ensures.value at c.in_ok-marks.ensures.reaches in
    keeps_from contents targets marks c.numbers_of.result (rw c.as_slice.ensures at c.in_ok-first.ensures.known) (rw c.as_slice-3.ensures.value at c.numbers_of.ensures.value) c.numbers_of.ensures.memory
    (kept_are contents c.in_ok-known.ensures.known.proper targets first marks gains reaches)
