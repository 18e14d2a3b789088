use Rattle.std.proofs.Common.{◌∙◌, ap, arith}
use Rattle.serde_json.specs.View.{view}
use Rattle.lock_entries.specs.Lockfile.{lock_refusal}
use Rattle.npm_lock.specs.Cut.{cut}
use Rattle.npm_lock.proofs.CutLaws.{cut_accepted, cut_shallow}
use Rattle.npm_lock.proofs.Answered.{accepted_only, refused_never}
use Rattle.npm_lock.proofs.lock.Lock.cut.Goals as goal

pub from_value-requires : goal.from_value-requires
from_value-requires c = rw c.in_ok-value.ensures.cut (omega (arith, cut_shallow c.args.folders.now c.args.keep.now (view c.self.inside.value), c.self.invariant.shallow))

pub returns-clause-cut : goal.returns-clause-cut
returns-clause-cut c = accepted_only _ _ (c.in_ok-value.ensures.cut ∙ ap (λ v. cut c.args.folders.now c.args.keep.now (view v)) c.self.view_is) c.from_value.result c.from_value.ensures

pub returns-clause-memory : goal.returns-clause-memory
returns-clause-memory c =
    refused_never _ (ap lock_refusal c.in_ok-value.ensures.cut ∙ cut_accepted c.args.folders.now c.args.keep.now (view c.self.inside.value) c.self.invariant.accepted) c.from_value.result c.from_value.ensures
