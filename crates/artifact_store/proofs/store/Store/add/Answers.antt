use Rattle.std.proofs.Common.{⊎_elim, sym, ◌∙◌, ap}
use Rattle.record_log.specs.Kinds.{generation_of}
use Rattle.artifact_store.specs.Store.{frames_of}
use Rattle.artifact_store.proofs.After.{generation_same}
use Rattle.artifact_store.proofs.store.Store.add.Goals as goal

pub invariant_of-self : goal.invariant_of-self
invariant_of-self g c = record {
  knows = c.append_staged.ensures.pool;
  indexed = c.append_staged.ensures.index;
  same = λ whole told.
      let was = c.args.self.now.same c.requires.whole told in
      let fs = frames_of c.args.self.now in
      ⊎_elim (λ is. was ∙ ap generation_of (sym is))
      (λ is. was ∙ sym (generation_same fs c.args.staged.now.frames.items) ∙ ap generation_of (sym is))
      (c.append_staged.ensures.after told);
}
