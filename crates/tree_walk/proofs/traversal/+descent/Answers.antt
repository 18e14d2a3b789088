use Rattle.std.proofs.Common.{rules, arith, sym, ap, ◌∙◌, length, take_all, inl, inr}
use Rattle.std.proofs.lemmas.List.Elements.{All-get_or}
use Rattle.std.proofs.lemmas.List.Folds.{list_any_at}
use Rattle.tree_dev.specs.Names.{IsProper, same_entry}
use Rattle.tree_dev.proofs.NamesOf.{entry_self}
use Rattle.tree_walk.proofs.Ways.{gone_none, start, step, finish, stops, deep, skipped, too_many, one_file, inner}
use Rattle.tree_walk.proofs.traversal.+descent.Goals as goal

pub gather-returns-in-Err-Failed-clause-gathered : goal.gather-returns-in-Err-Failed-clause-gathered
gather-returns-in-Err-Failed-clause-gathered g t c = gone_none _ _ (λ told. tt)

pub gather-returns-in-Err-OutOfMemory-clause-gathered : goal.gather-returns-in-Err-OutOfMemory-clause-gathered
gather-returns-in-Err-OutOfMemory-clause-gathered g t c = gone_none _ _ (λ told. tt)

pub gather-returns-then-components-bounds-clause-gathered : goal.gather-returns-then-components-bounds-clause-gathered
gather-returns-then-components-bounds-clause-gathered g t c =
    deep _ _ _ _ _ _ _ _ _ _ (rw c.as_slice.ensures c.in-Ok.ensures.ascend) (λ told. rw c.as_slice.ensures (c.in-Ok.ensures.names told)) (omega (arith, ap length c.components.ensures.value)) c.first_deep.ensures

pub gather-loop-entry-init : goal.gather-loop-entry-init
gather-loop-entry-init g t c = record { looks = c.in-Ok.ensures.looks; faults = c.in-Ok.ensures.cause.counted; room = c.requires.room; gathered = start _ _ _ _ _ _ _ _ }

pub gather-visit-requires : goal.gather-visit-requires
gather-visit-requires g t c κs within =
    let looks = c.loop-entry.invariant.looks in
    let names = c.as_slice-entry-items.result.now in
    let i = c.loop-entry.entry-index in (
      omega (arith, looks.reach, c.decreases),
      (
        search rules,
        (
          search rules,
          (
            λ told path w. ap (λ h. h path) looks.held ∙ c.requires.free told path w,
            (
              c.loop-entry.invariant.room,
              (
                rw (looks.reach, c.entry-item.is) (All-get_or (IsProper (g.T.Tree.state c.args.tree.now).reach c.args.folder.now) names i c.entry-item.result c.loop-entry-test.true (rw c.as_slice-entry-items.ensures c.in-Ok.ensures.proper)),
                (
                  omega (arith, ap length c.components.ensures.value),
                  (λ told. rw (looks.files, looks.held) ((c.in-Ok.ensures.names told).only c.entry-item.result
                      (rw (← c.as_slice-entry-items.ensures) (list_any_at (λ other. same_entry other c.entry-item.result) names i c.entry-item.result c.loop-entry-test.true (rw (← c.entry-item.is) (entry_self c.entry-item.result)))))),
                ),
              ),
            ),
          ),
        ),
      ),
    )

pub gather-returns-in-Err-clause-gathered : goal.gather-returns-in-Err-clause-gathered
gather-returns-in-Err-clause-gathered g t c =
    let looks = c.loop-entry.invariant.looks in
    stops _ _ _ _ _ _ _ c.as_slice-entry-items.result.now c.loop-entry.entry-index c.entry-item.result _ _ _ _
    (rw c.as_slice-entry-items.ensures c.in-Ok.ensures.ascend) c.loop-entry-test.true (λ told. rw c.as_slice-entry-items.ensures (c.in-Ok.ensures.names told))
    (omega (arith, ap length c.components.ensures.value)) c.loop-entry.invariant.gathered (rw (looks.files, looks.held, c.entry-item.is) at c.in-Err.ensures.gathered)

pub gather-loop-entry-preserved : goal.gather-loop-entry-preserved
gather-loop-entry-preserved g t c =
    let looks = c.loop-entry.invariant.looks in
    let more = c.in-Ok-visit.ensures.looks in
    record {
      looks = record { files = more.files ∙ looks.files; rest = more.rest ∙ looks.rest; held = more.held ∙ looks.held; reach = more.reach ∙ looks.reach; faults = omega (arith, more.faults, looks.faults) };
      faults = c.in-Ok-visit.ensures.cause.counted ∙ c.loop-entry.invariant.faults;
      room = c.in-Ok-visit.ensures.room;
      gathered = step _ _ _ _ _ _ _ c.as_slice-entry-items.result.now c.loop-entry.entry-index c.entry-item.result _ _ _
          (rw c.as_slice-entry-items.ensures c.in-Ok.ensures.ascend) c.loop-entry-test.true c.loop-entry.invariant.gathered (rw (looks.files, looks.held, c.entry-item.is) at c.in-Ok-visit.ensures.gathered);
    }

pub gather-returns-clause-gathered : goal.gather-returns-clause-gathered
gather-returns-clause-gathered g t c =
    finish _ _ _ _ _ _ _ c.as_slice-entry-items.result.now _ _ (λ told. rw c.as_slice-entry-items.ensures (c.in-Ok.ensures.names told)) (omega (arith, ap length c.components.ensures.value)) (rw (← take_all c.loop-entry.entry-index c.as_slice-entry-items.result.now (omega arith)) c.loop-entry.invariant.gathered)

pub visit-returns-then-not-enters-clause-gathered : goal.visit-returns-then-not-enters-clause-gathered
visit-returns-then-not-enters-clause-gathered g t c = skipped _ _ _ _ _ _ _ _ _ c.requires.deep (inl (c.if-entry.true, sym c.enters.ensures ∙ search rules))

pub visit-returns-then-not-wants-clause-gathered : goal.visit-returns-then-not-wants-clause-gathered
visit-returns-then-not-wants-clause-gathered g t c = skipped _ _ _ _ _ _ _ _ _ c.requires.deep (inr (c.if-entry.false, rw (← c.in-Ok-child.ensures.value) (sym c.wants.ensures ∙ search rules)))

pub visit-returns-then-as_slice-bounds-clause-gathered : goal.visit-returns-then-as_slice-bounds-clause-gathered
visit-returns-then-as_slice-bounds-clause-gathered g t c = too_many _ _ _ _ _ _ _ _ _ c.requires.deep c.requires.there c.requires.free c.if-entry.false (rw (← c.in-Ok-child.ensures.value) (sym c.wants.ensures ∙ search rules)) (omega (arith, ap length c.as_slice.ensures, c.requires.room))

pub visit-returns-in-Ok-push-clause-gathered : goal.visit-returns-in-Ok-push-clause-gathered
visit-returns-in-Ok-push-clause-gathered g t c = rw (c.in-Ok-push.ensures.pushed, c.in-Ok-child.ensures.value) (one_file _ _ _ _ _ _ _ _ _ c.requires.deep c.requires.there c.requires.free c.if-entry.false (rw (← c.in-Ok-child.ensures.value) (sym c.wants.ensures ∙ search rules)))

pub visit-returns-in-Err-push-clause-gathered : goal.visit-returns-in-Err-push-clause-gathered
visit-returns-in-Err-push-clause-gathered g t c = rw c.in-Err-push.ensures.kept (gone_none _ _ (λ told. tt))

pub visit-returns-in-Ok-clause-gathered : goal.visit-returns-in-Ok-clause-gathered
visit-returns-in-Ok-clause-gathered g t c = inner _ _ _ _ _ _ _ _ _ _ _ c.if-entry.true (sym c.enters.ensures ∙ search rules) (rw c.in-Ok.ensures.value at c.gather.ensures.gathered)

pub visit-returns-in-Err-clause-gathered : goal.visit-returns-in-Err-clause-gathered
visit-returns-in-Err-clause-gathered g t c = gone_none _ _ (λ told. tt)

pub visit-returns-in-Err-child-clause-gathered : goal.visit-returns-in-Err-child-clause-gathered
visit-returns-in-Err-child-clause-gathered g t c = gone_none _ _ (λ told. tt)
