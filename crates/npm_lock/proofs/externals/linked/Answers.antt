use Rattle.std.proofs.Common.{ap, ◌∙◌, ◌++◌, [], cond, sym, append-nil}
use Rattle.std.specs.Option.{option_to_list}
use Rattle.npm_lock.proofs.MembersOf.{link_turn}
use Rattle.npm_lock.proofs.externals.linked.Goals as goal
use Rattle.npm_lock.proofs.externals.linked.Goals.{then-set-i+in_ok-folders, else-set-i}

pub loop-i-preserved : goal.loop-i-preserved
loop-i-preserved c =
    let done = c.loop-i.folders.items in
    let link = option_to_list c.index-entries-i.result.link in
    link_turn c.args.entries.now c.requires.ascend c.args.set.now c.loop-i.i c.index-entries-i.result (c.loop-i-test.true, c.index-entries-i.is) done c.if-set-i.folders.items _
    (elim c.if-set-i.branch [
      | then-set-i+in_ok-folders w ↦ ap (λ v. v.items) w.folders-is ∙ w.in_ok-folders.ensures.folders ∙ ap (λ b. done ++ cond b link []) (sym w.if-set-i.true)
      | else-set-i w ↦ ap (λ v. v.items) w.folders-is ∙ sym (append-nil done) ∙ ap (λ b. done ++ cond b link []) (sym w.if-set-i.false)
    ])
    c.loop-i.invariant
