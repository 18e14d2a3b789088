use Rattle.std.proofs.Common.{sym, ap, ◌∙◌}
use Rattle.std.specs.List.{position}
use Rattle.std.proofs.lemmas.List.Quantifiers.{position-Some}
use Rattle.tree_dev.specs.Memory.{is_at}
use Rattle.tree_dev.proofs.FileLists.{push_others, push_here, set_others, set_here, nothing_at}
use Rattle.tree_dev.proofs.memory.write_at.Goals as goal

pub returns-in-Some-clause-others : goal.returns-in-Some-clause-others
returns-in-Some-clause-others c =
    let files = c.args.files.now.items in
    let d = c.index_mut.result.now in
    let found = position-Some (is_at c.args.path) files c.in-Some.at d (sym (c.in-Some.ensures ∙ ap (position (is_at c.args.path)) c.deref.ensures.value)) in
    rw c.index_mut.ensures.value (set_others c.args.path c.args.bytes files c.in-Some.at d found.1)

pub returns-in-Some-clause-written : goal.returns-in-Some-clause-written
returns-in-Some-clause-written c =
    let files = c.args.files.now.items in
    let d = c.index_mut.result.now in
    let found = position-Some (is_at c.args.path) files c.in-Some.at d (sym (c.in-Some.ensures ∙ ap (position (is_at c.args.path)) c.deref.ensures.value)) in
    rw c.index_mut.ensures.value (set_here c.args.path c.args.bytes files c.in-Some.at d found.0 found.1 found.2)

pub returns-in_ok-push-in-None-clause-others : goal.returns-in_ok-push-in-None-clause-others
returns-in_ok-push-in-None-clause-others c = rw c.in_ok-push-in-None.ensures.items (push_others c.args.path c.args.bytes c.args.files.now.items)

pub returns-in_ok-push-in-None-clause-written : goal.returns-in_ok-push-in-None-clause-written
returns-in_ok-push-in-None-clause-written c =
    rw c.in_ok-push-in-None.ensures.items
    (push_here c.args.path c.args.bytes c.args.files.now.items
    (nothing_at c.args.path c.args.files.now.items (sym (c.in-None.ensures ∙ ap (position (is_at c.args.path)) c.deref.ensures.value))))
