use Rattle.std.proofs.Common.{ap, ◌∙◌}
use Rattle.tree_dev.specs.Names.{entry_of, IsProper}
use Rattle.tree_dev.specs.Listing.{deepest}
use Rattle.tree_dev.proofs.NamesOf.{gives_more, all_push, proper_some}
use Rattle.tree_dev.proofs.FileLists.{deepest-at}
use Rattle.tree_dev.proofs.listing.all_names.Goals as goal

pub loop-file-preserved : goal.loop-file-preserved
loop-file-preserved c =
    let files = c.args.files.now in
    let folder = c.args.folder.now in
    let i = c.loop-file.file-index in
    let d = c.file-item.result in
    let entry = c.in_ok-entry.entry in
    record {
      gives = rw c.in_ok-add.ensures.adds
          (gives_more folder files i d c.loop-file.names.items entry c.loop-file-test.true
          (c.in_ok-entry.ensures.entry ∙ ap (λ x. entry_of folder x.0) c.file-item.is) c.loop-file.invariant.gives);
      proper = rw c.in_ok-add.ensures.adds
          (all_push (IsProper (deepest files) folder) c.loop-file.names.items entry c.loop-file.invariant.proper
          (proper_some _ (deepest files) folder entry (rw (← c.file-item.is) at (deepest-at files i d c.loop-file-test.true)) c.in_ok-entry.ensures.proper));
    }
