use Rattle.input_entries.specs.Entries.{entry_of}
use Rattle.std.proofs.Common.{◌∙◌, ap}
use Rattle.input_entries.proofs.Added.{added}
use Rattle.input_entries.proofs.entries.InputList.read.Goals as goal

pub loop-text-preserved : goal.loop-text-preserved
loop-text-preserved c =
    added entry_of c.as_slice-text-items.result.now c.loop-text.text-index c.text-item.result c.in_ok-read_entry.field-0 c.loop-text.globs.items _
    c.loop-text-test.true c.text-item.is c.loop-text.invariant (c.in_ok-read_entry.ensures.value ∙ ap entry_of c.as_str.ensures) c.in_ok-add_entry.ensures.added
