use Rattle.std.proofs.lemmas.Bool.{false≢true}
use Rattle.json_view.proofs.ReadingLaws.{reading_of_text, no_reading}
use Rattle.json_view.proofs.view.View.read.Goals as goal

pub returns-in-Ok : goal.returns-in-Ok
returns-in-Ok c = reading_of_text _ _ _ c.behind_mark.ensures c.in-Ok.ensures.ok

pub returns-else-is_memory : goal.returns-else-is_memory
returns-else-is_memory c =
    no_reading _ _ c.behind_mark.ensures (c.in-Err.ensures.err (λ memory. false≢true (c.if-is_memory.ensures.1 memory)))
