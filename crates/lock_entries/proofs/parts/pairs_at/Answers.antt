use Rattle.serde_json.specs.View.{view}
use Rattle.json_view.specs.Pointer.{pointer_to}
use Rattle.lock_entries.specs.Entries.{entry_pointer}
use Rattle.lock_entries.proofs.Pointless.{pairs_anywhere}
use Rattle.lock_entries.proofs.parts.pairs_at.Goals as goal

pub returns-in-Ok : goal.returns-in-Ok
returns-in-Ok c = pairs_anywhere _ _ (pointer_to (entry_pointer c.args.location.now) c.args.key.now) (view c.args.value.now) c.in-Ok.ensures.pairs
