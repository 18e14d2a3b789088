use Rattle.std.proofs.Common.{◌≡◌, take, Some}
use Rattle.serde_json.specs.View.{view}
use Rattle.npm_lock.specs.Externals.{texts_in}
use Rattle.npm_lock.proofs.texts.texts_of.Given as goal

abbrev pub invariant-loop-entry : goal.invariant-loop-entry
invariant-loop-entry l = l.texts ≡ texts_in (Some (view l.packages)) (take l.entry-index l.entries)
