use Rattle.std.proofs.Common.{◌∙◌, ap}
use Rattle.lock_entries.specs.Lockfile.{entries_in}
use Rattle.serde_json.specs.View.{view}
use Rattle.npm_lock.specs.Lookup.{found_number}
use Rattle.npm_lock.proofs.Locating.{is_below}
use Rattle.npm_lock.proofs.lock.Lock.found.Goals as goal

pub returns-clause-there : goal.returns-clause-there
returns-clause-there c =
    is_below (entries_in (view c.args.self.now)) c.as_bytes.result.now c.as_bytes-2.result.now c.found_number.result
    (c.found_number.ensures ∙ ap (λ es. found_number es c.as_bytes.result.now c.as_bytes-2.result.now) c.entries.ensures.value)
