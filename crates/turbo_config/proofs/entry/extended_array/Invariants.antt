use Rattle.std.proofs.Common.{◌≡◌, ◌++◌, cond, drop}
use Rattle.turbo_config.specs.Entries.{without_extends, extended_array}
use Rattle.turbo_config.proofs.entry.extended_array.Given as goal

-- the array so far, and what the texts that are left add to it
abbrev pub invariant-loop-text : goal.invariant-loop-text
invariant-loop-text l =
    l.array ++ cond l.has_start (without_extends (drop l.text-index l.texts)) (extended_array l.start (drop l.text-index l.texts)) ≡ extended_array l.start l.texts
