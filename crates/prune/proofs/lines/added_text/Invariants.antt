use Rattle.std.proofs.Common.{◌≡◌, take}
use Rattle.std.specs.Prelude.{string_bytes}
use Rattle.prune.specs.Printed.{added_lines}
use Rattle.prune.specs.Steps.{packages_at}
use Rattle.prune.proofs.lines.added_text.Given as goal

-- the lines so far
abbrev pub invariant-loop-number : goal.invariant-loop-number
invariant-loop-number l = string_bytes l.text ≡ added_lines (packages_at l.packages (take l.number-index l.numbers))
