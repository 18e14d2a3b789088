use Rattle.std.proofs.Common.{◌≡◌, ◌++◌, length}
use Rattle.std.specs.List.{filter_map}
use Rattle.ignore_rules.specs.Lines.{lines_of, behind_mark}
use Rattle.ignore_rules.specs.Rules.{rule_of}
use Rattle.ignore_rules.proofs.rule.read_rules.Given as goal

-- the rules so far, before those of the lines that are left
abbrev pub invariant-loop-line : goal.invariant-loop-line
invariant-loop-line l = filter_map rule_of (lines_of (behind_mark l.fn.bytes)) ≡ l.rules.items ++ filter_map rule_of (lines_of l.rest)

abbrev pub decreases-loop-line : goal.decreases-loop-line
decreases-loop-line l = length l.rest
