use Rattle.std.proofs.Common.{◌≡◌, [], take}
use Rattle.std.specs.Prelude.{None, find}
use Rattle.kept_packages.specs.Answers.{is_unknown}
use Rattle.kept_packages.specs.Needs.{Gains, IsTarget}
use Rattle.kept_packages.proofs.targets.target_numbers.Given as goal

-- the packages of the names so far, each of which some package has
abbrev pub invariant-loop-target : goal.invariant-loop-target
invariant-loop-target l = record {
  known : find (is_unknown l.packages.packages) (take l.target-index l.targets) ≡ None;
  numbers : Gains l.packages (IsTarget l.packages (take l.target-index l.targets)) [] l.numbers.items;
}
