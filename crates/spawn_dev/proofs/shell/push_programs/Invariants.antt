use Rattle.std.proofs.Common.{◌≡◌, ◌++◌, string_bytes}
use Rattle.spawn_dev.specs.ShellText.{programs}
use Rattle.spawn_dev.proofs.shell.push_programs.Given as goal

abbrev pub invariant-loop-left : goal.invariant-loop-left
invariant-loop-left l = string_bytes l.text ++ programs l.left ≡ string_bytes l.initial.text ++ programs l.ups

abbrev pub decreases-loop-left : goal.decreases-loop-left
decreases-loop-left l = l.left
