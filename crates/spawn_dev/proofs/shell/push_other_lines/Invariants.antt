use Rattle.std.proofs.Common.{◌≡◌, ◌++◌, drop, string_bytes}
use Rattle.spawn_dev.specs.ShellText.{other_lines}
use Rattle.spawn_dev.proofs.shell.push_other_lines.Given as goal

abbrev pub invariant-loop-script : goal.invariant-loop-script
invariant-loop-script l = string_bytes l.text ++ other_lines (drop l.script-index l.scripts) ≡ string_bytes l.initial.text ++ other_lines l.scripts
