use Rattle.std.proofs.Common.{◌≡◌, ◌++◌, string_bytes}
use Rattle.spawn_dev.specs.ShellText.{search_path}
use Rattle.spawn_dev.proofs.shell.push_search_path.Given as goal

abbrev pub invariant-loop-ups : goal.invariant-loop-ups
invariant-loop-ups l = string_bytes l.text ≡ string_bytes l.fn.text ++ search_path l.ups
