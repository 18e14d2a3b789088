use Rattle.std.proofs.Common.{codes}
use Rattle.spawn_dev.specs.ShellText.{quote}
use Rattle.spawn_dev.proofs.Lines.{line-of_three}
use Rattle.spawn_dev.proofs.shell.push_script_line.Goals as goal

pub returns-clause-bytes : goal.returns-clause-bytes
returns-clause-bytes c =
    rw (c.in_ok-push_str-2.ensures.bytes, c.in_ok-push_quoted.ensures.bytes, c.in_ok-push_str.ensures.bytes)
    (line-of_three _ (codes "sh -c ") (quote c.args.script.now) (codes " || exit $?"))
