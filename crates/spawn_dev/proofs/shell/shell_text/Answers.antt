use Rattle.std.proofs.Common.{length, codes}
use Rattle.spawn_dev.specs.ShellText.{line, folder_line, search_line, script_lines, shell_text_of}
use Rattle.spawn_dev.proofs.Lines.{five}
use Rattle.spawn_dev.proofs.shell.shell_text.Goals as goal

pub returns-clause-text : goal.returns-clause-text
unfolding shell_text_of
returns-clause-text c =
    let command = c.args.command.now in
    rw (c.from_string.ensures, c.in_ok-push_script_lines.ensures.bytes, c.in_ok-push_str.ensures.bytes, c.in_ok-push_search_line.ensures.bytes, c.in_ok-push_folder_line.ensures.bytes, c.in_ok-text.ensures.ok, c.components.ensures.value, c.as_slice.ensures, c.as_slice-2.ensures)
    (five (line (codes "exec </dev/null 2>&1")) (folder_line command.dir) (search_line (length command.dir)) (line (codes "export PATH")) (script_lines command.args command.scripts))
