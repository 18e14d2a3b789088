use Rattle.std.proofs.Common.{◌≡◌, ◌++◌, ◌<◌, length, ap, ◌∙◌, codes, arith}
use Rattle.std.specs.List.{join_with_byte}
use Rattle.std.proofs.lemmas.Grind.{common_steps}
use Rattle.spawn_dev.specs.ShellText.{quote}
use Rattle.spawn_dev.proofs.Lines.{line-of_three, folder_line-below}
use Rattle.spawn_dev.proofs.shell.push_folder_line.Goals as goal

pub returns-clause-bytes : goal.returns-clause-bytes
returns-clause-bytes c =
    let some : 0 < length c.args.folder.now = grind (arith, common_steps) in
    let place : c.as_str-3.result.now ≡ codes "./" ++ join_with_byte 47 c.args.folder.now =
    c.as_str-3.ensures.value ∙ c.in_ok-push_str.ensures.bytes ∙ ap (λ x. x ++ c.as_str-2.result.now) c.in_ok-place.ensures.ok
    ∙ ap (λ x. codes "./" ++ x) (c.as_str-2.ensures ∙ c.in_ok-text.ensures.value) in
    rw (c.in_ok-push_str-3.ensures.bytes, c.in_ok-push_quoted.ensures.bytes, c.in_ok-push_str-2.ensures.bytes, place, folder_line-below c.args.folder.now some)
    (line-of_three _ (codes "cd ") (quote (codes "./" ++ join_with_byte 47 c.args.folder.now)) (codes " || exit 127"))
