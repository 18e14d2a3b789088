use Rattle.std.proofs.Common.{◌≡◌, ◌∙◌, ap, map}
use Rattle.workspaces.specs.Entries.{trimmed, globs_fault}
use Rattle.workspaces.proofs.Globs.{no_fault, found_fault}
use Rattle.workspaces.proofs.entries.read_globs.Goals as goal

pub returns-in-Ok-clause-found : goal.returns-in-Ok-clause-found
unfolding globs_fault
returns-in-Ok-clause-found c =
    let texts : c.in_ok-texts.texts ≡ map trimmed c.args.root.now.workspaces = c.in_ok-texts.ensures.value ∙ ap (map trimmed) c.as_slice.ensures in
    (no_fault c.args.root.now.object_form 0 c.args.root.now.workspaces (rw (← texts) c.in-Ok.ensures.whole), c.in-Ok.ensures.value ∙ texts)

pub returns-in-Err-At-clause-found : goal.returns-in-Err-At-clause-found
unfolding globs_fault
returns-in-Err-At-clause-found c =
    let texts : c.in_ok-texts.texts ≡ map trimmed c.args.root.now.workspaces = c.in_ok-texts.ensures.value ∙ ap (map trimmed) c.as_slice.ensures in
    found_fault c.args.root.now.object_form c.args.root.now.workspaces c.in-Err-At.index c.in-Err-At.fault c.refusal.result (rw (← texts) (rw c.in-Err-At.field-0-is at c.in-Err-At.ensures.err)) c.refusal.ensures.refusal
