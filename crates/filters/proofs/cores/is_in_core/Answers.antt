use Rattle.std.proofs.Common.{◌≡◌}
use Rattle.filters.specs.Selection.{is_in_core}
use Rattle.workspaces.proofs.Owners.{at_package}
use Rattle.filters.proofs.Places.{passes_held}
use Rattle.filters.proofs.cores.is_in_core.Goals as goal

pub returns-in-Folder : goal.returns-in-Folder
unfolding is_in_core
returns-in-Folder c =
    let folder = at_package (λ m. c.folder.result.now ≡ m.folder) c.args.packages.now c.args.p c.folder.ensures c.requires in
    passes_held (is_in_core c.args.core.now) c.matches.result c.args.packages.now.packages c.args.p c.requires (λ d. rw c.in-Folder.is (rw (folder d) at c.matches.ensures.value))

pub returns-in-Name : goal.returns-in-Name
unfolding is_in_core
returns-in-Name c =
    let name = at_package (λ m. c.name.result.now ≡ m.name) c.args.packages.now c.args.p c.name.ensures c.requires in
    passes_held (is_in_core c.args.core.now) c.eq.result c.args.packages.now.packages c.args.p c.requires (λ d. rw c.in-Name.is (rw (name d) at c.eq.ensures))

pub returns-in-Pattern : goal.returns-in-Pattern
unfolding is_in_core
returns-in-Pattern c =
    let name = at_package (λ m. c.name-name.result.now ≡ m.name) c.args.packages.now c.args.p c.name-name.ensures c.requires in
    passes_held (is_in_core c.args.core.now) c.spells.result c.args.packages.now.packages c.args.p c.requires (λ d. rw c.in-Pattern.is (rw (c.as_bytes.ensures.value, c.as_str.ensures, c.as_bytes-in-Pattern.ensures.value, c.as_str-in-Pattern.ensures, name d) at c.spells.ensures))
