use Rattle.std.proofs.Common.{◌≡◌, ◌∙◌, ap, subst, map}
use Rattle.std.specs.Prelude.{filter}
use Rattle.workspaces.specs.Space.{owners}
use Rattle.task_inputs.specs.Homes.{home_of}
use Rattle.task_inputs.specs.Folders.{AreHomes}
use Rattle.task_inputs.specs.Rooted.{are_some, far_test, AreTasks}
use Rattle.task_inputs.proofs.Kept.{picked_are}
use Rattle.task_inputs.proofs.from_root.rooted.Goals as goal

pub returns-clause-rooted : goal.returns-clause-rooted
returns-clause-rooted c =
    let setup = c.args.config.now in let members = owners c.args.packages.now in
    let tasks = c.in_ok-tasks.tasks.items in
    let all : AreTasks setup members c.args.kept.now c.in_ok-names.names tasks = rw (c.as_slice.ensures, c.as_slice-2.ensures) at c.in_ok-tasks.ensures.tasks in
    let homes : AreHomes (map (home_of setup) members) = subst AreHomes c.in_ok-declared.ensures.value c.in_ok-declared.ensures.homes in
    let any : c.is_some-any.result ≡ are_some tasks = c.is_some-any.ensures ∙ ap are_some c.as_slice-3.ensures.value in
    let put : c.in_ok-paths.paths ≡ filter (far_test (map (home_of setup) members) setup.globals.inputs c.is_some-any.result c.in_ok-wide.wide.items) c.args.walk.now =
    rw (c.in_ok-declared.ensures.value, c.in_ok-globals.ensures.value, c.deref.ensures.value, c.as_slice-4.ensures) at c.in_ok-paths.ensures.value in
    picked_are setup members c.args.kept.now c.in_ok-names.names tasks c.in_ok-names.ensures.value all homes c.is_some-any.result c.in_ok-wide.wide.items c.args.walk.now c.in_ok-paths.paths any c.in_ok-wide.ensures.value put
