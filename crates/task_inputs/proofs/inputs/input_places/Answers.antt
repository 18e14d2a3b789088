use Rattle.std.proofs.Common.{◌≡◌, ◌∙◌, ◌++◌, ◌∷◌, ◌+◌, ◌<◌, [], List, ℕ, sym, ap, subst, map, length, get_or, take, arith}
use Rattle.std.proofs.lemmas.List.{map_more, length-map}
use Rattle.ignore_rules.specs.Ignored.{is_ignored}
use Rattle.ignore_rules.specs.Stacks.{rules_in}
use Rattle.workspaces.specs.Space.{owners}
use Rattle.task_inputs.specs.declared.definitions.DefinedTask.{DefinedTask}
use Rattle.task_inputs.specs.Homes.{home_of}
use Rattle.task_inputs.specs.Folders.{AreHomes}
use Rattle.task_inputs.specs.Inputs.{input_row}
use Rattle.task_inputs.specs.Tables.{IsTable}
use Rattle.task_inputs.proofs.Places.{each_at}
use Rattle.task_inputs.proofs.Rows.{looked_well, row_is}
use Rattle.task_inputs.proofs.inputs.input_places.Goals as goal

pub task_places-requires-clause-looked : goal.task_places-requires-clause-looked
task_places-requires-clause-looked c =
    let members = owners c.args.packages.now in
    let task = c.task-item.result in
    let below : task.owner < length members = rw (← c.task-item.is) at (each_at (λ (t : DefinedTask). t.owner < length members) c.args.tasks.now c.loop-task.task-index task c.loop-task-test.true c.requires.tasks) in
    let less : task.owner < length c.args.declared.now = omega (arith, below, ap length c.requires.declared, length-map members (home_of c.args.config.now)) in
    rw c.as_slice-in-loop-task.ensures (looked_well _ c.args.declared.now c.in_ok-globals.globals c.args.walk.now c.in_ok-table.table (rw c.as_slice.ensures at c.in_ok-table.ensures.table) task.owner less)

pub loop-task-preserved : goal.loop-task-preserved
loop-task-preserved c =
    let members = owners c.args.packages.now in
    let setup = c.args.config.now in
    let walk = c.args.walk.now in
    let table = c.in_ok-table.table in
    let task = c.task-item.result in
    let ignored = is_ignored (rules_in c.args.ignores.now) in
    let made : IsTable ignored (map (home_of setup) members) setup.globals.inputs walk table = rw (c.as_slice.ensures, c.requires.declared, c.in_ok-globals.ensures.value) at c.in_ok-table.ensures.table in
    let row = row_is ignored setup members walk table (subst AreHomes c.requires.declared c.in_ok-table.ensures.homes) made task c.in_ok-row.row (rw c.as_slice-in-loop-task.ensures at c.in_ok-row.ensures.row) in
    let same : get_or c.args.tasks.now c.loop-task.task-index task ≡ task = sym c.task-item.is in
    let rows : c.push.new.self.items ≡ map (input_row ignored setup members walk) (take (c.loop-task.task-index + 1) c.args.tasks.now) =
    c.in_ok-push.ensures.items ∙ ap (λ (r : List ℕ). c.loop-task.rows.items ++ r ∷ []) row ∙ ap (λ (rs : List (List ℕ)). rs ++ input_row ignored setup members walk task ∷ []) c.loop-task.invariant.rows
    ∙ ap (λ (t : DefinedTask). map (input_row ignored setup members walk) (take c.loop-task.task-index c.args.tasks.now) ++ input_row ignored setup members walk t ∷ []) (sym same)
    ∙ sym (map_more (input_row ignored setup members walk) c.args.tasks.now c.loop-task.task-index task c.loop-task-test.true) in
    record { rows = rows; lists = rw c.as_slice-in-loop-task.ensures at c.in_ok-row.ensures.lists }
