use Rattle.std.proofs.Common.{◌≡◌, ap, ◌∙◌, map}
use Rattle.std.specs.Prelude.{None}
use Rattle.std.proofs.lemmas.List.{map-append}
use Rattle.spawn_dev.specs.Running.{command_at}
use Rattle.spawn_dev.specs.RunningLaws.{distinct_push}
use Rattle.os_children.specs.Taking.{itself}
use Rattle.os_children.proofs.children.Children.try_start.Goals as goal

pub invariant_of-self-in-Ok : goal.invariant_of-self-in-Ok
invariant_of-self-in-Ok g c =
    let commands = map (λ r. r.command) c.self.inside.running.items in
    let fresh : command_at itself commands c.args.command.place ≡ None = ap (λ xs. command_at itself xs c.args.command.place) c.self.view_is ∙ c.requires in
    rw (c.push_reserved.ensures.items, c.reserve.ensures.items, map-append, c.new-started.ensures) (distinct_push itself commands c.args.command c.self.invariant fresh)
