use Rattle.std.proofs.Common.{◌<◌, length, subst, ◌∙◌}
use Rattle.os_children.proofs.CommandLists.{below_of, distinct_left, taken_at, taken_out}
use Rattle.os_children.proofs.children.Children.take.Goals as goal

pub invariant_of-self : goal.invariant_of-self
invariant_of-self g c =
    let below = below_of (λ r. r.command) c.wait-place.new.self c.self.inside.running.items c.wait-place.result c.self.view_is c.wait-place.ensures.place in
    let taken = taken_at (λ r. r.command) c.self.inside.running.items c.remove.new.self.items c.wait-place.result c.remove.result below c.remove.ensures.value c.remove.ensures.items in
    distinct_left _ _ _ taken c.self.invariant

pub returns-clause-taken : goal.returns-clause-taken
returns-clause-taken g c =
    let view = c.self.view_is ∙ c.wait-place.ensures.kept in
    let below = subst (λ xs. c.wait-place.result < length xs) c.wait-place.ensures.kept c.wait-place.ensures.place in
    taken_out (λ r. r.command) c.args.self.now c.self.inside.running.items c.remove.new.self.items c.wait-place.result c.remove.result c.finish.result.0 view below c.remove.ensures.value
    c.remove.ensures.items c.finish.ensures.command
