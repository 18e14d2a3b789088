use Rattle.std.proofs.Common.{get_or, ap, ◌∙◌}
use Rattle.std.specs.List.{join_with_byte}
use Rattle.workspaces.specs.Space.{owners}
use Rattle.collect.proofs.Installed.{own_are}
use Rattle.collect.proofs.uses.own_starts.Goals as goal

pub returns-clause-value : goal.returns-clause-value
returns-clause-value c = λ d.
    own_are c.args.packages.now (get_or (owners c.args.packages.now) c.args.number d) c.new-starts.result.items c.add_needs.new.starts.items c.in_ok-folder.folder c.needs.result.now c.new-starts.ensures.items c.in_ok-add_needs.ensures.added
    (c.in_ok-folder.ensures.value ∙ ap (join_with_byte 47) (c.folder.ensures d)) (c.needs.ensures d)
