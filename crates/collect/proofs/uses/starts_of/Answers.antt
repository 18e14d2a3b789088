use Rattle.std.proofs.Common.{get_or, refl}
use Rattle.workspaces.specs.Space.{owners}
use Rattle.collect.specs.Steps.{root_starts}
use Rattle.collect.proofs.Installed.{starts_are}
use Rattle.collect.proofs.uses.starts_of.Goals as goal

pub returns-clause-value : goal.returns-clause-value
returns-clause-value c = λ d.
    let space = c.args.packages.now in
    starts_are space (get_or (owners space) c.args.number d) c.in_ok-starts.starts.items (root_starts space) c.add_root_starts.new.starts.items (c.in_ok-starts.ensures.value d) refl c.in_ok-add_root_starts.ensures.added
