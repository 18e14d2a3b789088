use Rattle.std.proofs.Common.{◌≡◌, ◌∙◌, sym, None, codes, Some}
use Rattle.serde_json.specs.View.{view}
use Rattle.npm_lock.proofs.Accepted.{no_float, packages_there, packages_get, entries_there}
use Rattle.npm_lock.proofs.Whole.{part_whole}
use Rattle.npm_lock.proofs.texts.packages.Goals as goal

pub unreachable-requires : goal.unreachable-requires
unreachable-requires c =
    let ms = packages_there (view c.args.value.now) c.requires in
    let e : None ≡ Some _ = c.in-None.ensures ∙ packages_get (view c.args.value.now) ms.0 ms.1 in
    cc

pub returns-clause-whole : goal.returns-clause-whole
returns-clause-whole c = part_whole (codes "packages") (view c.args.value.now) (view c.in-Some.packages.now) (sym c.in-Some.ensures) (no_float (view c.args.value.now) c.requires)

pub returns-clause-there : goal.returns-clause-there
returns-clause-there c = entries_there (view c.args.value.now) (view c.in-Some.packages.now) c.requires (sym c.in-Some.ensures)
