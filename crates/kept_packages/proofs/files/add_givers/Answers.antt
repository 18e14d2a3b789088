use Rattle.std.proofs.lemmas.Result.{on_ok_weaker}
use Rattle.repository.specs.Reading.{contents_of}
use Rattle.kept_packages.proofs.Needing.{givers_gain}
use Rattle.kept_packages.proofs.files.add_givers.Goals as goal

pub returns-clause-added : goal.returns-clause-added
returns-clause-added c =
    let contents = contents_of c.args.repository.now in
    on_ok_weaker c.add_homes.result (λ gains. givers_gain contents c.args.users.now c.in_ok-paths.paths c.args.found.now.items c.add_homes.new.found.items c.in_ok-paths.ensures.rooted
    (rw c.as_slice.ensures at gains)) (c.add_homes.ensures.added contents.space c.requires.proper c.requires.index)
