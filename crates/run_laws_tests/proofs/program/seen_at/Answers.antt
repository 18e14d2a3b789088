use Rattle.std.proofs.Common.{◌∙◌, ap}
use Rattle.run_laws.specs.Ancestors.{is_above}
use Rattle.run_laws_tests.specs.Walks.{last_written}
use Rattle.run_laws_tests.proofs.Walking.{seen-is}
use Rattle.run_laws_tests.proofs.program.seen_at.Goals as goal

pub returns : goal.returns
returns c =
    c.last_written.ensures
    ∙ ap (last_written (is_above c.args.listing.now c.args.place) 0 c.args.outcomes.now c.args.path.now) c.input_at-input.ensures
    ∙ seen-is c.args.listing.now c.args.place c.args.outcomes.now c.args.path.now
