use Rattle.std.proofs.Common.{◌||◌, ◌∙◌, sym, ap}
use Rattle.run_laws.specs.Picks.{pick}
use Rattle.run_laws.specs.Ancestors.{is_above}
use Rattle.run_laws.specs.Closures.{names}
use Rattle.run_laws_tests.proofs.Walking.{names-is}
use Rattle.run_laws_tests.proofs.program.is_read.Goals as goal

pub returns-else-is_own_input : goal.returns-else-is_own_input
returns-else-is_own_input c =
    c.is_input_above.ensures ∙ names-is (is_above c.args.listing.now c.args.place) c.args.listing.now.parts c.args.path.now
    ∙ ap (λ b. b || names (pick (is_above c.args.listing.now c.args.place) c.args.listing.now.parts) c.args.path.now) (sym c.if-is_own_input.false ∙ c.is_own_input.ensures)
