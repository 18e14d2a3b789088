use Rattle.std.proofs.Common.{◌∙◌, filter}
use Rattle.run_laws.specs.Closures.{names}
use Rattle.run_laws_tests.proofs.Walking.{closure-is}
use Rattle.run_laws_tests.proofs.keys.closure.Goals as goal

pub returns : goal.returns
returns c = record {
  value =
      closure-is c.args.listing.now c.args.place c.in_ok-parts.parts c.in_ok-files.files c.in_ok-parts.ensures.parts
      (c.in_ok-files.ensures.files ∙ (λ j. filter (λ f. names (c.as_slice-2.ensures j) f.0) (c.as_slice.ensures j)));
}
