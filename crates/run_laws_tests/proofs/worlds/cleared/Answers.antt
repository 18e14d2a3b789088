use Rattle.std.proofs.Common.{◌∙◌, ap}
use Rattle.rel_path.specs.Files.{file_at}
use Rattle.run_laws_tests.proofs.FileWalks.{cleared-is}
use Rattle.run_laws_tests.proofs.worlds.cleared.Goals as goal

pub returns : goal.returns
returns c = record {
  files = λ path. ap (λ files. file_at files path) c.in_ok-left.ensures.files ∙ cleared-is c.args.outs.now c.args.files.now path;
}
