use Rattle.std.proofs.Common.{◌≡◌, ◌++◌, ◌∙◌, ap}
use Rattle.rel_path.specs.Files.{file_at}
use Rattle.run_laws_tests.proofs.FileWalks.{over-append}
use Rattle.run_laws_tests.proofs.worlds.over.Goals as goal

pub returns : goal.returns
returns c = record {
  files =
      let is : c.push_copies-2.new.to ≡ c.args.above.now ++ c.args.below.now = c.in_ok-push_copies-2.ensures.files ∙ ap (λ files. files ++ c.args.below.now) (c.in_ok-push_copies.ensures.files ∙ ap (λ files. files ++ c.args.above.now) c.new-all.ensures) in
      λ path. ap (λ files. file_at files path) is ∙ over-append c.args.above.now c.args.below.now path;
}
