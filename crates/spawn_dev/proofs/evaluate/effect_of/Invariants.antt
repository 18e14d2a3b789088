use Rattle.std.proofs.Common.{◌≡◌, drop}
use Rattle.rel_path.specs.Files.{file_at}
use Rattle.spawn_dev.specs.Books.{effect_of}
use Rattle.spawn_dev.specs.Effects.{seen_by}
use Rattle.spawn_dev.proofs.evaluate.effect_of.Given as goal

abbrev pub invariant-loop-rule : goal.invariant-loop-rule
invariant-loop-rule l = effect_of l.rules (seen_by l.command (file_at l.files)) ≡ effect_of (drop l.rule-index l.rules) (seen_by l.command (file_at l.files))
