use Rattle.std.proofs.Common.{◌≡◌, ◌||◌, Bool, length, take}
use Rattle.rel_path.specs.Paths.{Path, is_among}
use Rattle.closures.specs.Named.{marks_of}
use Rattle.closures.proofs.naming.mark_all.Given as goal

abbrev pub invariant-loop-path : goal.invariant-loop-path
invariant-loop-path l = record {
  size : length l.marks ≡ length l.initial.marks;
  marked : (passes : Path → Bool) → l.initial.marks ≡ marks_of passes l.files → l.marks ≡ marks_of (λ p. is_among (take l.path-index l.paths) p || passes p) l.files;
}
