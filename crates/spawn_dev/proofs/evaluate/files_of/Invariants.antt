use Rattle.std.proofs.Common.{◌≡◌, [], drop}
use Rattle.rel_path.specs.Files.{file_at}
use Rattle.spawn_dev.specs.Books.{with_writes}
use Rattle.spawn_dev.specs.Effects.{seen_by}
use Rattle.spawn_dev.proofs.evaluate.files_of.Given as goal

abbrev pub invariant-loop-write : goal.invariant-loop-write
invariant-loop-write l =
    let seen = seen_by l.command (file_at l.files) in
    with_writes seen l.written.entries (drop l.write-index l.writes) ≡ with_writes seen [] l.writes
