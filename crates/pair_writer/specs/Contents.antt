-- Contents that are staged, by number.
use Rattle.std.specs.Prelude.{◌≡◌, ℕ, List, map}
use Rattle.pair_writer.specs.declared.contents.Contents.{Contents}

abbrev pub digests_in : Contents → List (List ℕ)
digests_in contents = contents.index.digests

abbrev pub bytes_in : Contents → List (List ℕ)
bytes_in contents = map (λ b. b.now) contents.bytes.items

pub record SameContents (old new : Contents) : Type 0 where
  pub digests : digests_in new ≡ digests_in old
  pub bytes : bytes_in new ≡ bytes_in old
