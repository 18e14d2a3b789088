-- Laws of artifacts and of what is found in a store.
use Rattle.std.specs.Prelude.{◌≡◌, ◌≢◌, ℕ, true, List, [], ◌∷◌, ◌++◌, Contains, Some}
use Rattle.rel_path.specs.Paths.{Path}
use Rattle.rel_path.specs.Files.{file_at}
use Rattle.globs.specs.declared.out_set.OutSet.{OutSet}
use Rattle.spawn_dev.specs.Orders.{AscendByPath}
use Rattle.cache_api.specs.Artifacts.{Artifact, artifact_text, IsTold}
use Rattle.cache_api.specs.Found.{found}
use Rattle.globs.specs.OwnedFiles.{owns_all}
use Rattle.cache_api.specs.Pairs.{Pair}
use Rattle.cache_api.specs.Reading.{Reader}

-- files in ascending order that are one map are one list
abbrev pub FilesDiffer : Type 0
FilesDiffer = (files others : List (Path × List ℕ)) → AscendByPath files → AscendByPath others → ((path : Path) → file_at files path ≡ file_at others path) → files ≡ others

-- an artifact is told by its text
abbrev pub ArtifactsDiffer : Type 0
ArtifactsDiffer = (a b : Artifact) → IsTold a → IsTold b → artifact_text a ≡ artifact_text b → a ≡ b

-- What is found for a task, whatever the pairs are, it owns, and it is what a pair with the whole key reads as. A
-- pair with another key changes nothing, and a pair with the key that reads as something that the task owns is
-- what is found behind it.
pub record FoundLaw : Type 0 where
  pub owned : (read : Reader) (key : List ℕ) (outs : OutSet) (pairs : List Pair) (a : Artifact) → found read key outs pairs ≡ Some a → owns_all outs a.1 ≡ true
  pub stands : (read : Reader) (key : List ℕ) (outs : OutSet) (pairs : List Pair) (a : Artifact) → found read key outs pairs ≡ Some a
      → (value : List ℕ) × Contains pairs (key, value) × (read value ≡ Some a)
  pub other : (read : Reader) (key : List ℕ) (outs : OutSet) (pairs : List Pair) (pair : Pair) → pair.0 ≢ key → found read key outs (pairs ++ pair ∷ []) ≡ found read key outs pairs
  pub latest : (read : Reader) (key : List ℕ) (outs : OutSet) (pairs : List Pair) (value : List ℕ) (a : Artifact) → read value ≡ Some a → owns_all outs a.1 ≡ true
      → found read key outs (pairs ++ (key, value) ∷ []) ≡ Some a
