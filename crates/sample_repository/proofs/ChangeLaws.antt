-- What stands at each path of files of which one was changed.
use Rattle.std.proofs.Common.{◌≡◌, ℕ, Bool, true, false, List, [], ◌∷◌, Option, Some, None, refl, ap}
use Rattle.std.proofs.Math.Path.{fun_ext}
use Rattle.std.specs.Prelude.{if◌then◌else◌}
use Rattle.std.specs.Option.{option_map}
use Rattle.rel_path.specs.Paths.{Path, path_eq}
use Rattle.rel_path.specs.Files.{file_at}
use Rattle.rel_path.proofs.PathLaws.{path_same}
use Rattle.sample_repository.specs.Changes.{begun_with, files_with, changed_at}

-- nothing stands there
none_there : (first : ℕ) (b : Bool)
    → None ≡ (if b then option_map (begun_with first) None else None)
none_there first true = refl
none_there first false = refl

-- Of the first file: `a` says that it stands at the path that is asked for, `b` that this one is the
-- changed one, and `c` that the file is changed.
one_there : (first : ℕ) (a b c : Bool) (bytes : List ℕ) (rest : Option (List ℕ))
    → (a ≡ true → c ≡ b)
    → (if a then Some (if c then begun_with first bytes else bytes)
    else (if b then option_map (begun_with first) rest else rest))
    ≡ (if b then option_map (begun_with first) (if a then Some bytes else rest)
    else (if a then Some bytes else rest))
one_there first true b c bytes rest same = rw (same refl) (by b)
  where
    by : (b : Bool) → Some (if b then begun_with first bytes else bytes)
        ≡ (if b then option_map (begun_with first) (Some bytes) else Some bytes)
    by true = refl
    by false = refl
one_there first false b c bytes rest same = refl

at_path : (path : Path) (first : ℕ) (files : List (Path × List ℕ)) (other : Path)
    → file_at (files_with path first files) other ≡ changed_at path first (file_at files) other
at_path path first [] other = none_there first (path_eq other path)
at_path path first (f ∷ fs) other =
    rw (at_path path first fs other)
    (one_there first (path_eq f.0 other) (path_eq other path) (path_eq f.0 path) f.1
    (file_at fs other) (λ e. ap (λ p. path_eq p path) (path_same f.0 other e)))

pub file_at-files_with : (path : Path) (first : ℕ) (files : List (Path × List ℕ))
    → file_at (files_with path first files) ≡ changed_at path first (file_at files)
file_at-files_with path first files = fun_ext (at_path path first files)
