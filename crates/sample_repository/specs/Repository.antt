-- The made repository of a sample and what its commands do.
use Rattle.std.specs.Prelude.{ℕ, zero, suc, ◌+◌, ◌-◌, ◌*◌, ◌/◌, ◌%◌, ◌^◌, ◌==◌, List, [], ◌∷◌}
use Rattle.std.specs.Prelude.{◌++◌, if◌then◌else◌, codes}
use Rattle.rel_path.specs.Paths.{Path}
use Rattle.cli_words.specs.declared.order.Order.TheVariants.{Sample}
use Rattle.cli_words.specs.Laws.{IsWithin}
use Rattle.spawn_dev.specs.declared.book.Piece.{Piece}
use Rattle.spawn_dev.specs.declared.book.Piece.TheVariants.{Lit, File}
use Rattle.spawn_dev.specs.declared.book.Rule.{Rule}

-- so many packages may a sample have
abbrev pub IsSize : ℕ → Type 0
IsSize n = IsWithin (Sample n)

-- ---- names and paths

-- the last digit of a number
abbrev pub digit : ℕ → ℕ
digit k = 48 + k % 10

-- `p` and the last four digits of the package's number
abbrev pub name : ℕ → List ℕ
name k = 112 ∷ digit (k / 1000) ∷ digit (k / 100) ∷ digit (k / 10) ∷ digit k ∷ []

abbrev pub folder : ℕ → Path
folder k = codes "packages" ∷ name k ∷ []

abbrev pub manifest_path : ℕ → Path
manifest_path k = folder k ++ codes "package.json" ∷ []

abbrev pub source_path : ℕ → Path
source_path k = (folder k ++ codes "src" ∷ []) ++ codes "a.txt" ∷ []

-- of the file that the package's command writes
abbrev pub output_path : ℕ → Path
output_path k = (folder k ++ codes "dist" ∷ []) ++ codes "out.txt" ∷ []

-- the package that a package needs, other than the first one, which needs none
abbrev pub needed : ℕ → ℕ
needed k = (k - 1) / 2

-- ---- files

abbrev pub dependencies : ℕ → List ℕ
dependencies k =
    if k == 0 then []
    else codes "\"dependencies\":{\"" ++ (name (needed k) ++ codes "\":\"*\"},")

abbrev pub manifest : ℕ → List ℕ
manifest k =
    codes "{" ++ (dependencies k ++ (codes "\"name\":\"" ++ (name k
    ++ codes "\",\"scripts\":{\"build\":\"make\"},\"version\":\"1.0.0\"}")))

-- the state of a congruential generator behind this one
abbrev pub next_state : ℕ → ℕ
next_state x = (x * 1103515245 + 12345) % 2 ^ 31

-- the state so many steps behind this one
unfoldable pub state_behind : ℕ → ℕ → ℕ
state_behind zero x = x
state_behind (suc steps) x = next_state (state_behind steps x)

-- the letter of a state
abbrev pub letter : ℕ → ℕ
letter x = 97 + x / 65536 % 26

-- the letters of so many states behind this one
unfoldable pub letters : ℕ → ℕ → List ℕ
letters zero x = []
letters (suc count) x = letters count x ++ letter (state_behind (suc count) x) ∷ []

-- the source of a package among n: 256 letters, which differ with n too
abbrev pub source : ℕ → ℕ → List ℕ
source n k = letters 256 (n * 1000 + k)

abbrev pub root_manifest : List ℕ
root_manifest = codes "{\"workspaces\":[\"packages/*\"]}"

-- a package is built behind those that it needs, and owns what stands in `dist`
abbrev pub configuration : List ℕ
configuration =
    codes "{\"tasks\":{\"build\":{\"dependsOn\":[\"^build\"],\"outputs\":[\"dist/**\"]}}}"

abbrev pub root_files : List (Path × List ℕ)
root_files =
    ((codes "package.json" ∷ []), root_manifest)
    ∷ ((codes "turbo.json" ∷ []), configuration)
    ∷ []

abbrev pub manifest_file : ℕ → Path × List ℕ
manifest_file k = (manifest_path k, manifest k)

abbrev pub source_file : ℕ → ℕ → Path × List ℕ
source_file n k = (source_path k, source n k)

abbrev pub package_files : ℕ → ℕ → List (Path × List ℕ)
package_files n k = manifest_file k ∷ source_file n k ∷ []

-- the files of the root, and behind them those of the first so many of n packages
abbrev pub files_of_first : ℕ → ℕ → List (Path × List ℕ)
files_of_first n zero = root_files
files_of_first n (suc k) = files_of_first n k ++ package_files n k

abbrev pub sample_files : ℕ → List (Path × List ℕ)
sample_files n = files_of_first n n

-- ---- commands

-- a package's source, and behind it the output of the package that it needs
abbrev pub written_by : ℕ → List Piece
written_by k =
    if k == 0 then File (source_path k) ∷ []
    else File (source_path k) ∷ File (output_path (needed k)) ∷ []

-- The command of a package says that it was built, and writes one file.
abbrev pub rule : ℕ → Rule
rule k = record {
  «package» = name k;
  task = codes "build";
  status = 0;
  log = Lit (codes "built " ++ (name k ++ codes "\n")) ∷ [];
  files = (output_path k, written_by k) ∷ [];
}

-- the rules of the first so many packages
abbrev pub rules_of_first : ℕ → List Rule
rules_of_first zero = []
rules_of_first (suc k) = rules_of_first k ++ rule k ∷ []

abbrev pub sample_rules : ℕ → List Rule
sample_rules n = rules_of_first n
