-- What pruning prints (Turborepo docs, "prune"): a line for each package that stays.
use Rattle.std.specs.Prelude.{◌≡◌, ℕ, Bool, List, ◌++◌, take, codes, Result, Ok, Err}
use Rattle.std.specs.List.{flat_map}
use Rattle.rel_path.specs.Paths.{Path}
use Rattle.workspaces.specs.declared.member.Package.{Package}
use Rattle.repository.specs.Reading.{Contents}
use Rattle.kept_packages.specs.Kept.{IsKept}
use Rattle.pruned_files.specs.Pruned.{kept_packages}
use Rattle.prune.specs.declared.error.PruneErr.{PruneErr}
use Rattle.prune.specs.declared.error.PruneErr.TheVariants.{NoPackage, OutTaken, Missing, TooLarge, TreeFailed, SinkFailed, OutOfMemory}

abbrev pub named_line : List ℕ → List ℕ
named_line name = codes " - Added " ++ (name ++ codes "\n")

abbrev pub added_line : Package → List ℕ
added_line p = named_line p.name

abbrev pub added_lines : List Package → List ℕ
added_lines packages = flat_map added_line packages

-- the text is the lines of the packages that stay
abbrev pub IsAddedText : Contents → List (List ℕ) → List ℕ → Type 0
IsAddedText contents targets text = (set : Path → Bool) × IsKept contents targets set × (text ≡ added_lines (kept_packages contents.space set))

-- the lines, or some first part of them where the output failed; nothing before the files are written
abbrev pub Prints : Contents → List (List ℕ) → List ℕ → List ℕ → Result (Unit {0}) PruneErr → Type 0
Prints contents targets old new (Ok _) = (text : List ℕ) × IsAddedText contents targets text × (new ≡ old ++ text)
Prints contents targets old new (Err SinkFailed) = (text : List ℕ) × IsAddedText contents targets text × ((count : ℕ) × (new ≡ old ++ take count text))
Prints contents targets old new (Err (NoPackage name)) = new ≡ old
Prints contents targets old new (Err (OutTaken path)) = new ≡ old
Prints contents targets old new (Err (Missing from name)) = new ≡ old
Prints contents targets old new (Err (TooLarge path)) = new ≡ old
Prints contents targets old new (Err TreeFailed) = new ≡ old
Prints contents targets old new (Err OutOfMemory) = new ≡ old
