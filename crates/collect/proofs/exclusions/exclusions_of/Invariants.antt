use Rattle.std.proofs.Common.{◌≡◌, ◌++◌, map}
use Rattle.std.specs.List.{AllByRecursion}
use Rattle.folder_globs.specs.Exclusions.{exclusion, IsFolder}
use Rattle.collect.specs.Parts.{package_folders}
use Rattle.collect.proofs.exclusions.exclusions_of.Given as goal

-- of the folders so far; if those that are left are folders, all are
abbrev pub invariant-loop-folder : goal.invariant-loop-folder
invariant-loop-folder l = record {
  value : l.texts ++ map exclusion l.folder-iterator ≡ map exclusion (package_folders l.packages);
  folders : AllByRecursion IsFolder l.folder-iterator → AllByRecursion IsFolder (package_folders l.packages);
}
