use Rattle.std.proofs.Common.{◌≡◌, ◌++◌, take, drop, string_bytes}
use Rattle.folder_globs.specs.Exclusions.{below_folder, exclusion, AreTexts}
use Rattle.folder_globs.proofs.text.exclusion.Given as goal

-- the text so far, before that of what is left
abbrev pub invariant-loop-name : goal.invariant-loop-name
invariant-loop-name l = record {
  text : string_bytes l.text ++ below_folder (drop l.name-index l.folder) ≡ exclusion l.folder;
  texts : AreTexts (take l.name-index l.folder);
}
