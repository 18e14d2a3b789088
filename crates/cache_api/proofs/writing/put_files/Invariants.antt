use Rattle.std.proofs.Common.{◌≡◌, ◌++◌, take}
use Rattle.codes.specs.Codes.{items, Each}
use Rattle.listing.specs.KeyText.{file_code}
use Rattle.cache_api.specs.Artifacts.{FileFits}
use Rattle.cache_api.proofs.writing.put_files.Given as goal

-- the files so far
abbrev pub invariant-loop-file : goal.invariant-loop-file
invariant-loop-file l = record {
  written : l.to.items ≡ l.initial.to.items ++ items file_code (take l.file-index l.files);
  fits : Each FileFits (take l.file-index l.files);
}
