use Rattle.std.proofs.Common.{◌≡◌, length, take}
use Rattle.codes.specs.Codes.{items}
use Rattle.listing.specs.KeyText.{file_code}
use Rattle.cache_api.specs.Memory.{capped}
use Rattle.cache_api.proofs.writing.files_len.Given as goal

-- the files so far
abbrev pub invariant-loop-file : goal.invariant-loop-file
invariant-loop-file l = l.len ≡ capped (length (items file_code (take l.file-index l.files)))
