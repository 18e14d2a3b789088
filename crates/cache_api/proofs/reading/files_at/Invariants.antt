use Rattle.std.proofs.Common.{◌≡◌, ◌-◌, []}
use Rattle.codes.specs.Codes.{read_items}
use Rattle.cache_api.specs.Reading.{read_file}
use Rattle.cache_api.proofs.reading.files_at.Given as goal

-- what is left to read behind the files so far
abbrev pub invariant-loop-i : goal.invariant-loop-i
invariant-loop-i l = read_items read_file [] l.initial.count l.initial.rest ≡ read_items read_file l.files (l.initial.count - l.i) l.rest
