-- Entries of the environment: POSIX, a name, `=` and a value each.
use Rattle.std.specs.Prelude.{◌≡◌, ℕ, ◌+◌, ◌==◌, ◌&&◌, nat_lt, Bool, List, length, take, drop, Option, Some, None, Result, IfErr, if◌then◌else◌}
use Rattle.std.specs.List.{position_or_len}
use Rattle.os_edge.specs.declared.arguments.WordErr.{WordErr}
use Rattle.os_edge.specs.declared.arguments.WordErr.TheVariants.{OutOfMemory}

-- `=`
abbrev pub is_equals : ℕ → Bool
is_equals b = b == 61

-- where the first `=` stands; the length where there is none
abbrev pub equals_at : List ℕ → ℕ
equals_at entry = position_or_len is_equals entry

-- the name before the first `=` and the value behind it, where there is one and the name is not empty
abbrev pub pair_of : List ℕ → Option (List ℕ × List ℕ)
pair_of entry = if nat_lt 0 (equals_at entry) && nat_lt (equals_at entry) (length entry) then Some (take (equals_at entry) entry, drop (equals_at entry + 1) entry) else None

-- no error but want of memory, which may come at any time
abbrev pub OnlyMemory : {T : Type 0} → Result T WordErr → Type 0
OnlyMemory result = IfErr result (λ e. e ≡ OutOfMemory)
