-- Lengths that are foreseen, as a list.
use Rattle.std.specs.Prelude.{ℕ, List, []}
use Rattle.pair_reader.specs.declared.wanted.Lengths.{Lengths}
use Rattle.pair_reader.specs.declared.wanted.Lengths.TheVariants.{All, Only}
use Rattle.pair_reader.specs.Answers.{Ascend, Rise}

-- those that are listed: none where all are foreseen
abbrev pub listed : Lengths → List ℕ
listed All = []
listed (Only lens) = lens.items

pub ascend_of : (lengths : Lengths) → Rise (listed lengths) → Ascend lengths
ascend_of All rise = tt
ascend_of (Only lens) rise = rise
