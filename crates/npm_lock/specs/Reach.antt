-- Numbers that are reached by what numbers find, and a work list that marks them.
use Rattle.std.specs.Prelude.{◌≡◌, ◌<◌, ℕ, List, [], ◌∷◌, ◌++◌, length, slice_set, slice_index_or, Bool, true, false, Option, Some, None, ⊤, if◌then◌else◌}
use Rattle.std.specs.Option.{option_to_list}
use Rattle.lock_entries.specs.declared.entry.Entry.{Entry}
use Rattle.npm_lock.specs.Lookup.{number_of}
use Rattle.npm_lock.specs.Sets.{Has, Within, IsLeast}

-- the number is in the set
abbrev pub is_set : List Bool → ℕ → Bool
is_set set n = slice_index_or set n false

-- what the number finds
abbrev pub finds_at : List (List (Option ℕ)) → ℕ → List (Option ℕ)
finds_at finds n = slice_index_or finds n []

-- what each number of the set finds is in the set
abbrev pub HoldsItsFinds : List (List (Option ℕ)) → (ℕ → Bool) → Type 0
HoldsItsFinds finds set = (n m : ℕ) → set n ≡ true → Has (finds_at finds n) (Some m) → set m ≡ true

-- the base is in the set, and so is what the roots find and what each number of the set finds
pub record IsClosedUnder (finds : List (List (Option ℕ))) (base : List Bool) (roots : List (Option ℕ)) (set : ℕ → Bool) : Type 0 where
  pub begun : Within (is_set base) set
  pub rooted : (n : ℕ) → Has roots (Some n) → set n ≡ true
  pub members : HoldsItsFinds finds set

-- the flags of the least such set
pub record IsReached (finds : List (List (Option ℕ))) (base : List Bool) (roots : List (Option ℕ)) (set : List Bool) : Type 0 where
  pub size : length set ≡ length finds
  pub least : IsLeast (IsClosedUnder finds base roots) (is_set set)

abbrev pub AreBelow : ℕ → List (Option ℕ) → Type 0
AreBelow size [] = ⊤
AreBelow size (None ∷ found) = AreBelow size found
AreBelow size (Some n ∷ found) = (n < size) × AreBelow size found

abbrev pub AllBelow : ℕ → List (List (Option ℕ)) → Type 0
AllBelow size [] = ⊤
AllBelow size (found ∷ finds) = AreBelow size found × AllBelow size finds

-- ---- the work list: the set, and those of its numbers whose finds are not in it yet

abbrev pub mark : ℕ → List Bool × List ℕ → List Bool × List ℕ
mark n work = if is_set work.0 n then work else (slice_set work.0 n true, work.1 ++ n ∷ [])

abbrev pub mark_some : Option ℕ → List Bool × List ℕ → List Bool × List ℕ
mark_some None work = work
mark_some (Some n) work = mark n work

abbrev pub mark_all : List (Option ℕ) → List Bool × List ℕ → List Bool × List ℕ
mark_all [] work = work
mark_all (o ∷ found) work = mark_all found (mark_some o work)

-- ---- sets of numbers as sets of locations

abbrev pub flag_of : List Bool → Option ℕ → Bool
flag_of set None = false
flag_of set (Some n) = is_set set n

-- the locations whose numbers are in the set
abbrev pub set_of : List Entry → List Bool → List ℕ → Bool
set_of entries set location = flag_of set (number_of entries location)

-- the folders that the links of a set lead to
abbrev pub links_of : (List ℕ → Bool) → List Entry → List (List ℕ)
links_of set [] = []
links_of set (e ∷ entries) = (if set e.location then option_to_list e.link else []) ++ links_of set entries
