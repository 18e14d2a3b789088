-- Words that the calls share.
use Rattle.std.specs.Prelude.{◌≡◌, ◌⊎◌, ℕ, List, Option, Some, None}
use Rattle.filters.specs.declared.error.FilterErr.{FilterErr}
use Rattle.filters.specs.declared.error.FilterErr.TheVariants.{Unreadable, NoPackage, OutOfMemory}
use Rattle.filters.specs.Words.{filter_of}

-- the word writes no filter, or memory is wanting, which may come at any time
abbrev pub MayRefuseWord : List ℕ → FilterErr → Type 0
MayRefuseWord word e = (e ≡ OutOfMemory) ⊎ ((e ≡ Unreadable word) × (filter_of word ≡ None))

-- this name is missing, or memory is wanting
abbrev pub MayMiss : Option (List ℕ) → FilterErr → Type 0
MayMiss missing e = (e ≡ OutOfMemory) ⊎ ((name : List ℕ) × (e ≡ NoPackage name) × (missing ≡ Some name))

-- this is the fault, or memory is wanting
abbrev pub MayRefuse : Option FilterErr → FilterErr → Type 0
MayRefuse fault e = (e ≡ OutOfMemory) ⊎ (fault ≡ Some e)
