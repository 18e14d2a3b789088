-- The lines that a sample prints.
use Rattle.std.specs.Prelude.{ℕ, zero, suc, ◌-◌, List, ◌++◌, codes, decimal}
use Rattle.sha2.specs.Sha256.{sha256}
use Rattle.listing.specs.Fingerprint.{printed}

abbrev pub size_line : ℕ → List ℕ
size_line n = codes "sample " ++ (decimal n ++ codes "\n")

-- so many of n packages were built, and the others came from the store
abbrev pub ran_line : ℕ → ℕ → ℕ → List ℕ
ran_line n run started =
    codes "run " ++ (decimal run ++ (codes ": " ++ (decimal started ++ (codes " started, "
    ++ (decimal (n - started) ++ codes " cached\n")))))

abbrev pub ended_line : ℕ → ℕ → List ℕ
ended_line run status =
    codes "run " ++ (decimal run ++ (codes ": ended with " ++ (decimal status ++ codes "\n")))

-- what a run is told as that started so many commands and had this exit status
abbrev pub run_line : ℕ → ℕ → ℕ → ℕ → List ℕ
run_line n run started zero = ran_line n run started
run_line n run started (suc status) = ended_line run (suc status)

-- the digits of all that the runs printed
abbrev pub pages_line : List ℕ → List ℕ
pages_line pages = codes "pages " ++ (printed (sha256 pages) ++ codes "\n")
