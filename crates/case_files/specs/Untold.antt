-- A device of which nothing is told: what it holds, and how often it failed.
use Rattle.std.specs.Prelude.{ℕ, ◌+◌, List}
use Rattle.store_dev.specs.FuseStore as inside
use Rattle.case_files.specs.declared.untold.Untold.{Untold}

abbrev pub bytes_of : Untold → List ℕ
bytes_of d = inside.bytes_of d.inner

-- those of the device inside, and its own
abbrev pub faults_of : Untold → ℕ
faults_of d = inside.faults_of d.inner + d.missed
