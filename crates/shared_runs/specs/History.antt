-- What a crash at some moment might have left of a file, by the devices that held it one after
-- another.
use Rattle.std.specs.Prelude.{◌⊎◌, ℕ, zero, suc, ◌+◌, List, [], ◌∷◌}
use Rattle.store_dev.specs.declared.memory.MemStore.{MemStore}
use Rattle.store_dev.specs.MemStore.{images_of, images_since_of, faults_of}

-- while one of these devices held it
abbrev pub LeftWhile : List MemStore → List ℕ → Type 0
LeftWhile [] c = ⊥
LeftWhile (d ∷ ds) c = images_since_of d 0 c ⊎ LeftWhile ds c

-- since the moment at which the device with that number had been given back
abbrev pub LeftSince : List MemStore → ℕ → List ℕ → Type 0
LeftSince [] m c = ⊥
LeftSince (d ∷ ds) zero c = images_of d c ⊎ LeftWhile ds c
LeftSince (d ∷ ds) (suc m) c = LeftSince ds m c

-- how often they failed
abbrev pub faults_among : List MemStore → ℕ
faults_among [] = 0
faults_among (d ∷ ds) = faults_of d + faults_among ds
