-- A device whose calls fail from some call on: what the device inside holds, and which calls pass.
use Rattle.std.specs.Prelude.{◌≡◌, ◌≤◌, ℕ, ◌+◌, ◌-◌, List, Result, IsErrOf}
use Rattle.store_dev.specs.declared.device.StoreErr.{StoreErr}
use Rattle.store_dev.specs.declared.device.StoreErr.TheVariants.{Failed}
use Rattle.store_dev.specs.declared.memory.MemStore.{MemStore}
use Rattle.store_dev.specs.declared.fuse.FuseStore.{FuseStore}
use Rattle.store_dev.specs.MemStore.{FailsAsTold}
use Rattle.store_dev.specs.MemStore as inside

abbrev pub bytes_of : FuseStore → List ℕ
bytes_of d = inside.bytes_of d.inner

abbrev pub images_of : FuseStore → List ℕ → Type 0
images_of d = inside.images_of d.inner

abbrev pub images_since_of : FuseStore → ℕ → List ℕ → Type 0
images_since_of d = inside.images_since_of d.inner

abbrev pub moment_of : FuseStore → ℕ
moment_of d = inside.moment_of d.inner

-- those of the device inside, and those of the fuse
abbrev pub faults_of : FuseStore → ℕ
faults_of d = inside.faults_of d.inner + d.faults

-- how many calls more pass
abbrev pub passes_left : FuseStore → ℕ
passes_left d = d.pass

abbrev pub device_in : FuseStore → MemStore
device_in d = d.inner

-- A call passes while there are calls left to pass, and fails from then on and leaves the device inside alone.
pub record FailsWhenSpent {T : Type 0} (old new : FuseStore) (result : Result T StoreErr) : Type 0 where
  pub left : passes_left new ≡ passes_left old - 1
  pub passed : 1 ≤ passes_left old → FailsAsTold (device_in old) (device_in new) result
  pub spent : passes_left old ≡ 0 → IsErrOf result Failed × (device_in new ≡ device_in old)
