-- What a crash leaves of a store over which a plan was run.
use Rattle.std.proofs.Common.{◌≡◌, ℕ, List, sym, subst}
use Rattle.store_dev.specs.Device.{LeavesOnly}
use Rattle.store_dev.specs.Moments.{leaves_more}
use Rattle.store_dev.specs.declared.device.StoreDevice.{Ghosts}
use Rattle.cache_api.specs.Moments.{Leaves}
use Rattle.artifact_store.specs.Laws.{at_device}
use Rattle.artifact_store.specs.Store.{device_of, moment_of, left_of}
use Rattle.artifact_store.specs.declared.store.Store.{Store}

-- from the store to its device, which is handed back
pub handed : {S : Type 0} {G : Ghosts S} (old new : Store S G) (device : S)
    → device ≡ device_of new → (P Q : List ℕ → Type 0) → Leaves moment_of left_of old new P
    → ((c : List ℕ) → P c → Q c)
    → LeavesOnly G.moment G.images_since (device_of old) device Q
handed {S} {G} old new device is P Q left to =
    subst (λ (d : S). LeavesOnly G.moment G.images_since (device_of old) d Q) (sym is)
    (leaves_more G.moment G.images_since (device_of old) (device_of new) P Q
    (at_device old new P left) to)
