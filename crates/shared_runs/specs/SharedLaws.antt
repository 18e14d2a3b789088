-- What a crash leaves of a run's cache while it may be used, and where there is no room for pairs.
use Rattle.std.proofs.Common.{◌≡◌, inl, ℕ, ◌-◌, ◌≤◌, List, length, Option, Some, None, Ok, refl}
use Rattle.std.proofs.Common.{sym, ◌∙◌, ap, subst, arith}
use Rattle.std.specs.Prelude.{is_some, IsTrue}
use Rattle.std.proofs.lemmas.List.{take_all}
use Rattle.rel_path.specs.Limits.{store_limit}
use Rattle.store_dev.specs.declared.device.StoreDevice.{Ghosts as DeviceGhosts}
use Rattle.cache_api.specs.Cache.{AreToPut}
use Rattle.cache_api.specs.Pairs.{Pair, IsPartSince}
use Rattle.cache_api.proofs.Firsts.{all_part, none_due}
use Rattle.record_log.specs.Kinds.{Entry}
use Rattle.record_log.specs.Frames.{frames_of, ends}
use Rattle.artifact_store.specs.declared.mark.StoreMark.{StoreMark}
use Rattle.artifact_store.specs.Fits.{room_to_put}
use Rattle.shared_runs.specs.declared.store.SharedStore.{SharedStore}
use Rattle.shared_runs.specs.declared.turn.Shared.{Ghosts}
use Rattle.shared_runs.specs.Shared.{Image, file_of, coming_in, moment_of, left_of, state_of}
use Rattle.shared_runs.specs.Shared.{stores}
use Rattle.shared_runs.specs.Views.{view_of, IsLeft}

some_of : (o : Option StoreMark) → IsTrue (is_some o) → (m : StoreMark) × (o ≡ Some m)
some_of (Some m) is = (m, refl)
some_of None is = absurd cc

-- it says the pairs
pub rests : {H D : Type 0} {G : Ghosts H D} {K : DeviceGhosts D} (s : SharedStore H D G K)
    → ((c : List ℕ) → G.images_since s.turns.shared (G.moment s.turns.shared) c
    → G.images s.turns.shared c)
    → (image : Image) → K.tells → IsTrue (state_of s).whole → left_of s (moment_of s) image
    → IsPartSince (state_of s).lasting (state_of s).pairs image.pairs
rests {G = G} s only image told whole (left, says) =
    let c = image.bytes in
    let (m, is) = some_of s.turns.mark whole in
    let marked = (s.kept m is told).marked in
    let same : c ≡ file_of s = marked.durable c (only c left) in
    let all = frames_of (file_of s) in
    let front : IsLeft (is_some s.turns.mark) (G.images_since s.turns.shared
    (G.turn s.turns.shared).began) (file_of s) (file_of s) =
    inl (
      length all,
      omega arith,
      omega arith,
      marked.sound ∙ ap (λ (l : List Entry). Ok l) (sym (take_all (length all) all (omega arith))),
    ) in
    all_part (state_of s).pairs image.pairs (says (subst (λ (b : List ℕ). IsLeft
    (is_some s.turns.mark) (G.images_since s.turns.shared (G.turn s.turns.shared).began)
    (file_of s) b) (sym same) front)
    ∙ ap (λ (b : List ℕ). Some (view_of s.seen b)) same)

module _ {H D : Type 0} {G : Ghosts H D} {K : DeviceGhosts D} (s : SharedStore H D G K) where
  pub all_last : (state_of s).lasting ≤ length (state_of s).pairs
  all_last = omega arith

  pub none_sure : (state_of s).sure ≤ (state_of s).room
  none_sure = omega arith

  -- there may be more room than is known
  pub are_to_put : (pairs : List Pair) → AreToPut (state_of s) pairs (stores s pairs)
  are_to_put pairs =
      room_to_put (state_of s) (store_limit - ends (coming_in s)) (coming_in s) pairs
      (none_due (state_of s).pairs) (omega arith)
