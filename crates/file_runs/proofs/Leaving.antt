-- What a crash leaves of a shared file over a run, image by image.
use Rattle.std.proofs.Common.{◌≡◌, ◌⊎◌, inl, inr, ⊎_elim, ℕ, ◌≤◌, List, Option, Some, None, Ok, Err}
use Rattle.std.proofs.Common.{refl, sym, ◌∙◌, ap, arith}
use Rattle.std.specs.Prelude.{Bool, Result, is_some}
use Rattle.store_dev.specs.Device.{LeavesOnly}
use Rattle.store_dev.specs.declared.device.StoreDevice.{Ghosts as DeviceGhosts}
use Rattle.cache_api.specs.Moments.{Moment, Leaves}
use Rattle.cache_api.specs.Pairs.{Pair}
use Rattle.record_log.specs.Kinds.{Entry}
use Rattle.record_log.specs.Frames.{Fault, reading, IsSound}
use Rattle.artifact_store.specs.Laws.{frames_are}
use Rattle.shared_runs.specs.declared.store.SharedStore.{SharedStore}
use Rattle.shared_runs.specs.declared.turn.Shared.{Ghosts}
use Rattle.shared_runs.specs.Shared.{Image, file_of, moment_of, left_of}
use Rattle.shared_runs.specs.Turns.{GoesOn}
use Rattle.shared_runs.specs.Views.{view_of, IsLeft}

-- ---- bytes are a store or not

both_read : {A B : Type 0} {r : Result A B} {x : A} {e : B} → r ≡ Ok x → r ≡ Err e → ⊥
both_read ok err = let e = sym ok ∙ err in cc

pub sound_read : (c : List ℕ) (es : List Entry) → reading c ≡ Ok es → IsSound c
sound_read c es is = is ∙ ap (λ (l : List Entry). Ok l) (sym (frames_are c es is))

sound_or_not : (c : List ℕ) → IsSound c ⊎ (IsSound c → ⊥)
sound_or_not c = by (reading c) refl
  where
    by : (r : Result (List Entry) Fault) → reading c ≡ r → IsSound c ⊎ (IsSound c → ⊥)
    by (Ok es) is = inl (sound_read c es is)
    by (Err fault) is = inr (λ sound. both_read sound is)

-- ---- images

-- what a file leaves whose time went on
pub goes_leaves : {H : Type 0} (moment : H → ℕ) (since : H → ℕ → List ℕ → Type 0) (old new : H)
    (P : List ℕ → Type 0) → GoesOn moment since old new P → LeavesOnly moment since old new P
goes_leaves moment since old new P x = record {
  later = x.later;
  each = x.each;
  before = λ m c le left. ⊎_elim (λ was. inl was) (λ now. inr (x.each c now))
      (x.nothing_else m c le left);
}

left_sound : (whole : Bool) (in_turn : List ℕ → Type 0) (file c : List ℕ)
    → IsLeft whole in_turn file c → IsSound c
left_sound whole in_turn file c (inl (n, least, le, is)) = sound_read c _ is
left_sound whole in_turn file c (inr (not_whole, (in_last, (more, is)))) = sound_read c _ is

module _ {H D : Type 0} {G : Ghosts H D} {K : DeviceGhosts D} (old new : SharedStore H D G K)
    (R : Option (List Pair) → Type 0) (no : R None → ⊥)
    (x : Leaves moment_of left_of old new (λ image. R image.pairs)) where
  abbrev Since : ℕ → List ℕ → Type 0
  Since m c = G.images_since new.turns.shared m c

  -- what an image says where it is one that the run leaves
  abbrev seen_in : List ℕ → Image
  seen_in c = record { bytes = c; pairs = Some (view_of new.seen c) }

  -- and where it is none
  abbrev none_in : List ℕ → Image
  none_in c = record { bytes = c; pairs = None }

  says_none : (c : List ℕ) (m : Moment) → Since m.first c → (IsSound c → ⊥)
      → left_of new m (none_in c)
  says_none c m left bad = (
    left,
    λ is_left. absurd (bad (left_sound (is_some new.turns.mark)
        (G.images_since new.turns.shared (G.turn new.turns.shared).began) (file_of new) c
        is_left)),
  )

  says_seen : (c : List ℕ) (m : Moment) → Since m.first c → left_of new m (seen_in c)
  says_seen c m left = (left, λ is_left. refl)

  abbrev at : ℕ → Moment
  at m = record { first = m; second = 0 }

  before : (m : ℕ) (c : List ℕ) → m ≤ G.moment old.turns.shared → Since m c
      → G.images_since old.turns.shared m c ⊎ (IsSound c × R (Some (view_of new.seen c)))
  before m c le left = elim (sound_or_not c) [
    | inl sound ↦ ⊎_elim (λ was. inl was.0) (λ now. inr (sound, now))
        (x.before (at m) (seen_in c) (record { first = le; second = omega arith })
        (says_seen c (at m) left))
    | inr bad ↦ ⊎_elim (λ was. inl was.0) (λ now. absurd (no now))
        (x.before (at m) (none_in c) (record { first = le; second = omega arith })
        (says_none c (at m) left bad))
  ]

  each : (c : List ℕ) → Since (G.moment old.turns.shared) c
      → IsSound c × R (Some (view_of new.seen c))
  each c left = elim (sound_or_not c) [
    | inl sound ↦ (sound, x.each (seen_in c) (says_seen c (moment_of old) left))
    | inr bad ↦ absurd (no (x.each (none_in c) (says_none c (moment_of old) left bad)))
  ]

  -- each image is a store, and the pairs in it that the run sees are what is left
  pub file_left : LeavesOnly G.moment G.images_since old.turns.shared new.turns.shared
      (λ c. IsSound c × R (Some (view_of new.seen c)))
  file_left = record { later = x.later.first; each = each; before = before }
