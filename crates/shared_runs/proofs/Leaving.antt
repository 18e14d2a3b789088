-- What the images of a file say, over a turn of a run.
use Rattle.std.proofs.Common.{◌≡◌, inl, inr, ⊎_elim, ℕ, ◌≤◌, Bool, true, false, List, length}
use Rattle.std.proofs.Common.{take, Option, Some, Ok, sym, ◌∙◌, ap, subst, arith}
use Rattle.std.specs.Prelude.{is_some}
use Rattle.store_dev.specs.declared.device.StoreDevice.{Ghosts as DeviceGhosts}
use Rattle.cache_api.specs.Moments.{Leaves}
use Rattle.cache_api.specs.Pairs.{Pair}
use Rattle.record_log.specs.Kinds.{Entry}
use Rattle.record_log.specs.Frames.{reading}
use Rattle.shared_runs.specs.declared.store.SharedStore.{SharedStore}
use Rattle.shared_runs.specs.declared.turn.Shared.{Ghosts}
use Rattle.shared_runs.specs.Frames.{StartWith}
use Rattle.shared_runs.specs.Shared.{Image, file_of, frames_in, moment_of, left_of}
use Rattle.shared_runs.specs.Turns.{GoesOn}
use Rattle.shared_runs.specs.Views.{view_of, IsLeft, Says}
use Rattle.shared_runs.proofs.Fronts.{starts_few, front_same}

pub true_apart : (b : Bool) → b ≡ true → b ≡ false → ⊥
true_apart true is not_so = absurd cc
true_apart false is not_so = absurd cc

module _ {H D : Type 0} {G : Ghosts H D} {K : DeviceGhosts D} (old new : SharedStore H D G K)
    (Q : Option (List Pair) → Type 0) (T : List ℕ → Type 0)
    (whole : is_some old.turns.mark ≡ true)
    (starts : StartWith (frames_in old) (frames_in new))
    (goes : GoesOn G.moment G.images_since old.turns.shared new.turns.shared T)
    (in_turn : (c : List ℕ) → G.images_since new.turns.shared (G.moment old.turns.shared) c
    → IsLeft (is_some new.turns.mark) (G.images_since new.turns.shared
    (G.turn new.turns.shared).began) (file_of new) c
    × Q (Some (view_of new.seen c)))
    (kept : (n : ℕ) → n ≤ length (frames_in old) → (c : List ℕ) → reading c
    ≡ Ok (take n (frames_in old))
    → view_of new.seen c ≡ view_of old.seen c) where
  abbrev Left : List ℕ → Type 0
  Left = IsLeft (is_some new.turns.mark) (G.images_since new.turns.shared
      (G.turn new.turns.shared).began) (file_of new)

  abbrev Was : List ℕ → Type 0
  Was = IsLeft (is_some old.turns.mark) (G.images_since old.turns.shared
      (G.turn old.turns.shared).began) (file_of old)

  abbrev SaidNow : Image → Type 0
  SaidNow i = Says (is_some new.turns.mark) (G.images_since new.turns.shared
      (G.turn new.turns.shared).began) new.seen (file_of new) i.bytes i.pairs

  now_said : (i : Image) → G.images_since new.turns.shared (G.moment old.turns.shared) i.bytes
      → SaidNow i → Q i.pairs
  now_said i left says =
      let (is_left, q) = in_turn i.bytes left in
      subst Q (sym (says is_left)) q

  -- an image that the run left before it leaves still, and it says what it said
  was_said : (i : Image) → SaidNow i → Was i.bytes → i.pairs ≡ Some (view_of old.seen i.bytes)
  was_said i says (inl (n, least, le, is)) =
      let same : take n (frames_in new) ≡ take n (frames_in old) =
      front_same (frames_in old) (frames_in new) starts n le in
      let here : Left i.bytes = inl (
        n,
        least,
        omega (arith, le, starts_few (frames_in old) (frames_in new) starts),
        is ∙ ap (λ (l : List Entry). Ok l) (sym same),
      ) in
      says here ∙ ap (λ (l : List Pair). Some l) (kept n le i.bytes is)
  was_said i says (inr (not_whole, more)) =
      absurd (true_apart (is_some old.turns.mark) whole not_whole)

  pub leaves_view : Leaves moment_of left_of old new (λ i. Q i.pairs)
  leaves_view = record {
    later = record { first = goes.later; second = omega arith };
    each = λ i (left, says). now_said i left says;
    before = λ m i le (left, says). ⊎_elim
        (λ was. inl (was, was_said i says))
        (λ now. inr (now_said i now says))
        (goes.nothing_else m.first i.bytes le.first left);
  }
