-- A spare store from step to step.
use Rattle.std.proofs.Common.{◌≡◌, ◌<◌, inl, inr, ℕ, ◌^◌, List, [], ◌∷◌, ◌++◌, Ok, sym, ◌∙◌, ap, subst}
use Rattle.store_dev.specs.Device.{Only, LeavesOnly}
use Rattle.store_dev.specs.Moments.{leaves_then}
use Rattle.record_log.specs.Kinds.{Entry, generation_of}
use Rattle.record_log.specs.Frames.{reading, frames_of, IsSound, IsOpenedAs, IsBeforeOrAfter, ReadsAsOneOf, ReadsAsOneOrNone}
use Rattle.pair_frames.specs.Pairs.{pairs_in}
use Rattle.compact.specs.Current.{generation_in, pairs_held}
use Rattle.compact.specs.Left.{ReadsAs, IsUnsealed}
use Rattle.compact.specs.Room.{generation_frame}
use Rattle.compact.specs.Sources.{IsSealing}
use Rattle.compact.proofs.Telling.{Tells, tells_frames, store_is, sound_same, frames_same, generation_sealed, pairs_sealed, opened_reads}

-- ---- what one of the images stands for, where there is one alone

pub reads_one : (bytes : List ℕ) (images : List ℕ → Type 0) → Only bytes images → (c : List ℕ)
    → ReadsAsOneOf images c → ReadsAs bytes c
reads_one bytes images alone c (d, now, same) = same ∙ ap reading (alone d now)

pub unsealed_same : (bytes c : List ℕ) → IsSound bytes → ReadsAs bytes c
    → IsUnsealed (generation_in bytes) c
unsealed_same bytes c sound same = record {
  sound = sound_same c bytes same sound;
  generation = inl (ap generation_of (frames_same c bytes same));
}

unsealed_none : (was : ℕ) (c : List ℕ) → reading c ≡ Ok [] → IsUnsealed was c
unfolding generation_of
unsealed_none was c is =
    let t = tells_frames c [] is in
    record { sound = t.sound; generation = inr t.generation }

pub unsealed_one : (bytes : List ℕ) (images : List ℕ → Type 0) → IsSound bytes
    → Only bytes images → (c : List ℕ) → ReadsAsOneOrNone images c
    → IsUnsealed (generation_in bytes) c
unsealed_one bytes images sound alone c (inl x) =
    unsealed_same bytes c sound (reads_one bytes images alone c x)
unsealed_one bytes images sound alone c (inr is) = unsealed_none (generation_in bytes) c is

-- ---- the frame of a generation

pub sealed_tells : (fs : List Entry) (generation : ℕ) (c : List ℕ) → generation < 2 ^ 64
    → reading c ≡ Ok (fs ++ generation_frame generation ∷ [])
    → Tells generation (pairs_in fs) c
sealed_tells fs generation c lt is =
    let t = tells_frames c (fs ++ generation_frame generation ∷ []) is in
    record {
      sound = t.sound;
      generation = t.generation ∙ generation_sealed fs generation lt;
      pairs = t.pairs ∙ pairs_sealed fs generation;
    }

pub sealing_after : (bytes : List ℕ) (generation : ℕ) (c : List ℕ) → IsSound bytes
    → generation < 2 ^ 64
    → IsBeforeOrAfter (frames_of bytes) (generation_frame generation) c
    → IsSealing bytes generation c
sealing_after bytes generation c sound lt (inl is) = inl (is ∙ sym sound)
sealing_after bytes generation c sound lt (inr is) =
    inr (store_is generation (pairs_held bytes) c (sealed_tells (frames_of bytes) generation c lt is))

module _ {D : Type 0} (moment : D → ℕ) (since : D → ℕ → List ℕ → Type 0) where
  -- opened as a log, and appended to
  pub leaves_sealing : (old mid new : D) (bytes opened : List ℕ) (images : List ℕ → Type 0)
      (generation : ℕ) (e : Entry) → IsSound bytes → Only bytes images
      → IsOpenedAs bytes opened → e ≡ generation_frame generation → generation < 2 ^ 64
      → LeavesOnly moment since old mid (ReadsAsOneOf images)
      → LeavesOnly moment since mid new (IsBeforeOrAfter (frames_of opened) e)
      → LeavesOnly moment since old new (IsSealing bytes generation)
  leaves_sealing old mid new bytes opened images generation e sound alone is frame lt first second =
      let fs : frames_of opened ≡ frames_of bytes = frames_same opened bytes (opened_reads bytes opened is) in
      leaves_then moment since old mid new (ReadsAsOneOf images) (IsBeforeOrAfter (frames_of opened) e)
      (IsSealing bytes generation) first second
      (λ c x. inl (reads_one bytes images alone c x))
      (λ c x. sealing_after bytes generation c sound lt
      (subst (λ (l : List Entry). IsBeforeOrAfter l (generation_frame generation) c) fs
      (subst (λ (f : Entry). IsBeforeOrAfter (frames_of opened) f c) frame x)))
