-- What is left of two devices, of which one was compacted into the other.
use Rattle.std.proofs.Common.{◌≡◌, inl, inr, ℕ, List, Some, Ok, Err, sym, ◌∙◌, ap, subst}
use Rattle.std.specs.Prelude.{Option, Result, IfOk, IfErr, OnOk}
use Rattle.store_dev.specs.Device.{LeavesOnly}
use Rattle.store_dev.specs.Moments.{leaves_then, leaves_more}
use Rattle.store_dev.specs.declared.device.StoreDevice.{Ghosts}
use Rattle.cache_api.specs.Pairs.{Pair}
use Rattle.record_log.specs.Frames.{IsSound, ReadsAsOneOf}
use Rattle.compact.specs.declared.error.CurrentErr.{CurrentErr}
use Rattle.compact.specs.declared.error.CompactErr.{CompactErr}
use Rattle.compact.specs.declared.error.CompactErr.TheVariants.{From, To, NoRoom, LastGeneration, Failed, OutOfMemory}
use Rattle.compact.specs.declared.kept.Kept.{Kept}
use Rattle.compact.specs.declared.side.Side.{Side}
use Rattle.compact.specs.declared.side.Side.TheVariants.{First, Spare}
use Rattle.compact.specs.Answers.{IsNotFrom, IsNotTo}
use Rattle.compact.specs.Current.{generation_in, current_of, pairs_of}
use Rattle.compact.specs.Left.{Rests, StillRests, RestsAs, IsReread, IsEither, IsAfter}
use Rattle.compact.specs.Left.{chosen_in, next_generation}
use Rattle.compact.proofs.Telling.{sound_same}
use Rattle.refusals.specs.declared.refusal.Refusal.{Refusal}
use Rattle.store_answers.specs.Stores.{Stores, stores_of}
use Rattle.compact_orders.specs.Asking.{AreSound, current_pairs, kept_pairs}
use Rattle.compact_orders.specs.Left.{LastsCompacted, LeavesRefused, PassesRest}
use Rattle.compact_orders.specs.Left.{IsWorkOn, IsFurther, KeepsSound}
use Rattle.compact_orders.specs.Steps.{outcome_of, IsRefusalIn}
use Rattle.compact_orders.proofs.Reading.{renewing_sound}

-- ---- both were opened

-- the one on that side was found current, and each rests
pub record AreOpened {S P : Type 0} (G : Ghosts S) (H : Ghosts P) (store mid : S) (spare turn : P)
    (side : Side) : Type 0 where
  pub is : current_of (G.content store) (H.content spare) ≡ side
  pub first : StillRests G store mid
  pub second : StillRests H spare turn

pub are_opened : {S P : Type 0} (G : Ghosts S) (H : Ghosts P) (store mid : S) (spare turn : P)
    (r : Result Side CurrentErr) (found side : Side) → r ≡ Ok found → found ≡ side
    → IfOk r (λ s. s ≡ current_of (G.content store) (H.content spare))
    → OnOk r (StillRests G store mid) → OnOk r (StillRests H spare turn)
    → AreOpened G H store mid spare turn side
are_opened G H store mid spare turn r found side ok is told first second = record {
  is = sym (subst (λ o. IfOk o (λ s. s ≡ current_of (G.content store) (H.content spare))) ok told) ∙ is;
  first = subst (λ o. OnOk o (StillRests G store mid)) ok first;
  second = subst (λ o. OnOk o (StillRests H spare turn)) ok second;
}

-- both were read again, and are stores
pub sound_both : {S P : Type 0} (G : Ghosts S) (H : Ghosts P) (store mid : S) (spare turn : P)
    → StillRests G store mid → StillRests H spare turn
    → AreSound (stores_of (G.content store) (H.content spare))
sound_both G H store mid spare turn x y = record {
  store = sound_same (G.content store) (G.content mid) (sym x.reads) x.rests.sound;
  spare = sound_same (H.content spare) (H.content turn) (sym y.reads) y.rests.sound;
}

-- ---- the answer of compaction

module _ {S P : Type 0} (G : Ghosts S) (H : Ghosts P) (side : Side) where
  -- it came to its end
  pub lasts_by : (r : Result Kept CompactErr) (keep : Option ℕ) (stores : Stores)
      (old new : List Pair) (store : S) (spare : P) → OnOk r (Rests G store)
      → OnOk r (Rests H spare)
      → ((f s : List ℕ) → G.images store f → H.images spare s → IsAfter r old new (pairs_of f s))
      → kept_pairs keep stores ≡ new
      → OnOk (outcome_of side r) (LastsCompacted G H keep stores store spare)
  lasts_by (Ok kept) keep stores old new store spare p q after is = record {
    store_rests = p;
    spare_rests = q;
    each = λ f s now then. after f s now then ∙ ap (λ (l : List Pair). Some l) (sym is);
  }
  lasts_by (Err e) keep stores old new store spare p q after is = tt

  -- it was refused
  pub after_by : (r : Result Kept CompactErr) (old new : List Pair) (store now : S)
      (spare then : P) → IfErr r IsNotFrom → IfErr r IsNotTo
      → ((f s : List ℕ) → G.images now f → H.images then s → IsAfter r old new (pairs_of f s))
      → current_pairs (stores_of (G.content store) (H.content spare)) ≡ old → (reason : Refusal)
      → IsRefusalIn (outcome_of side r) reason → LeavesRefused G H store now spare then reason
  after_by (Ok kept) old new store now spare then not_from not_to after same reason is = absurd is
  after_by (Err (From fault)) old new store now spare then not_from not_to after same reason is = absurd not_from
  after_by (Err (To fault)) old new store now spare then not_from not_to after same reason is = absurd not_to
  after_by (Err (NoRoom n f)) old new store now spare then not_from not_to after same reason is =
      subst (λ r. LeavesRefused G H store now spare then r) (sym is)
      (λ f s here there. after f s here there ∙ ap (λ (l : List Pair). Some l) (sym same))
  after_by (Err LastGeneration) old new store now spare then not_from not_to after same reason is =
      subst (λ r. LeavesRefused G H store now spare then r) (sym is)
      (λ f s here there. after f s here there ∙ ap (λ (l : List Pair). Some l) (sym same))
  after_by (Err Failed) old new store now spare then not_from not_to after same reason is = absurd is
  after_by (Err OutOfMemory) old new store now spare then not_from not_to after same reason is = absurd is

-- what holds after it was done
pub rests_still : {S : Type 0} (G : Ghosts S) (r : Result Kept CompactErr) (old new : S)
    → OnOk r (StillRests G old new) → OnOk r (Rests G new)
rests_still G (Ok kept) old new x = x.rests
rests_still G (Err e) old new x = tt

pub rests_new : {S : Type 0} (G : Ghosts S) (r : Result Kept CompactErr) (generation : ℕ)
    (pairs : List Pair) (new : S) → OnOk r (RestsAs G generation pairs new) → OnOk r (Rests G new)
rests_new G (Ok kept) generation pairs new x = x.rests
rests_new G (Err e) generation pairs new x = tt

-- ---- what a crash leaves

-- opened and then worked on
pub left_then : {S : Type 0} (G : Ghosts S) (old mid new : S) (side current : Side)
    (keep : Option ℕ) (stores : Stores) (W : List ℕ → Type 0) → AreSound stores
    → current_of stores.store stores.spare ≡ current → IsReread G old mid
    → LeavesOnly G.moment G.images_since mid new W
    → ((c : List ℕ) → W c → IsWorkOn current side keep stores c)
    → LeavesOnly G.moment G.images_since old new (IsFurther (G.images old) side keep stores)
left_then G old mid new side current keep stores W sound is x y work =
    leaves_then G.moment G.images_since old mid new (ReadsAsOneOf (G.images old)) W
    (IsFurther (G.images old) side keep stores) x.images y (λ c p. inl p)
    (λ c p. inr (sound, subst (λ s. IsWorkOn s side keep stores c) (sym is) (work c p)))

-- a state in which both rest
pub passes : {S P : Type 0} (G : Ghosts S) (H : Ghosts P) (store mid new : S) (spare turn then : P)
    (W V : List ℕ → Type 0) (Q : List ℕ → List ℕ → Type 0) → IsReread G store mid
    → IsReread H spare turn → StillRests G store mid → StillRests H spare turn
    → LeavesOnly G.moment G.images_since mid new W → LeavesOnly H.moment H.images_since turn then V
    → ((f s : List ℕ) → G.images_since new (G.moment mid) f → H.images_since then (H.moment turn) s → Q f s)
    → PassesRest G H (store, spare) (new, then) Q
passes G H store mid new spare turn then W V Q x y p q u v behind = record {
  middle = (mid, turn);
  store_opened = x.images;
  spare_opened = y.images;
  store_rests = p;
  spare_rests = q;
  store_later = u.later;
  spare_later = v.later;
  behind = behind;
}

-- ---- images are stores

work_sound : (current side : Side) (keep : Option ℕ) (stores : Stores) (c : List ℕ)
    → AreSound stores → IsWorkOn current side keep stores c → IsSound c
work_sound First First keep stores c sound work = sound_same c stores.store work sound.store
work_sound First Spare keep stores c sound work =
    renewing_sound (generation_in stores.spare) (next_generation stores.store)
    (chosen_in stores.store keep) c work
work_sound Spare First keep stores c sound work =
    renewing_sound (generation_in stores.store) (next_generation stores.spare)
    (chosen_in stores.spare keep) c work
work_sound Spare Spare keep stores c sound work = sound_same c stores.spare work sound.spare

further_sound : (images : List ℕ → Type 0) (side : Side) (keep : Option ℕ) (stores : Stores)
    (c : List ℕ) → IsFurther images side keep stores c → KeepsSound images c
further_sound images side keep stores c (inl x) all = sound_same c x.0 x.2 (all x.0 x.1)
further_sound images side keep stores c (inr x) all =
    work_sound (current_of stores.store stores.spare) side keep stores c x.0 x.1

pub left_sound : {S : Type 0} (G : Ghosts S) (old new : S) (side : Side) (keep : Option ℕ)
    (stores : Stores)
    → LeavesOnly G.moment G.images_since old new (IsFurther (G.images old) side keep stores)
    → LeavesOnly G.moment G.images_since old new (KeepsSound (G.images old))
left_sound G old new side keep stores x =
    leaves_more G.moment G.images_since old new (IsFurther (G.images old) side keep stores)
    (KeepsSound (G.images old)) x (further_sound (G.images old) side keep stores)

-- the pairs that there were, or those that are kept, by what they are equal to
pub either_as : (old new now kept : List Pair) (found : Option (List Pair)) → now ≡ old
    → kept ≡ new → IsEither old new found → IsEither now kept found
either_as old new now kept found p q x =
    subst (λ l. IsEither l kept found) (sym p) (subst (λ l. IsEither old l found) (sym q) x)
