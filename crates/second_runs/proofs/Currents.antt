-- The current one of two stores, as a run goes over it.
use Rattle.std.proofs.Common.{◌≡◌, ◌∙◌, inl, inr, Bool, true, false, cond, ℕ, List, Ok, Err, sym, ap, subst}
use Rattle.std.specs.Prelude.{Result, IfOk, IfErr, OnOk}
use Rattle.store_dev.specs.declared.device.StoreDevice.{Ghosts}
use Rattle.record_log.specs.Frames.{reading, IsSound}
use Rattle.cli_words.specs.declared.order.Access.{Access}
use Rattle.compact.specs.Answers.{CountsBoth, BothCounted, is_current_fault}
use Rattle.compact.specs.Answers.{IsFirstFault, IsSpareFault}
use Rattle.compact.specs.Current.{current_of, generation_in}
use Rattle.compact.specs.Left.{StillRests}
use Rattle.compact.specs.declared.error.CurrentErr.{CurrentErr}
use Rattle.compact.specs.declared.side.Side.{Side}
use Rattle.compact.specs.declared.side.Side.TheVariants.{First, Spare}
use Rattle.compact.proofs.Telling.{sound_same}
use Rattle.refusals.specs.declared.refusal.Refusal.{Refusal}
use Rattle.refusals.specs.declared.refusal.StoreFile.{StoreFile}
use Rattle.refusals.specs.declared.refusal.StoreFile.TheVariants as file
use Rattle.store_answers.specs.Facts.{held_first, held_spare, held_same, generation_same}
use Rattle.store_answers.specs.Facts.{current_same, no_stores}
use Rattle.store_answers.specs.Refused.{IsNoStore, IsCurrentRefusal, raised_current}
use Rattle.store_answers.specs.Stores.{Stores, stores_of, held_in, held_by}
use Rattle.second_runs.specs.Images.{AddsBehind}
use Rattle.second_runs.specs.Moments.{local_in, nothing}
use Rattle.second_runs.specs.Refused.{IsNoneBehind, IsNoneRead}
use Rattle.second_runs.proofs.Reading.{adds_generation, adds_sound}

-- a local store that is read is the current one
pub local_is : (access : Access) (stores : Stores) → access.local_reads ≡ true
    → local_in access stores ≡ held_in stores
local_is access stores reads = ap (λ (b : Bool). cond b (held_in stores) nothing) reads

module _ (access : Access) (reads : access.local_reads ≡ true) (a b : List ℕ) (sound : IsSound a)
    (also : IsSound b) where
  pub local_first : current_of a b ≡ First → held_by a ≡ local_in access (stores_of a b)
  local_first is = sym (local_is access (stores_of a b) reads ∙ held_first a b sound also is)

  pub local_spare : current_of a b ≡ Spare → held_by b ≡ local_in access (stores_of a b)
  local_spare is = sym (local_is access (stores_of a b) reads ∙ held_spare a b sound also is)

-- bytes that are read alike are no store for one reason
no_as : (named : StoreFile) (a b : List ℕ) (reason : Refusal) → reading a ≡ reading b
    → IsNoStore named a reason → IsNoStore named b reason
no_as named a b reason same bad =
    record { fault = bad.fault; reads = sym same ∙ bad.reads; is = bad.is }

-- ---- both were opened

-- the one on that side was found current, and each rests
pub record AreOpened {S P : Type 0} (G : Ghosts S) (H : Ghosts P) (store mid : S) (spare turn : P)
    (side : Side) : Type 0 where
  pub is : current_of (G.content store) (H.content spare) ≡ side
  pub first : StillRests G store mid
  pub second : StillRests H spare turn

pub are_opened : {S P : Type 0} (G : Ghosts S) (H : Ghosts P) (store mid : S) (spare turn : P)
    (r : Result Side CurrentErr) (found side : Side) → r ≡ Ok found → found ≡ side
    → IfOk r (λ s. s ≡ current_of (G.content store) (H.content spare))
    → OnOk r (StillRests G store mid) → OnOk r (StillRests H spare turn)
    → AreOpened G H store mid spare turn side
are_opened G H store mid spare turn r found side ok is told first second = record {
  is = sym (subst (λ o. IfOk o (λ s. s ≡ current_of (G.content store) (H.content spare))) ok told) ∙ is;
  first = subst (λ o. OnOk o (StillRests G store mid)) ok first;
  second = subst (λ o. OnOk o (StillRests H spare turn)) ok second;
}

module _ {S P : Type 0} (G : Ghosts S) (H : Ghosts P) (store mid : S) (spare turn : P)
    (side : Side) (x : AreOpened G H store mid spare turn side) where
  pub sound_first : IsSound (G.content store)
  sound_first = sound_same (G.content store) (G.content mid) (sym x.first.reads) x.first.rests.sound

  pub sound_spare : IsSound (H.content spare)
  sound_spare =
      sound_same (H.content spare) (H.content turn) (sym x.second.reads) x.second.rests.sound

  pub mid_generation : generation_in (G.content mid) ≡ generation_in (G.content store)
  mid_generation = generation_same (G.content mid) (G.content store) x.first.reads

  pub turn_generation : generation_in (H.content turn) ≡ generation_in (H.content spare)
  turn_generation = generation_same (H.content turn) (H.content spare) x.second.reads

  -- which was current as both were opened again and the first one added to
  pub still_first : (puts : Bool) (new : S) → AddsBehind puts (G.content mid) (G.content new)
      → current_of (G.content new) (H.content turn) ≡ current_of (G.content store) (H.content spare)
  still_first puts new behind =
      current_same (G.content store) (H.content spare) (G.content new) (H.content turn)
      (adds_generation puts (G.content mid) (G.content new) behind ∙ mid_generation) turn_generation

  -- or the spare one
  pub still_spare : (puts : Bool) (new : P) → AddsBehind puts (H.content turn) (H.content new)
      → current_of (G.content mid) (H.content new) ≡ current_of (G.content store) (H.content spare)
  still_spare puts new behind =
      current_same (G.content store) (H.content spare) (G.content mid) (H.content new)
      mid_generation
      (adds_generation puts (H.content turn) (H.content new) behind ∙ turn_generation)

  module _ (access : Access) (reads : access.local_reads ≡ true) where
    -- what the local store held, and holds
    pub held_was_first : side ≡ First → held_by (G.content mid)
        ≡ local_in access (stores_of (G.content store) (H.content spare))
    held_was_first is =
        held_same (G.content mid) (G.content store) x.first.reads
        ∙ local_first access reads (G.content store) (H.content spare) sound_first sound_spare
        (x.is ∙ is)

    pub held_was_spare : side ≡ Spare → held_by (H.content turn)
        ≡ local_in access (stores_of (G.content store) (H.content spare))
    held_was_spare is =
        held_same (H.content turn) (H.content spare) x.second.reads
        ∙ local_spare access reads (G.content store) (H.content spare) sound_first sound_spare
        (x.is ∙ is)

    pub held_now_first : side ≡ First → (puts : Bool) (new : S)
        → AddsBehind puts (G.content mid) (G.content new) → held_by (G.content new)
        ≡ local_in access (stores_of (G.content new) (H.content turn))
    held_now_first is puts new behind =
        local_first access reads (G.content new) (H.content turn)
        (adds_sound puts (G.content mid) (G.content new) x.first.rests.sound behind)
        x.second.rests.sound (still_first puts new behind ∙ x.is ∙ is)

    pub held_now_spare : side ≡ Spare → (puts : Bool) (new : P)
        → AddsBehind puts (H.content turn) (H.content new) → held_by (H.content new)
        ≡ local_in access (stores_of (G.content mid) (H.content new))
    held_now_spare is puts new behind =
        local_spare access reads (G.content mid) (H.content new) x.first.rests.sound
        (adds_sound puts (H.content turn) (H.content new) x.second.rests.sound behind)
        (still_spare puts new behind ∙ x.is ∙ is)

    -- why a run over them is refused
    pub none_first : (second : List ℕ) (reason : Refusal)
        → IsNoneBehind file.Store (G.content mid) second reason
        → IsNoneRead access (stores_of (G.content store) (H.content spare)) second reason
    none_first second reason (inl bad) =
        inl (reads, inl (no_as file.Store (G.content mid) (G.content store) reason x.first.reads bad))
    none_first second reason (inr (sound, bad)) = inr (λ read. (sound_first, sound_spare), bad)

    pub none_spare : (second : List ℕ) (reason : Refusal)
        → IsNoneBehind file.Spare (H.content turn) second reason
        → IsNoneRead access (stores_of (G.content store) (H.content spare)) second reason
    none_spare second reason (inl bad) = inl (
      reads,
      inr (
        sound_first,
        no_as file.Spare (H.content turn) (H.content spare) reason x.second.reads bad,
      ),
    )
    none_spare second reason (inr (sound, bad)) = inr (λ read. (sound_first, sound_spare), bad)

-- ---- what the opening of both answers

-- after it was Ok
pub rests_of : {S : Type 0} (G : Ghosts S) (old new : S) (r : Result Side CurrentErr) (found : Side)
    → r ≡ Ok found → OnOk r (StillRests G old new) → StillRests G old new
rests_of G old new r found is x = subst (λ o. OnOk o (StillRests G old new)) is x

pub counted_of : (a now_a b now_b : ℕ) (r : Result Side CurrentErr) (found : Side) → r ≡ Ok found
    → CountsBoth is_current_fault a now_a b now_b r → (now_a ≡ a) × (now_b ≡ b)
counted_of a now_a b now_b r found is x =
    subst (λ o. BothCounted is_current_fault a now_a b now_b o) is x.counted

-- after it was not
pub raised_of : (a now_a b now_b : ℕ) (r : Result Side CurrentErr) (fault : CurrentErr)
    → r ≡ Err fault → CountsBoth is_current_fault a now_a b now_b r
    → CountsBoth is_current_fault a now_a b now_b (raised_current fault)
raised_of a now_a b now_b r fault is x = record {
  first = x.first;
  second = x.second;
  counted = subst (λ o. BothCounted is_current_fault a now_a b now_b o) is x.counted;
}

pub none_of : (access : Access) → access.local_reads ≡ true → (a b second : List ℕ)
    (r : Result Side CurrentErr) (fault : CurrentErr) → r ≡ Err fault
    → IfErr r (λ e. IsFirstFault e a) → IfErr r (λ e. IsSpareFault e b) → (reason : Refusal)
    → IsCurrentRefusal fault reason → IsNoneRead access (stores_of a b) second reason
none_of access reads a b second r fault is first spare reason refusal =
    inl (
      reads,
      no_stores fault a b (subst (λ o. IfErr o (λ e. IsFirstFault e a)) is first)
          (subst (λ o. IfErr o (λ e. IsSpareFault e b)) is spare) reason refusal,
    )

-- it is not both
pub not_spare : (side : Side) → side ≡ First → side ≡ Spare → ⊥
not_spare side first spare = let e = sym first ∙ spare in cc

-- ---- a local store that is not read

pub local_none : (access : Access) (stores : Stores) → access.local_reads ≡ false
    → nothing ≡ local_in access stores
local_none access stores none = sym (ap (λ (b : Bool). cond b (held_in stores) nothing) none)

pub none_alone : (access : Access) (stores : Stores) (second : List ℕ) → access.local_reads ≡ false
    → (reason : Refusal) → IsNoStore file.Second second reason
    → IsNoneRead access stores second reason
none_alone access stores second none reason bad =
    inr (λ reads. let e = sym none ∙ reads in absurd (cc), bad)
