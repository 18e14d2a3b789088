-- What the bytes of a store tell.
use Rattle.std.proofs.Common.{◌≡◌, ◌<◌, inl, inr, ℕ, ◌^◌, Bool, true, false, cond, List, [], ◌∷◌, ◌++◌, length, Option, Some, None, Result, Ok, Err, refl, sym, ◌∙◌, ap, arith}
use Rattle.std.specs.Prelude.{◌==◌}
use Rattle.std.proofs.lemmas.Bool.{eqb-true, cases_lt}
use Rattle.std.proofs.lemmas.Nat.{from_le_bytes-to_le_bytes_8}
use Rattle.cache_api.specs.Pairs.{Pair}
use Rattle.record_log.specs.Kinds.{Entry, generation_of, generation_from, generation_after}
use Rattle.record_log.specs.Frames.{reading, frames_of, Fault, IsSound, IsOpenedAs}
use Rattle.record_log.proofs.Rest.{short_read}
use Rattle.pair_frames.specs.Pairs.{pairs_in}
use Rattle.pair_frames.specs.Joins.{pairs_in-none}
use Rattle.artifact_store.specs.Pairs.{stands_for, told_as}
use Rattle.artifact_store.specs.Laws.{told_is, told_stands, stands_is, frames_are}
use Rattle.compact.specs.Current.{generation_in, pairs_held}
use Rattle.compact.specs.Left.{IsStoreOf}
use Rattle.compact.specs.Room.{generation_frame}

-- ---- from what they stand for to their frames

pub record Tells (number : ℕ) (all : List Pair) (c : List ℕ) : Type 0 where
  pub sound : IsSound c
  pub generation : generation_in c ≡ number
  pub pairs : pairs_held c ≡ all

test_by : (b : Bool) (all : Option (List Pair)) (pairs : List Pair)
    → cond b all None ≡ Some pairs → b ≡ true
test_by true all pairs is = refl
test_by false all pairs is = absurd cc

-- as what they are read
record IsReadAs (all : List Pair) (r : Result (List Entry) Fault) : Type 0 where
  frames : List Entry
  is : r ≡ Ok frames
  pairs : pairs_in frames ≡ all

read_by : (r : Result (List Entry) Fault) (pairs : List Pair)
    → elim r as (λ _. Option (List Pair)) [ Ok es ↦ Some (pairs_in es) | Err _ ↦ None ] ≡ Some pairs
    → IsReadAs pairs r
read_by (Ok es) pairs is = record { frames = es; is = refl; pairs = cc }
read_by (Err e) pairs is = absurd cc

stands_read : (c : List ℕ) (pairs : List Pair) → stands_for c ≡ Some pairs
    → IsReadAs pairs (reading c)
unfolding stands_for
stands_read c pairs is = read_by (reading c) pairs is

generation_told : (generation : ℕ) (c : List ℕ) (pairs : List Pair)
    → told_as generation c ≡ Some pairs → generation_in c ≡ generation
unfolding told_as
generation_told generation c pairs is =
    eqb-true (generation_in c) generation
    (test_by (generation_in c == generation) (stands_for c) pairs is)

pub store_tells : (generation : ℕ) (pairs : List Pair) (c : List ℕ) → IsStoreOf generation pairs c
    → Tells generation pairs c
store_tells generation pairs c is =
    let r = stands_read c pairs (told_stands generation c pairs is) in
    let frames = frames_are c r.frames r.is in
    record {
      sound = r.is ∙ ap (λ (l : List Entry). Ok l) (sym frames);
      generation = generation_told generation c pairs is;
      pairs = ap pairs_in frames ∙ r.pairs;
    }

-- ---- and back

pub frames_same : (a b : List ℕ) → reading a ≡ reading b → frames_of a ≡ frames_of b
unfolding frames_of
frames_same a b same = ap (λ (r : Result (List Entry) Fault). elim r as (λ _. List Entry) [ Ok es ↦ es | Err _ ↦ [] ]) same

pub sound_same : (a b : List ℕ) → reading a ≡ reading b → IsSound b → IsSound a
sound_same a b same sound =
    same ∙ sound ∙ ap (λ (l : List Entry). Ok l) (sym (frames_same a b same))

pub store_is : (generation : ℕ) (pairs : List Pair) (c : List ℕ) → Tells generation pairs c
    → IsStoreOf generation pairs c
store_is generation pairs c x =
    told_is generation c (frames_of c) x.sound x.generation ∙ ap (λ (l : List Pair). Some l) x.pairs

-- bytes with the frames of a store are the same store
pub tells_same : (generation : ℕ) (pairs : List Pair) (a b : List ℕ) → reading a ≡ reading b
    → Tells generation pairs b → Tells generation pairs a
tells_same generation pairs a b same x =
    let frames = frames_same a b same in
    record {
      sound = sound_same a b same x.sound;
      generation = ap generation_of frames ∙ x.generation;
      pairs = ap pairs_in frames ∙ x.pairs;
    }

pub tells_itself : (c : List ℕ) → IsSound c → Tells (generation_in c) (pairs_held c) c
tells_itself c sound = record { sound = sound; generation = refl; pairs = refl }

pub stands_itself : (c : List ℕ) → IsSound c → stands_for c ≡ Some (pairs_held c)
stands_itself c sound = stands_is c (frames_of c) sound

pub tells_frames : (c : List ℕ) (es : List Entry) → reading c ≡ Ok es
    → Tells (generation_of es) (pairs_in es) c
tells_frames c es is =
    let frames = frames_are c es is in
    record {
      sound = is ∙ ap (λ (l : List Entry). Ok l) (sym frames);
      generation = ap generation_of frames;
      pairs = ap pairs_in frames;
    }

-- ---- a device that was opened

pub opened_reads : (old new : List ℕ) → IsOpenedAs old new → reading new ≡ reading old
opened_reads old new x = elim (cases_lt (length old) 10) [
  | inl short ↦
      short_read new (omega (arith, ap length (x.empty short)))
      ∙ sym (short_read old (omega (arith, short)))
  | inr long ↦ ap reading (x.same (omega (arith, long)))
]

-- ---- the frame of a generation

from_both : (last : ℕ) (fs gs : List Entry)
    → generation_from last (fs ++ gs) ≡ generation_from (generation_from last fs) gs
from_both last [] gs = refl
from_both last (f ∷ fs) gs = from_both (generation_after last f) fs gs

pub generation_sealed : (fs : List Entry) (generation : ℕ) → generation < 2 ^ 64
    → generation_of (fs ++ generation_frame generation ∷ []) ≡ generation
unfolding generation_of
generation_sealed fs generation lt =
    from_both 0 fs (generation_frame generation ∷ []) ∙ from_le_bytes-to_le_bytes_8 generation lt

pub pairs_sealed : (fs : List Entry) (generation : ℕ)
    → pairs_in (fs ++ generation_frame generation ∷ []) ≡ pairs_in fs
pairs_sealed fs generation = pairs_in-none fs (generation_frame generation ∷ []) (refl, tt)
