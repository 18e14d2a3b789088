-- Closing the first gate.
use Rattle.std.proofs.Common.{◌≡◌, ◌≢◌, ◌⊎◌, inl, inr, ⊎_elim, ℕ, ◌≤◌, ◌<◌, List, [], ◌∷◌, ◌++◌, length, get_or, take, drop, Ok, refl, sym, ◌∙◌, ap, subst, arith, take-append-drop}
use Rattle.std.proofs.lemmas.Bool.{cases_eq}
use Rattle.std.proofs.lemmas.List.{take_at, drop_at, drop_more}
use Rattle.store_dev.specs.Device.{AreBytes, Torn, Holds, Only, After, OnlyReads, LeavesOnly, Elapses}
use Rattle.store_dev.specs.Moments.{goes_on, reads_leave}
use Rattle.record_log.specs.declared.mark.LogMark.{LogMark}
use Rattle.record_log.specs.Kinds.{Entry}
use Rattle.record_log.specs.Frames.{magic, opened, reading, frames_of, AtRest, ReadsAsOneOrNone}
use Rattle.record_log.specs.Kept.{Kept, IsIndexOf}
use Rattle.record_log.proofs.Rest.{stand, stand_read, stands_at_rest, at_rest_read, torn_front, torn_back, short_read}
use Rattle.record_log.proofs.Appending.{frames_of_is}
use Rattle.record_log.proofs.Opening.{kept_found}
use Rattle.record_log.proofs.Places.{read_was}

pub sound_split : (bytes : List ℕ) → AreBytes bytes → 9 < length bytes
    → reading bytes ≡ Ok (frames_of bytes) → bytes ≡ magic ++ drop 8 bytes
sound_split bytes fits long is =
    let r = read_was bytes (frames_of bytes) fits long is in
    let rest = opened (frames_of bytes) ++ drop (length (opened (frames_of bytes))) (drop 8 bytes) in
    r.split ∙ ap (λ (l : List ℕ). magic ++ l) (sym (ap (drop 8) r.split ∙ drop_at magic rest 8 refl))

regated_first : (bytes c : List ℕ) → 9 < length bytes → bytes ≡ magic ++ drop 8 bytes
    → Torn 8 1 bytes c → c ≡ stand [] (get_or c 8 0) (drop 9 bytes)
regated_first bytes c long is torn =
    let front : take 8 c ≡ magic = torn_front 8 1 bytes c (omega arith) torn ∙ ap (take 8) is ∙ take_at magic (drop 8 bytes) 8 refl in
    let back : drop 9 c ≡ drop 9 bytes = torn_back 8 1 bytes c (omega arith) torn in
    sym (take-append-drop 8 c) ∙ (λ i. front i ++ (drop_more c 8 0 (omega (arith, torn.no_shorter, long)) ∙ ap (λ (l : List ℕ). get_or c 8 0 ∷ l) back) i)

first_stands : (bytes : List ℕ) → 9 < length bytes → bytes ≡ magic ++ drop 8 bytes
    → bytes ≡ stand [] (get_or bytes 8 0) (drop 9 bytes)
first_stands bytes long is = is ∙ ap (λ (l : List ℕ). magic ++ l) (drop_more bytes 8 0 (omega arith))

-- the gate stays open, and the bytes as they were, or no frame counts
first_torn : (bytes c : List ℕ) → 9 < length bytes → bytes ≡ magic ++ drop 8 bytes
    → get_or bytes 8 0 ≡ 1 → Torn 8 1 bytes c → (c ≡ bytes) ⊎ (reading c ≡ Ok [])
first_torn bytes c long is was torn =
    let here = regated_first bytes c long is torn in
    elim (cases_eq (get_or c 8 0) 1) [
      | inl one ↦ inl (here ∙ ap (λ (g : ℕ). stand [] g (drop 9 bytes)) (one ∙ sym was) ∙ sym (first_stands bytes long is))
      | inr shut ↦ inr (ap reading here ∙ stand_read [] (get_or c 8 0) (drop 9 bytes) refl shut)
    ]

pub rest_closed : (bytes : List ℕ) → 9 < length bytes → bytes ≡ magic ++ drop 8 bytes
    → get_or bytes 8 0 ≢ 1 → AtRest bytes [] 8
rest_closed bytes long is shut = stands_at_rest bytes [] 8 (get_or bytes 8 0) (drop 9 bytes) (first_stands bytes long is) refl shut refl

pub rest_cleared : (bytes new : List ℕ) → bytes ≡ magic ++ drop 8 bytes
    → Holds bytes 8 (0 ∷ []) new → AtRest new [] 8
rest_cleared bytes new is holds =
    let front : take 8 bytes ≡ magic = ap (take 8) is ∙ take_at magic (drop 8 bytes) 8 refl in
    stands_at_rest new [] 8 0 (drop 9 bytes) (holds ∙ ap (λ (l : List ℕ). (l ++ 0 ∷ []) ++ drop 9 bytes) front) refl (omega arith) refl

pub none_of : (bytes : List ℕ) (end : ℕ) → AtRest bytes [] end → frames_of bytes ≡ []
none_of bytes end rest = frames_of_is bytes [] (at_rest_read rest)

pub kept_none : (bytes : List ℕ) (images : List ℕ → Type 0) (mark : LogMark) → mark.end ≡ 8
    → AtRest bytes [] 8 → IsIndexOf mark [] → Only bytes images → Kept bytes images mark
kept_none bytes images mark end rest index only =
    let none = none_of bytes 8 rest in
    kept_found bytes images mark (subst (λ (l : List Entry). AtRest bytes l mark.end) (sym none) (subst (λ (n : ℕ). AtRest bytes [] n) (sym end) rest)) (subst (λ (l : List Entry). IsIndexOf mark l) (sym none) index) only

module _ {D : Type 0} (content : D → List ℕ) (images : D → List ℕ → Type 0) (moment : D → ℕ) (images_since : D → ℕ → List ℕ → Type 0) where
  -- calls that only read
  pub leaves_read : (old mid : D) → ((c : List ℕ) → images_since old (moment old) c → images old c)
      → OnlyReads content images moment images_since old mid
      → LeavesOnly moment images_since old mid (ReadsAsOneOrNone (images old))
  leaves_read old mid only_now reads = reads_leave content images moment images_since old mid (ReadsAsOneOrNone (images old)) reads only_now (λ c now. inl (c, now, refl))

  -- and the write of the gate behind them
  pub leaves_cleared : (old mid new : D)
      → ((c : List ℕ) → images_since old (moment old) c → images old c)
      → OnlyReads content images moment images_since old mid → Only (content old) (images mid)
      → 9 < length (content old) → content old ≡ magic ++ drop 8 (content old)
      → get_or (content old) 8 0 ≡ 1
      → Elapses (moment mid) (moment new) (images_since mid) (images_since new) (After (Torn 8 1) (images mid)) → LeavesOnly moment images_since old new (ReadsAsOneOrNone (images old))
  leaves_cleared old mid new only_now reads only long is was time = goes_on moment images_since old mid new (ReadsAsOneOrNone (images old)) (After (Torn 8 1) (images mid)) (leaves_read old mid only_now reads) time here
    where
      here : (c : List ℕ) → After (Torn 8 1) (images mid) c → ReadsAsOneOrNone (images old) c
      here c (d, now, torn) =
          let same : d ≡ content old = only d now in
          ⊎_elim (λ back. inl (d, reads.fewer d now, ap reading (back ∙ sym same))) (λ none. inr none) (first_torn (content old) c long is was (subst (λ (l : List ℕ). Torn 8 1 l c) same torn))

  -- or of an empty store
  pub leaves_nine : (old mid new : D)
      → ((c : List ℕ) → images_since old (moment old) c → images old c)
      → OnlyReads content images moment images_since old mid → Only (content old) (images mid)
      → length (content old) ≤ 9
      → Elapses (moment mid) (moment new) (images_since mid) (images_since new) (After (Torn 0 9) (images mid)) → LeavesOnly moment images_since old new (ReadsAsOneOrNone (images old))
  leaves_nine old mid new only_now reads only short time = goes_on moment images_since old mid new (ReadsAsOneOrNone (images old)) (After (Torn 0 9) (images mid)) (leaves_read old mid only_now reads) time (λ c left. inr (short_read c (omega (arith, left.2.no_longer, short, ap length (only left.0 left.1)))))
