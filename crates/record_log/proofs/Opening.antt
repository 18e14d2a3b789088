-- Opening a file.
use Rattle.std.proofs.Common.{◌≡◌, inl, inr, ⊎_elim, ℕ, ◌≤◌, ◌<◌, true, false, List, [], ◌∷◌, ◌++◌, length, take, drop, take-append-drop, Ok, Err, refl, sym, ◌∙◌, ap, subst, arith}
use Rattle.std.specs.Str.{bytes_eq}
use Rattle.std.proofs.lemmas.Bool.{lt-ltb}
use Rattle.std.proofs.lemmas.Slice.Eq.{bytes_eq-Decides}
use Rattle.std.proofs.lemmas.List.{append-nil, drop_all}
use Rattle.store_dev.specs.Device.{Torn, Holds, Only, After, OnlyReads, LeavesOnly, Elapses}
use Rattle.record_log.specs.Frames.{magic, reading, frames_of, AtRest, IsOpenedAs, ReadsAsOneOf}
use Rattle.record_log.specs.Frames.Fault.{NotAStore}
use Rattle.record_log.specs.declared.kind.TheConstants.{GATE}
use Rattle.record_log.specs.declared.mark.LogMark.{LogMark}
use Rattle.record_log.specs.Kinds.{Entry}
use Rattle.record_log.specs.Kept.{Kept, IsIndexOf}
use Rattle.record_log.proofs.Rest.{short_read, stands_at_rest, at_rest_read}
use Rattle.record_log.proofs.Appending.{frames_of_is}
use Rattle.store_dev.specs.Moments.{goes_on}

abbrev pub nine : List ℕ
nine = magic ++ 0 ∷ []

pub written_empty : (old new : List ℕ) → length old ≤ 9 → Holds old 0 nine new → new ≡ nine
written_empty old new short holds = holds ∙ ap (λ (l : List ℕ). nine ++ l) (drop_all 9 old short) ∙ append-nil nine

pub kept_found : (bytes : List ℕ) (images : List ℕ → Type 0) (mark : LogMark)
    → AtRest bytes (frames_of bytes) mark.end → IsIndexOf mark (frames_of bytes)
    → Only bytes images → Kept bytes images mark
kept_found bytes images mark rest index only = record { rest = rest; read = at_rest_read rest; index = index; durable = only }

pub kept_empty : (bytes : List ℕ) (images : List ℕ → Type 0) (mark : LogMark) → bytes ≡ nine
    → Only bytes images → mark.end ≡ GATE → IsIndexOf mark [] → Kept bytes images mark
kept_empty bytes images mark is only end index =
    let rest : AtRest bytes [] mark.end = stands_at_rest bytes [] mark.end 0 [] is end (omega arith) refl in
    let fs : frames_of bytes ≡ [] = frames_of_is bytes [] (at_rest_read rest) in
    kept_found bytes images mark (subst (λ (l : List Entry). AtRest bytes l mark.end) (sym fs) rest) (subst (λ (l : List Entry). IsIndexOf mark l) (sym fs) index) only

pub opened_empty : (old new : List ℕ) → length old ≤ 9 → new ≡ nine → IsOpenedAs old new
opened_empty old new short is =
    let rest = stands_at_rest new [] 8 0 [] is refl (omega arith) refl in
    record {
      frames = short_read old short ∙ ap Ok (sym (frames_of_is new [] (at_rest_read rest)));
      empty = λ _. is;
      same = λ long. absurd (omega arith);
    }

pub opened_same : (old new : List ℕ) (fs_end : ℕ) → 9 < length old → new ≡ old
    → AtRest old (frames_of old) fs_end → IsOpenedAs old new
opened_same old new fs_end long is rest = record {
  frames = at_rest_read rest ∙ ap (λ (l : List ℕ). Ok (frames_of l)) (sym is);
  empty = λ short. absurd (omega arith);
  same = λ _. is;
}

pub magic_front : (bytes : List ℕ) → bytes_eq (take 8 bytes) magic ≡ true
    → bytes ≡ magic ++ drop 8 bytes
magic_front bytes good = sym (take-append-drop 8 bytes) ∙ ap (λ (l : List ℕ). l ++ drop 8 bytes) ((bytes_eq-Decides (take 8 bytes) magic).0 good)

pub no_magic : (bytes : List ℕ) → 9 < length bytes → bytes_eq (take 8 bytes) magic ≡ false
    → reading bytes ≡ Err NotAStore
unfolding reading
no_magic bytes long bad = rw (lt-ltb _ _ long, bad) refl

module _ {D : Type 0} (content : D → List ℕ) (images : D → List ℕ → Type 0) (moment : D → ℕ) (images_since : D → ℕ → List ℕ → Type 0) where
  -- a file of at most nine bytes stands for no frames, however the nine bytes are torn
  pub leaves_empty : (old mid new : D)
      → ((c : List ℕ) → images_since old (moment old) c → images old c)
      → OnlyReads content images moment images_since old mid → Only (content old) (images mid)
      → length (content old) ≤ 9
      → Elapses (moment mid) (moment new) (images_since mid) (images_since new) (After (Torn 0 9) (images mid)) → LeavesOnly moment images_since old new (ReadsAsOneOf (images old))
  leaves_empty old mid new only_now reads only short time = goes_on moment images_since old mid new (ReadsAsOneOf (images old)) (After (Torn 0 9) (images mid)) so_far time here
    where
      so_far : LeavesOnly moment images_since old mid (ReadsAsOneOf (images old))
      so_far = record {
        later = reads.time.later;
        each = λ c left. ⊎_elim (λ past. (c, only_now c past, refl)) (λ now. (c, now, refl)) (reads.time.nothing_else (moment old) c (omega arith) left);
        before = λ m c le left. ⊎_elim (λ past. inl past) (λ now. inr (c, now, refl)) (reads.time.nothing_else m c le left);
      }

      here : (c : List ℕ) → After (Torn 0 9) (images mid) c → ReadsAsOneOf (images old) c
      here c (d, now, torn) =
          let is : d ≡ content old = only d now in
          let short_d : length d ≤ 9 = omega (arith, ap length is) in
          (d, reads.fewer d now, short_read c (omega (arith, torn.no_longer)) ∙ sym (short_read d short_d))
