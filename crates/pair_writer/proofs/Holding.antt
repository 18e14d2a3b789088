-- What is held of frames as one more stands behind them.
use Rattle.std.proofs.Common.{◌≡◌, ◌≢◌, ℕ, zero, suc, ◌+◌, ◌<◌, ◌^◌, true, List, [], ◌∷◌, ◌++◌, length, map, take, get_or, refl, sym, ◌∙◌, ap, arith, length-append}
use Rattle.std.proofs.lemmas.Bool.{and_parts, and_from, lt-ltb, ltb-true}
use Rattle.std.proofs.lemmas.List.{map-append}
use Rattle.rel_path.proofs.Parts.{turn}
use Rattle.cache_api.specs.Memory.{capped}
use Rattle.record_log.specs.declared.kind.TheConstants.{CONTENT, LONG_RECORD, DIGEST_BYTES}
use Rattle.record_log.specs.Kinds.{Entry, entry, limit_of, blobs_in, text, room_for}
use Rattle.record_log.specs.Frames.{opened}
use Rattle.record_log.specs.Batch.{AllKnown, EachWithin}
use Rattle.record_log.specs.Texts.{opened_append, length-text}
use Rattle.blob_pool.specs.Contents.{contents_of}
use Rattle.blob_pool.specs.Blobs.{blobs_in-push, blobs_in-same, contents_of-push, contents_of-same}
use Rattle.pair_writer.specs.declared.frame.StagedFrame.{StagedFrame}
use Rattle.pair_writer.specs.Held.{staged_entry, staged_entries, may_stand, all_stand, IsHeld}

-- ---- frames that may be appended by their kinds and lengths

stand_push : (es : List Entry) (e : Entry) → all_stand es ≡ true → may_stand e ≡ true
    → all_stand (es ++ e ∷ []) ≡ true
stand_push [] e all one = and_from _ _ one refl
stand_push (x ∷ es) e all one =
    let parts = and_parts _ _ all in and_from _ _ parts.0 (stand_push es e parts.1 one)

pub stand_take : (n : ℕ) (es : List Entry) → all_stand es ≡ true → all_stand (take n es) ≡ true
stand_take zero es all = refl
stand_take (suc n) [] all = refl
stand_take (suc n) (e ∷ es) all =
    let parts = and_parts _ _ all in and_from _ _ parts.0 (stand_take n es parts.1)

pub known_of : (es : List Entry) → all_stand es ≡ true → AllKnown es
known_of [] all = tt
known_of (e ∷ es) all =
    let parts = and_parts _ _ all in ((and_parts _ _ parts.0).0, known_of es parts.1)

pub within_of : (es : List Entry) → all_stand es ≡ true → EachWithin es
within_of [] all = tt
within_of (e ∷ es) all =
    let parts = and_parts _ _ all in
    let lens = and_parts _ _ (and_parts _ _ parts.0).1 in (
      ltb-true (length e.key) (limit_of e.kind) lens.0,
      ltb-true (length e.value) (limit_of e.kind) lens.1,
      within_of es parts.1,
    )

-- ---- one frame more

size_push : (es : List Entry) (e : Entry)
    → capped (length (opened (es ++ e ∷ []))) ≡ capped (capped (length (opened es)) + room_for e)
size_push es e =
    omega (
      arith,
      ap length (opened_append es (e ∷ [])),
      length-append (opened es) (opened (e ∷ [])),
      length-append (text e) [],
      length-text e,
    )

pub entries_push : (fs : List StagedFrame) (f : StagedFrame)
    → staged_entries (fs ++ f ∷ []) ≡ staged_entries fs ++ staged_entry f ∷ []
entries_push fs f = map-append staged_entry fs (f ∷ [])

pub entries_more : (fs : List StagedFrame) (n : ℕ) (f : StagedFrame)
    → (n < length fs) × (f ≡ get_or fs n f)
    → staged_entries (take (n + 1) fs) ≡ staged_entries (take n fs) ++ staged_entry f ∷ []
entries_more fs n f at = ap staged_entries (turn fs n f at).0 ∙ entries_push (take n fs) f

pub held_content : (fs now : List StagedFrame) (digests contents ds cs : List (List ℕ))
    (size next : ℕ) (f : StagedFrame) (digest bytes : List ℕ)
    → staged_entry f ≡ entry CONTENT digest bytes
    → IsHeld (staged_entries fs) digests contents size
    → length digest ≡ DIGEST_BYTES → length bytes < 2 ^ 32
    → now ≡ fs ++ f ∷ [] → ds ≡ digests ++ digest ∷ [] → cs ≡ contents ++ bytes ∷ []
    → next ≡ capped (size + room_for (entry CONTENT digest bytes))
    → IsHeld (staged_entries now) ds cs next
held_content fs now digests contents ds cs size next f digest bytes frame x len short frames d b is =
    let es = staged_entries fs in
    let e = entry CONTENT digest bytes in
    let all : staged_entries now ≡ es ++ e ∷ [] =
    ap staged_entries frames
    ∙ entries_push fs f
    ∙ ap (λ (y : Entry). es ++ y ∷ []) frame in
    let keys = λ (l : List Entry). map (λ (y : Entry). y.key) l in
    record {
      digests_are =
          d
          ∙ ap (λ (l : List (List ℕ)). l ++ digest ∷ []) x.digests_are
          ∙ sym (map-append (λ (y : Entry). y.key) (blobs_in es) (e ∷ []))
          ∙ ap keys (sym (blobs_in-push es e refl))
          ∙ ap (λ (l : List Entry). keys (blobs_in l)) (sym all);
      contents_are =
          b
          ∙ ap (λ (l : List (List ℕ)). l ++ bytes ∷ []) x.contents_are
          ∙ sym (contents_of-push es e refl)
          ∙ ap contents_of (sym all);
      size_is =
          is
          ∙ ap (λ (n : ℕ). capped (n + room_for e)) x.size_is
          ∙ sym (size_push es e)
          ∙ ap (λ (l : List Entry). capped (length (opened l))) (sym all);
      stand =
          ap all_stand all
          ∙ stand_push es e x.stand
          (and_from _ _ refl (and_from _ _ (lt-ltb _ _ (omega (arith, len))) (lt-ltb _ _ short)));
    }

pub held_record : (fs now : List StagedFrame) (digests contents : List (List ℕ)) (size next : ℕ)
    (f : StagedFrame) (print text : List ℕ) → staged_entry f ≡ entry LONG_RECORD print text
    → IsHeld (staged_entries fs) digests contents size
    → length print ≡ DIGEST_BYTES → length text < 2 ^ 64
    → now ≡ fs ++ f ∷ [] → next ≡ capped (size + room_for (entry LONG_RECORD print text))
    → IsHeld (staged_entries now) digests contents next
held_record fs now digests contents size next f print text frame x len short frames is =
    let es = staged_entries fs in
    let e = entry LONG_RECORD print text in
    let other : e.kind ≢ CONTENT = λ same. absurd (omega (arith, same)) in
    let all : staged_entries now ≡ es ++ e ∷ [] =
    ap staged_entries frames
    ∙ entries_push fs f
    ∙ ap (λ (y : Entry). es ++ y ∷ []) frame in
    let keys = λ (l : List Entry). map (λ (y : Entry). y.key) l in
    record {
      digests_are =
          x.digests_are
          ∙ ap keys (sym (blobs_in-same es e other))
          ∙ ap (λ (l : List Entry). keys (blobs_in l)) (sym all);
      contents_are =
          x.contents_are ∙ sym (contents_of-same es e other) ∙ ap contents_of (sym all);
      size_is =
          is
          ∙ ap (λ (n : ℕ). capped (n + room_for e)) x.size_is
          ∙ sym (size_push es e)
          ∙ ap (λ (l : List Entry). capped (length (opened l))) (sym all);
      stand =
          ap all_stand all
          ∙ stand_push es e x.stand
          (and_from _ _ refl (and_from _ _ (lt-ltb _ _ (omega (arith, len))) (lt-ltb _ _ short)));
    }

-- ---- the first frames

pub take-map : (n : ℕ) (fs : List StagedFrame)
    → staged_entries (take n fs) ≡ take n (staged_entries fs)
take-map zero fs = refl
take-map (suc n) [] = refl
take-map (suc n) (f ∷ fs) = ap (λ (l : List Entry). staged_entry f ∷ l) (take-map n fs)

pub held_front : (fs now : List StagedFrame) (n : ℕ) (digests contents ds cs : List (List ℕ))
    (size next : ℕ) → IsHeld (staged_entries fs) digests contents size → now ≡ take n fs
    → ds ≡ map (λ e. e.key) (blobs_in (staged_entries (take n fs)))
    → cs ≡ contents_of (staged_entries (take n fs))
    → next ≡ capped (length (opened (take n (staged_entries fs))))
    → IsHeld (staged_entries now) ds cs next
held_front fs now n digests contents ds cs size next x frames d b is =
    let front : staged_entries (take n fs) ≡ take n (staged_entries fs) = take-map n fs in
    let all = ap staged_entries (sym frames) in
    record {
      digests_are = d ∙ ap (λ (l : List Entry). map (λ (e : Entry). e.key) (blobs_in l)) all;
      contents_are = b ∙ ap contents_of all;
      size_is = is ∙ ap (λ (l : List Entry). capped (length (opened l))) (sym front ∙ all);
      stand =
          ap all_stand (sym all ∙ front) ∙ stand_take n (staged_entries fs) x.stand;
    }
