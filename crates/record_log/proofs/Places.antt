-- Where frames stand, in bytes at rest and in any that read as a store.
use Rattle.std.proofs.Common.{◌≡◌, inl, inr, ℕ, zero, suc, ◌+◌, ◌≤◌, ◌<◌, ◌^◌, true, List, [], ◌∷◌, ◌++◌, length, get_or, take, drop, Option, Some, None, Result, Ok, Err, refl, sym, ◌∙◌, ap, subst, arith, append_assoc, length-append, length-drop, take-append-drop}
use Rattle.std.specs.Str.{bytes_eq}
use Rattle.std.proofs.lemmas.Bool.{and_from, cases_eq, cases_lt, cases_Bool, and_parts}
use Rattle.std.proofs.lemmas.List.{drop-drop, append-nil, take_all, take_at, drop_at}
use Rattle.std.proofs.lemmas.Slice.Eq.{bytes_eq-Decides}
use Rattle.codes.specs.Codes.{AreBytes}
use Rattle.codes.specs.Reading.{AreBytes-drop}
use Rattle.record_log.specs.declared.kind.TheConstants.{GATE}
use Rattle.record_log.specs.declared.seat.Seat.{Seat}
use Rattle.record_log.specs.declared.mark.LogMark.{LogMark}
use Rattle.record_log.specs.Kinds.{Entry, text, size, frame_at}
use Rattle.record_log.specs.Seats.{seats_from, key_span, value_span, IsSeatOf, IsSpanOf, IsWithin}
use Rattle.record_log.specs.Frames.{Fault, walk, opened, all_formed, magic, reading, frames_of, text_of, IsAt}
use Rattle.record_log.specs.Batch.{IsBeforeOrAll}
use Rattle.record_log.specs.Kept.{Kept, Front, IsIndex, IsIndexOf, IsMarkOf}
use Rattle.record_log.specs.Texts.{length-text, shown_front, opened_append}
use Rattle.record_log.proofs.Wide.{IsTaken, taken}
use Rattle.record_log.proofs.Heads.{seat_there, key_at, value_at, key_shown, value_shown}
use Rattle.record_log.proofs.Walk.{walk_found, walk_closed, walk_damaged}
use Rattle.record_log.proofs.Rest.{short_read, magic_read}
use Rattle.record_log.proofs.Appending.{frames_of_is, frames_of_err, index_none, length-seats_from}
use Rattle.record_log.proofs.Opening.{no_magic, magic_front}

-- a frame has its seat in the bytes, behind the first gate
pub record Seated (bytes : List ℕ) (gate : ℕ) (seat : Seat) (e : Entry) : Type 0 where
  pub stands : IsSeatOf bytes seat e
  pub behind : gate < seat.at

seats_at : (es : List Entry) (gate n : ℕ) (front rest : List ℕ) (d : Seat) (f : Entry)
    → length front ≡ gate → 1 ≤ length rest → n < length es
    → Seated (front ++ (opened es ++ rest)) gate (get_or (seats_from gate es) n d) (get_or es n f)
seats_at [] gate n front rest d f at more lt = absurd (omega arith)
seats_at (e ∷ es) gate zero front rest d f at more lt =
    let is : front ++ (opened (e ∷ es) ++ rest) ≡ (front ++ 1 ∷ []) ++ (text e ++ (opened es ++ rest)) = ap (λ (l : List ℕ). front ++ (1 ∷ l)) (append_assoc (text e) (opened es) rest) ∙ sym (append_assoc front (1 ∷ []) (text e ++ (opened es ++ rest))) in
    record {
      stands = seat_there (front ++ (opened (e ∷ es) ++ rest)) (front ++ 1 ∷ []) (opened es ++ rest) (gate + 1) e is (omega (arith, at, length-append front (1 ∷ []))) (omega (arith, length-append (opened es) rest, more));
      behind = omega arith;
    }
seats_at (e ∷ es) gate (suc n) front rest d f at more lt =
    let is : front ++ (opened (e ∷ es) ++ rest) ≡ (front ++ (1 ∷ text e)) ++ (opened es ++ rest) = ap (λ (l : List ℕ). front ++ (1 ∷ l)) (append_assoc (text e) (opened es) rest) ∙ sym (append_assoc front (1 ∷ text e) (opened es ++ rest)) in
    let size_is : length (front ++ (1 ∷ text e)) ≡ gate + 1 + size e = omega (arith, at, length-append front (1 ∷ text e), length-text e) in
    let there = seats_at es (gate + 1 + size e) n (front ++ (1 ∷ text e)) rest d f size_is more (omega arith) in
    record {
      stands = subst (λ (l : List ℕ). IsSeatOf l (get_or (seats_from (gate + 1 + size e) es) n d) (get_or es n f)) (sym is) there.stands;
      behind = omega (arith, there.behind);
    }

-- What a walk gives, the bytes hold: its frames, each behind an open gate.
pub record Walked (before es : List Entry) (rest : List ℕ) (found : List Entry) : Type 0 where
  pub all : es ≡ before ++ found
  pub split : rest ≡ opened found ++ drop (length (opened found)) rest
  pub formed : all_formed before found ≡ true
  pub more : 1 ≤ length rest → length (opened found) < length rest

walked_none : (before es : List Entry) (rest : List ℕ) → es ≡ before → Walked before es rest []
walked_none before es rest is = record { all = is ∙ sym (append-nil before); split = refl; formed = refl; more = λ some. some }

walked_one : (before es : List Entry) (gate : ℕ) (rest : List ℕ) (e : Entry) (found : List Entry)
    → gate ≡ 1 → IsTaken before rest e → Walked (before ++ e ∷ []) es (drop (size e) rest) found
    → Walked before es (gate ∷ rest) (e ∷ found)
walked_one before es gate rest e found one t w = record {
  all = w.all ∙ append_assoc before (e ∷ []) found;
  split = (λ i. one i ∷ (t.is ∙ ap (λ (l : List ℕ). text e ++ l) (w.split ∙ ap (λ (l : List ℕ). opened found ++ l) behind) ∙ sym (append_assoc (text e) (opened found) _)) i);
  formed = and_from _ _ t.formed w.formed;
  more = λ _. omega (arith, w.more (omega (arith, length-drop (size e) rest, t.room)), length-drop (size e) rest, t.room, length-append (text e) (opened found), length-text e);
}
  where
    behind : drop (length (opened found)) (drop (size e) rest) ≡ drop (length (text e ++ opened found)) rest
    behind = drop-drop (length (opened found)) (size e) rest ∙ ap (λ (n : ℕ). drop n rest) (omega (arith, length-append (text e) (opened found), length-text e))

walk_was : (bytes : List ℕ) (skip at : ℕ) (before es : List Entry) → AreBytes bytes
    → walk before at skip bytes ≡ Ok es
    → (found : List Entry) × Walked before es (drop skip bytes) found
walk_was [] zero at before es fits e = ([], walked_none before es [] cc)
walk_was [] (suc skip) at before es fits e = ([], walked_none before es [] cc)
walk_was (x ∷ rest) (suc skip) at before es fits e = walk_was rest skip (at + 1) before es (λ i. fits (suc i)) e
walk_was (gate ∷ rest) zero at before es fits e = elim (cases_eq gate 1) [
  | inr shut ↦ let same = sym (walk_closed before at gate rest shut) ∙ e in ([], walked_none before es (gate ∷ rest) cc)
  | inl one ↦
      (elim (frame_at before rest) as (λ (o : Option Entry). frame_at before rest ≡ o → (found : List Entry) × Walked before es (gate ∷ rest) found) [
        | None ↦ λ none. let bad = sym (ap (λ (g : ℕ). walk before at 0 (g ∷ rest)) one ∙ walk_damaged before at rest none) ∙ e in absurd cc
        | Some f ↦ λ there.
            let step = sym (ap (λ (g : ℕ). walk before at 0 (g ∷ rest)) one ∙ walk_found before at rest f there) ∙ e in
            let (found, w) = walk_was rest (size f) (at + 1) (before ++ f ∷ []) es (λ i. fits (suc i)) step in
            (f ∷ found, walked_one before es gate rest f found one (taken before rest f (λ i. fits (suc i)) there) w)
      ]) refl
]

-- bytes that read as a store, of more than nine bytes, hold its frames
pub record Read (bytes : List ℕ) (es : List Entry) : Type 0 where
  pub split : bytes ≡ magic ++ (opened es ++ drop (length (opened es)) (drop 8 bytes))
  pub formed : all_formed [] es ≡ true
  pub more : length (opened es) < length (drop 8 bytes)

pub read_was : (bytes : List ℕ) (es : List Entry) → AreBytes bytes → 9 < length bytes
    → reading bytes ≡ Ok es → Read bytes es
read_was bytes es fits long is = elim (cases_Bool (bytes_eq (take 8 bytes) magic)) [
  | inr bad ↦ let none = no_magic bytes long bad in absurd (cc (none, is))
  | inl good ↦
      let front : take 8 bytes ≡ magic = (bytes_eq-Decides (take 8 bytes) magic).0 good in
      let split : bytes ≡ magic ++ drop 8 bytes = sym (take-append-drop 8 bytes) ∙ ap (λ (l : List ℕ). l ++ drop 8 bytes) front in
      let (found, w) = walk_was (drop 8 bytes) 0 8 [] es (AreBytes-drop 8 bytes fits) (sym (magic_read bytes (drop 8 bytes) long split) ∙ is) in
      let same : es ≡ found = w.all in
      subst (Read bytes) (sym same) (record {
        split = split ∙ ap (λ (l : List ℕ). magic ++ l) w.split;
        formed = w.formed;
        more = w.more (omega (arith, length-drop 8 bytes));
      })
]

seats_take : (es : List Entry) (gate m n : ℕ) (d : Seat) → n < m
    → get_or (seats_from gate (take m es)) n d ≡ get_or (seats_from gate es) n d
seats_take [] gate zero n d lt = refl
seats_take [] gate (suc m) n d lt = refl
seats_take (e ∷ es) gate zero n d lt = absurd (omega arith)
seats_take (e ∷ es) gate (suc m) zero d lt = refl
seats_take (e ∷ es) gate (suc m) (suc n) d lt = seats_take es (gate + 1 + size e) m n d (omega arith)

-- the bytes of a log with frames begin with the text of the frames
pub record Told (bytes : List ℕ) (es : List Entry) : Type 0 where
  pub rest : List ℕ
  pub is : bytes ≡ text_of es ++ rest
  pub more : 1 ≤ length rest

pub told_text : (bytes : List ℕ) (mark : LogMark) → AreBytes bytes → Front bytes mark
    → 0 < length (frames_of bytes) → Told bytes (frames_of bytes)
told_text bytes mark fits f some = elim (cases_lt 9 (length bytes)) [
  | inl long ↦
      let es = frames_of bytes in
      let r = read_was bytes es fits long f.read in
      record {
        rest = drop (length (opened es)) (drop 8 bytes);
        is = r.split;
        more = omega (arith, r.more, length-drop (length (opened es)) (drop 8 bytes));
      }
  | inr short ↦ let none = frames_of_is bytes [] (short_read bytes short) in absurd (omega (arith, ap length none, some))
]

-- each frame that is known has its seat
pub front_seat : (bytes : List ℕ) (mark : LogMark) (n : ℕ) (d : Seat) (e : Entry) → AreBytes bytes
    → Front bytes mark → n < length mark.seats.items
    → Seated bytes GATE (get_or mark.seats.items n d) (get_or (frames_of bytes) n e)
front_seat bytes mark n d e fits f lt =
    let es = frames_of bytes in
    let t = told_text bytes mark fits f (omega (arith, lt, f.few)) in
    let at : get_or mark.seats.items n d ≡ get_or (seats_from GATE es) n d = ap (λ (l : List Seat). get_or l n d) f.index.seats ∙ seats_take es GATE (length mark.seats.items) n d lt in
    let there = seats_at es GATE n magic t.rest d e refl t.more (omega (arith, lt, f.few)) in
    subst (λ (s : Seat). Seated bytes GATE s (get_or es n e)) (sym at) (subst (λ (l : List ℕ). Seated l GATE (get_or (seats_from GATE es) n d) (get_or es n e)) (sym t.is) there)

-- what a whole log knows
pub kept_front : {bytes : List ℕ} {images : List ℕ → Type 0} {mark : LogMark}
    → Kept bytes images mark → Front bytes mark
kept_front {bytes} {images} {mark} kept =
    let count : length mark.seats.items ≡ length (frames_of bytes) = ap length kept.index.seats ∙ length-seats_from (frames_of bytes) GATE in
    record {
      read = kept.read;
      few = omega (arith, count);
      index = subst (λ (l : List Entry). IsIndexOf mark l) (sym (take_all (length mark.seats.items) (frames_of bytes) (omega (arith, count)))) kept.index;
    }

-- the first of its frames are known
pub front_of : (bytes : List ℕ) (mark : LogMark) (es more : List Entry) → IsIndexOf mark es
    → reading bytes ≡ Ok (es ++ more) → Front bytes mark
front_of bytes mark es more index is =
    let same : frames_of bytes ≡ es ++ more = frames_of_is bytes (es ++ more) is in
    let count : length mark.seats.items ≡ length es = ap length index.seats ∙ length-seats_from es GATE in
    record {
      read = is ∙ ap (λ (l : List Entry). Ok l) (sym same);
      few = omega (arith, count, ap length same, length-append es more);
      index = subst (λ (l : List Entry). IsIndexOf mark l) (sym (take_at es more (length mark.seats.items) (sym count)) ∙ ap (take (length mark.seats.items)) (sym same)) index;
    }

pub failed_front_all : (bytes : List ℕ) (mark : LogMark) (es all : List Entry) → IsIndexOf mark es
    → IsBeforeOrAll es all bytes → Front bytes mark
failed_front_all bytes mark es all index (inl is) = front_of bytes mark es [] index (is ∙ ap (λ (l : List Entry). Ok l) (sym (append-nil es)))
failed_front_all bytes mark es all index (inr is) = front_of bytes mark es all index is

-- it has its seat in the text of the frames too
text_seat : (bytes : List ℕ) (mark : LogMark) (n : ℕ) (d : Seat) (e : Entry) → Front bytes mark
    → n < length mark.seats.items → IsAt (frames_of bytes) n e
    → Seated (text_of (frames_of bytes) ++ 0 ∷ []) GATE (get_or mark.seats.items n d) e
text_seat bytes mark n d e f lt at =
    let es = frames_of bytes in
    let same : get_or mark.seats.items n d ≡ get_or (seats_from GATE es) n d = ap (λ (l : List Seat). get_or l n d) f.index.seats ∙ seats_take es GATE (length mark.seats.items) n d lt in
    subst (λ (x : Entry). Seated (text_of es ++ 0 ∷ []) GATE (get_or mark.seats.items n d) x) (sym at.1) (subst (λ (s : Seat). Seated (text_of es ++ 0 ∷ []) GATE s (get_or es n e)) (sym same) (seats_at es GATE n magic (0 ∷ []) d e refl (omega arith) at.0))

-- which is shorter than the bytes
text_few : (bytes : List ℕ) (mark : LogMark) (n : ℕ) (e : Entry) → AreBytes bytes
    → length bytes < 2 ^ 63 → Front bytes mark → IsAt (frames_of bytes) n e
    → length (text_of (frames_of bytes) ++ 0 ∷ []) < 2 ^ 63
text_few bytes mark n e fits few f at =
    let t = told_text bytes mark fits f (omega (arith, at.0)) in
    omega (arith, few, ap length t.is, t.more, length-append (text_of (frames_of bytes)) t.rest, length-append (text_of (frames_of bytes)) (0 ∷ []))

span_of_key : (text : List ℕ) (seat : Seat) (e : Entry) → Seated (text ++ 0 ∷ []) GATE seat e
    → length (text ++ 0 ∷ []) < 2 ^ 63 → IsSpanOf text (key_span seat) e.key
span_of_key text seat e x few =
    let at = key_at (text ++ 0 ∷ []) seat e x.stands few in
    let len : seat.key_len ≡ length e.key = ap (λ (s : Seat). s.key_len) x.stands.is in
    let inside : (key_span seat).at + seat.key_len ≤ length text = omega (arith, at, len, x.stands.room, length-append text (0 ∷ [])) in
    record {
      within = record { behind = omega (arith, at, x.behind); inside = inside };
      len = len;
      shows = sym (shown_front (text ++ 0 ∷ []) text (0 ∷ []) (key_span seat).at seat.key_len refl inside) ∙ key_shown (text ++ 0 ∷ []) seat e x.stands few;
    }

span_of_value : (text : List ℕ) (seat : Seat) (e : Entry) → Seated (text ++ 0 ∷ []) GATE seat e
    → length (text ++ 0 ∷ []) < 2 ^ 63 → IsSpanOf text (value_span seat) e.value
span_of_value text seat e x few =
    let at = value_at (text ++ 0 ∷ []) seat e x.stands few in
    let len : seat.value_len ≡ length e.value = ap (λ (s : Seat). s.value_len) x.stands.is in
    let inside : (value_span seat).at + seat.value_len ≤ length text = omega (arith, at, len, x.stands.room, length-append text (0 ∷ [])) in
    record {
      within = record { behind = omega (arith, at, x.behind); inside = inside };
      len = len;
      shows = sym (shown_front (text ++ 0 ∷ []) text (0 ∷ []) (value_span seat).at seat.value_len refl inside) ∙ value_shown (text ++ 0 ∷ []) seat e x.stands few;
    }

-- what the seats of a log tell of a frame
module _ (bytes : List ℕ) (mark : LogMark) (n : ℕ) (seat : Seat) (e : Entry) (fits : AreBytes bytes) (few : length bytes < 2 ^ 63) (f : Front bytes mark) (lt : n < length mark.seats.items) (at : IsAt (frames_of bytes) n e) (is : seat ≡ get_or mark.seats.items n seat) where
  seated : Seated (text_of (frames_of bytes) ++ 0 ∷ []) GATE seat e
  seated = subst (λ (s : Seat). Seated (text_of (frames_of bytes) ++ 0 ∷ []) GATE s e) (sym is) (text_seat bytes mark n seat e f lt at)

  pub kind_told : seat.kind ≡ e.kind
  kind_told = ap (λ (s : Seat). s.kind) seated.stands.is

  pub key_told : IsSpanOf (text_of (frames_of bytes)) (key_span seat) e.key
  key_told = span_of_key (text_of (frames_of bytes)) seat e seated (text_few bytes mark n e fits few f at)

  pub value_told : IsSpanOf (text_of (frames_of bytes)) (value_span seat) e.value
  value_told = span_of_value (text_of (frames_of bytes)) seat e seated (text_few bytes mark n e fits few f at)

-- and where a known frame has its seat in the bytes
pub seat_known : (bytes : List ℕ) (mark : LogMark) (n : ℕ) (seat : Seat) (e : Entry)
    → AreBytes bytes → Front bytes mark → n < length mark.seats.items
    → seat ≡ get_or mark.seats.items n seat → IsSeatOf bytes seat (get_or (frames_of bytes) n e)
seat_known bytes mark n seat e fits f lt is = subst (λ (s : Seat). IsSeatOf bytes s (get_or (frames_of bytes) n e)) (sym is) (front_seat bytes mark n seat e fits f lt).stands

-- a range of the text
some_frames : (es : List Entry) (at n : ℕ) → IsWithin (text_of es) at n → 0 < length es
some_frames [] at n x = absurd (omega (arith, x.behind, x.inside))
some_frames (e ∷ es) at n x = omega arith

pub within_told : (bytes : List ℕ) (mark : LogMark) (at n : ℕ) → AreBytes bytes → Front bytes mark
    → IsWithin (text_of (frames_of bytes)) at n → Told bytes (frames_of bytes)
within_told bytes mark at n fits f x = told_text bytes mark fits f (some_frames (frames_of bytes) at n x)

pub within_room : (bytes : List ℕ) (es : List Entry) (at n : ℕ) → Told bytes es
    → IsWithin (text_of es) at n → at + n ≤ length bytes
within_room bytes es at n t x = omega (arith, x.inside, ap length t.is, length-append (text_of es) t.rest)

pub within_shown : (bytes : List ℕ) (es : List Entry) (at n : ℕ) → Told bytes es
    → IsWithin (text_of es) at n → take n (drop at bytes) ≡ take n (drop at (text_of es))
within_shown bytes es at n t x = shown_front bytes (text_of es) t.rest at n t.is x.inside

-- a mark of no frames is one of any
pub mark_none : (mark : LogMark) → mark.seats.items ≡ [] → mark.end ≡ GATE → mark.contents ≡ 0
    → mark.generation ≡ 0 → (fs : List Entry) → IsMarkOf mark fs
mark_none mark seats end contents generation fs = subst (λ (n : ℕ). IsIndexOf mark (take n fs)) (sym (ap length seats)) (index_none mark seats end contents generation)

formed_front : (xs before ys : List Entry) → all_formed before (xs ++ ys) ≡ true
    → all_formed before xs ≡ true
formed_front [] before ys formed = refl
formed_front (x ∷ xs) before ys formed = let p = and_parts _ _ formed in and_from _ _ p.0 (formed_front xs (before ++ x ∷ []) ys p.1)

-- a mark of the first frames of bytes is an index of them
pub record Marked (bytes : List ℕ) (mark : LogMark) : Type 0 where
  pub es : List Entry
  pub index : IsIndex bytes es mark
  pub inside : mark.end < length bytes

marked_by : (bytes : List ℕ) (mark : LogMark) (es : List Entry) (rest : List ℕ)
    → bytes ≡ magic ++ (opened es ++ rest) → 1 ≤ length rest → all_formed [] es ≡ true
    → IsIndexOf mark es → Marked bytes mark
marked_by bytes mark es rest is more formed x = record {
  es = es;
  index = record {
    split = is ∙ ap (λ (l : List ℕ). magic ++ (opened es ++ l)) (sym (ap (drop mark.end) is ∙ drop_at (magic ++ opened es) rest mark.end (omega (arith, x.end))));
    formed = formed;
    index = x;
  };
  inside = omega (arith, x.end, ap length is, length-append (opened es) rest, more);
}

no_entries : List Entry
no_entries = []

none_taken : (n : ℕ) → take n no_entries ≡ no_entries
unfolding no_entries
none_taken zero = refl
none_taken (suc n) = refl

pub marked_index : (bytes : List ℕ) (mark : LogMark) → AreBytes bytes → 9 < length bytes
    → bytes_eq (take 8 bytes) magic ≡ true → IsMarkOf mark (frames_of bytes) → Marked bytes mark
unfolding no_entries
marked_index bytes mark fits long good x =
    (elim (reading bytes) as (λ (r : Result (List Entry) Fault). reading bytes ≡ r → Marked bytes mark) [
      | Ok fs ↦ λ is.
          let n = length mark.seats.items in
          let r = read_was bytes fs fits long is in
          let here : frames_of bytes ≡ fs = frames_of_is bytes fs is in
          let index = subst (λ (l : List Entry). IsIndexOf mark (take n l)) here x in
          let parts = sym (take-append-drop n fs) in
          let rest = opened (drop n fs) ++ drop (length (opened fs)) (drop 8 bytes) in
          let both : opened fs ≡ opened (take n fs) ++ opened (drop n fs) = ap opened parts ∙ opened_append (take n fs) (drop n fs) in
          let split = r.split ∙ ap (λ (l : List ℕ). magic ++ (l ++ drop (length (opened fs)) (drop 8 bytes))) both ∙ ap (λ (l : List ℕ). magic ++ l) (append_assoc (opened (take n fs)) (opened (drop n fs)) (drop (length (opened fs)) (drop 8 bytes))) in
          let more : 1 ≤ length rest = omega (arith, r.more, length-drop (length (opened fs)) (drop 8 bytes), length-append (opened (drop n fs)) (drop (length (opened fs)) (drop 8 bytes))) in
          marked_by bytes mark (take n fs) rest split more (formed_front (take n fs) [] (drop n fs) (ap (all_formed []) (sym parts) ∙ r.formed)) index
      | Err f ↦ λ is.
          let n = length mark.seats.items in
          let none : frames_of bytes ≡ [] = frames_of_err bytes f is in
          let index = subst (λ (l : List Entry). IsIndexOf mark l) (none_taken n) (subst (λ (l : List Entry). IsIndexOf mark (take n l)) none x) in
          marked_by bytes mark [] (drop 8 bytes) (magic_front bytes good) (omega (arith, long, length-drop 8 bytes)) refl index
    ]) refl
