-- Going over the frames of told bytes.
use Rattle.std.proofs.Common.{◌≡◌, ◌≢◌, ℕ, ◌+◌, ◌<◌, List, [], ◌∷◌, ◌++◌, length, get_or, drop, Some, None, Err, sym, ◌∙◌, ap, arith, length-drop}
use Rattle.std.proofs.lemmas.List.{drop_more, drop-drop}
use Rattle.codes.specs.Codes.{AreBytes}
use Rattle.codes.specs.Reading.{AreBytes-drop}
use Rattle.record_log.specs.Kinds.{Entry, size, text, frame_at, contents_after, generation_after}
use Rattle.record_log.specs.declared.mark.LogMark.{LogMark}
use Rattle.record_log.specs.Seats.{seat_of}
use Rattle.record_log.specs.Frames.{walk, opened, magic, reading, AtRest}
use Rattle.record_log.specs.Frames.Fault.{Damaged}
use Rattle.record_log.specs.Kept.{IsIndex}
use Rattle.record_log.proofs.Wide.{IsTaken, taken}
use Rattle.record_log.proofs.Walk.{walk_opened, walk_damaged}
use Rattle.record_log.proofs.Rest.{magic_read, formed_push, opened_push}
use Rattle.record_log.proofs.Appending.{index_push}

pub stop : {bytes : List ℕ} {fs : List Entry} {mark : LogMark} → IsIndex bytes fs mark
    → mark.end < length bytes → get_or bytes mark.end 0 ≢ 1 → AtRest bytes fs mark.end
stop x inside shut = record { split = x.split; place = x.index.end; inside = inside; closed = shut; formed = x.formed }

pub broken : (bytes : List ℕ) (fs : List Entry) (mark : LogMark) → 9 < length bytes
    → mark.end < length bytes → IsIndex bytes fs mark → get_or bytes mark.end 0 ≡ 1
    → frame_at fs (drop (mark.end + 1) bytes) ≡ None → reading bytes ≡ Err (Damaged (mark.end + 1))
broken bytes fs mark long inside x is_open none =
    magic_read bytes (opened fs ++ drop mark.end bytes) long x.split
    ∙ walk_opened fs [] 8 (drop mark.end bytes) x.formed (omega (arith, length-drop mark.end bytes, inside))
    ∙ (λ i. walk fs (sym x.index.end i) 0 (front i))
    ∙ walk_damaged fs mark.end (drop (mark.end + 1) bytes) none
  where
    front : drop mark.end bytes ≡ 1 ∷ drop (mark.end + 1) bytes
    front = drop_more bytes mark.end 0 inside ∙ ap (λ (g : ℕ). g ∷ drop (mark.end + 1) bytes) is_open

pub step : (bytes : List ℕ) (fs : List Entry) (mark next : LogMark) (e : Entry) → AreBytes bytes
    → mark.end < length bytes → IsIndex bytes fs mark → get_or bytes mark.end 0 ≡ 1
    → frame_at fs (drop (mark.end + 1) bytes) ≡ Some e
    → next.seats.items ≡ mark.seats.items ++ seat_of (mark.end + 1) e ∷ [] → next.end ≡ mark.end + (1 + size e) → next.contents ≡ contents_after mark.contents e.kind → next.generation ≡ generation_after mark.generation e → IsIndex bytes (fs ++ e ∷ []) next
step bytes fs mark next e fits inside x is_open found seats end contents generation = record {
  split = x.split ∙ ap (λ (l : List ℕ). magic ++ (opened fs ++ l)) front ∙ ap (λ (l : List ℕ). magic ++ l) (sym (opened_push fs e (drop next.end bytes)));
  formed = formed_push fs [] e x.formed t.formed;
  index = index_push mark next fs e x.index seats end contents generation;
}
  where
    t : IsTaken fs (drop (mark.end + 1) bytes) e
    t = taken fs (drop (mark.end + 1) bytes) e (AreBytes-drop (mark.end + 1) bytes fits) found

    behind : drop (size e) (drop (mark.end + 1) bytes) ≡ drop next.end bytes
    behind = drop-drop (size e) (mark.end + 1) bytes ∙ ap (λ (n : ℕ). drop n bytes) (omega (arith, end))

    front : drop mark.end bytes ≡ 1 ∷ (text e ++ drop next.end bytes)
    front = drop_more bytes mark.end 0 inside ∙ ap (λ (g : ℕ). g ∷ drop (mark.end + 1) bytes) is_open ∙ ap (λ (l : List ℕ). 1 ∷ l) (t.is ∙ ap (λ (l : List ℕ). text e ++ l) behind)
