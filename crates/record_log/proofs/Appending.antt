-- What the two writes of an append leave.
use Rattle.std.proofs.Common.{◌≡◌, ℕ, suc, ◌+◌, ◌-◌, ◌^◌, ◌<◌, ◌≤◌, Bool, true, false, cond, List, [], ◌∷◌, ◌++◌, length, Ok, Err, refl, sym, ◌∙◌, ap, subst, arith, length-append}
use Rattle.std.specs.Prelude.{min, ◌==◌, if◌then◌else◌}
use Rattle.std.proofs.lemmas.Bool.{lt-ltb, and_from}
use Rattle.store_dev.specs.Device.{Only}
use Rattle.record_log.specs.declared.kind.TheConstants.{CONTENT, GATE}
use Rattle.record_log.specs.declared.seat.Seat.{Seat}
use Rattle.record_log.specs.declared.mark.LogMark.{LogMark}
use Rattle.record_log.specs.Kinds.{Entry, limit_of, has_form, form, blobs_in, blobs, contents_after, generation_after, generation_from, generation_of, size, text}
use Rattle.record_log.specs.Seats.{seat_of, seats_from}
use Rattle.record_log.specs.Frames.{Fault, opened, reading, frames_of, AtRest}
use Rattle.record_log.specs.Kept.{Kept, IsIndexOf}
use Rattle.record_log.specs.Texts.{length-text}
use Rattle.record_log.proofs.Rest.{at_rest_read, opened_push}

pub frames_of_is : (bytes : List ℕ) (fs : List Entry) → reading bytes ≡ Ok fs
    → frames_of bytes ≡ fs
unfolding frames_of
frames_of_is bytes fs is = rw (is, frames_of) refl

pub frames_of_err : (bytes : List ℕ) (f : Fault) → reading bytes ≡ Err f → frames_of bytes ≡ []
unfolding frames_of
frames_of_err bytes f is = rw (is, frames_of) refl

pub formed : (fs : List Entry) (e : Entry) → form (blobs fs) e ≡ true
    → length e.key < limit_of e.kind → length e.value < limit_of e.kind → has_form fs e ≡ true
unfolding has_form
formed fs e is short_key short_value = and_from _ _ is (and_from _ _ (lt-ltb _ _ short_key) (lt-ltb _ _ short_value))

pub seats_push : (fs : List Entry) (gate : ℕ) (e : Entry)
    → seats_from gate (fs ++ e ∷ []) ≡ seats_from gate fs ++ seat_of (gate + length (opened fs) + 1) e ∷ []
seats_push [] gate e = ap (λ (k : ℕ). seat_of k e ∷ []) (omega arith)
seats_push (f ∷ fs) gate e = ap (λ (l : List Seat). seat_of (gate + 1) f ∷ l) (seats_push fs (gate + 1 + size f) e ∙ ap (λ (k : ℕ). seats_from (gate + 1 + size f) fs ++ seat_of k e ∷ []) (omega (arith, length-append (text f) (opened fs), length-text f)))

pub length-seats_from : (fs : List Entry) (gate : ℕ) → length (seats_from gate fs) ≡ length fs
length-seats_from [] gate = refl
length-seats_from (f ∷ fs) gate = omega (arith, length-seats_from fs (gate + 1 + size f))

-- the frames of kind 2, one by one
blobs_in_push : (fs : List Entry) (e : Entry)
    → length (blobs_in (fs ++ e ∷ [])) ≡ (if e.kind == CONTENT then length (blobs_in fs) + 1 else length (blobs_in fs))
blobs_in_push [] e = elim (e.kind == CONTENT) as (λ (b : Bool). length (cond b (e ∷ []) []) ≡ cond b (0 + 1) 0) [ true ↦ refl | false ↦ refl ]
blobs_in_push (f ∷ fs) e =
    let more = blobs_in_push fs e in
    (elim (f.kind == CONTENT) as (λ (b : Bool). length (cond b (f ∷ blobs_in (fs ++ e ∷ [])) (blobs_in (fs ++ e ∷ []))) ≡ cond (e.kind == CONTENT) (length (cond b (f ∷ blobs_in fs) (blobs_in fs)) + 1) (length (cond b (f ∷ blobs_in fs) (blobs_in fs)))) [
      | true ↦ ap suc more ∙ one_more (e.kind == CONTENT) (length (blobs_in fs))
      | false ↦ more
    ])
  where
    one_more : (b : Bool) (n : ℕ) → suc (cond b (n + 1) n) ≡ cond b (suc n + 1) (suc n)
    one_more true n = omega arith
    one_more false n = refl

pub blobs_push : (fs : List Entry) (e : Entry)
    → blobs (fs ++ e ∷ []) ≡ (if e.kind == CONTENT then blobs fs + 1 else blobs fs)
unfolding blobs
blobs_push fs e = blobs_in_push fs e

-- no more than there are bytes
blobs_in_few : (fs : List Entry) → length (blobs_in fs) ≤ length (opened fs)
blobs_in_few [] = omega arith
blobs_in_few (f ∷ fs) = elim (f.kind == CONTENT) as (λ (b : Bool). length (cond b (f ∷ blobs_in fs) (blobs_in fs)) ≤ length (opened (f ∷ fs))) [
  | true ↦ omega (arith, blobs_in_few fs, length-append (text f) (opened fs))
  | false ↦ omega (arith, blobs_in_few fs, length-append (text f) (opened fs))
]

pub blobs_few : (fs : List Entry) → blobs fs ≤ length (opened fs)
unfolding blobs
blobs_few fs = blobs_in_few fs

counted : (b : Bool) (n m : ℕ) → n ≡ m → m < 2 ^ 64 - 1
    → cond b (min (n + 1) (2 ^ 64 - 1)) n ≡ cond b (m + 1) m
counted true n m is few = omega (arith, is, few)
counted false n m is few = is

generation_push : (last : ℕ) (fs : List Entry) (e : Entry)
    → generation_from last (fs ++ e ∷ []) ≡ generation_after (generation_from last fs) e
generation_push last [] e = refl
generation_push last (f ∷ fs) e = generation_push (generation_after last f) fs e

pub generation_of_push : (fs : List Entry) (e : Entry)
    → generation_of (fs ++ e ∷ []) ≡ generation_after (generation_of fs) e
unfolding generation_of
generation_of_push fs e = generation_push 0 fs e

pub length-opened_push : (fs : List Entry) (e : Entry)
    → length (opened (fs ++ e ∷ [])) ≡ length (opened fs) + (1 + size e)
length-opened_push fs e = omega (arith, length-append (opened (fs ++ e ∷ [])) [], ap length (opened_push fs e []), length-append (opened fs) (1 ∷ (text e ++ [])), length-append (text e) [], length-text e)

-- what is known of frames, of none of them and of one more
pub index_none : (mark : LogMark) → mark.seats.items ≡ [] → mark.end ≡ GATE → mark.contents ≡ 0
    → mark.generation ≡ 0 → IsIndexOf mark []
unfolding blobs generation_of
index_none mark seats end contents generation = record { seats = seats; end = end ∙ omega arith; contents = contents; generation = generation }

pub index_push : (mark next : LogMark) (fs : List Entry) (e : Entry) → IsIndexOf mark fs
    → next.seats.items ≡ mark.seats.items ++ seat_of (mark.end + 1) e ∷ []
    → next.end ≡ mark.end + (1 + size e) → next.contents ≡ contents_after mark.contents e.kind
    → next.generation ≡ generation_after mark.generation e → IsIndexOf next (fs ++ e ∷ [])
index_push mark next fs e x seats end contents generation = record {
  seats = seats ∙ (λ i. x.seats i ++ seat_of (x.end i + 1) e ∷ []) ∙ sym (seats_push fs GATE e);
  end = omega (arith, end, x.end, length-opened_push fs e);
  contents = contents ∙ counted (e.kind == CONTENT) mark.contents (blobs fs) x.contents (omega (arith, blobs_few fs, x.end, mark.small)) ∙ sym (blobs_push fs e);
  generation = generation ∙ ap (λ (n : ℕ). generation_after n e) x.generation ∙ sym (generation_of_push fs e);
}

-- a mark of the same parts says the same
pub index_same : (mark next : LogMark) (fs : List Entry) → IsIndexOf mark fs
    → next.seats.items ≡ mark.seats.items → next.end ≡ mark.end → next.contents ≡ mark.contents
    → next.generation ≡ mark.generation → IsIndexOf next fs
index_same mark next fs x seats end contents generation = record { seats = seats ∙ x.seats; end = end ∙ x.end; contents = contents ∙ x.contents; generation = generation ∙ x.generation }

-- or behind none
pub kept_same : (bytes : List ℕ) (images : List ℕ → Type 0) (mark : LogMark) (new : List ℕ) (images_new : List ℕ → Type 0) (next : LogMark)
    → Kept bytes images mark → AtRest new (frames_of bytes) next.end → Only new images_new → IsIndexOf next (frames_of bytes) → Kept new images_new next
kept_same bytes images mark new images_new next kept rest only index =
    let same : frames_of new ≡ frames_of bytes = frames_of_is new (frames_of bytes) (at_rest_read rest) in
    let rest_new = subst (λ (fs : List Entry). AtRest new fs next.end) (sym same) rest in
    record { rest = rest_new; read = at_rest_read rest_new; index = subst (λ (fs : List Entry). IsIndexOf next fs) (sym same) index; durable = only }

-- what a log keeps goes on behind new frames
pub kept_all : (bytes : List ℕ) (new : List ℕ) (images_new : List ℕ → Type 0) (next : LogMark) (all : List Entry)
    → AtRest new (frames_of bytes ++ all) next.end → Only new images_new → IsIndexOf next (frames_of bytes ++ all) → Kept new images_new next
kept_all bytes new images_new next all rest only index =
    let same : frames_of new ≡ frames_of bytes ++ all = frames_of_is new (frames_of bytes ++ all) (at_rest_read rest) in
    let rest_new = subst (λ (fs : List Entry). AtRest new fs next.end) (sym same) rest in
    record { rest = rest_new; read = at_rest_read rest_new; index = subst (λ (fs : List Entry). IsIndexOf next fs) (sym same) index; durable = only }
