use Rattle.std.proofs.Common.{rules, true, false, ◌≡◌, ◌+◌, List, ℕ, [], ◌∷◌, ◌++◌, get_or, drop, Some, None, sym, ◌∙◌, ap, subst, arith}
use Rattle.std.proofs.lemmas.Bool.{false≢true}
use Rattle.store_dev.specs.Device.{OnlyReads}
use Rattle.store_dev.specs.Moments.{reads_both}
use Rattle.record_log.specs.declared.seat.Seat.{Seat}
use Rattle.record_log.specs.Kinds.{told, frame_at, value_fits, blobs, contents_after}
use Rattle.record_log.specs.Seats.{seat_of, seat_size, IsSeatOf, IsLaid}
use Rattle.record_log.specs.Frames.{frames_of}
use Rattle.record_log.specs.Window.{Shows}
use Rattle.record_log.proofs.Heads.{size_head, laid_found, laid_none, from_none}
use Rattle.record_log.proofs.Rest.{at_rest_read}
use Rattle.record_log.proofs.Appending.{frames_of_is}
use Rattle.record_log.proofs.Going.{stop, broken, step}
use Rattle.record_log.proofs.scan.index_of.Goals as goal

-- three calls that only read, behind others
module _ {D : Type 0} (content : D → List ℕ) (images : D → List ℕ → Type 0) (moment : D → ℕ) (images_since : D → ℕ → List ℕ → Type 0) where
  all_read : (a b d e f : D) → OnlyReads content images moment images_since a b
      → OnlyReads content images moment images_since b d
      → OnlyReads content images moment images_since d e
      → OnlyReads content images moment images_since e f
      → OnlyReads content images moment images_since a f
  all_read a b d e f p q r s = reads_both content images moment images_since a e f (reads_both content images moment images_since a d e (reads_both content images moment images_since a b d p q) r) s

pub returns-in_default-clause-fault : goal.returns-in_default-clause-fault
returns-in_default-clause-fault g c told =
    let bytes = g.S.StoreDevice.content c.args.device.now in
    let (es, index) = c.loop-window.invariant.index told in
    let same : g.S.StoreDevice.content c.loop-window.device ≡ bytes = c.loop-window.invariant.reads.same in
    let is_open : get_or bytes c.loop-window.mark.end 0 ≡ 1 = ap (λ (l : List ℕ). get_or l c.loop-window.mark.end 0) (sym same) ∙ (c.in_ok-is_open.ensures.value told).0 c.if-branch.true in
    let shows : Shows bytes c.is_open.new.self = subst (λ (l : List ℕ). Shows l c.is_open.new.self) same (c.in_ok-is_open.ensures.shows told) in
    let none = from_none c.seat_behind.result _ c.seat_behind.ensures.none c.in_default.not-Some es bytes shows (c.requires.len told) in
    broken bytes es c.loop-window.mark (omega (arith, c.requires.long, c.requires.len told)) (omega (arith, c.loop-window.invariant.inside, c.requires.len told)) index is_open none

pub returns-then-not-branch-clause-fault : goal.returns-then-not-branch-clause-fault
returns-then-not-branch-clause-fault g c is_told =
    let bytes = g.S.StoreDevice.content c.args.device.now in
    let seat = c.in-Some.seat in
    let (es, index) = c.loop-window.invariant.index is_told in
    let same : g.S.StoreDevice.content c.loop-window.device ≡ bytes = c.loop-window.invariant.reads.same in
    let is_open : get_or bytes c.loop-window.mark.end 0 ≡ 1 = ap (λ (l : List ℕ). get_or l c.loop-window.mark.end 0) (sym same) ∙ (c.in_ok-is_open.ensures.value is_told).0 c.if-branch.true in
    let shows : Shows bytes c.is_open.new.self = subst (λ (l : List ℕ). Shows l c.is_open.new.self) same (c.in_ok-is_open.ensures.shows is_told) in
    let laid : IsLaid bytes seat = c.in-Some.ensures.some bytes shows (c.requires.len is_told) in
    let e = told (drop seat.at bytes) in
    let there = subst (λ (l : List ℕ). IsSeatOf l seat e) (sym (c.is_open.ensures.reads.same ∙ same)) laid.stands in
    let bad : value_fits (blobs es) e.kind e.value ≡ false = ap (λ (n : ℕ). value_fits n e.kind e.value) (sym index.index.contents) ∙ sym (c.in_ok-is_formed.ensures.value is_told e there) ∙ c.if-not-branch.true in
    let none = subst (λ (n : ℕ). frame_at es (drop n bytes) ≡ None) c.in-Some.ensures.place (laid_none bytes es seat bad) in
    broken bytes es c.loop-window.mark (omega (arith, c.requires.long, c.requires.len is_told)) (omega (arith, c.loop-window.invariant.inside, c.requires.len is_told)) index is_open none

pub loop-window-preserved : goal.loop-window-preserved
loop-window-preserved g c = record {
  inside = omega (arith, c.in-Some.ensures.inside, c.in_ok-push.ensures.end);
  index = λ is_told.
      let bytes = g.S.StoreDevice.content c.args.device.now in
      let seat = c.in-Some.seat in
      let mark = c.loop-window.mark in
      let (es, index) = c.loop-window.invariant.index is_told in
      let same : g.S.StoreDevice.content c.loop-window.device ≡ bytes = c.loop-window.invariant.reads.same in
      let is_open : get_or bytes mark.end 0 ≡ 1 = ap (λ (l : List ℕ). get_or l mark.end 0) (sym same) ∙ (c.in_ok-is_open.ensures.value is_told).0 c.if-branch.true in
      let shows : Shows bytes c.is_open.new.self = subst (λ (l : List ℕ). Shows l c.is_open.new.self) same (c.in_ok-is_open.ensures.shows is_told) in
      let laid : IsLaid bytes seat = c.in-Some.ensures.some bytes shows (c.requires.len is_told) in
      let e = told (drop seat.at bytes) in
      let there = subst (λ (l : List ℕ). IsSeatOf l seat e) (sym (c.is_open.ensures.reads.same ∙ same)) laid.stands in
      let there_2 = subst (λ (l : List ℕ). IsSeatOf l seat e) (sym (c.is_formed.ensures.reads.same ∙ c.is_open.ensures.reads.same ∙ same)) laid.stands in
      let good : value_fits (blobs es) e.kind e.value ≡ true = ap (λ (n : ℕ). value_fits n e.kind e.value) (sym index.index.contents) ∙ sym (c.in_ok-is_formed.ensures.value is_told e there) ∙ c.if-not-branch.false in
      let found = subst (λ (n : ℕ). frame_at es (drop n bytes) ≡ Some e) c.in-Some.ensures.place (laid_found bytes es seat laid good) in
      let is : seat ≡ seat_of (mark.end + 1) e = laid.stands.is ∙ ap (λ (n : ℕ). seat_of n e) c.in-Some.ensures.place in
      let seats = c.in_ok-push.ensures.seats ∙ ap (λ (s : Seat). mark.seats.items ++ s ∷ []) is in
      let end = c.in_ok-push.ensures.end ∙ ap (λ (n : ℕ). mark.end + (1 + n)) (ap seat_size is ∙ sym (size_head e)) in
      let contents = c.in_ok-push.ensures.contents ∙ ap (λ (s : Seat). contents_after mark.contents s.kind) is in
      let generation = c.in_ok-push.ensures.generation ∙ c.in_ok-generation.ensures.value is_told e there_2 in
      (es ++ e ∷ [], step bytes es mark c.push.new.self e (g.met.S.StoreDevice.are_bytes c.args.device.now is_told) (omega (arith, c.loop-window.invariant.inside, c.requires.len is_told)) index is_open found seats end contents generation);
  shows = λ is_told. subst (λ (l : List ℕ). Shows l c.is_open.new.self) c.loop-window.invariant.reads.same (c.in_ok-is_open.ensures.shows is_told);
  reads = all_read g.S.StoreDevice.content g.S.StoreDevice.images g.S.StoreDevice.moment g.S.StoreDevice.images_since c.args.device.now c.loop-window.device c.is_open.new.device c.is_formed.new.device c.generation_behind.new.device c.loop-window.invariant.reads c.is_open.ensures.reads c.is_formed.ensures.reads c.generation_behind.ensures.reads;
  faults = search rules;
}

pub returns-clause-found : goal.returns-clause-found
returns-clause-found g c told =
    let bytes = g.S.StoreDevice.content c.args.device.now in
    let (es, index) = c.loop-window.invariant.index told in
    let same : g.S.StoreDevice.content c.loop-window.device ≡ bytes = c.loop-window.invariant.reads.same in
    let shut = λ (one : get_or bytes c.loop-window.mark.end 0 ≡ 1). let yes : c.in_ok-is_open.field-0 ≡ true = (c.in_ok-is_open.ensures.value told).1 (ap (λ (l : List ℕ). get_or l c.loop-window.mark.end 0) same ∙ one) in false≢true (sym c.if-branch.false ∙ yes) in
    let rest = stop index (omega (arith, c.loop-window.invariant.inside, c.requires.len told)) shut in
    let is : frames_of bytes ≡ es = frames_of_is bytes es (at_rest_read rest) in
    rw (is) (rest, index.index)
