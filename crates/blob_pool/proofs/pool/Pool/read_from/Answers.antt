use Rattle.std.proofs.Common.{◌≡◌, ◌≢◌, ◌<◌, ◌+◌, ◌++◌, ◌∷◌, [], List, ℕ, length, take, get_or, refl, sym, ◌∙◌, ap, subst, arith, length-append}
use Rattle.std.proofs.lemmas.List.{take_more, length-take-le}
use Rattle.record_log.specs.declared.kind.TheConstants.{CONTENT}
use Rattle.record_log.specs.Kinds.{Entry, entry}
use Rattle.record_log.specs.Frames.{IsAt}
use Rattle.record_log.specs.Log.{device_of, frames_in, count_of}
use Rattle.blob_pool.specs.Known.{IsPoolOf, OnlyReadsLog, places_in, digests_in}
use Rattle.blob_pool.specs.Laws.{pool_next, pool_stays, below_push, reads_log_none, reads_log_both, frames_read}
use Rattle.blob_pool.proofs.Keys.{entry_at}
use Rattle.blob_pool.proofs.pool.Pool.read_from.Goals as goal
use Rattle.blob_pool.proofs.pool.Pool.read_from.Goals.{then-kind_at-eq-CONTENT+in_ok-digest+in_ok-learn, else-kind_at-eq-CONTENT}

-- frames that are known up to a number, and one more
more : (fs : List Entry) (number : ℕ) (e : Entry) → IsAt fs number e → take (number + 1) fs ≡ take number fs ++ e ∷ []
more fs number e at = take_more fs number e at.0 ∙ ap (λ (x : Entry). take number fs ++ x ∷ []) (sym at.1)

pub loop-number-init : goal.loop-number-init
loop-number-init g c = record {
  log = reads_log_none c.args.log.now;
  faults = refl;
  below = λ i inside. omega (arith, c.requires.bounds.below i inside, c.requires.first);
  even = c.requires.bounds.even;
  told = c.requires.known;
}

pub loop-number-preserved : goal.loop-number-preserved
loop-number-preserved g c = elim c.if-kind_at-eq-CONTENT.branch [
  | then-kind_at-eq-CONTENT+in_ok-digest+in_ok-learn w ↦
      let log = c.args.log.now in
      let now = c.loop-number.log in
      let places : places_in c.if-kind_at-eq-CONTENT.self ≡ places_in c.loop-number.self ++ c.loop-number.number ∷ [] = ap places_in w.self-is ∙ w.in_ok-learn.ensures.places in
      let digests : digests_in c.if-kind_at-eq-CONTENT.self ≡ digests_in c.loop-number.self ++ w.in_ok-digest.digest ∷ [] = ap digests_in w.self-is ∙ w.in_ok-learn.ensures.digests in
      let lt : c.loop-number.number < count_of log = omega (arith, c.frames-number-end.ensures.count) in
      record {
        log = subst (λ l. OnlyReadsLog log l) (sym w.log-is) (reads_log_both log now w.digest_at.new.log c.loop-number.invariant.log w.in_ok-digest.ensures.log);
        faults = ap (λ l. g.S.StoreDevice.store_faults (device_of l)) w.log-is ∙ w.in_ok-digest.ensures.cause.counted ∙ c.loop-number.invariant.faults;
        below = subst (λ (l : List ℕ). (i : ℕ) → i < length l → get_or l i 0 < count_of log) (sym places)
            (below_push (places_in c.loop-number.self) (count_of log) (count_of log) c.loop-number.number c.loop-number.invariant.below (omega arith) lt);
        even = omega (arith, ap length places, ap length digests, c.loop-number.invariant.even, length-append (places_in c.loop-number.self) (c.loop-number.number ∷ []), length-append (digests_in c.loop-number.self) (w.in_ok-digest.digest ∷ []));
        told = λ told.
            let fs = frames_in log in
            let few = c.frames-number-end.ensures.few told in
            let d = entry 0 [] [] in
            let e = get_or fs c.loop-number.number d in
            let at = entry_at fs c.loop-number.number d (omega arith) in
            let same = frames_read log now c.loop-number.invariant.log in
            let there = subst (λ (l : List Entry). IsAt l c.loop-number.number e) (sym same) at in
            let kind : e.kind ≡ CONTENT = sym (c.kind_at.ensures told e there) ∙ w.if-kind_at-eq-CONTENT.true in
            let key : w.in_ok-digest.digest ≡ e.key = w.in_ok-digest.ensures.digest told e there in
            subst (IsPoolOf c.if-kind_at-eq-CONTENT.self) (sym (more fs c.loop-number.number e at))
            (pool_next c.loop-number.self c.if-kind_at-eq-CONTENT.self (take c.loop-number.number fs) e c.loop-number.number (c.loop-number.invariant.told told) kind
            (sym (length-take-le c.loop-number.number fs (omega arith))) places (digests ∙ ap (λ (l : List ℕ). digests_in c.loop-number.self ++ l ∷ []) key));
      }
  | else-kind_at-eq-CONTENT w ↦
      let log = c.args.log.now in
      let now = c.loop-number.log in
      record {
        log = subst (λ l. OnlyReadsLog log l) (sym w.log-is) c.loop-number.invariant.log;
        faults = ap (λ l. g.S.StoreDevice.store_faults (device_of l)) w.log-is ∙ c.loop-number.invariant.faults;
        below = subst (λ p. (i : ℕ) → i < length (places_in p) → get_or (places_in p) i 0 < count_of log) (sym w.self-is) c.loop-number.invariant.below;
        even = subst (λ p. length (digests_in p) ≡ length (places_in p)) (sym w.self-is) c.loop-number.invariant.even;
        told = λ told.
            let fs = frames_in log in
            let few = c.frames-number-end.ensures.few told in
            let d = entry 0 [] [] in
            let e = get_or fs c.loop-number.number d in
            let at = entry_at fs c.loop-number.number d (omega arith) in
            let same = frames_read log now c.loop-number.invariant.log in
            let there = subst (λ (l : List Entry). IsAt l c.loop-number.number e) (sym same) at in
            let kind : e.kind ≢ CONTENT = λ is. w.if-kind_at-eq-CONTENT.false (c.kind_at.ensures told e there ∙ is) in
            subst (λ p. IsPoolOf p (take (c.loop-number.number + 1) fs)) (sym w.self-is)
            (subst (IsPoolOf c.loop-number.self) (sym (more fs c.loop-number.number e at))
            (pool_stays c.loop-number.self (take c.loop-number.number fs) e (c.loop-number.invariant.told told) kind));
      }
]
