use Rattle.std.proofs.Common.{◌≡◌, ◌≢◌, ◌≤◌, ◌<◌, ℕ, List, [], ◌++◌, length, get_or, drop, refl, sym, ◌∙◌, ap, subst, arith}
use Rattle.std.specs.Prelude.{◌==◌}
use Rattle.std.proofs.lemmas.Bool.{eqb-true, eqb-false}
use Rattle.store_dev.specs.Device.{Only}
use Rattle.store_dev.specs.Moments.{reads_both}
use Rattle.record_log.specs.Frames.{magic, AtRest}
use Rattle.record_log.proofs.Rest.{stands_at_rest}
use Rattle.record_log.proofs.Opening.{written_empty, kept_empty}
use Rattle.record_log.proofs.Appending.{index_none}
use Rattle.record_log.proofs.Clearing.{sound_split, rest_closed, rest_cleared, none_of, kept_none, leaves_cleared, leaves_nine}
use Rattle.record_log.proofs.open.clear.Goals as goal

pub returns-in_err-put_synced-clause-images : goal.returns-in_err-put_synced-clause-images
returns-in_err-put_synced-clause-images g c told =
    let s = g.S.StoreDevice in
    let laws = g.met.S.StoreDevice in
    let old = c.args.device.now in
    let short : length (s.content old) ≤ 9 = omega (arith, c.in_ok-len.ensures.len told, c.if-len.true) in
    leaves_nine s.content s.images s.moment s.images_since old c.settle.new.device c.put_synced.new.device (λ f left. laws.only_now old f left) c.settle.ensures.reads (c.in_ok-len.ensures.durable told) short c.put_synced.ensures.time

pub returns-then-len-clause-images : goal.returns-then-len-clause-images
returns-then-len-clause-images g c told =
    let s = g.S.StoreDevice in
    let laws = g.met.S.StoreDevice in
    let old = c.args.device.now in
    let short : length (s.content old) ≤ 9 = omega (arith, c.in_ok-len.ensures.len told, c.if-len.true) in
    leaves_nine s.content s.images s.moment s.images_since old c.settle.new.device c.put_synced.new.device (λ f left. laws.only_now old f left) c.settle.ensures.reads (c.in_ok-len.ensures.durable told) short c.put_synced.ensures.time

pub returns-then-len-clause-kept : goal.returns-then-len-clause-kept
returns-then-len-clause-kept g c told =
    let s = g.S.StoreDevice in
    let laws = g.met.S.StoreDevice in
    let old = c.args.device.now in
    let short : length (s.content old) ≤ 9 = omega (arith, c.in_ok-len.ensures.len told, c.if-len.true) in
    let w = c.in_ok-put_synced.ensures.written told in
    let short_mid : length (s.content c.settle.new.device) ≤ 9 = omega (arith, short, ap length c.settle.ensures.reads.same) in
    let is = written_empty (s.content c.settle.new.device) (s.content c.put_synced.new.device) short_mid w.0 in
    kept_empty (s.content c.put_synced.new.device) (s.images c.put_synced.new.device) c.new.result is w.1 c.new.ensures.end (index_none c.new.result c.new.ensures.seats c.new.ensures.end c.new.ensures.contents c.new.ensures.generation)

pub returns-then-len-clause-none : goal.returns-then-len-clause-none
returns-then-len-clause-none g c told =
    let s = g.S.StoreDevice in
    let laws = g.met.S.StoreDevice in
    let old = c.args.device.now in
    let short : length (s.content old) ≤ 9 = omega (arith, c.in_ok-len.ensures.len told, c.if-len.true) in
    let w = c.in_ok-put_synced.ensures.written told in
    let short_mid : length (s.content c.settle.new.device) ≤ 9 = omega (arith, short, ap length c.settle.ensures.reads.same) in
    let is = written_empty (s.content c.settle.new.device) (s.content c.put_synced.new.device) short_mid w.0 in
    none_of (s.content c.put_synced.new.device) 8 (stands_at_rest (s.content c.put_synced.new.device) [] 8 0 [] is refl (omega arith) refl)

pub returns-then-not-branch-clause-kept : goal.returns-then-not-branch-clause-kept
returns-then-not-branch-clause-kept g c told =
    let s = g.S.StoreDevice in
    let laws = g.met.S.StoreDevice in
    let old = c.args.device.now in
    let bytes = s.content old in
    let long : 9 < length bytes = omega (arith, c.in_ok-len.ensures.len told, c.if-len.false) in
    let split = sound_split bytes (laws.are_bytes old told) long (c.requires told bytes (laws.as_it_reads old told)) in
    let dev = c.first_is_open.new.device in
    let same : s.content dev ≡ bytes = c.first_is_open.ensures.reads.same ∙ c.settle.ensures.reads.same in
    let only_old : Only bytes (s.images dev) = λ f now. c.in_ok-len.ensures.durable told f (c.first_is_open.ensures.reads.fewer f now) in
    let shut : get_or bytes 8 0 ≢ 1 = eqb-false _ _ (sym (c.in_ok-first_is_open.ensures.value told ∙ ap (λ (l : List ℕ). get_or l 8 0 == 1) c.settle.ensures.reads.same) ∙ c.if-not-branch.true) in
    let rest = subst (λ (l : List ℕ). AtRest l [] 8) (sym same) (rest_closed bytes long split shut) in
    kept_none (s.content dev) (s.images dev) c.new-then-not-branch.result c.new-then-not-branch.ensures.end rest (index_none c.new-then-not-branch.result c.new-then-not-branch.ensures.seats c.new-then-not-branch.ensures.end c.new-then-not-branch.ensures.contents c.new-then-not-branch.ensures.generation) (λ f now. only_old f now ∙ sym same)

pub returns-then-not-branch-clause-none : goal.returns-then-not-branch-clause-none
returns-then-not-branch-clause-none g c told =
    let s = g.S.StoreDevice in
    let laws = g.met.S.StoreDevice in
    let old = c.args.device.now in
    let bytes = s.content old in
    let long : 9 < length bytes = omega (arith, c.in_ok-len.ensures.len told, c.if-len.false) in
    let split = sound_split bytes (laws.are_bytes old told) long (c.requires told bytes (laws.as_it_reads old told)) in
    let dev = c.first_is_open.new.device in
    let same : s.content dev ≡ bytes = c.first_is_open.ensures.reads.same ∙ c.settle.ensures.reads.same in
    let only_old : Only bytes (s.images dev) = λ f now. c.in_ok-len.ensures.durable told f (c.first_is_open.ensures.reads.fewer f now) in
    let shut : get_or bytes 8 0 ≢ 1 = eqb-false _ _ (sym (c.in_ok-first_is_open.ensures.value told ∙ ap (λ (l : List ℕ). get_or l 8 0 == 1) c.settle.ensures.reads.same) ∙ c.if-not-branch.true) in
    let rest = subst (λ (l : List ℕ). AtRest l [] 8) (sym same) (rest_closed bytes long split shut) in
    none_of (s.content dev) 8 rest

pub returns-in_err-put_synced-2-clause-images : goal.returns-in_err-put_synced-2-clause-images
returns-in_err-put_synced-2-clause-images g c told =
    let s = g.S.StoreDevice in
    let laws = g.met.S.StoreDevice in
    let old = c.args.device.now in
    let bytes = s.content old in
    let long : 9 < length bytes = omega (arith, c.in_ok-len.ensures.len told, c.if-len.false) in
    let split = sound_split bytes (laws.are_bytes old told) long (c.requires told bytes (laws.as_it_reads old told)) in
    let dev = c.first_is_open.new.device in
    let same : s.content dev ≡ bytes = c.first_is_open.ensures.reads.same ∙ c.settle.ensures.reads.same in
    let only_old : Only bytes (s.images dev) = λ f now. c.in_ok-len.ensures.durable told f (c.first_is_open.ensures.reads.fewer f now) in
    let was : get_or bytes 8 0 ≡ 1 = eqb-true _ _ (sym (c.in_ok-first_is_open.ensures.value told ∙ ap (λ (l : List ℕ). get_or l 8 0 == 1) c.settle.ensures.reads.same) ∙ c.if-not-branch.false) in
    let reads = reads_both s.content s.images s.moment s.images_since old c.settle.new.device dev c.settle.ensures.reads c.first_is_open.ensures.reads in
    leaves_cleared s.content s.images s.moment s.images_since old dev c.put_synced-2.new.device (λ f left. laws.only_now old f left) reads only_old long split was c.put_synced-2.ensures.time

pub returns-clause-images : goal.returns-clause-images
returns-clause-images g c told =
    let s = g.S.StoreDevice in
    let laws = g.met.S.StoreDevice in
    let old = c.args.device.now in
    let bytes = s.content old in
    let long : 9 < length bytes = omega (arith, c.in_ok-len.ensures.len told, c.if-len.false) in
    let split = sound_split bytes (laws.are_bytes old told) long (c.requires told bytes (laws.as_it_reads old told)) in
    let dev = c.first_is_open.new.device in
    let same : s.content dev ≡ bytes = c.first_is_open.ensures.reads.same ∙ c.settle.ensures.reads.same in
    let only_old : Only bytes (s.images dev) = λ f now. c.in_ok-len.ensures.durable told f (c.first_is_open.ensures.reads.fewer f now) in
    let was : get_or bytes 8 0 ≡ 1 = eqb-true _ _ (sym (c.in_ok-first_is_open.ensures.value told ∙ ap (λ (l : List ℕ). get_or l 8 0 == 1) c.settle.ensures.reads.same) ∙ c.if-not-branch.false) in
    let reads = reads_both s.content s.images s.moment s.images_since old c.settle.new.device dev c.settle.ensures.reads c.first_is_open.ensures.reads in
    leaves_cleared s.content s.images s.moment s.images_since old dev c.put_synced-2.new.device (λ f left. laws.only_now old f left) reads only_old long split was c.put_synced-2.ensures.time

pub returns-clause-kept : goal.returns-clause-kept
returns-clause-kept g c told =
    let s = g.S.StoreDevice in
    let laws = g.met.S.StoreDevice in
    let old = c.args.device.now in
    let bytes = s.content old in
    let long : 9 < length bytes = omega (arith, c.in_ok-len.ensures.len told, c.if-len.false) in
    let split = sound_split bytes (laws.are_bytes old told) long (c.requires told bytes (laws.as_it_reads old told)) in
    let dev = c.first_is_open.new.device in
    let same : s.content dev ≡ bytes = c.first_is_open.ensures.reads.same ∙ c.settle.ensures.reads.same in
    let only_old : Only bytes (s.images dev) = λ f now. c.in_ok-len.ensures.durable told f (c.first_is_open.ensures.reads.fewer f now) in
    let w = c.in_ok-put_synced-2.ensures.written told in
    let split_dev = same ∙ split ∙ ap (λ (l : List ℕ). magic ++ drop 8 l) (sym same) in
    let rest = rest_cleared (s.content dev) (s.content c.put_synced-2.new.device) split_dev w.0 in
    kept_none (s.content c.put_synced-2.new.device) (s.images c.put_synced-2.new.device) c.new-2.result c.new-2.ensures.end rest (index_none c.new-2.result c.new-2.ensures.seats c.new-2.ensures.end c.new-2.ensures.contents c.new-2.ensures.generation) w.1

pub returns-clause-none : goal.returns-clause-none
returns-clause-none g c told =
    let s = g.S.StoreDevice in
    let laws = g.met.S.StoreDevice in
    let old = c.args.device.now in
    let bytes = s.content old in
    let long : 9 < length bytes = omega (arith, c.in_ok-len.ensures.len told, c.if-len.false) in
    let split = sound_split bytes (laws.are_bytes old told) long (c.requires told bytes (laws.as_it_reads old told)) in
    let dev = c.first_is_open.new.device in
    let same : s.content dev ≡ bytes = c.first_is_open.ensures.reads.same ∙ c.settle.ensures.reads.same in
    let only_old : Only bytes (s.images dev) = λ f now. c.in_ok-len.ensures.durable told f (c.first_is_open.ensures.reads.fewer f now) in
    let w = c.in_ok-put_synced-2.ensures.written told in
    let split_dev = same ∙ split ∙ ap (λ (l : List ℕ). magic ++ drop 8 l) (sym same) in
    let rest = rest_cleared (s.content dev) (s.content c.put_synced-2.new.device) split_dev w.0 in
    none_of (s.content c.put_synced-2.new.device) 8 rest
