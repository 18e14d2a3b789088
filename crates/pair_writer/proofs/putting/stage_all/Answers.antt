use Rattle.std.proofs.Common.{rules, Vec, Global, ℕ, ◌≡◌, ◌+◌, ◌-◌, ◌<◌, ◌≤◌, ◌^◌, List, [], ◌∷◌, ◌++◌, length, map, take, get_or, ap, sym, subst, ◌∙◌, arith}
use Rattle.std.proofs.lemmas.List.{take_all}
use Rattle.sha2.specs.Sha256.{sha256}
use Rattle.codes.specs.Codes.{Each}
use Rattle.cache_api.specs.declared.puts.NewPair.{NewPair}
use Rattle.cache_api.specs.Keys.{new_pairs}
use Rattle.cache_api.specs.Pairs.{Pair}
use Rattle.cache_api.specs.Cache.{ArePut}
use Rattle.record_log.specs.Kinds.{Entry}
use Rattle.record_log.specs.Frames.{opened, all_formed}
use Rattle.record_log.specs.Log.{device_of, frames_in}
use Rattle.blob_pool.specs.Known.{known_in}
use Rattle.blob_pool.specs.Laws.{reads_log_both, known_read, known_whole}
use Rattle.pair_frames.specs.Puts.{added, fit}
use Rattle.pair_frames.specs.Laws.{AreTexts}
use Rattle.pair_frames.proofs.Several.{several_follow, several_writable}
use Rattle.pair_writer.specs.Staged.{entries, taken}
use Rattle.pair_writer.specs.FileTexts.{file_texts}
use Rattle.pair_writer.specs.Putting.{put_of, new_pair, IsOffered}
use Rattle.pair_writer.proofs.Holding.{known_of, within_of}
use Rattle.pair_writer.proofs.Joined.{own_list}
use Rattle.pair_writer.proofs.Pairs.{taken_push}
use Rattle.pair_writer.proofs.Offers.{AreOffered, offered_next, pairs_more, texts_next, put_next, opened_short}
use Rattle.pair_writer.proofs.putting.stage_all.Goals as goal

pub loop-place-preserved : goal.loop-place-preserved
loop-place-preserved g c =
    let log = c.args.log.now in
    let mid = c.loop-place.log in
    let reads = c.loop-place.invariant.log in
    let room = c.args.room in
    let all = c.args.pairs.now in
    let n = c.loop-place.place in
    let item = c.index-pairs-place.result in
    let at : (n < length all) × (item ≡ get_or all n item) = (c.loop-place-test.true, c.index-pairs-place.is) in
    let s = c.loop-place.staged in
    let t = c.offer.new.staged in
    let done = new_pairs (take n all) in
    let pair = new_pair item in
    let puts = c.loop-place.puts in
    let put = c.in_ok-put.put in
    let more = sym (pairs_more all n item at) in
    let pushed = sym c.in_ok-push.ensures.pushed in
    let grown = c.in_ok-put.ensures.grown in
    let less : room - taken t ≤ room - taken s = omega (arith, taken_push s t grown.0 grown.1) in
    let full = put_next (room - taken s) (room - taken t) done pair puts put less c.loop-place.invariant.full c.in_ok-put.ensures.full in
    record {
      log = reads_log_both log mid c.offer.new.log reads c.in_ok-put.ensures.log;
      faults = search rules;
      fits = c.in_ok-put.ensures.fits;
      offered = λ told.
          let here = subst (λ (l : List Entry). IsOffered room l s t pair put) (known_read log mid reads) (c.in_ok-put.ensures.offered told) in
          let next = offered_next room (known_in log) s t done pair puts put (c.loop-place.invariant.offered told) here in
          subst (λ (l : List Pair). AreOffered room (known_in log) t l c.push.new.self) more
          (subst (AreOffered room (known_in log) t (done ++ pair ∷ [])) pushed next);
      texts = subst (Each AreTexts) more (texts_next done pair c.loop-place.invariant.texts c.in_ok-put.ensures.texts);
      full = subst (λ (l : List Pair). ArePut (room - taken t) l c.push.new.self) more
          (subst (ArePut (room - taken t) (done ++ pair ∷ [])) pushed full);
    }

pub returns-clause-staged : goal.returns-clause-staged
returns-clause-staged g c told =
    let all = c.args.pairs.now in
    let whole : take c.loop-place.place all ≡ all = take_all c.loop-place.place all (omega arith) in
    let fs = known_whole c.args.log.now c.requires.whole told in
    (c.loop-place.invariant.offered told).frames ∙ (λ i. added c.args.room (fs i) (new_pairs (whole i)))

pub returns-clause-puts : goal.returns-clause-puts
returns-clause-puts g c told =
    let all = c.args.pairs.now in
    let whole : take c.loop-place.place all ≡ all = take_all c.loop-place.place all (omega arith) in
    let fs = known_whole c.args.log.now c.requires.whole told in
    (c.loop-place.invariant.offered told).answers ∙ (λ i. map put_of (fit c.args.room (fs i) (new_pairs (whole i))))

pub returns-clause-sound : goal.returns-clause-sound
returns-clause-sound g c told =
    let log = c.args.log.now in
    let all = c.args.pairs.now in
    let whole : take c.loop-place.place all ≡ all = take_all c.loop-place.place all (omega arith) in
    let texts : Each AreTexts (new_pairs all) = subst (λ (l : List NewPair). Each AreTexts (new_pairs l)) whole c.loop-place.invariant.texts in
    let bytes = g.S.StoreDevice.content (device_of log) in
    let few = g.met.S.StoreDevice.few_bytes (device_of log) told in
    let short = opened_short bytes (frames_in log) log.mark.end (log.kept c.requires.whole told).rest in
    let small : length (opened (frames_in log)) + c.args.room < 2 ^ 64 = omega (arith, few, short, c.requires.room) in
    several_writable (new_pairs all) c.args.room (frames_in log) texts small

pub returns-clause-formed : goal.returns-clause-formed
returns-clause-formed g c told =
    let log = c.args.log.now in
    let all = c.args.pairs.now in
    let fs = frames_in log in
    ap (all_formed fs) (returns-clause-staged g c told)
    ∙ (several_follow (new_pairs all) c.args.room fs (returns-clause-sound g c told)).formed

pub returns-clause-known : goal.returns-clause-known
returns-clause-known g c = known_of (entries c.loop-place.staged) c.loop-place.staged.held.stand

pub returns-clause-lengths : goal.returns-clause-lengths
returns-clause-lengths g c = within_of (entries c.loop-place.staged) c.loop-place.staged.held.stand

pub offer-requires-clause-digests : goal.offer-requires-clause-digests
offer-requires-clause-digests g c =
    let all = c.args.pairs.now in
    let n = c.loop-place.place in
    let item = c.index-pairs-place.result in
    let at : (n < length all) × (item ≡ get_or all n item) = (c.loop-place-test.true, c.index-pairs-place.is) in
    c.as_slice-own.ensures.value
    ∙ own_list (λ (v : Vec (List ℕ) Global). v.items) (λ (p : NewPair). map sha256 (file_texts p)) c.in_ok-digests.digests.items all n item c.index.result.now c.in_ok-digests.ensures at c.index.ensures
