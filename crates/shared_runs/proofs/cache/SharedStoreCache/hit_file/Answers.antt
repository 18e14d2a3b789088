use Rattle.std.proofs.Common.{◌≡◌, List, get_or, refl, sym, ◌∙◌, ap}
use Rattle.std.proofs.lemmas.Result.{IfOk-weaker}
use Rattle.cache_api.specs.declared.hit.HitFile.{HitFile}
use Rattle.cache_api.specs.Hits.{bytes_at}
use Rattle.record_log.specs.Frames.{text_of}
use Rattle.artifact_reader.specs.Parts.{shown}
use Rattle.artifact_store.proofs.Shown.{file_shown}
use Rattle.shared_runs.specs.Shared.{frames_in, shows}
use Rattle.shared_runs.proofs.Calls.{sees_passed, kept_passed, passed_store, ok_read}
use Rattle.shared_runs.proofs.Ending.{some_of}
use Rattle.shared_runs.proofs.Stepping.{reads_steps}
use Rattle.shared_runs.proofs.Passed.{reads_view}
use Rattle.shared_runs.proofs.cache.SharedStoreCache.hit_file.Goals as goal

pub invariant_of-self : goal.invariant_of-self
invariant_of-self g c =
    let old = c.args.self.now in
    let (m, was) = some_of old.turns.mark c.requires.whole in
    let turn = c.read.ensures.turn in
    let stays = λ (told : g.H.Device.StoreDevice.tells). g.met.H.Shared.stays old.turns.shared told
    (old.sees told).sound in
    record {
      idle = turn.held;
      undamaged = λ told. turn.undamaged told ∙ old.undamaged told;
      below = old.below;
      sees = sees_passed old c.read.new.self m was stays turn;
      kept = kept_passed old c.read.new.self m was stays turn;
    }

pub returns-clause-reads : goal.returns-clause-reads
returns-clause-reads g c =
    let old = c.args.self.now in
    let (m, was) = some_of old.turns.mark c.requires.whole in
    let turn = c.read.ensures.turn in
    let stays = λ (told : g.H.Device.StoreDevice.tells). g.met.H.Shared.stays old.turns.shared told
    (old.sees told).sound in
    reads_view old _ m was refl turn.began turn.first c.read.ensures.room turn.grows
    turn.reads turn.ended stays

pub returns-clause-file : goal.returns-clause-file
returns-clause-file g c told =
    let old = c.args.self.now in
    let text = text_of (frames_in old) in
    let hit = c.args.hit.now in
    let file = c.index-as_slice-index.result in
    let at : file ≡ get_or hit.files c.args.index file =
    c.index-as_slice-index.is ∙ ap (λ (l : List HitFile). get_or l c.args.index file)
    c.as_slice.ensures in
    let is : shown text c.as_slice-2.result.now ≡ bytes_at (shows old hit) c.args.index =
    ap (shown text) c.as_slice-2.ensures ∙ sym
    (file_shown text hit c.args.index file c.requires.index at) in
    IfOk-weaker c.read.result (λ bytes. bytes ≡ shown text c.as_slice-2.result.now)
    (λ bytes. bytes ≡ bytes_at (shows old hit) c.args.index)
    (λ bytes e. e ∙ is) (c.read.ensures.bytes told)

pub returns-clause-images : goal.returns-clause-images
returns-clause-images g c told = c.read.ensures.turn.first told

pub returns-clause-steps : goal.returns-clause-steps
returns-clause-steps g c told =
    let old = c.args.self.now in
    let (m, was) = some_of old.turns.mark c.requires.whole in
    let turn = c.read.ensures.turn in
    let stays = λ (told : g.H.Device.StoreDevice.tells).
    g.met.H.Shared.stays old.turns.shared told (old.sees told).sound in
    let new = passed_store old c.read.new.self m was stays turn in
    let reads = reads_view old new m was refl turn.began turn.first c.read.ensures.room turn.grows
    turn.reads turn.ended stays in
    reads_steps old _ m was (stays told) (λ t. ap (λ b. b t) reads.keeps.base) c.read.result
    (reads.pairs told) c.read.ensures.stays c.read.ensures.dropped
    (ok_read old c.read.new.self m was stays turn c.read.result c.read.ensures.stays told)
    (turn.first told).file
