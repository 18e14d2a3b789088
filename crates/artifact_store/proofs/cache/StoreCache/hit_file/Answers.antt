use Rattle.std.proofs.Common.{◌≡◌, List, get_or, sym, ◌∙◌, ap}
use Rattle.std.proofs.lemmas.Result.{IfOk-weaker}
use Rattle.cache_api.specs.declared.hit.HitFile.{HitFile}
use Rattle.cache_api.specs.Hits.{bytes_at}
use Rattle.record_log.specs.Frames.{text_of}
use Rattle.artifact_reader.specs.Parts.{shown}
use Rattle.artifact_store.specs.Store.{device_of, frames_of, shows}
use Rattle.artifact_store.proofs.Shown.{file_shown}
use Rattle.artifact_store.proofs.After.{cache_reads}
use Rattle.artifact_store.proofs.cache.StoreCache.hit_file.Goals as goal

pub returns-clause-reads : goal.returns-clause-reads
returns-clause-reads g c =
    cache_reads c.args.self.now c.read_at.new.self c.requires.whole (g.met.S.StoreDevice.only_now (device_of c.args.self.now)) c.read_at.ensures.reads

pub returns-clause-file : goal.returns-clause-file
returns-clause-file g c told =
    let store = c.args.self.now in
    let text = text_of (frames_of store) in
    let hit = c.args.hit.now in
    let file = c.index-as_slice-index.result in
    let at : file ≡ get_or hit.files c.args.index file =
    c.index-as_slice-index.is ∙ ap (λ (l : List HitFile). get_or l c.args.index file) c.as_slice.ensures in
    let is : shown text c.as_slice-2.result.now ≡ bytes_at (shows store hit) c.args.index =
    ap (shown text) c.as_slice-2.ensures ∙ sym (file_shown text hit c.args.index file c.requires.index at) in
    IfOk-weaker c.read_at.result (λ bytes. bytes ≡ shown text c.as_slice-2.result.now) (λ bytes. bytes ≡ bytes_at (shows store hit) c.args.index)
    (λ bytes e. e ∙ is) (c.read_at.ensures.bytes told)
