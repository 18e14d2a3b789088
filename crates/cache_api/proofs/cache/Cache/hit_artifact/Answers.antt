use Rattle.std.proofs.Common.{rules, ◌≡◌, ◌<◌, ◌∷◌, ◌++◌, [], ◌∙◌, ap, sym, arith, length, map, get_or}
use Rattle.std.proofs.lemmas.List.{map-append}
use Rattle.cache_api.specs.declared.hit.HitFile.{HitFile}
use Rattle.cache_api.specs.Artifacts.{File, Artifact}
use Rattle.cache_api.specs.Hits.{bytes_at}
use Rattle.cache_api.specs.Calls.{reads_then}
use Rattle.cache_api.proofs.SoFar.{spans_within, spans_more, paths_more, files_more}
use Rattle.cache_api.proofs.cache.Cache.hit_artifact.Goals as goal

pub returns-in_err-bytes-clause-probes : goal.returns-in_err-bytes-clause-probes
returns-in_err-bytes-clause-probes g c =
    let within : c.loop-index.index < length c.args.hit.now.files = search rules in
    omega (arith, c.loop-index.invariant.probes, c.hit_file.ensures.probes, spans_within c.args.hit.now c.loop-index.index within)

pub returns-in_err-path-clause-probes : goal.returns-in_err-path-clause-probes
returns-in_err-path-clause-probes g c =
    let within : c.loop-index.index < length c.args.hit.now.files = search rules in
    omega (arith, c.loop-index.invariant.probes, c.hit_file.ensures.probes, spans_within c.args.hit.now c.loop-index.index within)

pub returns-in_err-push-clause-probes : goal.returns-in_err-push-clause-probes
returns-in_err-push-clause-probes g c =
    let within : c.loop-index.index < length c.args.hit.now.files = search rules in
    omega (arith, c.loop-index.invariant.probes, c.hit_file.ensures.probes, spans_within c.args.hit.now c.loop-index.index within)

pub returns-in_err-push-clause-reads : goal.returns-in_err-push-clause-reads
returns-in_err-push-clause-reads g c =
    reads_then _ _ _ _ _ _ _ _ _ _ _ c.loop-index.invariant.reads c.hit_file.ensures.reads

pub loop-index-preserved : goal.loop-index-preserved
loop-index-preserved g c =
    let old = c.loop-index.invariant in
    let hit = c.args.hit.now in
    let n = c.loop-index.index in
    let within : n < length hit.files = search rules in
    let file = c.index-as_slice-index.result in
    let at : file ≡ get_or hit.files n file = search rules in
    let path : c.in_ok-path.path ≡ file.path = c.in_ok-path.ensures.value ∙ ap (λ (f : HitFile). f.path) (sym c.index-as_slice-index.is) in
    record {
      reads = reads_then _ _ _ _ _ _ _ _ _ _ _ old.reads c.hit_file.ensures.reads;
      whole = c.in_ok-bytes.ensures.whole ∙ old.whole;
      faults = c.in_ok-bytes.ensures.cause.counted ∙ old.faults;
      probes = omega (arith, old.probes, c.hit_file.ensures.probes, spans_more hit n within);
      paths = ap (map (λ (f : File). f.0)) c.in_ok-push.ensures.pushed ∙ map-append (λ (f : File). f.0) c.loop-index.files _
          ∙ (λ i. old.paths i ++ path i ∷ []) ∙ sym (paths_more hit n file within at);
      files = λ told.
          let shown = old.reads.hits.same told hit c.requires.stands in
          let read : c.in_ok-bytes.bytes ≡ bytes_at (g.Self.Cache.shows c.args.self.now hit) n =
          c.in_ok-bytes.ensures.file told ∙ ap (λ (a : Artifact). bytes_at a n) shown in
          c.in_ok-push.ensures.pushed ∙ (λ i. old.files told i ++ (path i, c.in_ok-bytes.bytes) ∷ [])
          ∙ sym (files_more hit (g.Self.Cache.shows c.args.self.now hit) n file c.in_ok-bytes.bytes (g.met.Self.Cache.paths c.args.self.now hit told c.requires.stands) within at read);
    }
