use Rattle.std.proofs.Common.{rules, List, subst, ◌≡◌, ◌<◌, ◌∙◌, ap, sym, arith, length, get_or, [], ◌≤◌, take_all}
use Rattle.std.proofs.lemmas.List.{length-map}
use Rattle.std.specs.Prelude.{Some}
use Rattle.std.specs.List.Sorted.{IsStrictlySortedBy}
use Rattle.rel_path.specs.Paths.{path_cmp, is_among}
use Rattle.capture.specs.Kept.{paths_in}
use Rattle.cache_api.specs.declared.hit.HitFile.{HitFile}
use Rattle.cache_api.specs.Artifacts.{File, Artifact}
use Rattle.cache_api.specs.Hits.{bytes_at, paths_of as hit_paths}
use Rattle.cache_api.specs.Calls.{reads_then}
use Rattle.cache_api.proofs.SoFar.{spans_within, spans_more}
use Rattle.capture.proofs.HitFacts.{file_owned, fits_hit, hit_fits, looks_then, stands_still, IsOf, is_of}
use Rattle.capture.proofs.Owns.{outside_after, same_at}
use Rattle.capture.proofs.Puts.{over_more, over_none, over_left, all_in}
use Rattle.capture.proofs.hits.restore_hit.Goals as goal

pub returns-in_err-bytes-clause-probes : goal.returns-in_err-bytes-clause-probes
returns-in_err-bytes-clause-probes g c =
    let within : c.loop-index.index < length c.args.hit.now.files = search rules in
    omega (arith, c.loop-index.invariant.probes, c.hit_file.ensures.probes, spans_within c.args.hit.now c.loop-index.index within)

pub put-requires-clause-free : goal.put-requires-clause-free
put-requires-clause-free g c =
    let items = c.as_slice-files.result.now in
    let n = c.loop-index.index in
    let within : n < length c.args.hit.now.files = search rules in
    let file = c.index-files-index.result in
    let owned = file_owned c.args.outs.now c.args.hit.now items n file c.requires.owns c.as_slice-files.ensures within in
    ap (λ held. held (get_or items n file).path) c.loop-index.invariant.keeps.held ∙ c.requires.free (get_or items n file).path owned

pub returns-in_err-put-clause-others : goal.returns-in_err-put-clause-others
returns-in_err-put-clause-others g c told =
    let items = c.as_slice-files.result.now in
    let n = c.loop-index.index in
    let within : n < length c.args.hit.now.files = search rules in
    let file = c.index-files-index.result in
    let owned = file_owned c.args.outs.now c.args.hit.now items n file c.requires.owns c.as_slice-files.ensures within in
    outside_after c.args.outs.now (get_or items n file).path _ _ _ owned (c.loop-index.invariant.others told) (c.put.ensures.others told)

pub returns-in_err-put-clause-probes : goal.returns-in_err-put-clause-probes
returns-in_err-put-clause-probes g c =
    let within : c.loop-index.index < length c.args.hit.now.files = search rules in
    omega (arith, c.loop-index.invariant.probes, c.hit_file.ensures.probes, spans_within c.args.hit.now c.loop-index.index within)

pub clear_lacking-requires-clause-ascend : goal.clear_lacking-requires-clause-ascend
clear_lacking-requires-clause-ascend g c =
    let hit = c.args.hit.now in
    subst (λ (fs : List HitFile). IsStrictlySortedBy path_cmp (paths_in fs)) (sym c.as_slice-files.ensures)
    (hit_fits c.args.outs.now hit c.requires.ascend c.requires.owns).ascend

pub returns-in_err-listed-clause-same : goal.returns-in_err-listed-clause-same
returns-in_err-listed-clause-same g c told store is =
    let outs = c.args.outs.now in
    let hit = c.args.hit.now in
    let shown = g.C.Cache.shows c.args.cache.now hit in
    let same = g.met.C.Cache.paths c.args.cache.now hit store c.requires.stands in
    c.in_err-listed.ensures.same told (λ p owned there.
    ap (λ fs. is_among (paths_in fs) p) c.as_slice-files.ensures ∙ ap (λ ps. is_among ps p) (sym same)
    ∙ all_in outs shown.1 (g.T.Tree.state c.args.tree.now).files is p owned there)

pub loop-index-init : goal.loop-index-init
loop-index-init g c =
    let outs = c.args.outs.now in
    let hit = c.args.hit.now in
    let files = (g.T.Tree.state c.args.tree.now).files in
    let kept : paths_in c.as_slice-files.result.now ≡ hit_paths hit = ap paths_in c.as_slice-files.ensures in
    let left = c.in_ok-listed.ensures in
    record {
      reads = search rules;
      whole = search rules;
      stored = search rules;
      probes = search rules;
      keeps = left.keeps;
      faults = left.cause.counted;
      others = left.others;
      over = λ told store. over_none outs (paths_in c.as_slice-files.result.now) (hit_paths hit) files (g.T.Tree.state c.clear_lacking.new.tree).files (left.cleared told) kept;
      same = λ told store is.
          let shown = g.C.Cache.shows c.args.cache.now hit in
          let same = g.met.C.Cache.paths c.args.cache.now hit store c.requires.stands in
          left.same told (λ p owned there.
          ap (λ ps. is_among ps p) kept ∙ ap (λ ps. is_among ps p) (sym same)
          ∙ all_in outs shown.1 files is p owned there);
    }

pub returns-in_err-put-clause-same : goal.returns-in_err-put-clause-same
returns-in_err-put-clause-same g c told store is =
    let old = c.loop-index.invariant in
    let outs = c.args.outs.now in
    let hit = c.args.hit.now in
    let items = c.as_slice-files.result.now in
    let n = c.loop-index.index in
    let within : n < length hit.files = search rules in
    let file = c.index-files-index.result in
    let at : file ≡ get_or hit.files n file = search rules in
    let path = (get_or items n file).path in
    let owned = file_owned outs hit items n file c.requires.owns c.as_slice-files.ensures within in
    let shown = g.C.Cache.shows c.args.cache.now hit in
    let same = g.met.C.Cache.paths c.args.cache.now hit store c.requires.stands in
    let bytes = c.as_slice-in-loop-index.result.now in
    let holds : bytes ≡ bytes_at shown n =
    c.as_slice-in-loop-index.ensures ∙ c.in_ok-bytes.ensures.file store
    ∙ ap (λ (a : Artifact). bytes_at a n) (old.reads.hits.same store hit c.requires.stands) in
    let of = is_of hit shown n file path bytes same c.requires.ascend within at (ap (λ (f : HitFile). f.path) (sym c.index-files-index.is)) holds in
    let looks = old.same told store is in
    let still = stands_still g.T.Tree.tells outs (g.T.Tree.state c.args.tree.now).files (g.T.Tree.state c.loop-index.tree).files
    c.in_ok-listed.listed shown.1 n path bytes told c.in_ok-listed.ensures.lists looks.files owned of is in
    looks_then _ _ _ looks (c.put.ensures.same told (ap (λ ps. is_among ps path) c.as_slice.ensures ∙ still.there) still.so)

pub loop-index-preserved : goal.loop-index-preserved
loop-index-preserved g c =
    let old = c.loop-index.invariant in
    let more = c.in_ok-put.ensures in
    let outs = c.args.outs.now in
    let hit = c.args.hit.now in
    let items = c.as_slice-files.result.now in
    let n = c.loop-index.index in
    let within : n < length hit.files = search rules in
    let file = c.index-files-index.result in
    let at : file ≡ get_or hit.files n file = search rules in
    let path = (get_or items n file).path in
    let owned = file_owned outs hit items n file c.requires.owns c.as_slice-files.ensures within in
    let shown = g.C.Cache.shows c.args.cache.now hit in
    let bytes = c.as_slice-in-loop-index.result.now in
    let placed : g.C.Cache.tells → IsOf shown.1 n path bytes = λ store.
    is_of hit shown n file path bytes (g.met.C.Cache.paths c.args.cache.now hit store c.requires.stands) c.requires.ascend within at
    (ap (λ (f : HitFile). f.path) (sym c.index-files-index.is))
    (c.as_slice-in-loop-index.ensures ∙ c.in_ok-bytes.ensures.file store
    ∙ ap (λ (a : Artifact). bytes_at a n) (old.reads.hits.same store hit c.requires.stands)) in
    record {
      reads = reads_then _ _ _ _ _ _ _ _ _ _ _ old.reads c.hit_file.ensures.reads;
      whole = c.in_ok-bytes.ensures.whole ∙ old.whole;
      stored = c.in_ok-bytes.ensures.cause.counted ∙ old.stored;
      probes = omega (arith, old.probes, c.hit_file.ensures.probes, spans_more hit n within);
      keeps = record { rest = more.keeps.rest ∙ old.keeps.rest; held = more.keeps.held ∙ old.keeps.held; faults = omega (arith, more.keeps.faults, old.keeps.faults) };
      faults = more.cause.counted ∙ old.faults;
      others = λ told. outside_after outs path _ _ _ owned (old.others told) (more.others told);
      over = λ told store.
          let of = placed store in
          over_more shown.1 n ([], []) _ _ _ of.ascend of.within (old.over told store)
          (same_at path _ _ _ of.here (more.others told))
          (ap (g.T.Tree.state c.put.new.tree).files (sym of.here) ∙ more.written told ∙ ap Some of.holds);
      same = λ told store is.
          let looks = old.same told store is in
          let still = stands_still g.T.Tree.tells outs (g.T.Tree.state c.args.tree.now).files (g.T.Tree.state c.loop-index.tree).files
          c.in_ok-listed.listed shown.1 n path bytes told c.in_ok-listed.ensures.lists looks.files owned (placed store) is in
          looks_then _ _ _ looks (more.same told (ap (λ ps. is_among ps path) c.as_slice.ensures ∙ still.there) still.so);
    }

pub returns-clause-restored : goal.returns-clause-restored
returns-clause-restored g c told store =
    let outs = c.args.outs.now in
    let hit = c.args.hit.now in
    let shown = g.C.Cache.shows c.args.cache.now hit in
    let same = g.met.C.Cache.paths c.args.cache.now hit store c.requires.stands in
    let fits = fits_hit outs hit shown.1 same c.requires.ascend c.requires.owns in
    let n = c.loop-index.index in
    let ended : length hit.files ≤ n = search rules in
    let all : length shown.1 ≤ n = omega (arith, ended, length-map shown.1 (λ (f : File). f.0), ap length same, length-map hit.files (λ (f : HitFile). f.path)) in
    over_left outs shown.1 (hit_paths hit) (g.T.Tree.state c.args.tree.now).files (g.T.Tree.state c.loop-index.tree).files same fits.owned (rw (← take_all n shown.1 all) (c.loop-index.invariant.over told store))
