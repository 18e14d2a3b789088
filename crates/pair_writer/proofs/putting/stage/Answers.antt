use Rattle.std.proofs.Common.{◌≡◌, ℕ, ◌+◌, ◌-◌, List, [], ◌∷◌, ◌++◌, length, sym, ap, subst, ◌∙◌, arith}
use Rattle.std.proofs.lemmas.List.{length-map}
use Rattle.sha2.specs.Sha256.{sha256}
use Rattle.codes.specs.Codes.{AreBytes}
use Rattle.cache_api.specs.Artifacts.{File, artifact}
use Rattle.cache_api.specs.Keys.{text_of}
use Rattle.record_log.specs.declared.kind.TheConstants.{LONG_RECORD}
use Rattle.record_log.specs.Kinds.{Entry, entry}
use Rattle.blob_pool.specs.Known.{known_in}
use Rattle.blob_pool.specs.Laws.{known_read}
use Rattle.pair_frames.specs.Runs.{key_runs, artifact_runs}
use Rattle.pair_writer.specs.Staged.{entries}
use Rattle.pair_writer.specs.Cuts.{IsCut}
use Rattle.pair_writer.specs.FileTexts.{key_texts, artifact_texts}
use Rattle.pair_writer.proofs.FileTexts.{no_more, of_both}
use Rattle.pair_writer.proofs.Cuts.{extends_both}
use Rattle.pair_writer.proofs.Pairs.{flat_artifact, stage_frames, stage_size}
use Rattle.pair_writer.proofs.putting.stage.Goals as goal

pub returns-clause-frames : goal.returns-clause-frames
returns-clause-frames g c told =
    let fs = known_in c.args.log.now in
    let key = text_of c.args.pair.key in
    let a = artifact c.args.pair.artifact.now in
    let s = c.args.staged.now in
    let t = c.cut_key.new.staged in
    let u = c.cut_artifact.new.staged in
    let first : IsCut g.S.StoreDevice.tells fs s t c.new-key.result c.cut_key.new.pieces (key_runs key) =
    subst (λ (l : List ℕ). IsCut g.S.StoreDevice.tells fs s t c.new-key.result c.cut_key.new.pieces (key_runs l)) c.text.ensures c.in_ok-cut_key.ensures.cut in
    let second : IsCut g.S.StoreDevice.tells fs t u c.new-value.result c.cut_artifact.new.pieces (artifact_runs a) =
    subst (λ (l : List Entry). IsCut g.S.StoreDevice.tells l t u c.new-value.result c.cut_artifact.new.pieces (artifact_runs a)) (known_read c.args.log.now c.cut_key.new.log c.cut_key.ensures.log) c.in_ok-cut_artifact.ensures.cut in
    stage_frames fs s t u c.push_record.new.self c.new-key.result c.cut_key.new.pieces c.new-value.result c.cut_artifact.new.pieces key a c.in_ok-text.text.items
    (record {
      told = c.in_ok-cut_artifact.ensures.told;
      key_cut = first.told told;
      value_cut = second.told told;
      key_none = c.new-key.ensures.none;
      key_open = c.new-key.ensures.open;
      value_none = c.new-value.ensures.none;
      value_open = c.new-value.ensures.open;
      text_is = c.in_ok-text.ensures.text;
    })
    (c.in_ok-push_record.ensures ∙ ap (λ (l : List ℕ). entries u ++ entry LONG_RECORD l c.in_ok-text.text.items ∷ []) c.print.ensures)

pub returns-clause-grown : goal.returns-clause-grown
returns-clause-grown g c =
    let s = c.args.staged.now in
    let t = c.cut_key.new.staged in
    let u = c.cut_artifact.new.staged in
    extends_both (entries s) (entries u) (entries c.push_record.new.self)
    (extends_both (entries s) (entries t) (entries u) c.in_ok-cut_key.ensures.cut.grown c.in_ok-cut_artifact.ensures.cut.grown)
    (entry LONG_RECORD c.print.result.now c.in_ok-text.text.items ∷ [], c.in_ok-push_record.ensures)

pub returns-clause-ample : goal.returns-clause-ample
returns-clause-ample g c =
    let fs = known_in c.args.log.now in
    let key = text_of c.args.pair.key in
    let a = artifact c.args.pair.artifact.now in
    let s = c.args.staged.now in
    let t = c.cut_key.new.staged in
    let u = c.cut_artifact.new.staged in
    let first : IsCut g.S.StoreDevice.tells fs s t c.new-key.result c.cut_key.new.pieces (key_runs key) =
    subst (λ (l : List ℕ). IsCut g.S.StoreDevice.tells fs s t c.new-key.result c.cut_key.new.pieces (key_runs l)) c.text.ensures c.in_ok-cut_key.ensures.cut in
    let second : IsCut g.S.StoreDevice.tells fs t u c.new-value.result c.cut_artifact.new.pieces (artifact_runs a) =
    subst (λ (l : List Entry). IsCut g.S.StoreDevice.tells l t u c.new-value.result c.cut_artifact.new.pieces (artifact_runs a)) (known_read c.args.log.now c.cut_key.new.log c.cut_key.ensures.log) c.in_ok-cut_artifact.ensures.cut in
    stage_size g.S.StoreDevice.tells fs s t u c.push_record.new.self c.new-key.result c.cut_key.new.pieces c.new-value.result c.cut_artifact.new.pieces key a c.in_ok-text.text.items (subst AreBytes c.text.ensures c.cut_key.ensures.bytes) first second c.new-key.ensures.weight c.new-value.ensures.weight c.in_ok-text.ensures.size (c.in_ok-push_record.ensures ∙ ap (λ (l : List ℕ). entries u ++ entry LONG_RECORD l c.in_ok-text.text.items ∷ []) c.print.ensures)

pub returns-clause-texts : goal.returns-clause-texts
returns-clause-texts g c = record {
  key = subst AreBytes c.text.ensures c.cut_key.ensures.bytes;
  value = subst AreBytes (flat_artifact (artifact c.args.pair.artifact.now)) c.in_ok-cut_artifact.ensures.cut.bytes;
}

pub cut_artifact-requires-clause-digests : goal.cut_artifact-requires-clause-digests
cut_artifact-requires-clause-digests g c =
    let a = artifact c.args.pair.artifact.now in
    let digests = c.args.digests.now in
    let files = c.as_slice.result.now in
    let listed = key_texts (text_of c.args.pair.key) in
    let many : length (artifact_texts a) ≡ length files = length-map a.1 (λ (f : File). f.1) ∙ sym (ap length c.as_slice.ensures) in
    let enough = no_more sha256 listed (artifact_texts a) digests c.requires.digests in
    let split : length digests - length files + length (artifact_texts a) ≡ length digests = omega (arith, many, enough) in
    c.split_at.ensures.back
    ∙ (of_both sha256 listed (artifact_texts a) digests (length digests - length files) c.requires.digests split).back
