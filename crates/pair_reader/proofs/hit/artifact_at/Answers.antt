use Rattle.std.proofs.Common.{◌∙◌, List, sym, subst}
use Rattle.record_log.specs.Frames.{text_of}
use Rattle.record_log.specs.Log.{frames_in}
use Rattle.blob_pool.specs.Contents.{contents_of}
use Rattle.blob_pool.specs.Known.{known_in}
use Rattle.artifact_reader.specs.declared.part.Part.{Part}
use Rattle.artifact_reader.specs.Parts.{AreWell}
use Rattle.pair_reader.specs.Standing.{bytes_of}
use Rattle.pair_reader.specs.Parts.{AreShown}
use Rattle.pair_reader.proofs.Parting.{well_parts, parts_shown}
use Rattle.pair_reader.proofs.Finding.{found_as_hit, found_as_none}
use Rattle.pair_reader.proofs.hit.artifact_at.Goals as goal

pub read_parts-requires : goal.read_parts-requires
read_parts-requires g c =
    subst AreWell (sym (c.as_slice.ensures.value ∙ c.in_ok-parts.ensures.parts)) (well_parts c.args.value.now)

pub returns-in-Hit-clause-found : goal.returns-in-Hit-clause-found
returns-in-Hit-clause-found g c told =
    let log = c.args.log.now in
    let text = text_of (frames_in log) in
    let contents = contents_of (known_in log) in
    let bytes = bytes_of contents c.args.value.now in
    let parts = c.as_slice.result.now in
    let shown = subst (λ (l : List Part). AreShown text l bytes) (sym (c.as_slice.ensures.value ∙ c.in_ok-parts.ensures.parts)) (parts_shown text contents c.args.value.now (c.requires.show told)) in
    found_as_hit text bytes parts c.in_ok-hit.field-0 c.in-Hit.hit c.in-Hit.is (c.requires.short told) shown c.in_ok-hit.ensures.read c.in_ok-hit.ensures.lies

pub returns-in-NoArtifact-clause-found : goal.returns-in-NoArtifact-clause-found
returns-in-NoArtifact-clause-found g c told =
    let log = c.args.log.now in
    let text = text_of (frames_in log) in
    let contents = contents_of (known_in log) in
    let bytes = bytes_of contents c.args.value.now in
    let parts = c.as_slice.result.now in
    let shown = subst (λ (l : List Part). AreShown text l bytes) (sym (c.as_slice.ensures.value ∙ c.in_ok-parts.ensures.parts)) (parts_shown text contents c.args.value.now (c.requires.show told)) in
    found_as_none text bytes parts c.in_ok-hit.field-0 c.in-NoArtifact.is (c.requires.short told) shown c.in_ok-hit.ensures.read
