use Rattle.std.proofs.Common.{◌||◌, ◌∙◌, ap, take}
use Rattle.std.proofs.lemmas.List.{take_all, with_items_is}
use Rattle.rel_path.specs.Paths.{is_among}
use Rattle.run_laws.specs.Closures.{names}
use Rattle.closures.specs.Named.{marks_of}
use Rattle.closures.proofs.Lookup.{no_marks, one_part_more}
use Rattle.closures.proofs.naming.marks_of.Goals as goal

pub loop-part-init : goal.loop-part-init
loop-part-init c = c.in_ok-marks.ensures.items_if_clones_equal (λ y e. e) ∙ no_marks c.args.files.now

pub loop-part-preserved : goal.loop-part-preserved
loop-part-preserved c =
    let parts = c.args.parts.now in
    let files = c.args.files.now in
    let i = c.loop-part.part-index in
    let part = c.part-item.result in
    let inputs = c.as_slice.ensures ∙ c.inputs.ensures in
    let all = c.mark_all.ensures.marked (names (take i parts)) (c.as_mut_slice.ensures.value ∙ c.loop-part.invariant) in
    with_items_is c.loop-part.marks c.mark_all.new.marks (c.mark_all.ensures.size ∙ c.as_mut_slice.ensures.len) ∙ all
    ∙ ap (λ ps. marks_of (λ p. is_among ps p || names (take i parts) p) files) inputs ∙ one_part_more parts i part files c.loop-part-test.true c.part-item.is

pub returns-clause-marks : goal.returns-clause-marks
returns-clause-marks c = c.loop-part.invariant ∙ ap (λ ps. marks_of (names ps) c.args.files.now) (take_all c.loop-part.part-index c.args.parts.now c.loop-part-test.false)
