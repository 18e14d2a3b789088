use Rattle.std.proofs.Common.{ℕ, List, ◌*◌, ◌/◌, length, length-drop, ◌∙◌, refl, ap}
use Rattle.std.proofs.lemmas.List.{take_rest}
use Rattle.sha_lanes.proofs.Padding.{padded_tail_is}
use Rattle.sha_lanes.proofs.lane.padded_tail.Goals as goal

pub returns : goal.returns
returns c =
    let text : List ℕ = c.args.text.now in
    let q : ℕ = length text / 64 * 64 in
    rw c.block_count.ensures
    (padded_tail_is text _ _ _ _ _ (c.copy_from_slice.ensures.after ∙ take_rest text q) (c.copy_from_slice-2.ensures.after ∙ c.to_be_bytes.ensures)
    (ap length (take_rest text q) ∙ length-drop q text) refl)
