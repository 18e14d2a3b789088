use Rattle.std.proofs.Common.{◌≡◌, ◌∙◌, ℕ, List, length, map, arith}
use Rattle.std.proofs.lemmas.List.{get_or-map, length-map, length-set}
use Rattle.sha_lanes.specs.UnderWay.{IsFoundBut, places_of}
use Rattle.sha_lanes.proofs.Found.{HasDigests_all, IsFoundBut_done}
use Rattle.sha_lanes.proofs.Moves.{no_lane}
use Rattle.sha_lanes.proofs.finish_all.Goals as goal

pub lanes-preserved : goal.lanes-preserved
lanes-preserved c =
    let texts : List (List ℕ) = map (λ text. text.now) c.args.texts.now in
    let lanes = c.finish.new.lanes in
    let j : ℕ = c.lanes.lane in
    let long : length lanes ≡ 4 = c.finish.array_long in
    let held = c.finish.ensures.lanes j no_lane (omega arith) in
    let at = get_or-map (λ l. l.place) lanes j no_lane 0 (omega arith) in
    let before : IsFoundBut texts c.lanes.found (places_of lanes) j (length c.args.texts.now) = rw c.finish.ensures.places c.lanes.invariant.3 in (
      length-set _ _ _ ∙ c.lanes.invariant.0,
      long,
      c.finish.ensures.lanes,
      IsFoundBut_done texts c.lanes.found (places_of lanes) j (length c.args.texts.now) _ c.digest.result before at
          (omega (arith, held.place, length-map c.args.texts.now (λ text. text.now), c.lanes.invariant.0)) (c.digest.ensures _ held.text),
    )

pub returns : goal.returns
returns c = HasDigests_all c.args.texts.now c.lanes.found c.lanes.invariant.0
    (λ k lt. c.lanes.invariant.3 k lt (λ i low high. absurd (omega arith)))
