use Rattle.std.proofs.Common.{◌≡◌, ◌<◌, ◌∙◌, ℕ, List, length, map, arith}
use Rattle.std.proofs.lemmas.List.{get_or-map, length-map, length-set, map-set}
use Rattle.std.proofs.lemmas.List.Elements.{All-set}
use Rattle.sha_lanes.specs.UnderWay.{IsFoundBut, IsLaneOf, places_of}
use Rattle.sha_lanes.proofs.Found.{IsFoundBut_taken, started}
use Rattle.sha_lanes.proofs.Moves.{no_lane}
use Rattle.sha_lanes.proofs.take_all.Goals as goal

pub texts-preserved : goal.texts-preserved
texts-preserved c =
    let texts : List (List ℕ) = map (λ text. text.now) c.args.texts.now in
    let lanes = c.finish.new.lanes in
    let j : ℕ = c.nearest-lane.result in
    let lt : j < 4 = c.nearest-lane.ensures.lane in
    let long : length lanes ≡ 4 = c.finish.array_long in
    let held = c.finish.ensures.lanes j no_lane (omega arith) in
    let at = get_or-map (λ l. l.place) lanes j no_lane 0 (omega arith) in
    let before : IsFoundBut texts c.texts.found (places_of lanes) 0 c.texts.next = rw c.finish.ensures.places c.texts.invariant.3 in (
      length-set _ _ _ ∙ c.texts.invariant.0,
      length-set _ _ _ ∙ long,
      All-set (IsLaneOf texts) lanes j c.start.result (started c.args.texts.now c.start.result c.texts.next _ c.texts-test.true c.start.ensures.place c.start.ensures.under_way)
          c.finish.ensures.lanes,
      rw (map-set (λ l. l.place) lanes j c.start.result, c.start.ensures.place)
          (IsFoundBut_taken texts c.texts.found (places_of lanes) j c.texts.next _ c.digest.result lt (length-map lanes (λ l. l.place) ∙ long) before at
          (omega (arith, held.place, length-map c.args.texts.now (λ text. text.now), c.texts.invariant.0)) (c.digest.ensures _ held.text)),
    )

pub returns : goal.returns
returns c = record { lanes = c.texts.invariant.2; found = λ k lt. c.texts.invariant.3 k (omega arith) }
