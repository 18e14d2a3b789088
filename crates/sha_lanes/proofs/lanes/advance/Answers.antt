use Rattle.std.proofs.Common.{◌≡◌, ℕ, ◌/◌, ◌%◌, List, length, map, slice_index_or, sym, ap, ◌∙◌, arith}
use Rattle.sha2.specs.Sha256.{hash_after}
use Rattle.sha_lanes.specs.UnderWay.{IsLaneOf, places_of}
use Rattle.sha_lanes.proofs.Moves.{all_four, four_of, move_fits, moved_lane, nearer_by, nearer_four, no_lane, text_of}
use Rattle.sha_lanes.proofs.lanes.advance.Goals as goal

pub moved-requires : goal.moved-requires
moved-requires c lt =
    let held = c.requires 0 no_lane (omega (arith, c.told-lanes)) in
    let h = c.shorter.ensures.first (c.rest-first_rest.ensures.some lt) in
    move_fits _ _ _ c.rest-first_rest.result.now c.shorter-spare.result.now held (text_of _ _ _ held) c.rest-first_rest.ensures.next (omega (arith, h.1, (c.shorter-spare.ensures.first h.0).1))

pub moved-requires-2 : goal.moved-requires-2
moved-requires-2 c lt =
    let held = c.requires 1 no_lane (omega (arith, c.told-lanes)) in
    let h = c.shorter.ensures.second (c.rest-second_rest.ensures.some lt) in
    move_fits _ _ _ c.rest-second_rest.result.now c.shorter-spare.result.now held (text_of _ _ _ held) c.rest-second_rest.ensures.next (omega (arith, h.1, (c.shorter-spare.ensures.first h.0).1))

pub moved-requires-3 : goal.moved-requires-3
moved-requires-3 c lt =
    let held = c.requires 2 no_lane (omega (arith, c.told-lanes)) in
    let h = c.shorter-2.ensures.first (c.rest-third_rest.ensures.some lt) in
    move_fits _ _ _ c.rest-third_rest.result.now c.shorter-spare.result.now held (text_of _ _ _ held) c.rest-third_rest.ensures.next (omega (arith, h.1, (c.shorter-spare.ensures.second h.0).1))

pub moved-requires-4 : goal.moved-requires-4
moved-requires-4 c lt =
    let held = c.requires 3 no_lane (omega (arith, c.told-lanes)) in
    let h = c.shorter-2.ensures.second (c.rest-fourth_rest.ensures.some lt) in
    move_fits _ _ _ c.rest-fourth_rest.result.now c.shorter-spare.result.now held (text_of _ _ _ held) c.rest-fourth_rest.ensures.next (omega (arith, h.1, (c.shorter-spare.ensures.second h.0).1))

pub returns-clause-lanes : goal.returns-clause-lanes
returns-clause-lanes c =
    let count : ℕ = length c.shorter-spare.result.now / 64 in
    let first_held = c.requires 0 no_lane (omega (arith, c.told-lanes)) in
    let second_held = c.requires 1 no_lane (omega (arith, c.told-lanes)) in
    let third_held = c.requires 2 no_lane (omega (arith, c.told-lanes)) in
    let fourth_held = c.requires 3 no_lane (omega (arith, c.told-lanes)) in
    all_four (IsLaneOf (map (λ text. text.now) c.args.texts.now)) c.moved.result c.moved-2.result c.moved-3.result c.moved-4.result
    (moved_lane _ _ c.moved.result _ c.rest-first_rest.result.now c.or_spare.result.now c.state_of.result count first_held (text_of _ _ _ first_held) c.moved.ensures.place
    c.moved.ensures.under_way c.rest-first_rest.ensures.next c.rest-first_rest.ensures.some c.or_spare.ensures.own (omega (arith, c.or_spare.ensures.long))
    (c.state_of.ensures ∙ c.compress_blocks.ensures.first ∙ ap (λ (s : List ℕ). hash_after s c.or_spare.result.now count) c.side_by_side-state.ensures.first))
    (moved_lane _ _ c.moved-2.result _ c.rest-second_rest.result.now c.or_spare-2.result.now c.state_of-2.result count second_held (text_of _ _ _ second_held) c.moved-2.ensures.place
    c.moved-2.ensures.under_way c.rest-second_rest.ensures.next c.rest-second_rest.ensures.some c.or_spare-2.ensures.own (omega (arith, c.or_spare-2.ensures.long))
    (c.state_of-2.ensures ∙ c.compress_blocks.ensures.second ∙ ap (λ (s : List ℕ). hash_after s c.or_spare-2.result.now count) c.side_by_side-state.ensures.second))
    (moved_lane _ _ c.moved-3.result _ c.rest-third_rest.result.now c.or_spare-3.result.now c.state_of-3.result count third_held (text_of _ _ _ third_held) c.moved-3.ensures.place
    c.moved-3.ensures.under_way c.rest-third_rest.ensures.next c.rest-third_rest.ensures.some c.or_spare-3.ensures.own (omega (arith, c.or_spare-3.ensures.long))
    (c.state_of-3.ensures ∙ c.compress_blocks.ensures.third ∙ ap (λ (s : List ℕ). hash_after s c.or_spare-3.result.now count) c.side_by_side-state.ensures.third))
    (moved_lane _ _ c.moved-4.result _ c.rest-fourth_rest.result.now c.or_spare-4.result.now c.state_of-4.result count fourth_held (text_of _ _ _ fourth_held) c.moved-4.ensures.place
    c.moved-4.ensures.under_way c.rest-fourth_rest.ensures.next c.rest-fourth_rest.ensures.some c.or_spare-4.ensures.own (omega (arith, c.or_spare-4.ensures.long))
    (c.state_of-4.ensures ∙ c.compress_blocks.ensures.fourth ∙ ap (λ (s : List ℕ). hash_after s c.or_spare-4.result.now count) c.side_by_side-state.ensures.fourth))

pub returns-clause-places : goal.returns-clause-places
returns-clause-places c =
    rw (c.moved.ensures.place, c.moved-2.ensures.place, c.moved-3.ensures.place, c.moved-4.ensures.place)
    (sym (ap places_of (four_of c.args.lanes.now no_lane c.told-lanes)))

pub returns-clause-nearer : goal.returns-clause-nearer
returns-clause-nearer c =
    let spare : List ℕ = c.shorter-spare.result.now in
    let whole : length spare % 64 ≡ 0 = c.shorter-spare.ensures.whole (c.shorter.ensures.whole c.rest-first_rest.ensures.next.whole c.rest-second_rest.ensures.next.whole)
    (c.shorter-2.ensures.whole c.rest-third_rest.ensures.next.whole c.rest-fourth_rest.ensures.next.whole) in
    nearer_four c.args.lanes.now no_lane c.moved.result c.moved-2.result c.moved-3.result c.moved-4.result c.told-lanes
    (nearer_by (slice_index_or c.args.lanes.now 0 no_lane) c.moved.result (length spare / 64) c.moved.ensures.nearer (λ lt. omega (arith, whole, (c.shorter-spare.ensures.first (c.shorter.ensures.first (c.rest-first_rest.ensures.some lt)).0).0)))
    (nearer_by (slice_index_or c.args.lanes.now 1 no_lane) c.moved-2.result (length spare / 64) c.moved-2.ensures.nearer (λ lt. omega (arith, whole, (c.shorter-spare.ensures.first (c.shorter.ensures.second (c.rest-second_rest.ensures.some lt)).0).0)))
    (nearer_by (slice_index_or c.args.lanes.now 2 no_lane) c.moved-3.result (length spare / 64) c.moved-3.ensures.nearer (λ lt. omega (arith, whole, (c.shorter-spare.ensures.second (c.shorter-2.ensures.first (c.rest-third_rest.ensures.some lt)).0).0)))
    (nearer_by (slice_index_or c.args.lanes.now 3 no_lane) c.moved-4.result (length spare / 64) c.moved-4.ensures.nearer (λ lt. omega (arith, whole, (c.shorter-spare.ensures.second (c.shorter-2.ensures.second (c.rest-fourth_rest.ensures.some lt)).0).0)))
