use Rattle.std.proofs.Common.{◌≡◌, ◌*◌, ap, refl, ◌∙◌, arith}
use Rattle.sha2.specs.Sha256.{add_state, compress, rounds, schedule}
use Rattle.sha_lanes.specs.Lanes.{lane}
use Rattle.sha_lanes.proofs.block.compress.Goals as goal

pub rounds-init : goal.rounds-init
unfolding rounds
rounds-init c j words lt has = refl

pub rounds-preserved : goal.rounds-preserved
rounds-preserved c j words lt has =
    c.four_steps-v.ensures j _ words lt has (c.rounds.invariant j words lt has) ∙ ap (rounds _ words) (omega arith)

pub returns : goal.returns
unfolding compress
returns c j block lt has =
    let done : 4 * c.rounds.turn ≡ 64 = omega (arith, c.rounds.auto.turn-end) in
    let words = c.extend.ensures j block lt has in
    let ran = rw done at (c.rounds.invariant j (schedule block 48) lt words) in
    rw (
      c.add.ensures j lt,
      c.add-2.ensures j lt,
      c.add-3.ensures j lt,
      c.add-4.ensures j lt,
      c.add-5.ensures j lt,
      c.add-6.ensures j lt,
      c.add-7.ensures j lt,
      c.add-8.ensures j lt,
    )
    (ap (add_state (lane j c.args.state.now)) ran)
