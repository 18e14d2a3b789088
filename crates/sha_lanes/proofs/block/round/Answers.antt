use Rattle.sha_lanes.proofs.block.round.Goals as goal

pub returns : goal.returns
returns c j h =
    rw (
      c.add.ensures j h,
      c.add-2.ensures j h,
      c.add-temp2.ensures j h,
      c.add-temp1.ensures j h,
      c.add_word.ensures j h,
      c.add-s2.ensures j h,
      c.add-s1.ensures j h,
      c.big_sigma1.ensures j h,
      c.big_sigma0.ensures j h,
      c.ch.ensures j h,
      c.maj.ensures j h,
    )
