use Rattle.std.proofs.Common.{ap, ◌∙◌, length, arith}
use Rattle.collect.proofs.Whole.{stop_plan, stop_rules, stop_gather, stop_total, collected, rules_among, rules_sorted, some_listing, tasks_stand, homes_count, jobs_fit, made_as}
use Rattle.collect.proofs.collecting.collect.Goals as goal

pub returns-in-Err-clause-collects : goal.returns-in-Err-clause-collects
returns-in-Err-clause-collects g c = λ told. stop_plan _ _ _ _ c.args.env.now _ _ c.in-Err.e c.in-Err.ensures

pub read_all-requires : goal.read_all-requires
read_all-requires g c = record {
  free = λ path e. c.requires.free path (rules_among _ _ _ _ c.args.env.now _ c.in-Ok.plan c.in-Ok.ensures c.as_slice.result.now c.as_slice.ensures path e);
  ascend = rules_sorted _ _ _ _ c.args.env.now _ c.in-Ok.plan c.in-Ok.ensures c.as_slice.result.now c.as_slice.ensures c.requires.ascend;
}

pub returns-in-Err-read_all-clause-collects : goal.returns-in-Err-read_all-clause-collects
returns-in-Err-read_all-clause-collects g c = λ told. stop_rules _ _ _ _ c.args.env.now _ c.in-Ok.plan c.in-Ok.ensures _ c.requires.ascend c.as_slice.result.now c.in-Err-read_all.e c.as_slice.ensures (c.in-Err-read_all.ensures.reads told)

pub rows_of-requires-clause-tasks : goal.rows_of-requires-clause-tasks
rows_of-requires-clause-tasks g c = tasks_stand _ _ _ _ c.args.env.now _ c.in-Ok.plan c.in-Ok.ensures

pub returns-in-Err-gather-clause-collects : goal.returns-in-Err-gather-clause-collects
returns-in-Err-gather-clause-collects g c = λ told.
    stop_gather _ _ _ _ c.args.env.now _ c.in-Ok.plan c.in-Ok.ensures (g.T.Tree.state c.args.tree.now).files c.requires.ascend c.in-Ok-read_all.ignores c.as_slice.result.now c.as_slice.ensures (c.in-Ok-read_all.ensures.reads told) c.in-Ok-rows_of.rows c.in-Ok-rows_of.ensures.rows
    (g.T.Tree.state c.read_all.new.tree).files c.in-Ok-read_all.ensures.looks.files c.deref.result.now c.deref.ensures.value c.as_slice-2.result.now c.as_slice-2.ensures c.in-Err-gather.e (c.in-Err-gather.ensures.reads told)

pub returns-then-gathered-gt-MAX_INPUT_BYTES-clause-collects : goal.returns-then-gathered-gt-MAX_INPUT_BYTES-clause-collects
returns-then-gathered-gt-MAX_INPUT_BYTES-clause-collects g c = λ told.
    stop_total _ _ _ _ c.args.env.now _ c.in-Ok.plan c.in-Ok.ensures (g.T.Tree.state c.args.tree.now).files c.requires.ascend c.in-Ok-read_all.ignores c.as_slice.result.now c.as_slice.ensures (c.in-Ok-read_all.ensures.reads told) c.in-Ok-rows_of.rows c.in-Ok-rows_of.ensures.rows
    (g.T.Tree.state c.read_all.new.tree).files c.in-Ok-read_all.ensures.looks.files c.deref.result.now c.deref.ensures.value c.as_slice-2.result.now c.as_slice-2.ensures c.in-Ok-gather.gathered (c.in-Ok-gather.ensures.reads told) (omega (arith, c.if-gathered-gt-MAX_INPUT_BYTES.true))

pub parts_of-requires-clause-homes : goal.parts_of-requires-clause-homes
parts_of-requires-clause-homes g c = homes_count _ _ _ _ c.args.env.now _ c.in-Ok.plan c.in-Ok.ensures

pub parts_of-requires-clause-same : goal.parts_of-requires-clause-same
parts_of-requires-clause-same g c = ap length c.deref-2.ensures.value ∙ c.in-Ok-gather.ensures.same ∙ ap length c.as_slice-2.ensures

pub parts_of-requires-clause-fit : goal.parts_of-requires-clause-fit
parts_of-requires-clause-fit g c = jobs_fit _ _ _ _ c.args.env.now _ c.in-Ok.plan c.in-Ok.ensures _ c.in-Ok-rows_of.rows c.in-Ok-rows_of.ensures.rows

pub returns-in-Ok-parts_of-clause-collects : goal.returns-in-Ok-parts_of-clause-collects
returns-in-Ok-parts_of-clause-collects g c = λ told.
    collected _ _ _ _ c.args.env.now _ c.in-Ok.plan c.in-Ok.ensures (g.T.Tree.state c.args.tree.now).files c.requires.ascend c.in-Ok-read_all.ignores c.as_slice.result.now c.as_slice.ensures (c.in-Ok-read_all.ensures.reads told) c.in-Ok-rows_of.rows c.in-Ok-rows_of.ensures.rows
    (g.T.Tree.state c.read_all.new.tree).files c.in-Ok-read_all.ensures.looks.files c.deref.result.now c.deref.ensures.value c.as_slice-2.result.now c.as_slice-2.ensures c.in-Ok-gather.gathered (c.in-Ok-gather.ensures.reads told) c.in-Ok-parts_of.parts
    (made_as _ _ _ _ _ _ _ _ _ _ _ _ _ _ c.in-Ok.ensures.globals c.deref-2.ensures.value c.in-Ok-parts_of.ensures.value) (omega (arith, c.if-gathered-gt-MAX_INPUT_BYTES.false))

pub returns-in-Ok-parts_of-clause-listed : goal.returns-in-Ok-parts_of-clause-listed
returns-in-Ok-parts_of-clause-listed g c =
    some_listing _ _ _ _ c.args.env.now _ c.in-Ok.plan c.in-Ok.ensures c.requires.ascend c.in-Ok-read_all.ignores c.as_slice.result.now c.as_slice.ensures c.in-Ok-read_all.ensures.some c.in-Ok-rows_of.rows c.in-Ok-rows_of.ensures.rows
    c.deref.result.now c.deref.ensures.value c.as_slice-2.result.now c.as_slice-2.ensures c.in-Ok-gather.gathered c.in-Ok-gather.ensures.some c.in-Ok-parts_of.parts
    (made_as _ _ _ _ _ _ _ _ _ _ _ _ _ _ c.in-Ok.ensures.globals c.deref-2.ensures.value c.in-Ok-parts_of.ensures.value) (omega (arith, c.if-gathered-gt-MAX_INPUT_BYTES.false))

pub returns-in-Ok-parts_of-clause-ordered : goal.returns-in-Ok-parts_of-clause-ordered
returns-in-Ok-parts_of-clause-ordered g c =
    let some = returns-in-Ok-parts_of-clause-listed g c in
    (c.listing_law.ensures _ _ _ some.0 _ _ _ _ (record { ascend = c.requires.ascend; outside = c.requires.outside; apart = c.requires.apart; below_root = c.in-Ok.ensures.proper.below_root; folders = c.in-Ok.ensures.folders; walked = c.requires.walked; ids = c.requires.ids; lower = c.requires.lower; deps = c.requires.deps }) some.1).ordered

pub returns-in-Ok-parts_of-clause-apart : goal.returns-in-Ok-parts_of-clause-apart
returns-in-Ok-parts_of-clause-apart g c =
    let some = returns-in-Ok-parts_of-clause-listed g c in
    (c.listing_law.ensures _ _ _ some.0 _ _ _ _ (record { ascend = c.requires.ascend; outside = c.requires.outside; apart = c.requires.apart; below_root = c.in-Ok.ensures.proper.below_root; folders = c.in-Ok.ensures.folders; walked = c.requires.walked; ids = c.requires.ids; lower = c.requires.lower; deps = c.requires.deps }) some.1).apart

pub returns-in-Ok-parts_of-clause-inputs : goal.returns-in-Ok-parts_of-clause-inputs
returns-in-Ok-parts_of-clause-inputs g c = λ told.
    let listing = (returns-in-Ok-parts_of-clause-collects g c told).0 in
    (c.listing_law.ensures _ _ _ _ _ _ _ _ (record { ascend = c.requires.ascend; outside = c.requires.outside; apart = c.requires.apart; below_root = c.in-Ok.ensures.proper.below_root; folders = c.in-Ok.ensures.folders; walked = c.requires.walked; ids = c.requires.ids; lower = c.requires.lower; deps = c.requires.deps }) listing).inputs
