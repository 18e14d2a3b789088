use Rattle.std.proofs.Common.{◌∙◌, map, length, ap, subst, Ok}
use Rattle.std.specs.Option.{option_map}
use Rattle.serde_json.specs.View.{view}
use Rattle.collect.specs.declared.wanted.Wanted.{Wanted}
use Rattle.collect.specs.Refusals.{Collects}
use Rattle.repository.specs.Reading.{contents_of}
use Rattle.planner.specs.Plans.{AfterCollect, entries_of}
use Rattle.planner.specs.Steps.{EndsOrFails, NoMore}
use Rattle.planner.proofs.Whole.{answers_end, answers_plan}
use Rattle.planner.proofs.Wanting.{wanted_ids, wanted_length}
use Rattle.planner.proofs.Valid.{parts_count, is_valid}
use Rattle.planner.proofs.planning.plan_run.Goals as goal

pub returns-in-Err-listing_of-clause-plans : goal.returns-in-Err-listing_of-clause-plans
returns-in-Err-listing_of-clause-plans g c = λ told.
    let contents = contents_of c.args.repository.now in
    let files = (g.T.Tree.state c.args.tree.now).files in
    answers_end contents c.args.order.now c.args.env.now files c.in-Ok.prepared c.in-Ok.ensures.prepared c.in-Err-listing_of.e
    (subst (λ wanted. EndsOrFails (AfterCollect contents files c.args.env.now wanted NoMore) c.in-Err-listing_of.e) c.as_slice-wanted.ensures.value (c.in-Err-listing_of.ensures.collects told))

pub plan_of-requires-clause-same : goal.plan_of-requires-clause-same
plan_of-requires-clause-same g c =
    let r = c.args.repository.now in
    let listed = c.in-Ok-listing_of.ensures.listed in
    let is = c.in-Ok.ensures.prepared in
    parts_count r.config r.packages (option_map view r.lock) listed.0 r.walk c.args.env.now c.as_slice-wanted.result.now c.in-Ok-listing_of.listing listed.1
    ∙ (ap length (c.as_slice-wanted.ensures.value ∙ is.wanted_are) ∙ wanted_length (entries_of (contents_of r) c.args.order.now is.selected) c.args.order.now.args c.in-Ok.prepared.list c.in-Ok.ensures.same)

pub returns-in-Ok-plan_of-clause-plans : goal.returns-in-Ok-plan_of-clause-plans
returns-in-Ok-plan_of-clause-plans g c = λ told.
    let contents = contents_of c.args.repository.now in
    let files = (g.T.Tree.state c.args.tree.now).files in
    answers_plan contents c.args.order.now c.args.env.now files c.in-Ok.prepared c.in-Ok.ensures.prepared c.in-Ok-listing_of.listing c.in-Ok-plan_of.plan
    (subst (λ wanted. Collects contents.setup contents.space contents.lock files contents.walk c.args.env.now wanted (Ok c.in-Ok-listing_of.listing)) c.as_slice-wanted.ensures.value (c.in-Ok-listing_of.ensures.collects told)) c.in-Ok-plan_of.ensures.value

pub returns-in-Ok-plan_of-clause-valid : goal.returns-in-Ok-plan_of-clause-valid
returns-in-Ok-plan_of-clause-valid g c =
    let r = c.args.repository.now in
    let listed = c.in-Ok-listing_of.ensures.listed in
    let is = c.in-Ok.ensures.prepared in
    let entries = entries_of (contents_of r) c.args.order.now is.selected in
    let list = c.in-Ok.prepared.list in
    is_valid r.config r.packages (option_map view r.lock) listed.0 r.walk c.args.env.now c.args.order.now list c.as_slice-wanted.result.now c.in-Ok-listing_of.listing c.in-Ok-plan_of.plan
    (ap (map (λ (w : Wanted). w.id)) (c.as_slice-wanted.ensures.value ∙ is.wanted_are) ∙ wanted_ids entries c.args.order.now.args list c.in-Ok.ensures.same)
    (ap length (c.as_slice-wanted.ensures.value ∙ is.wanted_are) ∙ wanted_length entries c.args.order.now.args list c.in-Ok.ensures.same)
    listed.1 c.in-Ok-plan_of.ensures.value c.in-Ok-listing_of.ensures.ordered c.in-Ok-listing_of.ensures.apart c.in-Ok.ensures.few c.requires.wide c.requires.narrow
