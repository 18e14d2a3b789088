use Rattle.std.proofs.Common.{get_or}
use Rattle.std.proofs.lemmas.List.{get_or_default}
use Rattle.repository.specs.Reading.{contents_of}
use Rattle.kept_packages.specs.Needs.{Leads, NeedsOne}
use Rattle.kept_packages.proofs.Gains.{gains_next, leads_splits}
use Rattle.kept_packages.proofs.needs.add_all_needs.Goals as goal

pub loop-owner-preserved : goal.loop-owner-preserved
loop-owner-preserved c =
    let contents = contents_of c.args.repository.now in
    let users = c.args.users.now in
    let i = c.loop-owner.owner-index in
    gains_next contents.space (Leads contents.space (NeedsOne contents)) (leads_splits contents.space (NeedsOne contents)) users i (get_or users i 0) c.args.found.now.items c.loop-owner.found.items c.add_needs.new.found.items c.loop-owner-test.true (get_or_default users i 0 (get_or users i 0) c.loop-owner-test.true) c.loop-owner.invariant c.in_ok-add_needs.ensures.added
