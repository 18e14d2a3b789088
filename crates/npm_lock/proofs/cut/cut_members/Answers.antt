use Rattle.std.proofs.Common.{◌∙◌, sym, ap, refl}
use Rattle.serde_json.specs.View.{view, members_view}
use Rattle.npm_lock.specs.Cut.{is_in, cut_top}
use Rattle.npm_lock.proofs.Picked.{taken}
use Rattle.npm_lock.proofs.cut.cut_members.Goals as goal

pub loop-name-preserved : goal.loop-name-preserved
loop-name-preserved c =
    let pick = cut_top (is_in c.args.folders.now) (is_in c.args.locations.now) in
    let picks = sym (c.in_ok-member.ensures ∙ ap (λ n. pick n (view c.in-Some.value.now)) c.as_str.ensures.value) in
    taken pick c.args.top.now.entries c.loop-name.name-iterator c.next.new.self (c.in-Some.name.now, c.in-Some.value.now) (members_view c.loop-name.cut.entries) c.in-Some.ensures.steps c.loop-name.invariant
    c.insert.new.self.entries c.loop-name.cut.entries c.in_ok-name.name c.in_ok-member.member refl c.in_ok-insert.ensures.entries c.in_ok-name.ensures.cases picks c.iter-name-items.ensures.ordered
