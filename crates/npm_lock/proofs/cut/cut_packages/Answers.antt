use Rattle.std.proofs.Common.{◌≡◌, ◌∙◌, sym, ap, true, false, cond, Some, None, refl}
use Rattle.serde_json.specs.View.{view, members_view}
use Rattle.npm_lock.specs.Cut.{is_in, keeps, cut_entry}
use Rattle.npm_lock.proofs.Picked.{taken, passed}
use Rattle.npm_lock.proofs.cut.cut_packages.Goals as goal

pub loop-location-preserved-then-keeps : goal.loop-location-preserved-then-keeps
loop-location-preserved-then-keeps c =
    let d = view c.in-Some.value.now in
    let folders = is_in c.args.folders.now in
    let locations = is_in c.args.locations.now in
    let kept : keeps folders locations c.as_str.result.now d ≡ true = sym c.keeps.ensures ∙ c.if-keeps.true in
    let picks = ap (λ l. cut_entry folders locations l d) (sym c.as_str.ensures.value) ∙ ap (λ b. cond b (Some d) None) kept ∙ ap Some (sym c.in_ok-clone.ensures.cases) in
    taken (cut_entry folders locations) c.args.packages.now.entries c.loop-location.location-iterator c.next.new.self (c.in-Some.location.now, c.in-Some.value.now) (members_view c.loop-location.cut.entries) c.in-Some.ensures.steps c.loop-location.invariant
    c.insert.new.self.entries c.loop-location.cut.entries c.in_ok-name.name c.in_ok-clone.field-0 refl c.in_ok-insert.ensures.entries c.in_ok-name.ensures.cases picks c.iter-location-items.ensures.ordered

pub loop-location-preserved : goal.loop-location-preserved
loop-location-preserved c =
    let d = view c.in-Some.value.now in
    let folders = is_in c.args.folders.now in
    let locations = is_in c.args.locations.now in
    let left : keeps folders locations c.as_str.result.now d ≡ false = sym c.keeps.ensures ∙ c.if-keeps.false in
    let none = ap (λ l. cut_entry folders locations l d) (sym c.as_str.ensures.value) ∙ ap (λ b. cond b (Some d) None) left in
    passed (cut_entry folders locations) c.args.packages.now.entries c.loop-location.location-iterator c.next.new.self (c.in-Some.location.now, c.in-Some.value.now) (members_view c.loop-location.cut.entries) c.in-Some.ensures.steps c.loop-location.invariant none
