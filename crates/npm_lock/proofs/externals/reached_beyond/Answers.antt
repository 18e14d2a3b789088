use Rattle.std.proofs.Common.{◌≡◌, ◌++◌, ap, ◌∙◌, sym, subst, length, map}
use Rattle.std.proofs.lemmas.List.{length-map}
use Rattle.std.proofs.lemmas.Result.{IfOk-weaker}
use Rattle.npm_lock.specs.Finds.{found_by, root_of}
use Rattle.npm_lock.specs.Reach.{IsReached, set_of}
use Rattle.npm_lock.specs.Externals.{IsExternals}
use Rattle.npm_lock.proofs.Locating.{roots_below, finds_below, base_holds, externals_reached}
use Rattle.npm_lock.proofs.externals.reached_beyond.Goals as goal

pub reach-requires-clause-size : goal.reach-requires-clause-size
reach-requires-clause-size c =
    let size : length c.args.finds.now ≡ length c.args.entries.now = ap length c.requires.found ∙ length-map c.args.entries.now (found_by c.args.entries.now) in
    ap length c.in_ok-set_copy.ensures ∙ c.requires.base.size ∙ sym size

pub reach-requires-clause-closed : goal.reach-requires-clause-closed
reach-requires-clause-closed c = rw (c.in_ok-set_copy.ensures, c.requires.found) (base_holds c.args.entries.now c.requires.ascend c.args.base.now c.requires.base)

pub reach-requires-clause-roots : goal.reach-requires-clause-roots
reach-requires-clause-roots c =
    let size : length c.args.finds.now ≡ length c.args.entries.now = ap length c.requires.found ∙ length-map c.args.entries.now (found_by c.args.entries.now) in
    let roots : c.as_slice.result.now ≡ map (root_of c.args.entries.now) c.args.starts.now = c.as_slice.ensures.value ∙ c.in_ok-roots.ensures in
    rw (size, roots) (roots_below c.args.entries.now c.args.starts.now)

pub reach-requires-clause-finds : goal.reach-requires-clause-finds
reach-requires-clause-finds c =
    let size : length c.args.finds.now ≡ length c.args.entries.now = ap length c.requires.found ∙ length-map c.args.entries.now (found_by c.args.entries.now) in
    rw (size, c.requires.found) (finds_below c.args.entries.now c.args.entries.now)

pub returns-clause-least : goal.returns-clause-least
returns-clause-least c =
    let es = c.args.entries.now in
    let base = c.args.base.now in
    let begun = c.in_ok-set_copy.field-0.items in
    let roots : c.as_slice.result.now ≡ map (root_of es) c.args.starts.now = c.as_slice.ensures.value ∙ c.in_ok-roots.ensures in
    IfOk-weaker c.reach.result (λ set. IsReached c.args.finds.now begun c.as_slice.result.now set.items) (λ set. IsExternals es (c.args.starts.now ++ base.starts) (set_of es set.items))
    (λ set reached. externals_reached es c.requires.ascend base c.requires.base c.args.starts.now set.items
    (subst (λ b. IsReached (map (found_by es) es) b (map (root_of es) c.args.starts.now) set.items) c.in_ok-set_copy.ensures
    (subst (λ r. IsReached (map (found_by es) es) begun r set.items) roots (subst (λ f. IsReached f begun c.as_slice.result.now set.items) c.requires.found reached))))
    c.reach.ensures
