use Rattle.std.proofs.Common.{◌≡◌, ◌∙◌, ◌+◌, ◌<◌, ◌++◌, ◌∷◌, [], true, false, sym, ap, subst, arith, length, take, get_or}
use Rattle.std.specs.Prelude.{replicate}
use Rattle.std.proofs.lemmas.List.{take_more}
use Rattle.std.proofs.lemmas.List.{length-replicate}
use Rattle.std.proofs.lemmas.Result.{IfOk-weaker}
use Rattle.std.proofs.lemmas.List.{nil_from_length}
use Rattle.std.proofs.lemmas.Grind.{common_steps}
use Rattle.workspaces.specs.Lists.{places}
use Rattle.workspaces.specs.Reach.{is_in, row_at, leads_in, AreBelow, IsReached}
use Rattle.workspaces.specs.Marks.{itself, Adds}
use Rattle.workspaces.proofs.Marking.{Reaching, none_reached, none_marked, from_more, wait_more, all_reached, marked_within, below_at, row_below, row-get, in_at, in_last}
use Rattle.workspaces.proofs.reach.reached.Goals as goal

pub loop-place-init : goal.loop-place-init
loop-place-init c =
    let edges = c.args.edges.now in
    let vec : c.in_ok-vec.field-0.items ≡ replicate (length edges) false = c.in_ok-vec.ensures.items_if_clones_equal (λ y e. e) in
    record {
      same = ap length vec ∙ length-replicate (length edges) false;
      reaching = rw (vec, c.new.ensures.items) (none_reached (leads_in edges) c.args.from.now (replicate (length edges) false) (none_marked (length edges)));
    }

pub loop-place-preserved : goal.loop-place-preserved
loop-place-preserved c =
    let edges = c.args.edges.now in
    let from = c.args.from.now in
    let i = c.loop-place.place-index in
    let at = get_or from i 0 in
    let inv = c.loop-place.invariant in
    let less : at < length edges = below_at (length edges) from c.requires.from i 0 c.loop-place-test.true in
    let row : c.as_slice.result.now ≡ row_at edges at = c.as_slice.ensures ∙ (c.index-edges-place.is ∙ sym (row-get edges at c.index-edges-place.result less)) in
    let adds : Adds (row_at edges at) c.loop-place.front.reached.items c.loop-place.front.waiting.items c.add.new.front.reached.items c.add.new.front.waiting.items = rw (← row) c.in_ok-add.ensures.added in
    let next : take (i + 1) from ≡ take i from ++ at ∷ [] = take_more from i 0 c.loop-place-test.true in
    record {
      same = adds.same ∙ inv.same;
      reaching = rw next (from_more edges from (take i from) at _ _ _ _ inv.reaching (in_at from i 0 c.loop-place-test.true) adds);
    }

pub bounds-edges-place-in-Some : goal.bounds-edges-place-in-Some
bounds-edges-place-in-Some c =
    let inv = c.loop-place-2.invariant in
    let waits : is_in c.loop-place-2.front.waiting.items c.in-Some.place ≡ true = rw c.in-Some.ensures.items (in_last c.pop.new.self.items c.in-Some.place) in
    omega (arith, marked_within c.loop-place-2.front.reached.items c.in-Some.place (inv.reaching.waits c.in-Some.place waits), inv.same)

pub add-requires-in-Some : goal.add-requires-in-Some
add-requires-in-Some c =
    let inv = c.loop-place-2.invariant in
    let edges = c.args.edges.now in
    let waits : is_in c.loop-place-2.front.waiting.items c.in-Some.place ≡ true = rw c.in-Some.ensures.items (in_last c.pop.new.self.items c.in-Some.place) in
    let less : c.in-Some.place < length edges = omega (arith, marked_within c.loop-place-2.front.reached.items c.in-Some.place (inv.reaching.waits c.in-Some.place waits), inv.same) in
    let below : AreBelow (length edges) (get_or edges c.in-Some.place c.index-edges-place-in-Some.result) = row_below (length edges) edges c.requires.rows c.in-Some.place c.index-edges-place-in-Some.result less in
    rw (inv.same, c.as_slice-in-Some.ensures) (subst (λ r. AreBelow (length edges) r) (sym c.index-edges-place-in-Some.is) below)

pub loop-place-2-preserved : goal.loop-place-2-preserved
loop-place-2-preserved c =
    let inv = c.loop-place-2.invariant in
    let edges = c.args.edges.now in
    let from = c.args.from.now in
    let at = c.in-Some.place in
    let waits : is_in c.loop-place-2.front.waiting.items at ≡ true = rw c.in-Some.ensures.items (in_last c.pop.new.self.items at) in
    let less : at < length edges = omega (arith, marked_within c.loop-place-2.front.reached.items at (inv.reaching.waits at waits), inv.same) in
    let row : c.as_slice-in-Some.result.now ≡ row_at edges at = c.as_slice-in-Some.ensures ∙ (c.index-edges-place-in-Some.is ∙ sym (row-get edges at c.index-edges-place-in-Some.result less)) in
    let adds = rw row at c.in_ok-add-2.ensures.added in
    let before : Reaching (leads_in edges) from from c.loop-place-2.front.reached.items (c.pop.new.self.items ++ at ∷ []) = subst (λ w. Reaching (leads_in edges) from from c.loop-place-2.front.reached.items w) c.in-Some.ensures.items inv.reaching in
    record {
      same = adds.same ∙ inv.same;
      reaching = wait_more edges from from at _ _ _ _ before adds;
    }

pub returns : goal.returns
returns c =
    let edges = c.args.edges.now in
    let from = c.args.from.now in
    let marks = c.loop-place-2.front.reached.items in
    let empty : c.loop-place-2.front.waiting.items ≡ [] = nil_from_length _ (grind (arith, common_steps, c.in_default.ensures.cases)) in
    let end : Reaching (leads_in edges) from from marks [] = subst (λ w. Reaching (leads_in edges) from from marks w) empty c.loop-place-2.invariant.reaching in
    record { reached = IfOk-weaker c.marked.result _ _ (λ found is. subst (λ f. IsReached (leads_in edges) from f) (sym (is ∙ ap (λ ms. places itself ms) c.as_slice-2.ensures.value)) (all_reached (leads_in edges) from marks end)) c.marked.ensures.value }
