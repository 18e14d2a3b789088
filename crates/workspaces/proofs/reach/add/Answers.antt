use Rattle.std.proofs.Common.{◌≡◌, ◌∙◌, ◌++◌, ◌∷◌, ◌+◌, [], true, false, sym, arith, length, take, get_or}
use Rattle.std.proofs.lemmas.List.{take_more}
use Rattle.std.proofs.Common.{◌<◌}
use Rattle.workspaces.specs.Marks.{is_marked}
use Rattle.workspaces.proofs.Marking.{adds_old, adds_new, marked-get, below_at}
use Rattle.workspaces.proofs.reach.add.Goals as goal
use Rattle.workspaces.proofs.reach.add.Goals.{then-not-index+in_ok-push, else-not-index}

pub loop-place-preserved : goal.loop-place-preserved
loop-place-preserved c =
    let places = c.args.places.now in
    let i = c.loop-place.place-index in
    let at = get_or places i 0 in
    let next : take (i + 1) places ≡ take i places ++ at ∷ [] = take_more places i 0 c.loop-place-test.true in
    let inv = c.loop-place.invariant in
    let old = c.args.front.now in
    let new = c.loop-place.front in
    let less : at < length new.reached.items = omega (arith, below_at (length old.reached.items) places c.requires i 0 c.loop-place-test.true, inv.same) in
    rw next (elim c.if-not-index.branch [
      | then-not-index+in_ok-push w ↦
          let free : is_marked new.reached.items at ≡ false = marked-get new.reached.items at c.index.result.now less ∙ (sym c.index.ensures ∙ w.if-not-index.true) in
          rw (w.front-is, w.in_ok-push.ensures.items) (adds_new (take i places) old.reached.items old.waiting.items new.reached.items new.waiting.items at inv less free)
      | else-not-index w ↦
          let is : is_marked new.reached.items at ≡ true = marked-get new.reached.items at c.index.result.now less ∙ (sym c.index.ensures ∙ w.if-not-index.false) in
          rw w.front-is (adds_old (take i places) old.reached.items old.waiting.items new.reached.items new.waiting.items at inv is)
    ])
