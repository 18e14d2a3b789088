use Rattle.std.proofs.Common.{◌≡◌, ◌∙◌, ◌++◌, ◌∷◌, ◌+◌, ◌<◌, [], true, false, sym, arith, length, take, get_or}
use Rattle.std.proofs.lemmas.List.{take_more}
use Rattle.workspaces.specs.Marks.{is_marked}
use Rattle.workspaces.proofs.Marking.{adds_old, adds_new, marked-get, below_at}
use Rattle.kept_packages.proofs.front.add.Goals as goal
use Rattle.kept_packages.proofs.front.add.Goals.{then-not-index+in_ok-push, else-not-index}

pub loop-owner-preserved : goal.loop-owner-preserved
loop-owner-preserved c =
    let owners = c.args.owners.now in
    let i = c.loop-owner.owner-index in
    let at = get_or owners i 0 in
    let next : take (i + 1) owners ≡ take i owners ++ at ∷ [] = take_more owners i 0 c.loop-owner-test.true in
    let inv = c.loop-owner.invariant in
    let old = c.args.front.now in
    let new = c.loop-owner.front in
    let less : at < length new.marks.items = omega (arith, below_at (length old.marks.items) owners c.requires i 0 c.loop-owner-test.true, inv.same) in
    rw next (elim c.if-not-index.branch [
      | then-not-index+in_ok-push w ↦
          let free : is_marked new.marks.items at ≡ false = marked-get new.marks.items at c.index.result.now less ∙ (sym c.index.ensures ∙ w.if-not-index.true) in
          rw (w.front-is, w.in_ok-push.ensures.pushed) (adds_new (take i owners) old.marks.items old.waiting new.marks.items new.waiting at inv less free)
      | else-not-index w ↦
          let is : is_marked new.marks.items at ≡ true = marked-get new.marks.items at c.index.result.now less ∙ (sym c.index.ensures ∙ w.if-not-index.false) in
          rw w.front-is (adds_old (take i owners) old.marks.items old.waiting new.marks.items new.waiting at inv is)
    ])
