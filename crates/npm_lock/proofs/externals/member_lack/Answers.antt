use Rattle.std.proofs.Common.{◌≡◌, ap, ◌∙◌, sym, ◌&&◌, not, length, get_or}
use Rattle.npm_lock.specs.Finds.{found_by}
use Rattle.npm_lock.specs.Lacks.{least_after, lacks_of}
use Rattle.npm_lock.specs.Reach.{is_set}
use Rattle.npm_lock.proofs.Locating.{map_at, found_by-length}
use Rattle.npm_lock.proofs.MembersOf.{lack_turn}
use Rattle.npm_lock.proofs.externals.member_lack.Goals as goal
use Rattle.npm_lock.proofs.externals.member_lack.Goals.{then-set-i, else-set-i}

pub lack_at-requires : goal.lack_at-requires
lack_at-requires c = λ no_link.
    let found : c.index-finds-i.result ≡ found_by c.args.entries.now c.index-entries-i.result =
    c.index-finds-i.is ∙ ap (λ f. get_or f c.loop-i.i c.index-finds-i.result) c.requires.found ∙ map_at (found_by c.args.entries.now) c.args.entries.now c.loop-i.i c.index-entries-i.result c.index-finds-i.result c.loop-i-test.true c.index-entries-i.is in
    ap length found ∙ found_by-length c.args.entries.now c.index-entries-i.result no_link

pub loop-i-preserved : goal.loop-i-preserved
loop-i-preserved c =
    let found : c.index-finds-i.result ≡ found_by c.args.entries.now c.index-entries-i.result =
    c.index-finds-i.is ∙ ap (λ f. get_or f c.loop-i.i c.index-finds-i.result) c.requires.found ∙ map_at (found_by c.args.entries.now) c.args.entries.now c.loop-i.i c.index-entries-i.result c.index-finds-i.result c.loop-i-test.true c.index-entries-i.is in
    let further : c.if-set-i.lack_at ≡ (is_set c.args.set.now c.loop-i.i && not (is_set c.args.base.now c.loop-i.i)) = elim c.if-set-i.branch [
      | then-set-i w ↦ w.lack_at-is ∙ ap (λ b. b && not (is_set c.args.base.now c.loop-i.i)) (sym w.if-set-i.true)
      | else-set-i w ↦ w.lack_at-is ∙ w.if-set-i.false ∙ ap (λ b. b && not (is_set c.args.base.now c.loop-i.i)) (sym w.if-set-i.false)
    ] in
    lack_turn c.args.entries.now c.requires.ascend c.args.base.now c.args.set.now c.loop-i.i c.index-entries-i.result (c.loop-i-test.true, c.index-entries-i.is) c.index-finds-i.result c.loop-i.least c.in_ok-least.least _ found (c.in_ok-least.ensures.least ∙ ap (λ b. least_after (lacks_of b c.index-entries-i.result c.index-finds-i.result) c.loop-i.least) further) c.loop-i.invariant
