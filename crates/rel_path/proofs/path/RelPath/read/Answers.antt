use Rattle.rel_path.proofs.Parts.{turn, fault_found, MayRefuse-part, read-AreNames}
use Rattle.rel_path.specs.Paths.{parts_of, first_fault, part_fault}
use Rattle.std.proofs.Common.{◌≡◌, ◌∙◌, ◌+◌, ◌++◌, ◌∷◌, [], ◌==◌, false, None, ap, length, take, drop, rules, arith, lit<}
use Rattle.std.proofs.lemmas.Iterator.Splits.{YieldsList-from_str_split}
use Rattle.std.proofs.lemmas.Iterator.Consumers.{YieldsList-turn, YieldsList-end}
use Rattle.std.proofs.lemmas.List.{at_drop_all, length_push, take_all}
use Rattle.std.proofs.lemmas.List.Splits.{join_with_byte-slice_split}
use Rattle.std.proofs.lemmas.Grind.{common_steps}
use Rattle.rel_path.proofs.path.RelPath.read.Goals as goal

pub returns-in-Some-part_fault-clause-err : goal.returns-in-Some-part_fault-clause-err
returns-in-Some-part_fault-clause-err c =
    let t = YieldsList-turn (YieldsList-from_str_split 47 c.args.text.now (lit< tt) (cc) (cc) (cc)) c.loop-part.yielded _ c.loop-part.yielded_by _ _ c.in-Some.part c.in-Some.is c.next.ensures.steps in
    let n = turn (parts_of c.args.text.now) (length c.loop-part.yielded) c.in-Some.part.now t in
    let found = fault_found c.args.text.now c.in-Some.part.now c.in-Some-part_fault.fault (drop (length c.loop-part.yielded + 1) (parts_of c.args.text.now)) (search rules) (c.loop-part.invariant.3 ∙ ap first_fault n.1) (search rules) in
    MayRefuse-part c.in-Some.part.now c.in-Some-part_fault.fault _ (search rules) found

pub loop-part-preserved : goal.loop-part-preserved
loop-part-preserved c =
    let t = YieldsList-turn (YieldsList-from_str_split 47 c.args.text.now (lit< tt) (cc) (cc) (cc)) c.loop-part.yielded _ c.loop-part.yielded_by _ _ c.in-Some.part c.in-Some.is c.next.ensures.steps in
    let n = turn (parts_of c.args.text.now) (length c.loop-part.yielded) c.in-Some.part.now t in
    let fault : part_fault c.in-Some.part.now ≡ None = search rules in
    let first = c.loop-part.invariant.3 ∙ ap first_fault n.1 in
    let last = c.in-Some.part.now in
    let more : c.push.new.self.items ≡ take (length c.loop-part.yielded) (parts_of c.args.text.now) ++ last ∷ [] = grind (arith, common_steps) in
    let one_more = length_push c.loop-part.yielded c.in-Some.part in
    (tt, tt, rw (one_more, n.0) more, rw one_more (first ∙ rw fault))

pub invariant_of-result : goal.invariant_of-result
invariant_of-result c =
    let t = YieldsList-end (YieldsList-from_str_split 47 c.args.text.now (lit< tt) (cc) (cc) (cc)) c.loop-part.yielded _ c.loop-part.yielded_by _ _ c.in-None.is c.next.ensures.steps in
    let done = c.loop-part.invariant.3 ∙ at_drop_all first_fault (parts_of c.args.text.now) (length c.loop-part.yielded) (omega (arith, t.1)) in
    let names = read-AreNames c.args.text.now done in
    grind (arith, common_steps, names)

pub returns-clause-ok : goal.returns-clause-ok
returns-clause-ok c =
    let t = YieldsList-end (YieldsList-from_str_split 47 c.args.text.now (lit< tt) (cc) (cc) (cc)) c.loop-part.yielded _ c.loop-part.yielded_by _ _ c.in-None.is c.next.ensures.steps in
    let done = c.loop-part.invariant.3 ∙ at_drop_all first_fault (parts_of c.args.text.now) (length c.loop-part.yielded) (omega (arith, t.1)) in
    let some : (length c.args.text.now == 0) ≡ false = search rules in
    let all = take_all (length c.loop-part.yielded) (parts_of c.args.text.now) (omega (arith, t.1)) in
    (rw (some, done), c.loop-part.invariant.2 ∙ all)

pub returns-clause-back : goal.returns-clause-back
returns-clause-back c =
    let t = YieldsList-end (YieldsList-from_str_split 47 c.args.text.now (lit< tt) (cc) (cc) (cc)) c.loop-part.yielded _ c.loop-part.yielded_by _ _ c.in-None.is c.next.ensures.steps in
    let all = take_all (length c.loop-part.yielded) (parts_of c.args.text.now) (omega (arith, t.1)) in
    rw (c.loop-part.invariant.2, all) (join_with_byte-slice_split 47 c.args.text.now)
