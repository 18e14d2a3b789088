use Rattle.std.proofs.Common.{◌≡◌, ◌<◌, ◌+◌, ◌-◌, ◌∙◌, length, drop, sym, arith}
use Rattle.std.proofs.lemmas.List.{take_all, length-drop}
use Rattle.ignore_rules.specs.Stacks.{rules_in}
use Rattle.ignore_rules.proofs.Says.{verdict_at, verdict_whole, verdict_end, verdict_none}
use Rattle.ignore_rules.proofs.stack.Stack.leaves_out.Goals as goal

pub loop-depth-init : goal.loop-depth-init
loop-depth-init c = (omega arith, verdict_end (rules_in c.args.self.now) c.args.is_folder c.args.path.now)

pub returns-in-Some : goal.returns-in-Some
returns-in-Some c =
    let rules = rules_in c.args.self.now in
    let path = c.args.path.now in
    let depth = c.loop-depth.depth - 1 in
    let same : c.loop-depth.depth ≡ depth + 1 = omega arith in
    let below : depth < length path = omega arith in
    let here = verdict_at rules c.args.is_folder path depth below (rw same at c.loop-depth.invariant.1) in
    let says = rw (take_all (length path - depth) (drop depth path) (omega (arith, length-drop depth path))) at c.says_in.ensures in
    sym (verdict_whole rules c.args.is_folder c.in-Some.out path depth (here ∙ sym says ∙ c.in-Some.is))

pub loop-depth-preserved : goal.loop-depth-preserved
loop-depth-preserved c =
    let rules = rules_in c.args.self.now in
    let path = c.args.path.now in
    let depth = c.loop-depth.depth - 1 in
    let same : c.loop-depth.depth ≡ depth + 1 = omega arith in
    let below : depth < length path = omega arith in
    let here = verdict_at rules c.args.is_folder path depth below (rw same at c.loop-depth.invariant.1) in
    let says = rw (take_all (length path - depth) (drop depth path) (omega (arith, length-drop depth path))) at c.says_in.ensures in
    (omega arith, here ∙ sym says ∙ c.in_default.is)

pub returns : goal.returns
returns c = sym (verdict_none (rules_in c.args.self.now) c.args.is_folder c.args.path.now c.loop-depth.depth (omega arith) c.loop-depth.invariant.1)
