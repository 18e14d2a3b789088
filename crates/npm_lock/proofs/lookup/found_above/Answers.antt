use Rattle.std.proofs.Common.{◌≡◌, sym, ap, ◌∙◌, ◌-◌, suc, arith}
use Rattle.std.specs.Option.{option_or}
use Rattle.npm_lock.proofs.Found.{later, later_here, later_past, later_found, later_none}
use Rattle.npm_lock.proofs.lookup.found_above.Goals as goal
use Rattle.npm_lock.proofs.lookup.found_above.Goals.{else-from-end-eq-SLASH-via-then-from-end-eq-SLASH+else-not-is_modules, else-from-end-eq-SLASH-via-else-from-end-eq-SLASH}

pub returns-then-is_some : goal.returns-then-is_some
returns-then-is_some c =
    let end : c.loop-end.end ≡ suc (c.loop-end.end - 1) = omega arith in
    let here = later_here c.args.entries.now c.args.from.now c.args.name.now c.loop-end.end (c.loop-end.end - 1) end c.if-from-end-eq-SLASH.true (sym c.is_modules.ensures ∙ c.if-not-is_modules.true) in
    let rest = later c.args.entries.now c.args.from.now c.args.name.now (c.loop-end.end - 1) in
    sym (later_found c.number_of-found.result (sym c.is_some.ensures ∙ c.if-is_some.true) rest) ∙ ap (λ o. option_or o rest) c.number_of-found.ensures ∙ sym here ∙ c.loop-end.invariant.left

pub loop-end-preserved-then-not-is_modules : goal.loop-end-preserved-then-not-is_modules
loop-end-preserved-then-not-is_modules c =
    let end : c.loop-end.end ≡ suc (c.loop-end.end - 1) = omega arith in
    let here = later_here c.args.entries.now c.args.from.now c.args.name.now c.loop-end.end (c.loop-end.end - 1) end c.if-from-end-eq-SLASH.true (sym c.is_modules.ensures ∙ c.if-not-is_modules.true) in
    let rest = later c.args.entries.now c.args.from.now c.args.name.now (c.loop-end.end - 1) in record {
      within = omega (arith, c.loop-end.invariant.within);
      left = sym (later_none c.number_of-found.result (sym c.is_some.ensures ∙ c.if-is_some.false) rest) ∙ ap (λ o. option_or o rest) c.number_of-found.ensures ∙ sym here ∙ c.loop-end.invariant.left;
    }

pub loop-end-preserved : goal.loop-end-preserved
loop-end-preserved c =
    let end : c.loop-end.end ≡ suc (c.loop-end.end - 1) = omega arith in
    elim c.else-from-end-eq-SLASH.branch [
      | else-from-end-eq-SLASH-via-then-from-end-eq-SLASH+else-not-is_modules w ↦ record {
        within = omega (arith, c.loop-end.invariant.within);
        left = sym (later_past c.args.entries.now c.args.from.now c.args.name.now c.loop-end.end (c.loop-end.end - 1) end (λ _. sym w.is_modules.ensures ∙ w.if-not-is_modules.false)) ∙ c.loop-end.invariant.left;
      }
      | else-from-end-eq-SLASH-via-else-from-end-eq-SLASH w ↦ record {
        within = omega (arith, c.loop-end.invariant.within);
        left = sym (later_past c.args.entries.now c.args.from.now c.args.name.now c.loop-end.end (c.loop-end.end - 1) end (λ e. absurd (w.if-from-end-eq-SLASH.false e))) ∙ c.loop-end.invariant.left;
      }
    ]
