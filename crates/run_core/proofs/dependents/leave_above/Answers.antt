use Rattle.std.proofs.Common.{MatchOption, ◌≡◌, ◌&&◌, ◌||◌, ℕ, Bool, List, not, false, cond, sym, ap, ◌∙◌, subst, arith, inl, inr}
use Rattle.std.proofs.lemmas.List.{get_or_read}
use Rattle.std.proofs.lemmas.Bool.{or_cases, and_parts, false≢true}
use Rattle.run_core.specs.declared.states.State.{State}
use Rattle.run_core.specs.declared.states.State.TheVariants.{Left}
use Rattle.run_core.specs.Core.{states_in}
use Rattle.run_core.specs.Sets.{has, IsLeast}
use Rattle.run_core.specs.Tables.{is_in, is_left, list_at}
use Rattle.run_core.proofs.Leaving.{search-falls, spread-start, spread-step, spread-end, waits-or-comes}
use Rattle.run_core.proofs.dependents.leave_above.Goals as goal

-- what one list of dependents does
abbrev Leaves : List ℕ → List State → List State → Type 0
Leaves xs old new = (u : ℕ) → states_in new u ≡ cond (is_in u xs) Left (states_in old u)

abbrev Waits : List ℕ → List State → List Bool → List Bool → Type 0
Waits xs old before after = (u : ℕ) → has after u ≡ (has before u || (is_in u xs && not (is_left (states_in old u))))

pub leave_each-requires-clause-below : goal.leave_each-requires-clause-below
leave_each-requires-clause-below c =
    let list : c.as_slice.result.now ≡ list_at c.args.dependents.now c.args.from = c.as_slice.ensures ∙ get_or_read c.args.dependents.now c.args.from _ (rw c.requires.tasks c.requires.from) c.index-dependents-from.is _ in
    λ u h. c.requires.below c.args.from u (sym (ap (is_in u) list) ∙ h)

pub loop-t-init : goal.loop-t-init
loop-t-init c =
    let old = c.args.states.now in
    let new = c.leave_each.new.states in
    let list : c.as_slice.result.now ≡ list_at c.args.dependents.now c.args.from = c.as_slice.ensures ∙ get_or_read c.args.dependents.now c.args.from _ (rw c.requires.tasks c.requires.from) c.index-dependents-from.is _ in
    let states = subst (λ xs. Leaves xs old new) list c.leave_each.ensures.states in
    let pending = subst (λ xs. Waits xs old c.args.pending.now c.leave_each.new.pending) list c.leave_each.ensures.pending in
    record {
      room = c.leave_each.ensures.room;
      below = λ u h. elim (or_cases (has c.args.pending.now u) _ (sym (pending u) ∙ h)) [
        | inl k ↦ absurd (false≢true (sym (c.requires.empty u) ∙ k))
        | inr k ↦ let b = c.requires.below c.args.from u (and_parts (is_in u (list_at c.args.dependents.now c.args.from)) _ k).0 in omega (arith, b, c.leave_each.auto.states)
      ];
      spread = λ g low mirrors closed. spread-start g low c.args.dependents.now mirrors c.args.from (states_in old) closed c.args.pending.now c.leave_each.new.pending (states_in new) c.requires.empty states pending;
    }

pub leave_each-requires-in-Some-clause-below : goal.leave_each-requires-in-Some-clause-below
leave_each-requires-in-Some-clause-below c =
    let t = c.in-Some.t in
    let inside = c.loop-t.invariant.below t c.in-Some.ensures.member in
    let list : c.as_slice-in-Some.result.now ≡ list_at c.args.dependents.now t = c.as_slice-in-Some.ensures ∙ get_or_read c.args.dependents.now t _ (omega (arith, inside, c.requires.tasks, c.loop-t.auto.states)) c.index-dependents-t.is _ in
    λ u h. let b = c.requires.below t u (sym (ap (is_in u) list) ∙ h) in omega (arith, b, c.loop-t.auto.states)

pub loop-t-smaller : goal.loop-t-smaller
loop-t-smaller c =
    let t = c.in-Some.t in
    let old = c.loop-t.states in
    let inside = c.loop-t.invariant.below t c.in-Some.ensures.member in
    let list : c.as_slice-in-Some.result.now ≡ list_at c.args.dependents.now t = c.as_slice-in-Some.ensures ∙ get_or_read c.args.dependents.now t _ (omega (arith, inside, c.requires.tasks, c.loop-t.auto.states)) c.index-dependents-t.is _ in
    let added : ℕ → Bool = λ u. is_in u c.as_slice-in-Some.result.now && not (is_left (states_in old u)) in
    search-falls c.loop-t.pending c.leave_each-in-Some.new.pending t c.in-Some.ensures (c.leave_each-in-Some.ensures.room ∙ c.set.ensures.room) added
    (λ u h. c.requires.higher t u (sym (ap (is_in u) list) ∙ (and_parts (is_in u c.as_slice-in-Some.result.now) _ h).0))
    (λ u. c.leave_each-in-Some.ensures.pending u ∙ ap (λ b. b || added u) (c.set.ensures.member u))

pub loop-t-preserved : goal.loop-t-preserved
loop-t-preserved c =
    let t = c.in-Some.t in
    let old = c.loop-t.states in
    let new = c.leave_each-in-Some.new.states in
    let inside = c.loop-t.invariant.below t c.in-Some.ensures.member in
    let list : c.as_slice-in-Some.result.now ≡ list_at c.args.dependents.now t = c.as_slice-in-Some.ensures ∙ get_or_read c.args.dependents.now t _ (omega (arith, inside, c.requires.tasks, c.loop-t.auto.states)) c.index-dependents-t.is _ in
    let states = subst (λ xs. Leaves xs old new) list c.leave_each-in-Some.ensures.states in
    let pending = subst (λ xs. Waits xs old c.set.new.self c.leave_each-in-Some.new.pending) list c.leave_each-in-Some.ensures.pending in
    record {
      room = c.leave_each-in-Some.ensures.room ∙ c.set.ensures.room ∙ c.loop-t.invariant.room;
      below = λ u h. elim (waits-or-comes c.loop-t.pending c.set.new.self c.leave_each-in-Some.new.pending _ t c.set.ensures.member pending u h) [
        | inl k ↦ let b = c.loop-t.invariant.below u k in omega (arith, b, c.leave_each-in-Some.auto.states)
        | inr k ↦ let b = c.requires.below t u (and_parts (is_in u (list_at c.args.dependents.now t)) _ k).0 in omega (arith, b, c.leave_each-in-Some.auto.states, c.loop-t.auto.states)
      ];
      spread = λ g low mirrors closed. spread-step g low c.args.dependents.now mirrors c.args.from (states_in c.args.states.now) closed c.loop-t.pending c.set.new.self c.leave_each-in-Some.new.pending (states_in old) (states_in new) t
          (c.loop-t.invariant.spread g low mirrors closed) c.in-Some.ensures.member c.set.ensures.member states pending;
    }

pub returns-clause-states : goal.returns-clause-states
returns-clause-states c =
    λ g low mirrors closed. spread-end g low c.args.dependents.now mirrors c.args.from (states_in c.args.states.now) closed c.loop-t.pending (states_in c.loop-t.states) (c.loop-t.invariant.spread g low mirrors closed)
    (subst (λ r. MatchOption r ((p : ℕ) → has c.loop-t.pending p ≡ false) (IsLeast c.loop-t.pending)) c.in_default.is c.least.ensures)
