use Rattle.std.proofs.Common.{◌≡◌, ℕ, ◌+◌, ◌-◌, ◌<◌, ◌≤◌, ◌==◌, ◌&&◌, ◌||◌, not, false, true, List, cond, length, refl, sym, ap, subst, ◌∙◌, arith}
use mathlib.Core.Path.{fun_ext}
use Rattle.std.proofs.lemmas.List.{with_items_is, get_or_read}
use Rattle.std.specs.Vec.{with_items}
use Rattle.run_core.specs.declared.states.Mode.{Mode}
use Rattle.run_core.specs.declared.states.State.{State}
use Rattle.run_core.specs.declared.states.State.TheVariants.{Running, Ended, Left}
use Rattle.run_core.specs.Greedy.{Rules, AreLower, serves, count_below}
use Rattle.run_core.specs.Core.{rules_in, states_in}
use Rattle.run_core.specs.Machine.{put, after_end, runs, is_waiting, is_missed, is_well, is_above, has_failed, some_below, IsCalm}
use Rattle.run_core.specs.Sets.{has}
use Rattle.run_core.specs.Tables.{Agree, IsClosed, Mirrors, is_left, is_in, times, count_at, list_at}
use Rattle.run_core.proofs.Counts.{count-lt}
use Rattle.run_core.proofs.Moved.{settled-well, spread-agrees, closed-put, quiet-ready, put-fewer, failed-put, end-runs, end-fails, after-good, after-bad, times-missing}
use Rattle.run_core.proofs.Members.{list-inside, member-all}
use Rattle.run_core.proofs.Leaving.{mirrored}
use Rattle.run_core.proofs.Calm.{calm-end}
use Rattle.run_core.proofs.Views.{inward, changes, keeps, running-inside, runs-after}
use Rattle.run_core.proofs.scheduler.Core.ended.Goals as goal

pub set_state-requires : goal.set_state-requires
set_state-requires c =
    let s = c.self.inside in
    let is = inward s.deps.items s.commands.items s.width s.mode (λ g st. st c.args.t ≡ Running) s.states.items c.args.self.now c.self.view_is c.requires in
    rw c.deref_mut.ensures.value (running-inside s.states.items c.args.t is)

pub overflow_sub-self : goal.overflow_sub-self
overflow_sub-self c =
    let s = c.self.inside in
    let i = c.self.invariant in
    let st = states_in s.states.items in
    let is = inward s.deps.items s.commands.items s.width s.mode (λ g st. st c.args.t ≡ Running) s.states.items c.args.self.now c.self.view_is c.requires in
    let inside = running-inside s.states.items c.args.t is in
    omega (arith, i.agree.commands, count-lt (λ u. runs (st u)) c.args.t (length s.deps.items) (ap runs is) (omega (arith, inside, i.state_count)))

pub index-requires : goal.index-requires
index-requires c =
    let s = c.self.inside in
    let is = inward s.deps.items s.commands.items s.width s.mode (λ g st. st c.args.t ≡ Running) s.states.items c.args.self.now c.self.view_is c.requires in
    let inside = running-inside s.states.items c.args.t is in
    omega (arith, inside, c.self.invariant.state_count, c.self.invariant.dependent_count, s.dependents.ok.0)

pub serve_each-requires-clause-unmet : goal.serve_each-requires-clause-unmet
serve_each-requires-clause-unmet c =
    let s = c.self.inside in
    let i = c.self.invariant in
    let t = c.args.t in
    let g = rules_in s.deps.items s.width s.mode in
    let st = states_in s.states.items in
    let is = inward s.deps.items s.commands.items s.width s.mode (λ g st. st c.args.t ≡ Running) s.states.items c.args.self.now c.self.view_is c.requires in
    let inside = running-inside s.states.items t is in
    let list : c.as_slice-dependents.result.now ≡ list_at s.dependents.items t = c.as_slice-dependents.ensures ∙ get_or_read s.dependents.items t _ (omega (arith, inside, i.state_count, i.dependent_count)) c.index.ensures _ in
    λ u. subst (λ xs. times u xs ≤ count_at c.deref_mut-then-is_serving.result.now u) (sym list) (subst (λ xs. times u (list_at s.dependents.items t) ≤ count_at xs u) (sym c.deref_mut-then-is_serving.ensures.value)
    (omega (arith, i.mirrors t u, i.agree.counts u, times-missing (λ d. is_well s.mode (st d)) t (ap (is_well s.mode) is) (g.deps u))))

pub invariant_of-self : goal.invariant_of-self
invariant_of-self c =
    let s = c.self.inside in
    let i = c.self.invariant in
    let t = c.args.t in
    let x = c.args.status in
    let g = rules_in s.deps.items s.width s.mode in
    let st = states_in s.states.items in
    let is = inward s.deps.items s.commands.items s.width s.mode (λ g st. st c.args.t ≡ Running) s.states.items c.args.self.now c.self.view_is c.requires in
    let inside = running-inside s.states.items t is in
    let below : t < length s.deps.items = omega (arith, inside, i.state_count) in
    let good : serves s.mode x ≡ true = sym c.is_serving.ensures ∙ c.if-is_serving.true in
    let items = with_items_is s.states c.set_state.new.states (c.set_state.auto.states ∙ c.deref_mut.ensures.len) in
    let new : states_in (with_items s.states c.set_state.new.states).items ≡ put st t (Ended x) = ap states_in items ∙ c.set_state.ensures ∙ ap (λ xs. put (states_in xs) t (Ended x)) c.deref_mut.ensures.value in
    let counted = with_items_is s.unmet c.serve_each.new.unmet (c.serve_each.auto.unmet ∙ c.deref_mut-then-is_serving.ensures.len) in
    let xs = list_at s.dependents.items t in
    let list : c.as_slice-dependents.result.now ≡ xs = c.as_slice-dependents.ensures ∙ get_or_read s.dependents.items t _ (omega (arith, below, i.dependent_count)) c.index.ensures _ in
    let counts = subst (λ ys. (u : ℕ) → count_at c.serve_each.new.unmet u + times u ys ≡ count_at s.unmet.items u) list (subst (λ ys. (u : ℕ) → count_at c.serve_each.new.unmet u + times u c.as_slice-dependents.result.now ≡ count_at ys u) c.deref_mut-then-is_serving.ensures.value c.serve_each.ensures.unmet) in
    let readies = subst (λ ys. (u : ℕ) → has c.serve_each.new.ready u ≡ (has s.ready u || (is_in u ys && (is_waiting (put st t (Ended x) u) && (count_at c.serve_each.new.unmet u == 0))))) list
    (subst (λ y. (u : ℕ) → has c.serve_each.new.ready u ≡ (has s.ready u || (is_in u c.as_slice-dependents.result.now && (is_waiting (y u) && (count_at c.serve_each.new.unmet u == 0))))) (ap states_in c.deref.ensures.value ∙ new) c.serve_each.ensures.ready) in
    let fewer = put-fewer runs st t (Ended x) (length s.deps.items) below (ap runs is) refl in
    record {
      few = i.few;
      wide = i.wide;
      lower = i.lower;
      state_count = ap length items ∙ c.set_state.auto.states ∙ ap length c.deref_mut.ensures.value ∙ i.state_count;
      dependent_count = i.dependent_count;
      unmet_count = ap length counted ∙ c.serve_each.auto.unmet ∙ ap length c.deref_mut-then-is_serving.ensures.value ∙ i.unmet_count;
      ready_room = subst (λ n. length s.deps.items ≤ n) (sym c.serve_each.ensures.room) i.ready_room;
      missed_room = i.missed_room;
      pending_room = i.pending_room;
      quiet = i.quiet;
      mirrors = i.mirrors;
      agree = subst (λ y. Agree g y (with_items s.unmet c.serve_each.new.unmet).items c.serve_each.new.ready s.missed (s.running - 1) c.either-self-inside.result) (sym new)
          (subst (λ ns. Agree g (put st t (Ended x)) ns c.serve_each.new.ready s.missed (s.running - 1) c.either-self-inside.result) (sym counted)
          (settled-well g i.lower st t (Ended x) xs s.unmet.items c.serve_each.new.unmet s.ready s.ready c.serve_each.new.ready s.missed s.running (s.running - 1) s.failed c.either-self-inside.result i.agree
          (ap (is_well s.mode) is) good refl (ap is_left is) refl (ap is_missed (sym is)) (i.mirrors t) (λ u h. list-inside s.deps.items u t (mirrored g s.dependents.items i.mirrors t u h))
          (quiet-ready g i.lower st s.unmet.items s.ready s.missed s.running s.failed i.agree t (ap is_waiting is)) counts readies
          (omega (arith, i.agree.commands, fewer))
          (c.either-self-inside.ensures ∙ ap (λ b. b || not (x == 0)) i.agree.failures ∙ failed-put st t x (length s.deps.items) below (ap has_failed is))
          (subst (IsCalm g) (after-good g i.lower st t x good) (calm-end g st i.lower i.agree.calm t x is))));
    }

pub leave_above-requires-clause-from : goal.leave_above-requires-clause-from
leave_above-requires-clause-from c =
    let s = c.self.inside in
    let is = inward s.deps.items s.commands.items s.width s.mode (λ g st. st c.args.t ≡ Running) s.states.items c.args.self.now c.self.view_is c.requires in
    let inside = running-inside s.states.items c.args.t is in
    let items = with_items_is s.states c.set_state.new.states (c.set_state.auto.states ∙ c.deref_mut.ensures.len) in
    omega (arith, inside, ap length (c.deref_mut-else-is_serving.ensures.value ∙ items), c.set_state.auto.states, ap length c.deref_mut.ensures.value)

pub leave_above-requires-clause-higher : goal.leave_above-requires-clause-higher
leave_above-requires-clause-higher c =
    let s = c.self.inside in
    let i = c.self.invariant in
    let g = rules_in s.deps.items s.width s.mode in
    λ v u h. member-all (λ d. d < u) (g.deps u) v (i.lower u) (mirrored g s.dependents.items i.mirrors v u (subst (λ xs. is_in u (list_at xs v) ≡ true) c.deref-else-is_serving.ensures.value h))

pub leave_above-requires-clause-below : goal.leave_above-requires-clause-below
leave_above-requires-clause-below c =
    let s = c.self.inside in
    let i = c.self.invariant in
    let g = rules_in s.deps.items s.width s.mode in
    let items = with_items_is s.states c.set_state.new.states (c.set_state.auto.states ∙ c.deref_mut.ensures.len) in
    λ v u h.
    let b = list-inside s.deps.items u v (mirrored g s.dependents.items i.mirrors v u (subst (λ xs. is_in u (list_at xs v) ≡ true) c.deref-else-is_serving.ensures.value h)) in
    omega (arith, b, i.state_count, ap length (c.deref_mut-else-is_serving.ensures.value ∙ items), c.set_state.auto.states, ap length c.deref_mut.ensures.value)

pub invariant_of-self-else-is_serving : goal.invariant_of-self-else-is_serving
invariant_of-self-else-is_serving c =
    let s = c.self.inside in
    let i = c.self.invariant in
    let t = c.args.t in
    let x = c.args.status in
    let g = rules_in s.deps.items s.width s.mode in
    let st = states_in s.states.items in
    let is = inward s.deps.items s.commands.items s.width s.mode (λ g st. st c.args.t ≡ Running) s.states.items c.args.self.now c.self.view_is c.requires in
    let inside = running-inside s.states.items t is in
    let below : t < length s.deps.items = omega (arith, inside, i.state_count) in
    let bad : serves s.mode x ≡ false = sym c.is_serving.ensures ∙ c.if-is_serving.false in
    let first = with_items_is s.states c.set_state.new.states (c.set_state.auto.states ∙ c.deref_mut.ensures.len) in
    let between : states_in c.deref_mut-else-is_serving.result.now ≡ put st t (Ended x) = ap states_in (c.deref_mut-else-is_serving.ensures.value ∙ first) ∙ c.set_state.ensures ∙ ap (λ xs. put (states_in xs) t (Ended x)) c.deref_mut.ensures.value in
    let items = with_items_is (with_items s.states c.set_state.new.states) c.leave_above.new.states (c.leave_above.auto.states ∙ c.deref_mut-else-is_serving.ensures.len) in
    let mirrors : Mirrors g c.deref-else-is_serving.result.now = subst (Mirrors g) (sym c.deref-else-is_serving.ensures.value) i.mirrors in
    let closed = subst (IsClosed g) (sym between) (closed-put g i.lower st t (Ended x) i.agree.closed (ap is_left is) refl) in
    let left : states_in c.leave_above.new.states ≡ after_end g st t x = fun_ext (λ u. c.leave_above.ensures.states g i.lower mirrors closed u ∙ ap (λ y. cond (is_above g u t) Left (y u)) between ∙ sym (after-bad g i.lower st t x bad u)) in
    let fewer = put-fewer runs st t (Ended x) (length s.deps.items) below (ap runs is) refl in
    record {
      few = i.few;
      wide = i.wide;
      lower = i.lower;
      state_count = ap length items ∙ c.leave_above.auto.states ∙ ap length (c.deref_mut-else-is_serving.ensures.value ∙ first) ∙ c.set_state.auto.states ∙ ap length c.deref_mut.ensures.value ∙ i.state_count;
      dependent_count = i.dependent_count;
      unmet_count = i.unmet_count;
      ready_room = i.ready_room;
      missed_room = i.missed_room;
      pending_room = subst (λ n. length s.deps.items ≤ n) (sym c.leave_above.ensures.room) i.pending_room;
      quiet = c.leave_above.ensures.empty;
      mirrors = i.mirrors;
      agree = subst (λ y. Agree g y s.unmet.items s.ready s.missed (s.running - 1) c.either-self-inside.result) (sym (ap states_in items ∙ left))
          (spread-agrees g i.lower st t x s.unmet.items s.ready s.missed s.running (s.running - 1) s.failed c.either-self-inside.result i.agree is bad
          (let e : s.running - 1 ≡ count_below (λ u. runs (put st t (Ended x) u)) (length s.deps.items) = omega (arith, i.agree.commands, fewer) in e ∙ ap (λ p. count_below p (length s.deps.items)) (fun_ext (λ u. sym (end-runs g i.lower st i.agree.calm t x is u))))
          (c.either-self-inside.ensures ∙ ap (λ b. b || not (x == 0)) i.agree.failures ∙ failed-put st t x (length s.deps.items) below (ap has_failed is) ∙ ap (λ p. some_below p (length s.deps.items)) (fun_ext (λ u. sym (end-fails g i.lower st i.agree.calm t x is u)))));
    }

pub returns-then-is_serving-clause-states : goal.returns-then-is_serving-clause-states
returns-then-is_serving-clause-states c =
    let s = c.self.inside in
    let t = c.args.t in
    let x = c.args.status in
    let good : serves s.mode x ≡ true = sym c.is_serving.ensures ∙ c.if-is_serving.true in
    let items = with_items_is s.states c.set_state.new.states (c.set_state.auto.states ∙ c.deref_mut.ensures.len) in
    let new : states_in (with_items s.states c.set_state.new.states).items ≡ put (states_in s.states.items) t (Ended x) = ap states_in items ∙ c.set_state.ensures ∙ ap (λ xs. put (states_in xs) t (Ended x)) c.deref_mut.ensures.value in
    changes s.deps.items s.commands.items s.width s.mode (λ g st. after_end g st t x) s.states.items (with_items s.states c.set_state.new.states).items c.args.self.now c.self.view_is
    (new ∙ sym (after-good (rules_in s.deps.items s.width s.mode) c.self.invariant.lower (states_in s.states.items) t x good))

pub returns-then-is_serving-clause-runs : goal.returns-then-is_serving-clause-runs
returns-then-is_serving-clause-runs c =
    let s = c.self.inside in
    let i = c.self.invariant in
    let t = c.args.t in
    let x = c.args.status in
    let is = inward s.deps.items s.commands.items s.width s.mode (λ g st. st c.args.t ≡ Running) s.states.items c.args.self.now c.self.view_is c.requires in
    let good : serves s.mode x ≡ true = sym c.is_serving.ensures ∙ c.if-is_serving.true in
    let items = with_items_is s.states c.set_state.new.states (c.set_state.auto.states ∙ c.deref_mut.ensures.len) in
    let new : states_in (with_items s.states c.set_state.new.states).items ≡ put (states_in s.states.items) t (Ended x) = ap states_in items ∙ c.set_state.ensures ∙ ap (λ xs. put (states_in xs) t (Ended x)) c.deref_mut.ensures.value in
    runs-after s.deps.items s.commands.items s.width s.mode i.lower s.states.items (with_items s.states c.set_state.new.states).items c.args.self.now c.self.view_is i.agree.calm t x is
    (new ∙ sym (after-good (rules_in s.deps.items s.width s.mode) i.lower (states_in s.states.items) t x good))

pub returns-then-is_serving-clause-kept : goal.returns-then-is_serving-clause-kept
returns-then-is_serving-clause-kept c =
    let s = c.self.inside in
    keeps s.deps.items s.commands.items s.width s.mode s.states.items (with_items s.states c.set_state.new.states).items c.args.self.now c.self.view_is

pub returns-else-is_serving-clause-kept : goal.returns-else-is_serving-clause-kept
returns-else-is_serving-clause-kept c =
    let s = c.self.inside in
    keeps s.deps.items s.commands.items s.width s.mode s.states.items (with_items (with_items s.states c.set_state.new.states) c.leave_above.new.states).items c.args.self.now c.self.view_is

-- the states after a failure
left-states : (deps : List (List ℕ)) (width : ℕ) (mode : Mode) → AreLower (rules_in deps width mode) → (old first last : List State) (dependents : List (List ℕ)) (t x : ℕ) → IsClosed (rules_in deps width mode) (states_in old) → states_in old t ≡ Running → serves mode x ≡ false
    → Mirrors (rules_in deps width mode) dependents → states_in first ≡ put (states_in old) t (Ended x)
    → ((g : Rules) → AreLower g → Mirrors g dependents → IsClosed g (states_in first) → (u : ℕ) → states_in last u ≡ cond (is_above g u t) Left (states_in first u))
    → states_in last ≡ after_end (rules_in deps width mode) (states_in old) t x
left-states deps width mode low old first last dependents t x closed is bad mirrors between each =
    let g = rules_in deps width mode in
    let shut = subst (IsClosed g) (sym between) (closed-put g low (states_in old) t (Ended x) closed (ap is_left is) refl) in
    fun_ext (λ u. each g low mirrors shut u ∙ ap (λ y. cond (is_above g u t) Left (y u)) between ∙ sym (after-bad g low (states_in old) t x bad u))

pub returns-else-is_serving-clause-states : goal.returns-else-is_serving-clause-states
returns-else-is_serving-clause-states c =
    let s = c.self.inside in
    let i = c.self.invariant in
    let t = c.args.t in
    let x = c.args.status in
    let is = inward s.deps.items s.commands.items s.width s.mode (λ g st. st c.args.t ≡ Running) s.states.items c.args.self.now c.self.view_is c.requires in
    let bad : serves s.mode x ≡ false = sym c.is_serving.ensures ∙ c.if-is_serving.false in
    let first = with_items_is s.states c.set_state.new.states (c.set_state.auto.states ∙ c.deref_mut.ensures.len) in
    let between : states_in c.deref_mut-else-is_serving.result.now ≡ put (states_in s.states.items) t (Ended x) = ap states_in (c.deref_mut-else-is_serving.ensures.value ∙ first) ∙ c.set_state.ensures ∙ ap (λ xs. put (states_in xs) t (Ended x)) c.deref_mut.ensures.value in
    let items = with_items_is (with_items s.states c.set_state.new.states) c.leave_above.new.states (c.leave_above.auto.states ∙ c.deref_mut-else-is_serving.ensures.len) in
    changes s.deps.items s.commands.items s.width s.mode (λ g st. after_end g st t x) s.states.items (with_items (with_items s.states c.set_state.new.states) c.leave_above.new.states).items c.args.self.now c.self.view_is
    (ap states_in items ∙ left-states s.deps.items s.width s.mode i.lower s.states.items c.deref_mut-else-is_serving.result.now c.leave_above.new.states c.deref-else-is_serving.result.now t x i.agree.closed is bad (subst (Mirrors (rules_in s.deps.items s.width s.mode)) (sym c.deref-else-is_serving.ensures.value) i.mirrors) between c.leave_above.ensures.states)

pub returns-else-is_serving-clause-runs : goal.returns-else-is_serving-clause-runs
returns-else-is_serving-clause-runs c =
    let s = c.self.inside in
    let i = c.self.invariant in
    let t = c.args.t in
    let x = c.args.status in
    let is = inward s.deps.items s.commands.items s.width s.mode (λ g st. st c.args.t ≡ Running) s.states.items c.args.self.now c.self.view_is c.requires in
    let bad : serves s.mode x ≡ false = sym c.is_serving.ensures ∙ c.if-is_serving.false in
    let first = with_items_is s.states c.set_state.new.states (c.set_state.auto.states ∙ c.deref_mut.ensures.len) in
    let between : states_in c.deref_mut-else-is_serving.result.now ≡ put (states_in s.states.items) t (Ended x) = ap states_in (c.deref_mut-else-is_serving.ensures.value ∙ first) ∙ c.set_state.ensures ∙ ap (λ xs. put (states_in xs) t (Ended x)) c.deref_mut.ensures.value in
    let items = with_items_is (with_items s.states c.set_state.new.states) c.leave_above.new.states (c.leave_above.auto.states ∙ c.deref_mut-else-is_serving.ensures.len) in
    runs-after s.deps.items s.commands.items s.width s.mode i.lower s.states.items (with_items (with_items s.states c.set_state.new.states) c.leave_above.new.states).items c.args.self.now c.self.view_is i.agree.calm t x is
    (ap states_in items ∙ left-states s.deps.items s.width s.mode i.lower s.states.items c.deref_mut-else-is_serving.result.now c.leave_above.new.states c.deref-else-is_serving.result.now t x i.agree.closed is bad (subst (Mirrors (rules_in s.deps.items s.width s.mode)) (sym c.deref-else-is_serving.ensures.value) i.mirrors) between c.leave_above.ensures.states)
