use Rattle.std.proofs.Common.{◌≡◌, ◌+◌, length, ◌≤◌, refl, sym, ap, subst, ◌∙◌, arith}
use Rattle.std.proofs.lemmas.List.{with_items_is}
use Rattle.std.specs.Vec.{with_items}
use Rattle.run_core.specs.declared.states.State.TheVariants.{Running}
use Rattle.run_core.specs.declared.states.Next.TheVariants.{Start}
use Rattle.run_core.specs.Core.{rules_in, states_in}
use Rattle.run_core.specs.Machine.{next, put, runs, is_waiting, is_well, has_failed}
use Rattle.run_core.specs.Tables.{Agree, is_left}
use Rattle.run_core.proofs.Moved.{moved, put-more, quiet-ready}
use Rattle.run_core.proofs.Counts.{count-le}
use Rattle.run_core.proofs.Calm.{calm-start}
use Rattle.run_core.proofs.Steps.{missed-is}
use Rattle.run_core.proofs.Views.{inward, changes, keeps, is-started}
use Rattle.run_core.proofs.scheduler.Core.started.Goals as goal

pub set_state-requires : goal.set_state-requires
set_state-requires c =
    let s = c.self.inside in
    let i = c.self.invariant in
    let e = inward s.deps.items s.commands.items s.width s.mode (λ g st. next g st ≡ Start c.args.t) s.states.items c.args.self.now c.self.view_is c.requires in
    let m = is-started (rules_in s.deps.items s.width s.mode) (states_in s.states.items) c.args.t e in
    omega (arith, m.2, i.state_count, c.deref_mut.ensures.len, ap length c.deref_mut.ensures.value)

pub set-requires : goal.set-requires
set-requires c =
    let s = c.self.inside in
    let e = inward s.deps.items s.commands.items s.width s.mode (λ g st. next g st ≡ Start c.args.t) s.states.items c.args.self.now c.self.view_is c.requires in
    let m = is-started (rules_in s.deps.items s.width s.mode) (states_in s.states.items) c.args.t e in
    omega (arith, m.2, c.self.invariant.missed_room)

pub overflow_add-self : goal.overflow_add-self
overflow_add-self c =
    let s = c.self.inside in
    omega (arith, c.self.invariant.agree.commands, c.self.invariant.few, count-le (λ t. runs (states_in s.states.items t)) (length s.deps.items))

pub invariant_of-self : goal.invariant_of-self
invariant_of-self c =
    let s = c.self.inside in
    let i = c.self.invariant in
    let t = c.args.t in
    let g = rules_in s.deps.items s.width s.mode in
    let st = states_in s.states.items in
    let e = inward s.deps.items s.commands.items s.width s.mode (λ g st. next g st ≡ Start t) s.states.items c.args.self.now c.self.view_is c.requires in
    let m = is-started g st t e in
    let is = missed-is (st t) m.3 in
    let items = with_items_is s.states c.set_state.new.states (c.set_state.auto.states ∙ c.deref_mut.ensures.len) in
    let new : states_in (with_items s.states c.set_state.new.states).items ≡ put st t Running = ap states_in items ∙ c.set_state.ensures ∙ ap (λ xs. put (states_in xs) t Running) c.deref_mut.ensures.value in
    record {
      few = i.few;
      wide = i.wide;
      lower = i.lower;
      state_count = ap length items ∙ c.set_state.auto.states ∙ ap length c.deref_mut.ensures.value ∙ i.state_count;
      dependent_count = i.dependent_count;
      unmet_count = i.unmet_count;
      ready_room = i.ready_room;
      missed_room = subst (λ n. length s.deps.items ≤ n) (sym c.set.ensures.room) i.missed_room;
      pending_room = i.pending_room;
      quiet = i.quiet;
      mirrors = i.mirrors;
      agree = subst (λ x. Agree g x s.unmet.items s.ready c.set.new.self (s.running + 1) s.failed) (sym new)
          (moved g i.lower st t Running s.unmet.items s.ready s.ready s.missed c.set.new.self s.running (s.running + 1) s.failed i.agree
          (ap (is_well s.mode) is) refl refl (ap is_left is) refl (ap has_failed (sym is)) (λ u. quiet-ready g i.lower st s.unmet.items s.ready s.missed s.running s.failed i.agree t (ap is_waiting is) u) c.set.ensures.member
          (ap (λ n. n + 1) i.agree.commands ∙ sym (put-more runs st t Running (length s.deps.items) m.2 (ap runs is) refl))
          (calm-start g st i.lower i.agree.calm t is));
    }

pub returns-clause-states : goal.returns-clause-states
returns-clause-states c =
    let s = c.self.inside in
    let t = c.args.t in
    let items = with_items_is s.states c.set_state.new.states (c.set_state.auto.states ∙ c.deref_mut.ensures.len) in
    let new : states_in (with_items s.states c.set_state.new.states).items ≡ put (states_in s.states.items) t Running = ap states_in items ∙ c.set_state.ensures ∙ ap (λ xs. put (states_in xs) t Running) c.deref_mut.ensures.value in
    changes s.deps.items s.commands.items s.width s.mode (λ g st. put st t Running) s.states.items (with_items s.states c.set_state.new.states).items c.args.self.now c.self.view_is new

pub returns-clause-kept : goal.returns-clause-kept
returns-clause-kept c =
    let s = c.self.inside in
    keeps s.deps.items s.commands.items s.width s.mode s.states.items (with_items s.states c.set_state.new.states).items c.args.self.now c.self.view_is
