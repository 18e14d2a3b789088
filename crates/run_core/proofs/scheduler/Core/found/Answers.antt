use Rattle.std.proofs.Common.{◌≡◌, ℕ, ◌+◌, ◌≤◌, ◌==◌, ◌&&◌, ◌||◌, nat_lt, length, refl, sym, ap, subst, ◌∙◌, arith}
use Rattle.std.proofs.lemmas.List.{with_items_is, get_or_read}
use Rattle.std.proofs.lemmas.Bool.{and_parts}
use Rattle.std.specs.Vec.{with_items}
use Rattle.run_core.specs.declared.states.State.TheVariants.{Passed}
use Rattle.run_core.specs.declared.states.Next.TheVariants.{Lookup}
use Rattle.run_core.specs.Core.{rules_in, states_in}
use Rattle.run_core.specs.Machine.{next, put, runs, is_waiting, is_missed, is_well, has_failed}
use Rattle.run_core.specs.Sets.{has}
use Rattle.run_core.specs.Tables.{Agree, is_left, is_in, times, count_at, list_at}
use Rattle.run_core.proofs.Moved.{settled-well, put-same, times-missing}
use Rattle.run_core.proofs.Members.{list-inside}
use Rattle.run_core.proofs.Leaving.{mirrored}
use Rattle.run_core.proofs.Calm.{calm-look}
use Rattle.run_core.proofs.Steps.{waiting-is}
use Rattle.run_core.proofs.Views.{inward, changes, keeps, looked-up}
use Rattle.run_core.proofs.scheduler.Core.found.Goals as goal

pub set_state-requires : goal.set_state-requires
set_state-requires c =
    let s = c.self.inside in
    let i = c.self.invariant in
    let e = inward s.deps.items s.commands.items s.width s.mode (λ g st. next g st ≡ Lookup c.args.t) s.states.items c.args.self.now c.self.view_is c.requires in
    let m = looked-up (rules_in s.deps.items s.width s.mode) (states_in s.states.items) c.args.t e in
    omega (arith, m.1, i.state_count, c.deref_mut.ensures.len, ap length c.deref_mut.ensures.value)

pub set-requires : goal.set-requires
set-requires c =
    let s = c.self.inside in
    let e = inward s.deps.items s.commands.items s.width s.mode (λ g st. next g st ≡ Lookup c.args.t) s.states.items c.args.self.now c.self.view_is c.requires in
    let m = looked-up (rules_in s.deps.items s.width s.mode) (states_in s.states.items) c.args.t e in
    omega (arith, m.1, c.self.invariant.ready_room)

pub index-requires : goal.index-requires
index-requires c =
    let s = c.self.inside in
    let e = inward s.deps.items s.commands.items s.width s.mode (λ g st. next g st ≡ Lookup c.args.t) s.states.items c.args.self.now c.self.view_is c.requires in
    let m = looked-up (rules_in s.deps.items s.width s.mode) (states_in s.states.items) c.args.t e in
    omega (arith, m.1, c.self.invariant.dependent_count, s.dependents.ok.0)

pub serve_each-requires-clause-unmet : goal.serve_each-requires-clause-unmet
serve_each-requires-clause-unmet c =
    let s = c.self.inside in
    let i = c.self.invariant in
    let t = c.args.t in
    let g = rules_in s.deps.items s.width s.mode in
    let st = states_in s.states.items in
    let e = inward s.deps.items s.commands.items s.width s.mode (λ g st. next g st ≡ Lookup t) s.states.items c.args.self.now c.self.view_is c.requires in
    let m = looked-up g st t e in
    let is = waiting-is (st t) (and_parts (is_waiting (st t)) _ m.2).0 in
    let list : c.as_slice-dependents.result.now ≡ list_at s.dependents.items t = c.as_slice-dependents.ensures ∙ get_or_read s.dependents.items t _ (omega (arith, m.1, i.dependent_count)) c.index.ensures _ in
    λ u. subst (λ xs. times u xs ≤ count_at c.deref_mut-2.result.now u) (sym list) (subst (λ xs. times u (list_at s.dependents.items t) ≤ count_at xs u) (sym c.deref_mut-2.ensures.value)
    (omega (arith, i.mirrors t u, i.agree.counts u, times-missing (λ d. is_well s.mode (st d)) t (ap (is_well s.mode) is) (g.deps u))))

pub invariant_of-self : goal.invariant_of-self
invariant_of-self c =
    let s = c.self.inside in
    let i = c.self.invariant in
    let t = c.args.t in
    let g = rules_in s.deps.items s.width s.mode in
    let st = states_in s.states.items in
    let e = inward s.deps.items s.commands.items s.width s.mode (λ g st. next g st ≡ Lookup t) s.states.items c.args.self.now c.self.view_is c.requires in
    let m = looked-up g st t e in
    let is = waiting-is (st t) (and_parts (is_waiting (st t)) _ m.2).0 in
    let items = with_items_is s.states c.set_state.new.states (c.set_state.auto.states ∙ c.deref_mut.ensures.len) in
    let new : states_in (with_items s.states c.set_state.new.states).items ≡ put st t Passed = ap states_in items ∙ c.set_state.ensures ∙ ap (λ xs. put (states_in xs) t Passed) c.deref_mut.ensures.value in
    let counted = with_items_is s.unmet c.serve_each.new.unmet (c.serve_each.auto.unmet ∙ c.deref_mut-2.ensures.len) in
    let xs = list_at s.dependents.items t in
    let list : c.as_slice-dependents.result.now ≡ xs = c.as_slice-dependents.ensures ∙ get_or_read s.dependents.items t _ (omega (arith, m.1, i.dependent_count)) c.index.ensures _ in
    let counts = subst (λ ys. (u : ℕ) → count_at c.serve_each.new.unmet u + times u ys ≡ count_at s.unmet.items u) list (subst (λ ys. (u : ℕ) → count_at c.serve_each.new.unmet u + times u c.as_slice-dependents.result.now ≡ count_at ys u) c.deref_mut-2.ensures.value c.serve_each.ensures.unmet) in
    let readies = subst (λ ys. (u : ℕ) → has c.serve_each.new.ready u ≡ (has c.set.new.self u || (is_in u ys && (is_waiting (put st t Passed u) && (count_at c.serve_each.new.unmet u == 0))))) list
    (subst (λ x. (u : ℕ) → has c.serve_each.new.ready u ≡ (has c.set.new.self u || (is_in u c.as_slice-dependents.result.now && (is_waiting (x u) && (count_at c.serve_each.new.unmet u == 0))))) (ap states_in c.deref.ensures.value ∙ new) c.serve_each.ensures.ready) in
    record {
      few = i.few;
      wide = i.wide;
      lower = i.lower;
      state_count = ap length items ∙ c.set_state.auto.states ∙ ap length c.deref_mut.ensures.value ∙ i.state_count;
      dependent_count = i.dependent_count;
      unmet_count = ap length counted ∙ c.serve_each.auto.unmet ∙ ap length c.deref_mut-2.ensures.value ∙ i.unmet_count;
      ready_room = subst (λ n. length s.deps.items ≤ n) (sym (c.serve_each.ensures.room ∙ c.set.ensures.room)) i.ready_room;
      missed_room = i.missed_room;
      pending_room = i.pending_room;
      quiet = i.quiet;
      mirrors = i.mirrors;
      agree = subst (λ x. Agree g x (with_items s.unmet c.serve_each.new.unmet).items c.serve_each.new.ready s.missed s.running s.failed) (sym new)
          (subst (λ ns. Agree g (put st t Passed) ns c.serve_each.new.ready s.missed s.running s.failed) (sym counted)
          (settled-well g i.lower st t Passed xs s.unmet.items c.serve_each.new.unmet s.ready c.set.new.self c.serve_each.new.ready s.missed s.running s.running s.failed s.failed i.agree
          (ap (is_well s.mode) is) refl refl (ap is_left is) refl (ap is_missed (sym is)) (i.mirrors t) (λ u h. list-inside s.deps.items u t (mirrored g s.dependents.items i.mirrors t u h))
          c.set.ensures.member counts readies
          (i.agree.commands ∙ put-same runs st t Passed (ap runs (sym is)) (length s.deps.items))
          (i.agree.failures ∙ ap (λ n. nat_lt 0 n) (put-same has_failed st t Passed (ap has_failed (sym is)) (length s.deps.items)))
          (calm-look g st i.lower i.agree.calm t Passed m)));
    }

pub returns-clause-states : goal.returns-clause-states
returns-clause-states c =
    let s = c.self.inside in
    let t = c.args.t in
    let items = with_items_is s.states c.set_state.new.states (c.set_state.auto.states ∙ c.deref_mut.ensures.len) in
    let new : states_in (with_items s.states c.set_state.new.states).items ≡ put (states_in s.states.items) t Passed = ap states_in items ∙ c.set_state.ensures ∙ ap (λ xs. put (states_in xs) t Passed) c.deref_mut.ensures.value in
    changes s.deps.items s.commands.items s.width s.mode (λ g st. put st t Passed) s.states.items (with_items s.states c.set_state.new.states).items c.args.self.now c.self.view_is new

pub returns-clause-kept : goal.returns-clause-kept
returns-clause-kept c =
    let s = c.self.inside in
    keeps s.deps.items s.commands.items s.width s.mode s.states.items (with_items s.states c.set_state.new.states).items c.args.self.now c.self.view_is
