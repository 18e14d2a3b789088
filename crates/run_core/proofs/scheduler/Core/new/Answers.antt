use Rattle.std.proofs.Common.{◌≡◌, ℕ, ◌<◌, ◌≤◌, ◌==◌, ◌&&◌, ◌^◌, false, nat_lt, slice_index_or, length, sym, ap, subst, ◌∙◌}
use Rattle.std.proofs.lemmas.List.{length-map, length-replicate}
use Rattle.run_core.specs.declared.states.State.TheVariants.{Waiting}
use Rattle.run_core.specs.Greedy.{AreLower}
use Rattle.run_core.specs.Core.{rules_in, states_in}
use Rattle.run_core.specs.Sets.{has}
use Rattle.run_core.specs.Tables.{Agree, Mirrors, count_at}
use Rattle.run_core.proofs.Fresh.{fresh, all-waiting, lower-members}
use Rattle.run_core.proofs.Views.{rules-made, states-made, commands-made}
use Rattle.run_core.proofs.scheduler.Core.new.Goals as goal

pub dependents_of-requires-clause-lower : goal.dependents_of-requires-clause-lower
dependents_of-requires-clause-lower c = lower-members c.args.deps.now c.args.width c.args.mode c.requires.order

pub invariant_of-result-2 : goal.invariant_of-result-2
invariant_of-result-2 c =
    let deps = c.args.deps.now in
    let width = c.args.width in
    let mode = c.args.mode in
    let same = c.in_ok-copies.ensures.same in
    let size : length c.in_ok-copies.field-0.items ≡ length deps = ap length same in
    let items = c.in_ok-vec.ensures.items_if_clones_equal (λ y h. h) in
    let counted = c.in_ok-unmet.ensures.lengths in
    let unmet_count : length c.in_ok-unmet.unmet.items ≡ length deps = ap length counted ∙ length-map deps length in
    let looked = c.deref.ensures.value in
    let ready = subst (λ ns. (t : ℕ) → has c.in_ok-ready.ready t ≡ (nat_lt t (length ns) && (count_at ns t == 0))) looked c.in_ok-ready.ensures.ready in
    let room : length deps ≤ length c.in_ok-ready.ready = subst (λ n. n ≤ length c.in_ok-ready.ready) (ap length looked ∙ unmet_count) c.in_ok-ready.ensures.room in
    record {
      few = subst (λ n. n < 2 ^ 32) (sym size) c.requires.few;
      wide = c.requires.wide;
      lower = subst (λ ds. AreLower (rules_in ds width mode)) (sym same) c.requires.order;
      state_count = ap length items ∙ length-replicate (length deps) Waiting ∙ sym size;
      dependent_count = c.in_ok-dependents_of.ensures.count ∙ sym size;
      unmet_count = unmet_count ∙ sym size;
      ready_room = subst (λ set. length c.in_ok-copies.field-0.items ≤ length set) (sym c.ready.view_is) (subst (λ n. n ≤ length c.in_ok-ready.ready) (sym size) room);
      missed_room = subst (λ n. n ≤ length c.in_ok-new.field-0) (sym size) c.in_ok-new.ensures.room;
      pending_room = subst (λ n. n ≤ length c.in_ok-new-2.field-0) (sym size) c.in_ok-new-2.ensures.room;
      quiet = c.in_ok-new-2.ensures.empty;
      mirrors = subst (λ ds. Mirrors (rules_in ds width mode) c.in_ok-dependents_of.field-0.items) (sym same) c.in_ok-dependents_of.ensures.mirrors;
      agree = subst (λ set. Agree (rules_in c.in_ok-copies.field-0.items width mode) (states_in c.in_ok-vec.field-0.items) c.in_ok-unmet.unmet.items set c.in_ok-new.field-0 0 false) (sym c.ready.view_is)
          (subst (λ st. Agree (rules_in c.in_ok-copies.field-0.items width mode) st c.in_ok-unmet.unmet.items c.in_ok-ready.ready c.in_ok-new.field-0 0 false) (sym (all-waiting c.in_ok-vec.field-0.items (length deps) items))
          (subst (λ ds. Agree (rules_in ds width mode) (λ t. Waiting) c.in_ok-unmet.unmet.items c.in_ok-ready.ready c.in_ok-new.field-0 0 false) (sym same)
          (fresh deps width mode c.in_ok-unmet.unmet.items c.in_ok-ready.ready c.in_ok-new.field-0 counted ready c.in_ok-new.ensures.empty)));
    }

pub returns-clause-rules : goal.returns-clause-rules
returns-clause-rules c =
    rules-made c.in_ok-copies.field-0.items c.in_ok-from_slice.field-0.items c.args.width c.args.mode c.in_ok-vec.field-0.items ∙ ap (λ ds. rules_in ds c.args.width c.args.mode) c.in_ok-copies.ensures.same

pub returns-clause-commands : goal.returns-clause-commands
returns-clause-commands c =
    commands-made c.in_ok-copies.field-0.items c.in_ok-from_slice.field-0.items c.args.width c.args.mode c.in_ok-vec.field-0.items ∙ ap (λ bs. λ (t : ℕ). slice_index_or bs t false) c.in_ok-from_slice.ensures.items

pub returns-clause-states : goal.returns-clause-states
returns-clause-states c =
    states-made c.in_ok-copies.field-0.items c.in_ok-from_slice.field-0.items c.args.width c.args.mode c.in_ok-vec.field-0.items ∙ all-waiting c.in_ok-vec.field-0.items (length c.args.deps.now) (c.in_ok-vec.ensures.items_if_clones_equal (λ y h. h))
