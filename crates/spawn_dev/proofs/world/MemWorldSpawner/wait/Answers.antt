use Rattle.std.proofs.Common.{◌≡◌, ◌<◌, inl, inr, ap, sym, refl, ◌∙◌, length, ◌+◌, arith}
use Rattle.std.specs.Prelude.{◌⊎◌}
use Rattle.rel_path.specs.Limits.{log_limit}
use Rattle.tree_dev.specs.Turns.{FailsNext}
use Rattle.spawn_dev.specs.MemWorld.{turns_of}
use Rattle.spawn_dev.specs.World.{ends_at}
use Rattle.rel_path.specs.Files.{file_at, over}
use Rattle.spawn_dev.specs.Progress.{runs_at, will_at, held_at}
use Rattle.spawn_dev.proofs.Ends.{on_err, over_outside, same_outside, absent_then, over_taken, others_taken}
use Rattle.spawn_dev.proofs.Waits.{is_taken, fails_not, only_memory, no_end, is_done, waits_told}
use Rattle.spawn_dev.proofs.world.MemWorldSpawner.wait.Goals as goal
use Rattle.spawn_dev.proofs.world.MemWorldSpawner.wait.Goals.{then-fails_now-via-then-fails_now, then-fails_now-via-else-fails_now+then-as_slice-gt-MAX_LOG_BYTES}

-- ---- the wait fails

pub invariant_of-self : goal.invariant_of-self
invariant_of-self c =
    let old = c.args.self.now in
    let take = c.take-command in
    let same : file_at c.fails_now.new.self.files ≡ file_at old.tree.files = ap (λ s. s.files) c.fails_now.ensures.state in
    record {
      absent = absent_then take.result.command.outs old.progress.running.items take.new.self.running.items (file_at old.tree.files) (file_at c.fails_now.new.self.files)
          (same_outside take.result.command.outs (file_at old.tree.files) (file_at c.fails_now.new.self.files) same) take.ensures.freed take.ensures.held old.absent;
    }

pub returns-then-fails_now-clause-failed : goal.returns-then-fails_now-clause-failed
returns-then-fails_now-clause-failed c =
    let old = c.args.self.now in
    let take = c.take-command in
    let same : file_at c.fails_now.new.self.files ≡ file_at old.tree.files = ap (λ s. s.files) c.fails_now.ensures.state in (
      take.result.command.place,
      over_taken old.book old.progress.running.items take.new.self.running.items old.progress.steps.items take.new.self.steps.items old.faults c.count_fault.new.faults
          take.result.command (file_at old.tree.files) (file_at c.fails_now.new.self.files) take.ensures.ran take.ensures.runs take.ensures.count
          (same_outside take.result.command.outs (file_at old.tree.files) (file_at c.fails_now.new.self.files) same),
    )

pub returns-then-fails_now-clause-others : goal.returns-then-fails_now-clause-others
returns-then-fails_now-clause-others c =
    let old = c.args.self.now in
    let take = c.take-command in
    others_taken old.book old.progress.running.items take.new.self.running.items old.progress.steps.items take.new.self.steps.items old.faults c.count_fault.new.faults take.result.command.place
    take.ensures.runs take.ensures.will

-- ---- no memory for the step

pub invariant_of-self-in-Break-1 : goal.invariant_of-self-in-Break-1
invariant_of-self-in-Break-1 c =
    let old = c.args.self.now in
    let take = c.take-command in
    let same : file_at c.fails_now.new.self.files ≡ file_at old.tree.files = ap (λ s. s.files) c.fails_now.ensures.state in
    record {
      absent = absent_then take.result.command.outs old.progress.running.items take.new.self.running.items (file_at old.tree.files) (file_at c.fails_now.new.self.files)
          (same_outside take.result.command.outs (file_at old.tree.files) (file_at c.fails_now.new.self.files) same) take.ensures.freed take.ensures.held old.absent;
    }

pub returns-in_err-step-clause-failed : goal.returns-in_err-step-clause-failed
returns-in_err-step-clause-failed c =
    let old = c.args.self.now in
    let take = c.take-command in
    let same : file_at c.fails_now.new.self.files ≡ file_at old.tree.files = ap (λ s. s.files) c.fails_now.ensures.state in
    on_err _ c.from_residual.result (
      take.result.command.place,
      over_taken old.book old.progress.running.items take.new.self.running.items old.progress.steps.items take.new.self.steps.items old.faults old.faults
          take.result.command (file_at old.tree.files) (file_at c.fails_now.new.self.files) take.ensures.ran take.ensures.runs take.ensures.count
          (same_outside take.result.command.outs (file_at old.tree.files) (file_at c.fails_now.new.self.files) same),
    )

pub returns-in_err-step-clause-others : goal.returns-in_err-step-clause-others
returns-in_err-step-clause-others c =
    let old = c.args.self.now in
    let take = c.take-command in
    others_taken old.book old.progress.running.items take.new.self.running.items old.progress.steps.items take.new.self.steps.items old.faults old.faults take.result.command.place
    take.ensures.runs take.ensures.will

-- ---- no memory for the files

pub invariant_of-self-in-Break-branch-2 : goal.invariant_of-self-in-Break-branch-2
invariant_of-self-in-Break-branch-2 c =
    let old = c.args.self.now in
    let take = c.take-command in
    let same : file_at c.put_all.new.self.files ≡ file_at old.tree.files = ap (λ s. s.files) c.in_err-put_all.ensures.kept ∙ ap (λ s. s.files) c.fails_now.ensures.state in
    record {
      absent = absent_then take.result.command.outs old.progress.running.items take.new.self.running.items (file_at old.tree.files) (file_at c.put_all.new.self.files)
          (same_outside take.result.command.outs (file_at old.tree.files) (file_at c.put_all.new.self.files) same) take.ensures.freed take.ensures.held old.absent;
    }

pub returns-in_err-put_all-clause-failed : goal.returns-in_err-put_all-clause-failed
returns-in_err-put_all-clause-failed c =
    let old = c.args.self.now in
    let take = c.take-command in
    let same : file_at c.put_all.new.self.files ≡ file_at old.tree.files = ap (λ s. s.files) c.in_err-put_all.ensures.kept ∙ ap (λ s. s.files) c.fails_now.ensures.state in
    on_err _ c.from_residual-in_err-put_all.result (
      take.result.command.place,
      over_taken old.book old.progress.running.items take.new.self.running.items old.progress.steps.items take.new.self.steps.items old.faults old.faults
          take.result.command (file_at old.tree.files) (file_at c.put_all.new.self.files) take.ensures.ran take.ensures.runs take.ensures.count
          (same_outside take.result.command.outs (file_at old.tree.files) (file_at c.put_all.new.self.files) same),
    )

pub returns-in_err-put_all-clause-others : goal.returns-in_err-put_all-clause-others
returns-in_err-put_all-clause-others c =
    let old = c.args.self.now in
    let take = c.take-command in
    others_taken old.book old.progress.running.items take.new.self.running.items old.progress.steps.items take.new.self.steps.items old.faults old.faults take.result.command.place
    take.ensures.runs take.ensures.will

-- ---- with its files

pub invariant_of-self-2 : goal.invariant_of-self-2
invariant_of-self-2 c =
    let old = c.args.self.now in
    let take = c.take-command in
    let files : file_at c.put_all.new.self.files ≡ over (file_at old.tree.files) (file_at take.result.effect.files) =
    c.in_ok-put_all.ensures.files ∙ ap (λ s. over s.files (file_at take.result.effect.files)) c.fails_now.ensures.state in
    let outside = over_outside take.result.command.outs take.result.effect.files (file_at old.tree.files) (file_at c.put_all.new.self.files) take.ensures.owned files in
    let absent = absent_then take.result.command.outs old.progress.running.items take.new.self.running.items (file_at old.tree.files) (file_at c.put_all.new.self.files)
    outside take.ensures.freed take.ensures.held old.absent in
    record { absent = λ path held. absent path (ap (λ xs. held_at xs path) (sym c.end.ensures.running) ∙ held) }

pub returns-in_err-end-clause-failed : goal.returns-in_err-end-clause-failed
returns-in_err-end-clause-failed c =
    let old = c.args.self.now in
    let take = c.take-command in
    let files : file_at c.put_all.new.self.files ≡ over (file_at old.tree.files) (file_at take.result.effect.files) =
    c.in_ok-put_all.ensures.files ∙ ap (λ s. over s.files (file_at take.result.effect.files)) c.fails_now.ensures.state in
    on_err _ c.from_residual-in_err-end.result (
      take.result.command.place,
      over_taken old.book old.progress.running.items c.end.new.self.running.items old.progress.steps.items c.end.new.self.steps.items old.faults old.faults
          take.result.command (file_at old.tree.files) (file_at c.put_all.new.self.files) take.ensures.ran (ap runs_at c.end.ensures.running ∙ take.ensures.runs)
          (take.ensures.count ∙ ap (λ xs. length xs + 1) (sym c.end.ensures.running))
          (over_outside take.result.command.outs take.result.effect.files (file_at old.tree.files) (file_at c.put_all.new.self.files) take.ensures.owned files),
    )

pub returns-in_err-end-clause-others : goal.returns-in_err-end-clause-others
returns-in_err-end-clause-others c =
    let old = c.args.self.now in
    let take = c.take-command in
    others_taken old.book old.progress.running.items c.end.new.self.running.items old.progress.steps.items c.end.new.self.steps.items old.faults old.faults take.result.command.place
    (ap runs_at c.end.ensures.running ∙ take.ensures.runs) (ap will_at c.end.ensures.running ∙ take.ensures.will)

pub returns-clause-over : goal.returns-clause-over
returns-clause-over c =
    let old = c.args.self.now in
    let take = c.take-command in
    let files : file_at c.put_all.new.self.files ≡ over (file_at old.tree.files) (file_at take.result.effect.files) =
    c.in_ok-put_all.ensures.files ∙ ap (λ s. over s.files (file_at take.result.effect.files)) c.fails_now.ensures.state in
    over_taken old.book old.progress.running.items c.end.new.self.running.items old.progress.steps.items c.end.new.self.steps.items old.faults old.faults
    take.result.command (file_at old.tree.files) (file_at c.put_all.new.self.files) take.ensures.ran (ap runs_at c.end.ensures.running ∙ take.ensures.runs)
    (take.ensures.count ∙ ap (λ xs. length xs + 1) (sym c.end.ensures.running))
    (over_outside take.result.command.outs take.result.effect.files (file_at old.tree.files) (file_at c.put_all.new.self.files) take.ensures.owned files)

pub returns-clause-others : goal.returns-clause-others
returns-clause-others c =
    let old = c.args.self.now in
    let take = c.take-command in
    others_taken old.book old.progress.running.items c.end.new.self.running.items old.progress.steps.items c.end.new.self.steps.items old.faults old.faults take.result.command.place
    (ap runs_at c.end.ensures.running ∙ take.ensures.runs) (ap will_at c.end.ensures.running ∙ take.ensures.will)

-- ---- which command ends, and when a wait fails

pub returns-then-fails_now-clause-told : goal.returns-then-fails_now-clause-told
returns-then-fails_now-clause-told c =
    let old = c.args.self.now in
    let take = c.take-command in
    let few : c.next_end-index.result < length old.progress.running.items = omega (arith, c.next_end-index.ensures.few, c.len.ensures.count) in
    let turn = c.next_end-index.ensures.told ∙ (λ i. ends_at (c.deref.ensures.value i) old.waits (c.len.ensures.count i)) in
    let taken = is_taken old take.result c.next_end-index.result few turn take.ensures.taken in
    let fails : FailsNext (turns_of old) ⊎ (log_limit < length take.result.effect.log) = elim c.then-fails_now.branch [
      | then-fails_now-via-then-fails_now w ↦ inl (w.if-fails_now.ensures.fails.0 refl)
      | then-fails_now-via-else-fails_now+then-as_slice-gt-MAX_LOG_BYTES w ↦ inr (let h = w.if-as_slice-gt-MAX_LOG_BYTES.true in omega (arith, h, ap length w.as_slice.ensures))
    ] in
    waits_told old _ _ take.result c.next_end-index.result taken take.ensures.did take.ensures.left c.fails_now.ensures.counted c.saturating_add-self.ensures refl
    (λ _. fails, λ _. refl) tt (λ _. ap (λ s. s.files) c.fails_now.ensures.state)

pub returns-in_err-step-clause-told : goal.returns-in_err-step-clause-told
returns-in_err-step-clause-told c =
    let old = c.args.self.now in
    let take = c.take-command in
    let few : c.next_end-index.result < length old.progress.running.items = omega (arith, c.next_end-index.ensures.few, c.len.ensures.count) in
    let turn = c.next_end-index.ensures.told ∙ (λ i. ends_at (c.deref.ensures.value i) old.waits (c.len.ensures.count i)) in
    let taken = is_taken old take.result c.next_end-index.result few turn take.ensures.taken in
    waits_told old _ _ take.result c.next_end-index.result taken take.ensures.did take.ensures.left c.fails_now.ensures.counted c.saturating_add-self.ensures refl
    (fails_not _ (only_memory c.from_residual.result c.in_err-step.field-0.0 c.from_residual.ensures.1 c.in_err-step.ensures.memory) (λ so. let no = c.if-fails_now.ensures.fails.1 so in cc) (λ long. omega (arith, long, c.if-as_slice-gt-MAX_LOG_BYTES.false, ap length c.as_slice.ensures))) (no_end _ c.from_residual.result c.in_err-step.field-0.0 c.from_residual.ensures.1) (λ e. absurd (only_memory c.from_residual.result c.in_err-step.field-0.0 c.from_residual.ensures.1 c.in_err-step.ensures.memory e))

pub returns-in_err-put_all-clause-told : goal.returns-in_err-put_all-clause-told
returns-in_err-put_all-clause-told c =
    let old = c.args.self.now in
    let take = c.take-command in
    let few : c.next_end-index.result < length old.progress.running.items = omega (arith, c.next_end-index.ensures.few, c.len.ensures.count) in
    let turn = c.next_end-index.ensures.told ∙ (λ i. ends_at (c.deref.ensures.value i) old.waits (c.len.ensures.count i)) in
    let taken = is_taken old take.result c.next_end-index.result few turn take.ensures.taken in
    waits_told old _ _ take.result c.next_end-index.result taken take.ensures.did take.ensures.left (c.put_all.ensures.turns ∙ c.fails_now.ensures.counted) c.saturating_add-self.ensures refl
    (fails_not _ (only_memory c.from_residual-in_err-put_all.result c.in_err-put_all.field-0.0 c.from_residual-in_err-put_all.ensures.1 c.in_err-put_all.ensures.memory) (λ so. let no = c.if-fails_now.ensures.fails.1 so in cc) (λ long. omega (arith, long, c.if-as_slice-gt-MAX_LOG_BYTES.false, ap length c.as_slice.ensures))) (no_end _ c.from_residual-in_err-put_all.result c.in_err-put_all.field-0.0 c.from_residual-in_err-put_all.ensures.1) (λ e. absurd (only_memory c.from_residual-in_err-put_all.result c.in_err-put_all.field-0.0 c.from_residual-in_err-put_all.ensures.1 c.in_err-put_all.ensures.memory e))

pub returns-in_err-end-clause-told : goal.returns-in_err-end-clause-told
returns-in_err-end-clause-told c =
    let old = c.args.self.now in
    let take = c.take-command in
    let few : c.next_end-index.result < length old.progress.running.items = omega (arith, c.next_end-index.ensures.few, c.len.ensures.count) in
    let turn = c.next_end-index.ensures.told ∙ (λ i. ends_at (c.deref.ensures.value i) old.waits (c.len.ensures.count i)) in
    let taken = is_taken old take.result c.next_end-index.result few turn take.ensures.taken in
    waits_told old _ _ take.result c.next_end-index.result taken take.ensures.did (c.end.ensures.running ∙ take.ensures.left) (c.put_all.ensures.turns ∙ c.fails_now.ensures.counted) c.saturating_add-self.ensures refl
    (fails_not _ (only_memory c.from_residual-in_err-end.result c.in_err-end.field-0.0 c.from_residual-in_err-end.ensures.1 c.in_err-end.ensures.memory) (λ so. let no = c.if-fails_now.ensures.fails.1 so in cc) (λ long. omega (arith, long, c.if-as_slice-gt-MAX_LOG_BYTES.false, ap length c.as_slice.ensures))) (no_end _ c.from_residual-in_err-end.result c.in_err-end.field-0.0 c.from_residual-in_err-end.ensures.1) (λ e. absurd (only_memory c.from_residual-in_err-end.result c.in_err-end.field-0.0 c.from_residual-in_err-end.ensures.1 c.in_err-end.ensures.memory e))

pub returns-clause-told : goal.returns-clause-told
returns-clause-told c =
    let old = c.args.self.now in
    let take = c.take-command in
    let few : c.next_end-index.result < length old.progress.running.items = omega (arith, c.next_end-index.ensures.few, c.len.ensures.count) in
    let turn = c.next_end-index.ensures.told ∙ (λ i. ends_at (c.deref.ensures.value i) old.waits (c.len.ensures.count i)) in
    let taken = is_taken old take.result c.next_end-index.result few turn take.ensures.taken in
    waits_told old _ _ take.result c.next_end-index.result taken take.ensures.did (c.end.ensures.running ∙ take.ensures.left) (c.put_all.ensures.turns ∙ c.fails_now.ensures.counted) c.saturating_add-self.ensures refl
    (fails_not _ (is_done _) (λ so. let no = c.if-fails_now.ensures.fails.1 so in cc) (λ long. omega (arith, long, c.if-as_slice-gt-MAX_LOG_BYTES.false, ap length c.as_slice.ensures))) refl (λ e. absurd (is_done _ e))
