use Rattle.std.proofs.Common.{◌≡◌, ap, sym, ◌∙◌}
use Rattle.globs.specs.OwnedFiles.{owns_all}
use Rattle.rel_path.specs.Files.{file_at}
use Rattle.spawn_dev.specs.BookLaws.{behaves}
use Rattle.spawn_dev.specs.Books.{effect_of}
use Rattle.spawn_dev.specs.Effects.{seen_by}
use Rattle.spawn_dev.specs.Progress.{runs_at, will_at}
use Rattle.spawn_dev.proofs.Ends.{clear_of, absent_with, others_started, will_started, none_so}
use Rattle.spawn_dev.proofs.world.MemWorldSpawner.start.Goals as goal

pub invariant_of-self : goal.invariant_of-self
invariant_of-self c = record { absent = λ path held. ap (λ s. s.files path) c.fails_now.ensures.state ∙ c.args.self.now.absent path held }

pub invariant_of-self-in-Break-1 : goal.invariant_of-self-in-Break-1
invariant_of-self-in-Break-1 c = record { absent = λ path held. ap (λ s. s.files path) c.fails_now.ensures.state ∙ c.args.self.now.absent path held }

pub start-requires-clause-fresh : goal.start-requires-clause-fresh
start-requires-clause-fresh c = none_so (runs_at c.args.self.now.progress.running.items c.args.command.place) c.requires.fresh

pub start-requires-clause-owned : goal.start-requires-clause-owned
start-requires-clause-owned c =
    ap (λ effect. owns_all c.args.command.outs effect.files) c.in_ok-effect.ensures.effect ∙ (behaves c.as_slice.result.now (seen_by c.args.command (file_at c.as_slice-2.result.now))).owned

pub start-requires-clause-apart : goal.start-requires-clause-apart
start-requires-clause-apart c =
    let old = c.args.self.now in
    clear_of old.book old.progress.running.items old.progress.steps.items old.faults c.args.command old.progress.distinct c.requires.clear

pub invariant_of-self-2 : goal.invariant_of-self-2
invariant_of-self-2 c =
    let old = c.args.self.now in
    let same : file_at c.fails_now.new.self.files ≡ file_at old.tree.files = ap (λ s. s.files) c.fails_now.ensures.state in
    record {
      absent = absent_with c.args.command.outs old.progress.running.items c.start.new.self.running.items (file_at old.tree.files) (file_at c.fails_now.new.self.files)
          same c.start.ensures.held c.requires.absent old.absent;
    }

pub returns-clause-begins : goal.returns-clause-begins
returns-clause-begins c =
    let old = c.args.self.now in
    let files : file_at c.as_slice-2.result.now ≡ file_at old.tree.files = ap file_at c.as_slice-2.ensures ∙ sym c.files.ensures ∙ ap (λ s. s.files) c.fails_now.ensures.state in
    let effect : c.in_ok-effect.effect ≡ effect_of old.book (seen_by c.args.command (file_at old.tree.files)) =
    c.in_ok-effect.ensures.effect ∙ ap (λ book. effect_of book (seen_by c.args.command (file_at c.as_slice-2.result.now))) c.as_slice.ensures
    ∙ ap (λ world. effect_of old.book (seen_by c.args.command world)) files in
    record { will = will_started (will_at old.progress.running.items) (will_at c.start.new.self.running.items) c.args.command.place c.in_ok-effect.effect c.in_ok-start.ensures.will ∙ effect; steps = c.in_ok-start.ensures.steps }

pub returns-clause-others : goal.returns-clause-others
returns-clause-others c =
    let old = c.args.self.now in
    others_started old.book old.progress.running.items c.start.new.self.running.items old.progress.steps.items c.start.new.self.steps.items old.faults old.faults c.args.command c.in_ok-effect.effect
    (none_so (runs_at old.progress.running.items c.args.command.place) c.requires.fresh) c.in_ok-start.ensures.will
