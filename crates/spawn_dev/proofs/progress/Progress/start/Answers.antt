use Rattle.std.proofs.Common.{◌≡◌, ◌∷◌, ◌++◌, [], arith, ap, ◌∙◌, sym}
use Rattle.std.specs.Prelude.{Some, None}
use Rattle.std.proofs.lemmas.Grind.{common_steps}
use Rattle.spawn_dev.specs.Effects.{no_effect}
use Rattle.spawn_dev.specs.Progress.{command_of, runs_at, will_at, held_at, owned_once, own_files, starts_in}
use Rattle.spawn_dev.specs.RunningLaws.{distinct_push, once_push, known_push, held_more}
use Rattle.spawn_dev.specs.declared.command.Step.TheVariants.{Start}
use Rattle.spawn_dev.specs.declared.effect.Running.{Running}
use Rattle.spawn_dev.proofs.RunningLists.{owned_push, starts_push}
use Rattle.spawn_dev.proofs.progress.Progress.start.Goals as goal

pub invariant_of-self-2 : goal.invariant_of-self-2
invariant_of-self-2 c =
    let old = c.args.self.now in
    let run : Running = record { command = c.args.command; effect = c.args.effect } in
    let running : c.push-2.new.self.items ≡ old.running.items ++ run ∷ [] = grind (arith, common_steps) in
    let steps : c.push.new.self.items ≡ old.steps.items ++ Start c.args.command ∷ [] = grind (arith, common_steps) in
    record {
      distinct = rw running (distinct_push command_of old.running.items run old.distinct c.requires.fresh);
      apart = λ path. ap (λ xs. owned_once xs path) running ∙ once_push command_of old.running.items run path (old.apart path) (c.requires.apart path);
      owned = ap own_files running ∙ owned_push old.running.items run old.owned c.requires.owned;
      started = c.in_ok-started.ensures.pushed ∙ ap (λ s. s ++ c.args.command.place ∷ []) old.started ∙ sym (starts_push old.steps.items c.args.command) ∙ ap starts_in (sym steps);
    }

pub returns-clause-runs : goal.returns-clause-runs
returns-clause-runs c =
    let old = c.args.self.now in
    let run : Running = record { command = c.args.command; effect = c.args.effect } in
    let running : c.push-2.new.self.items ≡ old.running.items ++ run ∷ [] = grind (arith, common_steps) in
    ap runs_at running ∙ known_push command_of (λ run. Some run.command) None old.running.items run c.requires.fresh

pub returns-clause-will : goal.returns-clause-will
returns-clause-will c =
    let old = c.args.self.now in
    let run : Running = record { command = c.args.command; effect = c.args.effect } in
    let running : c.push-2.new.self.items ≡ old.running.items ++ run ∷ [] = grind (arith, common_steps) in
    ap will_at running ∙ known_push command_of (λ run. run.effect) no_effect old.running.items run c.requires.fresh

pub returns-clause-held : goal.returns-clause-held
returns-clause-held c = λ path held other.
    let old = c.args.self.now in
    let run : Running = record { command = c.args.command; effect = c.args.effect } in
    let running : c.push-2.new.self.items ≡ old.running.items ++ run ∷ [] = grind (arith, common_steps) in
    held_more command_of old.running.items run path (ap (λ xs. held_at xs path) (sym running) ∙ held) other
