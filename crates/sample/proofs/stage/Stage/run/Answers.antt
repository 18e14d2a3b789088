use Rattle.std.proofs.Common.{◌≡◌, ◌∙◌, ℕ, ◌-◌, List, ◌++◌, length, refl, ap, subst, string_bytes}
use Rattle.spawn_dev.specs.MemWorld.{runs_of}
use Rattle.spawn_dev.specs.Progress.{starts_in}
use Rattle.spawn_dev.specs.declared.book.Rule.{Rule}
use Rattle.sample.specs.RunLines.{run_line}
use Rattle.sample.specs.Runs.{RunsTo}
use Rattle.sample.specs.Stages.{state_in}
use Rattle.sample.specs.States.{state_at}
use Rattle.sample.proofs.stage.Stage.run.Goals as goal

-- a line that was put behind others, of a count that is this one
line_of : (n run started count status : ℕ) (old new : List ℕ)
    → new ≡ old ++ run_line n run started status → started ≡ count
    → new ≡ old ++ run_line n run count status
line_of n run started count status old new pushed counted = pushed ∙ rw counted refl

pub returns : goal.returns
returns c =
    let old = string_bytes c.args.self.lines in
    let new = string_bytes c.push_run.new.lines in
    let once = c.run_status in
    let status = c.in_ok-status.status in
    let left = state_at once.new.world c.in_ok-status.store c.in_ok-status.spare once.new.out new in
    let P : List Rule → Type 0 = λ rules. RunsTo rules (state_in c.args.self) left status in
    let before = c.as_slice-before.ensures ∙ c.starts.ensures in
    let after = c.as_slice.ensures ∙ c.starts-2.ensures in
    let counted = c.saturating_sub-started.ensures
    ∙ ap (λ xs. length xs - length c.as_slice-before.result.now) after
    ∙ ap (λ xs. length (starts_in (runs_of once.new.world).steps) - length xs) before in
    record {
      size = refl;
      told = record {
        status = status;
        runs = subst P c.args.self.book (c.in_ok-status.ensures.runs old new);
        told = line_of _ _ _ _ _ old new c.in_ok-push_run.ensures.pushed counted;
      };
      memory = tt;
    }
