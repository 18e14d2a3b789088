-- What runs, when a command is added or taken out.
use Rattle.std.proofs.Common.{◌≡◌, ◌++◌, ℕ, false, List, [], ◌∷◌, length, get_or, arith, IsTrue, refl, sym, ap, ◌∙◌, subst, length-append}
use Rattle.std.specs.Prelude.{Result, Ok, OnOk, Some, None, is_some}
use Rattle.std.proofs.Math.Seq.{get_or-append_seam}
use Rattle.rel_path.specs.Files.{FileMap}
use Rattle.spawn_dev.specs.declared.command.Command.{Command}
use Rattle.spawn_dev.specs.Running.{command_at, are_distinct}
use Rattle.spawn_dev.specs.RunningLaws.{known_here, known_push, known_remove}
use Rattle.spawn_dev.specs.Spawn.{Starts, IsOver, put_at}
use Rattle.spawn_dev.proofs.Ends.{none_so}
use Rattle.os_children.specs.Taking.{itself, IsTakenOut}
use Rattle.os_children.proofs.CommandLists.{remove_seam, seam_below}
use Rattle.os_edge.specs.World.{runs_of}

over_seam : (front back : List Command) (command : Command) (before after : ℕ) (files : FileMap) → IsTrue (are_distinct itself (front ++ command ∷ back))
    → IsOver command.place (runs_of (front ++ command ∷ back) before) (runs_of (front ++ back) after) files files
over_seam front back command before after files all =
    let below = seam_below front command back in
    let here : get_or (front ++ command ∷ back) (length front) command ≡ command = get_or-append_seam front command back command in
    record {
      command = command;
      ran = subst (λ (c : Command). command_at itself (front ++ command ∷ back) c.place ≡ Some c) here (known_here itself (λ c. Some c) None (front ++ command ∷ back) (length front) command below all);
      at = ap (command_at itself) (sym (remove_seam front command back))
          ∙ known_remove itself (λ c. Some c) None (front ++ command ∷ back) (length front) command below all
          ∙ ap (λ (c : Command). put_at (command_at itself (front ++ command ∷ back)) c.place None) here;
      count = omega (arith, length-append front (command ∷ back), length-append front back);
      outside = λ path other. refl;
    }

-- the command that is taken out is over
pub over_taken : (old new : List Command) (command : Command) (before after : ℕ) (files : FileMap) → IsTakenOut command old new → IsTrue (are_distinct itself old)
    → IsOver command.place (runs_of old before) (runs_of new after) files files
over_taken old new command before after files taken all =
    let whole : IsTrue (are_distinct itself (taken.front ++ command ∷ taken.back)) = subst (λ xs. IsTrue (are_distinct itself xs)) taken.was all in
    rw (taken.was, taken.left) (over_seam taken.front taken.back command before after files whole)

-- ---- one more runs

pub started : {E : Type 0} (old new : List Command) (command : Command) (before after : ℕ) (result : Result (Unit {0}) E) (value : Unit {0}) → result ≡ Ok value → OnOk result (new ≡ old ++ command ∷ [])
    → is_some (command_at itself old command.place) ≡ false → Starts command (runs_of old before) (runs_of new after)
started old new command before after result value ok added fresh =
    let is : new ≡ old ++ command ∷ [] = subst (λ r. OnOk r (new ≡ old ++ command ∷ [])) ok added in
    record {
      at = ap (command_at itself) is ∙ known_push itself (λ c. Some c) None old command (none_so (command_at itself old command.place) fresh);
      count = ap length is ∙ length-append old (command ∷ []);
    }
