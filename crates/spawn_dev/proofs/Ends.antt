-- What is known once a command was taken out of those that run.
use Rattle.std.proofs.Common.{◌≡◌, ℕ, ◌+◌, min, IsTrue, Bool, true, false, cond, ◌==◌, List, [], ◌∷◌, length, refl, sym, ap, ◌∙◌}
use Rattle.std.specs.Prelude.{Result, Ok, Err, OnErr, Option, Some, None, is_some}
use Rattle.std.specs.Cmp.{first_so, second_so}
use Rattle.std.proofs.lemmas.Bool.{eq-eqb, eqb-true}
use Rattle.rel_path.specs.Paths.{Path, path_eq}
use Rattle.rel_path.specs.Files.{FileMap, file_at, over}
use Rattle.rel_path.proofs.PathLaws.{path_same}
use Rattle.globs.specs.declared.out_set.OutSet.{OutSet}
use Rattle.globs.specs.Outputs.{takes}
use Rattle.globs.specs.OwnedFiles.{owns_all, SameOutside}
use Rattle.spawn_dev.specs.declared.book.Rule.{Rule}
use Rattle.spawn_dev.specs.declared.command.Command.{Command}
use Rattle.spawn_dev.specs.declared.command.Step.{Step}
use Rattle.spawn_dev.specs.declared.effect.Effect.{Effect}
use Rattle.spawn_dev.specs.declared.effect.Running.{Running}
use Rattle.spawn_dev.specs.Books.{is_for, pieces_bytes, with_writes, effect_of}
use Rattle.spawn_dev.specs.Effects.{Seen, no_effect}
use Rattle.spawn_dev.specs.Progress.{command_of, held_at, runs_at, will_at}
use Rattle.spawn_dev.specs.Running.{are_distinct}
use Rattle.spawn_dev.specs.Spawn.{put_at, KeepsClear, IsOver, KeepsWill}
use Rattle.spawn_dev.specs.World.{runs_in}
use Rattle.spawn_dev.specs.WorldLaws.{held_is_owned}

pub on_err : {A E : Type 0} (P : Type 0) (result : Result A E) → P → OnErr result P
on_err P (Ok a) p = tt
on_err P (Err e) p = p

-- ---- files

-- no file that the task owns, where it owns not the path
unowned : (outs : OutSet) (files : List (Path × List ℕ)) (path : Path) → owns_all outs files ≡ true → takes outs path ≡ false → file_at files path ≡ None
unowned outs [] path all other = refl
unowned outs (f ∷ files) path all other =
    elim (path_eq f.0 path) as (λ b. path_eq f.0 path ≡ b → cond b (Some f.1) (file_at files path) ≡ None) [
      | true ↦ λ e. let here : takes outs path ≡ true = ap (takes outs) (sym (path_same f.0 path e)) ∙ first_so (takes outs f.0) (owns_all outs files) all in absurd (cc)
      | false ↦ λ e. unowned outs files path (second_so (takes outs f.0) (owns_all outs files) all) other
    ] refl

-- files that the task owns over others change no other path
pub over_outside : (outs : OutSet) (files : List (Path × List ℕ)) (before after : FileMap) → owns_all outs files ≡ true → after ≡ over before (file_at files) → SameOutside outs before after
over_outside outs files before after all is path other =
    ap (λ world. world path) is ∙ ap (λ o. cond (is_some o) o (before path)) (unowned outs files path all other)

pub same_outside : (outs : OutSet) (before after : FileMap) → after ≡ before → SameOutside outs before after
same_outside outs before after is path other = ap (λ world. world path) is

-- no file stands where one of those left owns the path
pub absent_then : (outs : OutSet) (running left : List Running) (before after : FileMap) → SameOutside outs before after
    → ((path : Path) → held_at left path ≡ true → takes outs path ≡ false) → ((path : Path) → held_at left path ≡ true → held_at running path ≡ true)
    → ((path : Path) → held_at running path ≡ true → before path ≡ None) → (path : Path) → held_at left path ≡ true → after path ≡ None
absent_then outs running left before after outside freed less absent path held = outside path (freed path held) ∙ absent path (less path held)

-- ---- what runs

pub over_taken : (book : List Rule) (old new : List Running) (steps later : List Step) (faults now : ℕ) (command : Command) (before after : FileMap)
    → runs_at old command.place ≡ Some command → runs_at new ≡ put_at (runs_at old) command.place None → length old ≡ length new + 1 → SameOutside command.outs before after
    → IsOver command.place (runs_in book old steps faults) (runs_in book new later now) before after
over_taken book old new steps later faults now command before after ran at count outside = record { command = command; ran = ran; at = at; count = count; outside = outside }

-- those left will do what they would have done
pub others_taken : (book : List Rule) (old new : List Running) (steps later : List Step) (faults now place : ℕ) → runs_at new ≡ put_at (runs_at old) place None
    → will_at new ≡ put_at (will_at old) place no_effect → KeepsWill (runs_in book old steps faults) (runs_in book new later now)
others_taken book old new steps later faults now place at will q before after =
    ap (λ f. f q) will
    ∙ elim (q == place) as (λ b. (q == place) ≡ b → is_some (cond b None (runs_at old q)) ≡ true → cond b no_effect (will_at old q) ≡ will_at old q) [
      | true ↦ λ e some. cc
      | false ↦ λ e some. refl
    ] refl (ap (λ f. is_some (f q)) (sym at) ∙ after)

-- those that ran will do what they would have done, one more or not
pub others_started : (book : List Rule) (old new : List Running) (steps later : List Step) (faults now : ℕ) (command : Command) (effect : Effect) → runs_at old command.place ≡ None
    → will_at new ≡ put_at (will_at old) command.place effect → KeepsWill (runs_in book old steps faults) (runs_in book new later now)
others_started book old new steps later faults now command effect fresh will q before after =
    ap (λ f. f q) will
    ∙ elim (q == command.place) as (λ b. (q == command.place) ≡ b → cond b effect (will_at old q) ≡ will_at old q) [
      | true ↦ λ e. let none : runs_at old q ≡ None = ap (runs_at old) (eqb-true q command.place e) ∙ fresh in absurd (let no = ap is_some none in cc)
      | false ↦ λ e. refl
    ] refl

-- what is held does one of those own that run
pub clear_of : (book : List Rule) (running : List Running) (steps : List Step) (faults : ℕ) (command : Command) → IsTrue (are_distinct command_of running) → KeepsClear command (runs_in book running steps faults)
    → (path : Path) → takes command.outs path ≡ true → held_at running path ≡ false
clear_of book running steps faults command all clear path takes_it = by (held_at running path) refl
  where
    by : (b : Bool) → held_at running path ≡ b → b ≡ false
    by true e = let o = held_is_owned book running steps faults all path e in let none = (clear o.place o.command o.at path takes_it).0 in let some = o.takes_it in absurd (cc)
    by false e = refl

-- no file stands where one of those that run owns the path, with one more
pub absent_with : (outs : OutSet) (running more : List Running) (before after : FileMap) → after ≡ before
    → ((path : Path) → held_at more path ≡ true → takes outs path ≡ false → held_at running path ≡ true)
    → ((path : Path) → takes outs path ≡ true → before path ≡ None) → ((path : Path) → held_at running path ≡ true → before path ≡ None)
    → (path : Path) → held_at more path ≡ true → after path ≡ None
absent_with outs running more before after same fewer own absent path held = ap (λ world. world path) same ∙ by (takes outs path) refl
  where
    by : (b : Bool) → takes outs path ≡ b → before path ≡ None
    by true e = own path e
    by false e = absent path (fewer path held e)

-- the first rule of a task
pub first_rule : (rule : Rule) (rules : List Rule) (seen : Seen) (log : List ℕ) (status : ℕ) (files : List (Path × List ℕ)) → is_for seen rule ≡ true
    → log ≡ pieces_bytes seen rule.log → status ≡ min rule.status 255 → files ≡ with_writes seen [] rule.files
    → record { log = log; status = status; files = files } ≡ effect_of (rule ∷ rules) seen
first_rule rule rules seen log status files for l s f =
    (λ i. record { log = l i; status = s i; files = f i })
    ∙ ap (λ b. cond b (record { log = pieces_bytes seen rule.log; status = min rule.status 255; files = with_writes seen [] rule.files }) (effect_of rules seen)) (sym for)

pub none_so : {X : Type 0} (o : Option X) → is_some o ≡ false → o ≡ None
none_so None e = refl
none_so (Some x) e = cc

pub will_started : (old new : ℕ → Effect) (place : ℕ) (effect : Effect) → new ≡ put_at old place effect → new place ≡ effect
will_started old new place effect is = ap (λ f. f place) is ∙ ap (λ b. cond b effect (old place)) (eq-eqb place place refl)
