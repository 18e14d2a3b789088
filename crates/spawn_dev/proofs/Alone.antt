-- A command that is started where nothing runs, and what is known of commands without outputs.
use Rattle.std.proofs.Common.{◌≡◌, ℕ, Bool, true, false, cond, ◌==◌, refl, sym, ap, ◌∙◌}
use Rattle.std.specs.Prelude.{[], Option, Some, None, is_some}
use Rattle.std.proofs.lemmas.Bool.{eq-eqb, eqb-true}
use Rattle.rel_path.specs.Paths.{Path}
use Rattle.rel_path.specs.Files.{FileMap}
use Rattle.globs.specs.Outputs.{takes}
use Rattle.globs.specs.OutLaws.{takes_nothing}
use Rattle.globs.specs.OwnedFiles.{SameOutside}
use Rattle.spawn_dev.specs.declared.command.Command.{Command}
use Rattle.spawn_dev.specs.Spawn.{Runs, put_at, IsIdle, IsOwned}

-- the command that runs alone is the one that ends
pub alone : (old new : ℕ → Option Command) (command ended : Command) (place : ℕ) → ((q : ℕ) → is_some (old q) ≡ false) → new ≡ put_at old command.place (Some command)
    → new place ≡ Some ended → (place ≡ command.place) × (ended ≡ command)
alone old new command ended place idle e h =
    elim (place == command.place) as (λ b. (place == command.place) ≡ b → cond b (Some command) (old place) ≡ Some ended → (place ≡ command.place) × (ended ≡ command)) [
      | true ↦ λ t r. (eqb-true place command.place t, cc)
      | false ↦ λ t r. let none = idle place in absurd (let some = ap is_some r in cc)
    ] refl (ap (λ f. f place) (sym e) ∙ h)

-- once it has ended, nothing runs
pub idle_again : (old mid new : ℕ → Option Command) (command ended : Command) (place : ℕ) → ((q : ℕ) → is_some (old q) ≡ false) → mid ≡ put_at old command.place (Some command)
    → mid place ≡ Some ended → new ≡ put_at mid place None → (q : ℕ) → is_some (new q) ≡ false
idle_again old mid new command ended place idle starts ran ends q =
    let at = (alone old mid command ended place idle starts ran).0 in
    ap (λ f. is_some (f q)) ends ∙ ap (λ f. is_some (cond (q == place) None (f q))) starts
    ∙ elim (q == place) as (λ b. (q == place) ≡ b → is_some (cond {A = Option Command} b None (cond (q == command.place) (Some command) (old q))) ≡ false) [
      | true ↦ λ e. refl
      | false ↦ λ e. ap (λ p. is_some (cond (q == p) (Some command) (old q))) (sym at) ∙ ap (λ b. is_some (cond b (Some command) (old q))) e ∙ idle q
    ] refl

-- where nothing runs, nothing is held
pub held_nowhere : {B : Type 0} (runs : Runs B) (path : Path) (held : Bool) → IsIdle runs → (held ≡ true → IsOwned runs path) → held ≡ false
held_nowhere runs path true idle owned = let o = owned refl in let none = idle o.place in absurd (let some = ap is_some o.at in cc)
held_nowhere runs path false idle owned = refl

-- a command without outputs owns nothing
pub owns_nothing : (command : Command) (path : Path) → command.outs.mine ≡ [] → takes command.outs path ≡ true → ⊥
owns_nothing command path none takes_it = let no = takes_nothing command.outs path none in cc

-- and what ran alone without outputs changed no file
pub files_same : (command ended : Command) (before after : FileMap) → ended ≡ command → command.outs.mine ≡ [] → SameOutside ended.outs before after → after ≡ before
files_same command ended before after same none outside = λ i. λ path. outside path (takes_nothing ended.outs path (ap (λ c. c.outs.mine) same ∙ none)) i

-- a command that was started runs
pub live_started : (old new : ℕ → Option Command) (command : Command) → new ≡ put_at old command.place (Some command) → is_some (new command.place) ≡ true
live_started old new command e = ap (λ f. is_some (f command.place)) e ∙ ap (λ b. is_some (cond b (Some command) (old command.place))) (eq-eqb command.place command.place refl)
