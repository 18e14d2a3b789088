-- What calls leave of a world, one after another.
use Rattle.std.proofs.Common.{◌≡◌, ◌≤◌, ℕ, List, [], refl, sym, ap, ◌∙◌, subst, append-nil}
use Rattle.tree_dev.specs.Tree.{TreeState}
use Rattle.cache_api.specs.Pairs.{Pair}
use Rattle.spawn_dev.specs.declared.command.Step.{Step as Told}
use Rattle.spawn_dev.specs.Spawn.{Runs}
use Rattle.run_plan.specs.declared.plan.Plan.{Plan}
use Rattle.run_plan.specs.Answers.{IsSafe, SameElsewhere}
use Rattle.run_plan.specs.Halts.{HaltLaw}
use Rattle.run_plan.specs.Openings.{Opening}
use Rattle.runner.specs.Halting.{WorldGoes}
use Rattle.runner.specs.Running.{AreOurs}
use Rattle.runner.proofs.CacheFacts.{grows-same, grows-then}
use Rattle.runner.proofs.FileFacts.{elsewhere-same, elsewhere-then}
use Rattle.runner.proofs.WorldFacts.{ours-same}

module _ {B R : Type 0} (tells : Type 0) (plan : Plan) where
  pub world-same : (old new : Runs B) (before after : TreeState R) → new ≡ old → AreOurs plan old
      → (tells → SameElsewhere plan before.files after.files)
      → WorldGoes tells plan old new before after
  world-same old new before after same ours files = record {
    book = ap (λ w. w.book) same;
    ours = ours-same plan old new same ours;
    further = λ told. grows-same old.steps new.steps (ap (λ w. w.steps) same);
    elsewhere = files;
  }

  pub world-none : (world : Runs B) (tree : TreeState R) → AreOurs plan world
      → WorldGoes tells plan world world tree tree
  world-none world tree ours =
      world-same world world tree tree refl ours (λ told. elsewhere-same plan tree.files tree.files refl)

  pub world-then : (a b d : Runs B) (x y z : TreeState R) → WorldGoes tells plan a b x y
      → WorldGoes tells plan b d y z → WorldGoes tells plan a d x z
  world-then a b d x y z first last = record {
    book = last.book ∙ first.book;
    ours = last.ours;
    further = λ told. grows-then a.steps b.steps d.steps (first.further told) (last.further told);
    elsewhere = λ told. elsewhere-then plan x.files y.files z.files (first.elsewhere told)
        (last.elsewhere told);
  }

-- steps that are the same are as safe
pub safe-steps : (plan : Plan) (o : Opening) (room : ℕ) (old new : List Told) (pairs : List Pair)
    → new ≡ old → IsSafe plan o room old pairs → IsSafe plan o room new pairs
safe-steps plan o room old new pairs same safe =
    subst (λ list. IsSafe plan o room list pairs) (sym same) safe

-- and with less room
pub safe-less : (law : HaltLaw) (plan : Plan) (o : Opening) (room less : ℕ)
    (old new : List Told) (pairs : List Pair) → less ≤ room → new ≡ old
    → IsSafe plan o room old pairs → IsSafe plan o less new pairs
safe-less law plan o room less old new pairs le same safe =
    subst (λ list. IsSafe plan o less list pairs) (append-nil old ∙ sym same)
    (law.safe_later plan o room less old [] pairs le safe)
