-- What files and names settle: a repository is pruned, or one reason refuses it.
use Rattle.std.specs.Prelude.{◌≡◌, ℕ, List, None}
use Rattle.rel_path.specs.Files.{FileMap}
use Rattle.refusals.specs.declared.refusal.Refusal.{Refusal}
use Rattle.repository.specs.Reading.{Contents}
use Rattle.pruned_files.specs.Pruned.{Pruning, IsPruning}
use Rattle.prune.specs.Answers.{CanBegin}
use Rattle.prune.specs.Folders.{first_over}
use Rattle.prune_orders.specs.Asking.{IsRefusedIn}

-- the repository is pruned
pub record IsPruned (contents : Contents) (targets : List (List ℕ)) (files : FileMap) : Type 0 where
  pub begins : CanBegin contents targets
  pub pruning : Pruning
  pub is : IsPruning contents targets pruning
  pub small : first_over files pruning.paths ≡ None

pub record OnceLaw : Type 0 where
  pub one : (contents : Contents) (targets : List (List ℕ)) (files : FileMap) (reason other : Refusal)
      → IsRefusedIn contents targets files reason → IsRefusedIn contents targets files other → other ≡ reason
  pub none : (contents : Contents) (targets : List (List ℕ)) (files : FileMap) (reason : Refusal)
      → IsPruned contents targets files → IsRefusedIn contents targets files reason → ⊥
