-- Why an order to prune is refused, from what pruning answers.
use Rattle.std.proofs.Common.{◌≡◌, Bool, List, ℕ, inl, inr, refl, sym, ap, subst, ◌∙◌}
use Rattle.std.specs.Prelude.{Ok, Err, Result}
use Rattle.std.proofs.lemmas.Result.{IfOk-at_ok, IfErr-at_err}
use Rattle.rel_path.specs.Files.{FileMap}
use Rattle.refusals.specs.declared.refusal.Refusal.{Refusal}
use Rattle.repository.specs.Reading.{Contents, Means}
use Rattle.plan_laws.specs.Laws.{RepositoryLaw}
use Rattle.prune.specs.declared.error.PruneErr.{PruneErr}
use Rattle.prune.specs.declared.error.PruneErr.TheVariants.{NoPackage, OutTaken, Missing, TooLarge, TreeFailed, SinkFailed, OutOfMemory}
use Rattle.prune.specs.Answers.{Leaves}
use Rattle.prune_orders.specs.Asking.{IsRefusedIn, IsRefusedPrune}
use Rattle.prune_orders.specs.Laws.{OnceLaw, IsPruned}
use Rattle.prune_orders.specs.Outcomes.{LeavesRefused}
use Rattle.prune_orders.specs.Steps.{IsRefusalOf}

module _ (docker : Bool) (contents : Contents) (targets : List (List ℕ)) (old new : FileMap) where
  -- the refusal is one of the repository
  pub refused_in : (fault : PruneErr) → Leaves docker contents targets old new (Err fault) → (reason : Refusal) → IsRefusalOf fault reason → IsRefusedIn contents targets old reason
  refused_in (NoPackage name) leaves reason is = inl (record { name = name; first = leaves.1; is = is })
  refused_in (OutTaken path) leaves reason is = inr (inl (record { names = leaves.1.0; path = path; first = leaves.1.1; is = is }))
  refused_in (Missing from name) leaves reason is =
      inr (inr (inl (record { begins = leaves.1.0; set = leaves.1.1.0; kept = leaves.1.1.1; from = from; name = name; first = leaves.1.1.2; is = is })))
  refused_in (TooLarge path) leaves reason is =
      inr (inr (inr (record { begins = leaves.begins; pruning = leaves.pruning; are = leaves.is; path = path; first = leaves.large; is = is })))
  refused_in TreeFailed leaves reason is = absurd is
  refused_in SinkFailed leaves reason is = absurd is
  refused_in OutOfMemory leaves reason is = absurd is

  -- what is left of the files then
  pub left_in : Means old (Ok contents) → (fault : PruneErr) → Leaves docker contents targets old new (Err fault) → (reason : Refusal) → IsRefusalOf fault reason → LeavesRefused docker targets old new reason
  left_in means (NoPackage name) leaves reason is = inl leaves.0
  left_in means (OutTaken path) leaves reason is = inl leaves.0
  left_in means (Missing from name) leaves reason is = inl leaves.0
  left_in means (TooLarge path) leaves reason is = inr (path, is, record { contents = contents; means = means; stops = leaves })
  left_in means TreeFailed leaves reason is = absurd is
  left_in means SinkFailed leaves reason is = absurd is
  left_in means OutOfMemory leaves reason is = absurd is

module _ (law : RepositoryLaw) (once : OnceLaw) (targets : List (List ℕ)) (files : FileMap) where
  not_both : (contents : Contents) (reason : Refusal) → Means files (Ok contents) → Means files (Err reason) → ⊥
  not_both contents reason means refused = IfOk-at_ok (λ _. ⊥) {r = Err reason} {x = contents} (law files (Err reason) (Ok contents) refused means) tt

  one_contents : (one other : Contents) → Means files (Ok one) → Means files (Ok other) → other ≡ one
  one_contents one other a b = IfOk-at_ok (λ y. other ≡ y) {r = Ok other} {x = one} (law files (Ok other) (Ok one) b a) refl

  one_refusal : (reason other : Refusal) → Means files (Err reason) → Means files (Err other) → other ≡ reason
  one_refusal reason other a b = IfErr-at_err (λ y. other ≡ y) {r = Err other} {y = reason} (law files (Err other) (Err reason) b a) refl

  -- the files make no repository
  pub unread_only : (reason other : Refusal) → IsRefusedPrune targets files reason → Means files (Err other) → other ≡ reason
  unread_only reason other (inl unread) is = one_refusal reason other unread is
  unread_only reason other (inr read) is = absurd (not_both read.0 other read.1 is)

  module _ (contents : Contents) (means : Means files (Ok contents)) where
    here : (reason : Refusal) → IsRefusedPrune targets files reason → IsRefusedIn contents targets files reason
    here reason (inl unread) = absurd (not_both contents reason means unread)
    here reason (inr read) = subst (λ c. IsRefusedIn c targets files reason) (one_contents contents read.0 means read.1) read.2

    -- a repository that was pruned is refused for no reason
    pub pruned_only : (reason : Refusal) → IsRefusedPrune targets files reason → IsPruned contents targets files → ⊥
    pruned_only reason refused pruned = once.none contents targets files reason pruned (here reason refused)

    -- and one that was refused for this one alone
    pub refused_only : (reason other : Refusal) → IsRefusedPrune targets files reason → IsRefusedIn contents targets files other → other ≡ reason
    refused_only reason other refused is = once.one contents targets files reason other (here reason refused) is
