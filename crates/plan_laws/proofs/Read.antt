-- One repository of files: each step has one answer, and the next step goes on from it.
use Rattle.std.proofs.Common.{◌≡◌, List, sym, ◌∙◌, subst}
use Rattle.std.specs.Prelude.{Option, Some, None, Result, Ok, Err}
use Rattle.rel_path.specs.Paths.{Path}
use Rattle.rel_path.specs.Files.{FileMap}
use Rattle.tree_walk.specs.declared.error.WalkErr.{WalkErr}
use Rattle.tree_walk.specs.declared.error.WalkErr.TheVariants.{TooDeep, TooMany, Failed, OutOfMemory}
use Rattle.workspaces.specs.declared.error.SpaceErr.{SpaceErr}
use Rattle.workspaces.specs.Space.{Space, space_of}
use Rattle.refusals.specs.declared.refusal.Refusal.{Refusal}
use Rattle.repository.specs.Steps.{After, IsRefusal, walk_refusal, space_refusal}
use Rattle.repository.specs.Reading.{root_manifest, lockfile, setup_in, AfterWalkOf, AfterWalk, AfterSpace, Means}
use Rattle.plan_laws.specs.Laws.{AtMostOne}
use Rattle.plan_laws.proofs.Walking.{IsOfFiles, one_walk}

pub one_refusal : {B : Type 0} (reason : Option Refusal) → AtMostOne {A = B} (IsRefusal reason)
one_refusal None one other a b = absurd a
one_refusal (Some reason) one other a b = a ∙ sym b

pub after_one : {A B : Type 0} (result : Result A Refusal) (next : A → Result B Refusal → Type 0) → ((a : A) → AtMostOne (next a)) → AtMostOne (After result next)
after_one (Ok a) next each one other s t = each a one other s t
after_one (Err reason) next each one other s t = s ∙ sym t

module _ {B : Type 0} where
  -- ---- the walk

  of_files : (next : List Path → Result B Refusal → Type 0) (walked : Result (List Path) WalkErr) (answer : Result B Refusal) → AfterWalkOf walked next answer → IsOfFiles walked
  of_files next (Ok walk) answer s = tt
  of_files next (Err (TooDeep path)) answer s = tt
  of_files next (Err TooMany) answer s = tt
  of_files next (Err Failed) answer s = absurd s
  of_files next (Err OutOfMemory) answer s = absurd s

  after_walk_of : (walked : Result (List Path) WalkErr) (next : List Path → Result B Refusal → Type 0) → ((walk : List Path) → AtMostOne (next walk)) → AtMostOne (AfterWalkOf walked next)
  after_walk_of (Ok walk) next each one other s t = each walk one other s t
  after_walk_of (Err fault) next each one other s t = one_refusal (walk_refusal fault) one other s t

  after_walk : (files : FileMap) (next : List Path → Result B Refusal → Type 0) → ((walk : List Path) → AtMostOne (next walk)) → AtMostOne (AfterWalk files next)
  after_walk files next each one other s t =
      let same : s.0 ≡ t.0 = one_walk files s.0 t.0 (of_files next s.0 one s.2) (of_files next t.0 other t.2) s.1 t.1 in
      after_walk_of t.0 next each one other (subst (λ walked. AfterWalkOf walked next one) same s.2) t.2

  -- ---- the workspace

  after_space : (space : Result Space SpaceErr) (next : Space → Result B Refusal → Type 0) → ((space : Space) → AtMostOne (next space)) → AtMostOne (AfterSpace space next)
  after_space (Ok space) next each one other s t = each space one other s t
  after_space (Err fault) next each one other s t = one_refusal (space_refusal fault) one other s t

pub one_repository : (files : FileMap) → AtMostOne (Means files)
one_repository files =
    after_one (root_manifest files) _ (λ root.
    after_one (lockfile files) _ (λ lock.
    after_walk files _ (λ walk.
    after_space (space_of files walk root) _ (λ space.
    after_one (setup_in files space.packages) _ (λ setup one other s t. s ∙ sym t)))))
