-- The pairs of images that a run left tell the truth where those of the store did.
use Rattle.std.proofs.Common.{◌≡◌, Bool, true, false, List, [], ◌∷◌, ◌++◌, Option, Some, sym, ◌∙◌}
use Rattle.std.proofs.Common.{subst}
use Rattle.std.specs.List.{AllByRecursion}
use Rattle.cache_api.specs.Pairs.{Pair}
use Rattle.spawn_dev.specs.declared.command.Step.{Step}
use Rattle.run_laws.specs.Pairs.{IsGood, IsGoodPair}
use Rattle.run_plan.specs.declared.plan.Plan.{Plan}
use Rattle.run_plan.specs.Openings.{Opening}
use Rattle.second_runs.specs.Images.{IsLeftBehind}

all_back : {X : Type 0} (P : X → Type 0) (xs ys : List X) → AllByRecursion P (xs ++ ys)
    → AllByRecursion P ys
all_back P [] ys all = all
all_back P (x ∷ xs) ys all = all_back P xs ys all.1

all_join : {X : Type 0} (P : X → Type 0) (xs ys : List X) → AllByRecursion P xs
    → AllByRecursion P ys → AllByRecursion P (xs ++ ys)
all_join P [] ys front back = back
all_join P (x ∷ xs) ys front back = (front.0, all_join P xs ys front.1 back)

same_some : (a b : List Pair) → Some a ≡ Some b → a ≡ b
same_some a b is = cc

pub left_good : (adds : Bool) (plan : Plan) (o : Opening) (steps : List Step)
    (first left : List Pair) (told : Option (List Pair)) → IsGood o.book first
    → IsLeftBehind adds plan o steps first told → told ≡ Some left → IsGood o.book left
left_good false plan o steps first left told good behind is =
    subst (λ (l : List Pair). IsGood o.book l) (same_some first left (sym behind ∙ is)) good
left_good true plan o steps first left told good (more, stands, (room, safe)) is =
    subst (λ (l : List Pair). IsGood o.book l)
    (same_some (first ++ more) left (sym stands ∙ is))
    (all_join (IsGoodPair o.book) first more good
    (all_back (IsGoodPair o.book) o.pairs more safe.good))
