-- What a call leaves tells the truth, where what it began with did.
use Rattle.std.proofs.Common.{◌≡◌, inl, inr, ℕ, Bool, true, false, List, [], ◌∷◌, ◌++◌, Some, None}
use Rattle.std.proofs.Common.{Ok, Err, refl, sym, ◌∙◌, ap, subst}
use Rattle.std.specs.Prelude.{Option, Result, All, if◌then◌else◌}
use Rattle.std.specs.List.{AllByRecursion}
use Rattle.std.proofs.lemmas.List.Elements.{All-from_recursion, recursion_from_All}
use Rattle.std.proofs.lemmas.List.Elements.{All-head, All-tail}
use Rattle.cache_api.specs.Pairs.{Pair}
use Rattle.compact.specs.Chosen.{chosen}
use Rattle.compact.specs.Current.{pairs_of}
use Rattle.compact.proofs.Chaining.{chain_law}
use Rattle.spawn_dev.specs.declared.command.Step.{Step}
use Rattle.cli_words.specs.declared.order.Order.{Order}
use Rattle.cli_words.specs.declared.order.Order.TheVariants.{Run, Prune, Sample, Compact, Help}
use Rattle.cli_words.specs.declared.order.RunOrder.{RunOrder}
use Rattle.cli_words.specs.declared.error.WordsErr.{WordsErr}
use Rattle.run_laws.specs.Effects.{Book}
use Rattle.run_laws.specs.Pairs.{IsGood, IsGoodPair}
use Rattle.run_plan.specs.declared.plan.Plan.{Plan}
use Rattle.answers.specs.Moments.{Moment}
use Rattle.store_answers.specs.Stores.{held_in}
use Rattle.second_runs.specs.Images.{IsLeftInBoth, IsLeftOfLocal, IsOneOfBoth}
use Rattle.second_runs.specs.Images.{IsLeftBy as IsLeftBy2}
use Rattle.second_runs.specs.Moments.{local_in, nothing}
use Rattle.second_runs.specs.Outcomes.{AreStores, pairs_of as both_pairs}
use Rattle.cli_words.specs.declared.order.Access.{Access}
use Rattle.run_orders.specs.Moments.{OrderMoment, on_current, on_second}
use Rattle.run_orders.specs.Images.{IsLeftLocal}
use Rattle.run_orders.specs.Uses.{uses_of}
use Rattle.run_orders.specs.declared.uses.Uses.{Uses}
use Rattle.run_orders.specs.declared.uses.Uses.TheVariants.{Current, Second, Shared}
use Rattle.run_orders.specs.Images.{IsLeftByOrder, IsLeftByPlan, IsLeftOfHeld}
use Rattle.turbo_app.specs.Images.{HeldTruth, IsChosenOfBoth, IsLeftBy, TellsTruth}

pub same_pairs : {a b : List Pair} → Some a ≡ Some b → a ≡ b
same_pairs is =
    ap (λ (o : Option (List Pair)). elim o as (λ _. List Pair) [ Some l ↦ l | None ↦ [] ]) is

-- a property of each element, of two lists one behind the other
all-append : {X : Type 0} (P : X → Type 0) (xs ys : List X) → AllByRecursion P xs
    → AllByRecursion P ys → AllByRecursion P (xs ++ ys)
all-append P [] ys a b = b
all-append P (x ∷ xs) ys a b = (a.0, all-append P xs ys a.1 b)

all_behind : {X : Type 0} (P : X → Type 0) (xs ys : List X) → AllByRecursion P (xs ++ ys)
    → AllByRecursion P ys
all_behind P [] ys a = a
all_behind P (x ∷ xs) ys a = all_behind P xs ys a.1

-- what is kept of pairs that tell the truth does so too
pub good_chosen : (book : Book) (pairs : List Pair) (keep : Option ℕ) → IsGood book pairs
    → IsGood book (chosen pairs keep)
good_chosen book pairs keep good =
    let Good : Pair → Type 0 = IsGoodPair book in
    let kept = chosen pairs keep in
    let all = chain_law Good (pairs ∷ kept ∷ []) (
      inl (record { added = pairs; is = refl; good = All-from_recursion Good pairs good }),
      (inr (record { keep = keep; is = refl }), tt),
    ) in
    let Each : List Pair → Type 0 = λ l. All Good l in
    recursion_from_All Good kept
    (All-head Each kept [] (All-tail Each pairs (kept ∷ []) all))

module _ (book : Book) (stores spares : List ℕ → Type 0)
    (truth : (d e : List ℕ) → stores d → spares e → TellsTruth book d e)
    (env : List (List ℕ × List ℕ)) (old : OrderMoment) (held : HeldTruth book old)
    (steps : List Step) (f s : List ℕ) where
  -- these are the pairs, and they tell the truth
  told : (pairs : List Pair) → pairs_of f s ≡ Some pairs → IsGood book pairs → TellsTruth book f s
  told pairs is good other also =
      subst (λ (l : List Pair). IsGood book l) (same_pairs (sym is ∙ also)) good

  truth_of_one : IsOneOfBoth stores spares f s → TellsTruth book f s
  truth_of_one (d, e, now, also, same) pairs is = truth d e now also pairs (sym same ∙ is)

  truth_of_chosen : (keep : Option ℕ) → IsChosenOfBoth keep stores spares f s → TellsTruth book f s
  truth_of_chosen keep x = told (chosen x.pairs keep) x.is (good_chosen book x.pairs keep
      (truth x.store x.spare x.was_store x.was_spare x.pairs x.was))

  truth_of_held : (is_dry : Bool) (plan : Plan)
      → IsLeftOfHeld is_dry book plan (on_current old) steps (pairs_of f s) → TellsTruth book f s
  truth_of_held true plan (pairs, was, is) = told pairs is (held pairs was)
  truth_of_held false plan (pairs, was, (room, said)) = told said.0 said.1 said.2.good

  truth_by_plan : (is_dry : Bool) (plan : Plan)
      → IsLeftByPlan is_dry book plan (on_current old) steps stores spares f s
      → TellsTruth book f s
  truth_by_plan is_dry plan (inl one) = truth_of_one one
  truth_by_plan is_dry plan (inr left) = truth_of_held is_dry plan left

  -- the pairs of a local store, which has none where it is not read
  local_good : (access : Access) (reads : Bool) (pairs : List Pair)
      → (if reads then held_in old.held.local else nothing).pairs ≡ Some pairs
      → IsGood book pairs
  local_good access true pairs is = held pairs is
  local_good access false pairs is = subst (λ (l : List Pair). IsGood book l) (same_pairs is) tt

  truth_of_local : (is_dry puts : Bool) (access : Access) (plan : Plan)
      (both : AreStores (on_second access old).held)
      → IsLeftBy2 is_dry puts book plan (on_second access old) steps (both_pairs access both)
      both.local (pairs_of f s)
      → TellsTruth book f s
  truth_of_local true puts access plan both is =
      told both.local is (local_good access access.local_reads both.local both.local_is)
  truth_of_local false false access plan both is =
      told both.local is (local_good access access.local_reads both.local both.local_is)
  truth_of_local false true access plan both (more, is, (room, safe)) =
      told (both.local ++ more) is (all-append (IsGoodPair book) both.local more
      (local_good access access.local_reads both.local both.local_is)
      (all_behind (IsGoodPair book) (both_pairs access both) more safe.good))

  truth_in_both : (is_dry : Bool) (access : Access) (plan : Plan)
      → IsLeftInBoth is_dry access book plan (on_second access old) steps stores spares f s
      → TellsTruth book f s
  truth_in_both is_dry access plan (inl one) = truth_of_one one
  truth_in_both is_dry access plan (inr (both, left)) =
      truth_of_local is_dry access.local_puts access plan both left

  truth_by_uses : (uses : Uses) (order : RunOrder) (plan : Plan)
      → IsLeftLocal uses order book plan old steps stores spares f s → TellsTruth book f s
  truth_by_uses Current order plan left = truth_by_plan order.dry plan left
  truth_by_uses Second order plan left = truth_in_both order.dry order.access plan left
  truth_by_uses Shared order plan one = truth_of_one one

  truth_by_order : (order : RunOrder) → IsLeftByOrder order book env old steps stores spares f s
      → TellsTruth book f s
  truth_by_order order (inl one) = truth_of_one one
  truth_by_order order (inr left) = truth_by_uses (uses_of order) order left.0 left.2

  pub truth_by_words : (asked : Result Order WordsErr)
      → IsLeftBy asked book env old steps stores spares f s → TellsTruth book f s
  truth_by_words (Err fault) one = truth_of_one one
  truth_by_words (Ok Help) one = truth_of_one one
  truth_by_words (Ok (Prune targets docker)) one = truth_of_one one
  truth_by_words (Ok (Sample size)) one = truth_of_one one
  truth_by_words (Ok (Compact keep)) (inl one) = truth_of_one one
  truth_by_words (Ok (Compact keep)) (inr kept) = truth_of_chosen keep kept
  truth_by_words (Ok (Run order)) left = truth_by_order order left
