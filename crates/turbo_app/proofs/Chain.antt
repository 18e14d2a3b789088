-- In a chain of two stores each that began with empty ones all pairs tell the truth.
use Rattle.std.proofs.Common.{◌≡◌, ◌≤◌, inl, inr, ℕ, List, [], ◌∷◌, ◌++◌, length, Some}
use Rattle.std.proofs.Common.{sym, ◌∙◌, ap, subst}
use Rattle.std.specs.List.{AllByRecursion}
use Rattle.std.proofs.lemmas.List.{append-nil, append_assoc}
use Rattle.cache_api.specs.Pairs.{Pair}
use Rattle.compact.specs.Chosen.{chosen}
use Rattle.compact.specs.Current.{current_of, on_side, pairs_of}
use Rattle.compact.specs.declared.side.Side.{Side}
use Rattle.compact.specs.declared.side.Side.TheVariants.{First, Spare}
use Rattle.artifact_store.specs.Pairs.{stands_for}
use Rattle.run_laws.specs.Effects.{Book}
use Rattle.run_laws.specs.PairLaws.{DueLaw}
use Rattle.run_laws.specs.Pairs.{IsDue, IsGood}
use Rattle.store_answers.specs.Stores.{Stores}
use Rattle.run_orders.specs.Facts.{short_stands}
use Rattle.turbo_app.specs.Images.{IsChain, HasGoodPairs, pairs_in}
use Rattle.turbo_app.proofs.Truth.{good_chosen, same_pairs}

-- two empty stores have no pairs
empty_on : (side : Side) (a b : List ℕ) → length a ≤ 9 → length b ≤ 9
    → stands_for (on_side side a b) ≡ Some []
empty_on First a b short also = short_stands a short
empty_on Spare a b short also = short_stands b also

pub none_in : (stores : Stores) → length stores.store ≤ 9 → length stores.spare ≤ 9
    → pairs_in stores ≡ Some []
none_in stores short also =
    empty_on (current_of stores.store stores.spare) stores.store stores.spare short also

module _ (law : DueLaw) (book : Book) where
  -- pairs that are due may stand behind others
  adds : (before added : List Pair) → IsGood book before → AllByRecursion (IsDue book) added
      → IsGood book (before ++ added)
  adds before [] good due = subst (λ (l : List Pair). IsGood book l) (sym (append-nil before)) good
  adds before (pair ∷ added) good due =
      subst (λ (l : List Pair). IsGood book l) (append_assoc before (pair ∷ []) added)
      (adds (before ++ pair ∷ []) added (law book before pair good due.0) due.1)

  -- the pairs that were are those that stood there, which tell the truth
  good_was : (before : Stores) (pairs was : List Pair) → pairs_in before ≡ Some pairs
      → pairs_in before ≡ Some was → IsGood book pairs → IsGood book was
  good_was before pairs was is also good =
      subst (λ (l : List Pair). IsGood book l) (same_pairs (sym is ∙ also)) good

  -- from one on
  pub good_from : (before : Stores) (pairs : List Pair) → pairs_in before ≡ Some pairs
      → IsGood book pairs → (later : List Stores) → IsChain book before later
      → AllByRecursion (HasGoodPairs book) later
  good_from before pairs is good [] chain = tt
  good_from before pairs is good (stores ∷ later) (inl x, chain) =
      let then = good_was before pairs x.pairs is x.was good in
      let now = adds x.pairs x.added then x.due in
      ((x.pairs ++ x.added, x.is, now), good_from stores (x.pairs ++ x.added) x.is now later chain)
  good_from before pairs is good (stores ∷ later) (inr x, chain) =
      let then = good_was before pairs x.pairs is x.was good in
      let now = good_chosen book x.pairs x.keep then in
      let kept = chosen x.pairs x.keep in
      ((kept, x.is, now), good_from stores kept x.is now later chain)
