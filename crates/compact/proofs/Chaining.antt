-- What holds of each pair holds of each that is chosen, and of each of a chain.
use Rattle.std.proofs.Common.{◌≡◌, inl, inr, ℕ, ◌-◌, Bool, true, false, cond, List, [], ◌∷◌, length, Option, Some, None, sym, subst}
use Rattle.std.specs.Prelude.{All, filter}
use Rattle.std.proofs.lemmas.List.Elements.{All-nil, All-cons, All-head, All-tail, All-append, All-filter, All-drop, filter_passes}
use Rattle.cache_api.specs.Pairs.{Pair}
use Rattle.compact.specs.Chosen.{is_useful, has_key, lasts, last_of, chosen}
use Rattle.compact.specs.Picks.{AreUseful}
use Rattle.compact.specs.Chains.{IsChain, ChainLaw}

module _ (Good : Pair → Type 0) where
  lasts_by : (b : Bool) (p : Pair) (ps : List Pair) → Good p → All Good ps
      → All Good (cond b ps (p ∷ ps))
  lasts_by true p ps good all = all
  lasts_by false p ps good all = All-cons Good p ps good all

  pub all_lasts : (ps : List Pair) → All Good ps → All Good (lasts ps)
  all_lasts [] all = all
  all_lasts (p ∷ ps) all =
      lasts_by (has_key p.0 ps) p (lasts ps) (All-head Good p ps all) (all_lasts ps (All-tail Good p ps all))

  pub all_last : (keep : Option ℕ) (ps : List Pair) → All Good ps → All Good (last_of keep ps)
  all_last None ps all = all
  all_last (Some n) ps all = All-drop Good (length ps - n) ps all

  all_chosen : (pairs : List Pair) (keep : Option ℕ) → All Good pairs → All Good (chosen pairs keep)
  unfolding chosen
  all_chosen pairs keep all =
      all_last keep (lasts (filter is_useful pairs))
      (all_lasts (filter is_useful pairs) (All-filter is_useful Good pairs all))

  chain_from : (last : List Pair) (chain : List (List Pair)) → All Good last
      → IsChain Good last chain → All (λ pairs. All Good pairs) chain
  chain_from last [] good is = All-nil (λ pairs. All Good pairs)
  chain_from last (pairs ∷ later) good (inl x, is) =
      let now = subst (λ l. All Good l) (sym x.is) (All-append Good last x.added good x.good) in
      All-cons (λ l. All Good l) pairs later now (chain_from pairs later now is)
  chain_from last (pairs ∷ later) good (inr x, is) =
      let now = subst (λ l. All Good l) (sym x.is) (all_chosen last x.keep good) in
      All-cons (λ l. All Good l) pairs later now (chain_from pairs later now is)

  pub chain_law : ChainLaw Good
  chain_law chain is = chain_from [] chain (All-nil Good) is

-- what is chosen has artifacts for values
pub useful_chosen : (pairs : List Pair) (keep : Option ℕ) → AreUseful (chosen pairs keep)
unfolding chosen
useful_chosen pairs keep =
    let Useful : Pair → Type 0 = λ p. is_useful p ≡ true in
    all_last Useful keep (lasts (filter is_useful pairs))
    (all_lasts Useful (filter is_useful pairs) (filter_passes is_useful pairs))
