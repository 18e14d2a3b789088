-- What a call leaves over a cache that holds results back, said of the cache below.
use Rattle.std.proofs.Common.{◌≡◌, ◌≤◌, Bool, List, [], ◌++◌, length, sym, ap, ◌∙◌, subst, append-nil, arith}
use Rattle.std.specs.Bool.{OnFalse}
use Rattle.std.proofs.lemmas.Bool.{OnFalse_at, OnFalse_from}
use Rattle.cache_api.specs.declared.cache.Cache.{Ghosts}
use Rattle.cache_api.specs.Cache.{CacheState, AllLast}
use Rattle.cache_api.specs.Pairs.{Pair}
use Rattle.held_results.specs.declared.held.Held.{Held}
use Rattle.held_results.specs.Held.{below_of, held_pairs, state_of}

module _ {C : Type 0} {G : Ghosts C} where
  -- where nothing is due it is what the cache below is
  pub opened : (h : Held C G) (cache : C) → below_of h ≡ cache → held_pairs h ≡ []
      → (state_of h).whole ≡ (G.state cache).whole → state_of h ≡ G.state (below_of h)
  opened h cache below none whole =
      let pairs : (state_of h).pairs ≡ (G.state (below_of h)).pairs =
      ap (λ (due : List Pair). (G.state (below_of h)).pairs ++ due) none
      ∙ append-nil (G.state (below_of h)).pairs in
      let usable : (state_of h).whole ≡ (G.state (below_of h)).whole =
      whole ∙ ap (λ (c : C). (G.state c).whole) (sym below) in
      λ i. record {
        pairs = pairs i;
        lasting = (state_of h).lasting;
        whole = usable i;
        room = (state_of h).room;
        sure = (state_of h).sure;
        faults = (state_of h).faults;
        probes = (state_of h).probes;
        base = (state_of h).base;
      }

  -- What is said of it before and after, is said of the cache that is handed in and out.
  pub handed : (h later : Held C G) (cache left : C) → below_of h ≡ cache → held_pairs h ≡ []
      → (state_of h).whole ≡ (G.state cache).whole → left ≡ below_of later
      → (Q : CacheState G.Base → C → C → Type 0) → Q (state_of h) (below_of h) (below_of later)
      → Q (G.state cache) cache left
  handed h later cache left below none whole out Q holds =
      subst (λ (c : C). Q (G.state cache) cache c) (sym out)
      (subst (λ (c : C). Q (G.state c) c (below_of later)) below
      (subst (λ (s : CacheState G.Base). Q s (below_of h) (below_of later))
      (opened h cache below none whole) holds))

  -- it is what the cache is that is handed in
  pub taken : (h : Held C G) (cache : C) → below_of h ≡ cache → held_pairs h ≡ []
      → (state_of h).whole ≡ (G.state cache).whole → state_of h ≡ G.state cache
  taken h cache below none whole =
      opened h cache below none whole ∙ ap (λ (c : C). G.state c) below

  -- where nothing is due at last, all pairs are in the cache that is handed back
  pub given_last : (later : Held C G) (left : C) → left ≡ below_of later
      → (G.state left).pairs ≡ (state_of later).pairs → AllLast (state_of later)
      → AllLast (G.state left)
  given_last later left out same last =
      ap (λ (c : C). (G.state c).lasting) out ∙ last
      ∙ ap (λ (ps : List Pair). length ps) (sym same)

  -- all that lasted before is in it
  pub still_there : (h later : Held C G) → AllLast (state_of h)
      → (state_of h).lasting ≤ (state_of later).lasting
      → (G.state (below_of later)).lasting ≤ length (G.state (below_of later)).pairs
      → length (state_of h).pairs ≤ length (G.state (below_of later)).pairs
  still_there h later last more within = omega (arith, last, more, within)

-- what follows where it is so
pub on_false : (b : Bool) (P Q : Type 0) → (P → Q) → OnFalse b P → OnFalse b Q
on_false b P Q more h = OnFalse_from b Q (λ is. more (OnFalse_at is h))
