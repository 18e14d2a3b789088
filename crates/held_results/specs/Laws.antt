-- Why a cache that holds results back is a cache.
use Rattle.std.proofs.Common.{◌≡◌, ℕ, ◌+◌, ◌≤◌, false, List, [], ◌∷◌, ◌++◌, length, sym, ap, subst, ◌∙◌, append_assoc, zero-add, arith, length-append}
use Rattle.std.specs.Prelude.{IsTrue, sum_by}
use Rattle.std.specs.List.{list_any}
use Rattle.std.proofs.lemmas.Bool.{and_parts, or_parts}
use Rattle.std.proofs.lemmas.List.{drop-append-le}
use Rattle.rel_path.specs.Paths.{name_eq}
use Rattle.cache_api.specs.declared.cache.Cache.{Ghosts}
use Rattle.cache_api.specs.declared.puts.Put.TheVariants as put
use Rattle.cache_api.specs.Cache.{due_in, AllLast, ample, NoRoomBehind, AreToPut}
use Rattle.cache_api.specs.Keys.{own_text}
use Rattle.cache_api.specs.Pairs.{Pair, chosen, due_of, LacksKey, IsPartSince}
use Rattle.cache_api.proofs.Firsts.{part_more, none_due}
use Rattle.cache_api.proofs.Rooms.{even_more, behind_first, one_stored}
use Rattle.held_results.specs.declared.due.Due.{Due}
use Rattle.held_results.specs.declared.held.Held.{Held}
use Rattle.held_results.specs.Due.{due_pairs}
use Rattle.held_results.specs.Held.{held_pairs, state_of, stores}

-- a key that none has of what is held back
pub lacks_held : (key : List ℕ) (due : List Due)
    → list_any (λ d. name_eq (own_text d.key) key) due ≡ false → LacksKey key (due_pairs due)
lacks_held key [] none = tt
lacks_held key (d ∷ due) none =
    let (one, others) = or_parts (name_eq (own_text d.key) key) _ none in (one, lacks_held key due others)

module _ {C : Type 0} {G : Ghosts C} (h : Held C G) where
  pub held_due : (G.state h.inner).lasting ≤ length (G.state h.inner).pairs
      → due_in (state_of h) ≡ due_in (G.state h.inner) ++ held_pairs h
  held_due within = drop-append-le (G.state h.inner).lasting (G.state h.inner).pairs (held_pairs h) within

  pub held_within : (G.state h.inner).lasting ≤ length (G.state h.inner).pairs
      → (state_of h).lasting ≤ length (state_of h).pairs
  held_within within = omega (arith, within, length-append (G.state h.inner).pairs (held_pairs h))

  -- of those below a crash leaves as many, and none of the others
  pub held_rest : (image : G.Image) → (G.state h.inner).lasting ≤ length (G.state h.inner).pairs
      → IsPartSince (G.state h.inner).lasting (G.state h.inner).pairs (G.says (G.state h.inner).base image)
      → IsPartSince (state_of h).lasting (state_of h).pairs (G.says (state_of h).base image)
  held_rest image within part = part_more (G.state h.inner).lasting (G.state h.inner).pairs (held_pairs h) _ within part

  pub below_whole : IsTrue (state_of h).whole → IsTrue (G.state h.inner).whole
  below_whole whole = (and_parts h.whole (G.state h.inner).whole whole).1

  -- where it may be used, nothing is due below, and there is room for what is held
  pub held_rests : IsTrue (state_of h).whole → G.tells → AllLast (G.state h.inner) × (h.taken ≤ (G.state h.inner).sure)
  held_rests whole told = let (mine, below) = and_parts h.whole (G.state h.inner).whole whole in h.rests mine below told

  module _ (whole : IsTrue (state_of h).whole) (told : G.tells)
      (spare : G.tells → (G.state h.inner).sure ≤ (G.state h.inner).room)
      (to_put : (pairs : List Pair) → G.tells → IsTrue (G.state h.inner).whole
      → AreToPut (G.state h.inner) pairs (G.stores h.inner pairs)) where
    law : (news : List Pair) → AreToPut (G.state h.inner) (held_pairs h ++ news) (G.stores h.inner (held_pairs h ++ news))
    law news = to_put (held_pairs h ++ news) told (below_whole whole)

    none_below : due_in (G.state h.inner) ≡ []
    none_below = ap (λ n. due_of (G.state h.inner).pairs n) (held_rests whole told).0 ∙ none_due (G.state h.inner).pairs

    behind_due : (news : List Pair)
        → (chosen (held_pairs h ++ news) (G.stores h.inner (held_pairs h ++ news)) ≡ held_pairs h ++ chosen news (stores h news))
        × NoRoomBehind (G.state h.inner).room (0 + sum_by ample (held_pairs h)) news (stores h news)
    behind_due news =
        behind_first (G.state h.inner).room 0 (held_pairs h) news _ (omega (arith, (held_rests whole told).1, spare told, h.counted)) (law news).even
        (subst (λ (due : List Pair). NoRoomBehind (G.state h.inner).room (sum_by ample due) (held_pairs h ++ news)
        (G.stores h.inner (held_pairs h ++ news))) none_below (law news).full)

    pub held_to_put : (news : List Pair) → AreToPut (state_of h) news (stores h news)
    held_to_put news = record {
      even = even_more (held_pairs h) news _ (law news).even;
      full = subst (λ n. NoRoomBehind (G.state h.inner).room n news (stores h news))
          (zero-add (sum_by ample (held_pairs h)) ∙ ap (λ (due : List Pair). sum_by ample due)
          (sym (held_due (omega (arith, (held_rests whole told).0)) ∙ ap (λ (ps : List Pair). ps ++ held_pairs h) none_below)))
          (behind_due news).1;
    }

    -- what is put behind all pairs is put behind those below and what was due
    pub held_same : (news : List Pair) (due : List Due) → due ≡ h.due.items
        → (G.state h.inner).pairs ++ chosen (due_pairs due ++ news) (G.stores h.inner (due_pairs due ++ news))
        ≡ (state_of h).pairs ++ chosen news (stores h news)
    held_same news due are =
        ap (λ (ds : List Due). (G.state h.inner).pairs ++ chosen (due_pairs ds ++ news) (G.stores h.inner (due_pairs ds ++ news))) are
        ∙ ap (λ (ps : List Pair). (G.state h.inner).pairs ++ ps) (behind_due news).0
        ∙ sym (append_assoc (G.state h.inner).pairs (held_pairs h) (chosen news (stores h news)))

    -- a pair is put for which there is room besides
    pub held_stored : (pair : Pair) → h.taken + ample pair ≤ (G.state h.inner).sure → stores h (pair ∷ []) ≡ put.Stored ∷ []
    held_stored pair fits =
        one_stored (G.state h.inner).room (0 + sum_by ample (held_pairs h)) pair (stores h (pair ∷ []))
        (omega (arith, fits, spare told, h.counted)) (even_more (held_pairs h) (pair ∷ []) _ (law (pair ∷ [])).even)
        (behind_due (pair ∷ [])).1
