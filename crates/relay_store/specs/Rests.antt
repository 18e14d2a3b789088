-- A relay that may be used: what its hits show, and what a crash leaves.
use Rattle.std.proofs.Common.{◌≡◌, inl, inr, ℕ, ◌≤◌, Bool, true, false, cond, List, []}
use Rattle.std.proofs.Common.{◌++◌, length, map, take, Option, Some, None, refl, sym, ◌∙◌, ap}
use Rattle.std.proofs.Common.{arith}
use Rattle.std.specs.Prelude.{◌&&◌, ◌==◌, IsTrue}
use Rattle.std.proofs.lemmas.Bool.{and_parts, eq-eqb}
use Rattle.std.proofs.lemmas.List.{append-nil, take_all, take-append-drop}
use Rattle.store_dev.specs.declared.device.StoreDevice.{Ghosts}
use Rattle.cache_api.specs.declared.hit.Hit.{Hit}
use Rattle.cache_api.specs.Artifacts.{File}
use Rattle.cache_api.specs.Hits.{paths_of}
use Rattle.cache_api.specs.Pairs.{Pair, IsPartSince}
use Rattle.cache_api.proofs.Firsts.{all_part}
use Rattle.record_log.specs.Frames.{text_of}
use Rattle.artifact_store.specs.declared.store.Store.{Store}
use Rattle.artifact_store.specs.Hits.{shown_paths}
use Rattle.artifact_store.specs.Laws.{images_told}
use Rattle.artifact_store.specs.Pairs.{told_as}
use Rattle.artifact_store.specs.Store.{device_of, frames_of}
use Rattle.relay_store.specs.declared.part.Part.{Part}
use Rattle.relay_store.specs.declared.relay.Relay.{Relay}
use Rattle.relay_store.specs.Fronts.{in_place_is}
use Rattle.relay_store.specs.Stores.{state_in, moment_in, images_in, stands_in, shows_in}
use Rattle.relay_store.specs.Parts.{first_of, more_of, pairs_of}
use Rattle.relay_store.specs.Agree.{firsts, later}
use Rattle.relay_store.specs.Relays.{Image, says_by, says, IsNotedBy}
use Rattle.relay_store.specs.Relays.{base_of, state_of, stands, shows, moment_of, left_of}
use Rattle.relay_store.specs.Relays.Image.{Local, Second}

-- ---- hits

paths_in : {S : Type 0} {G : Ghosts S} (store : Option (Store S G)) (hit : Hit)
    → stands_in store hit
    → map (λ (f : File). f.0) (shows_in store hit).1 ≡ paths_of hit
paths_in None hit stood = absurd stood
paths_in (Some s) hit stood = shown_paths (text_of (frames_of s)) hit

-- ---- what an image says

-- what is noted of a store that has these pairs behind its first ones
pub noted_says : (puts : Bool) (all first more : List Pair) (told : Option (List Pair))
    → told ≡ Some (first ++ more) → (puts ≡ false → more ≡ []) → IsNotedBy puts first told
    → says_by puts all first told ≡ Some (all ++ more)
noted_says true all first more told is none noted = in_place_is all first more told is
noted_says false all first more told is none noted =
    absurd (noted refl (is ∙ ap (λ (l : List Pair). Some (first ++ l)) (none refl)
    ∙ ap (λ (l : List Pair). Some l) (append-nil first)))

-- all that stands behind the first pairs of the store that is looked into first
pub later_local : (p : Bool) (all local second : List Pair) (count : ℕ)
    → count ≡ length (later p local second) → (p ≡ false → local ≡ [])
    → p ≡ true → all ++ local ≡ all ++ take count (later p local second)
later_local true all local second count is none puts =
    ap (λ (l : List Pair). all ++ l) (sym (take_all count local (omega (arith, is))))
later_local false all local second count is none puts = absurd (cc)

pub later_second : (p q : Bool) (all local second : List Pair) (count : ℕ)
    → count ≡ length (later p local second) → ((p && q) ≡ true → second ≡ local)
    → q ≡ true → all ++ second ≡ all ++ take count (later p local second)
later_second true q all local second count is same puts =
    ap (λ (l : List Pair). all ++ l) (same puts ∙ sym (take_all count local (omega (arith, is))))
later_second false q all local second count is same puts =
    ap (λ (l : List Pair). all ++ l) (sym (take_all count second (omega (arith, is))))

-- where it is put into, all there is; where not, nothing is noted
pub noted_all : (puts : Bool) (all first more pairs : List Pair) (told : Option (List Pair))
    → told ≡ Some (first ++ more) → (puts ≡ false → more ≡ [])
    → (puts ≡ true → all ++ more ≡ pairs) → IsNotedBy puts first told
    → says_by puts all first told ≡ Some pairs
noted_all true all first more pairs told is none ends noted =
    in_place_is all first more told is ∙ ap (λ (l : List Pair). Some l) (ends refl)
noted_all false all first more pairs told is none ends noted =
    noted_says false all first more told is none noted
    ∙ absurd (noted refl (is ∙ ap (λ (l : List Pair). Some (first ++ l)) (none refl)
    ∙ ap (λ (l : List Pair). Some l) (append-nil first)))

-- ---- at rest

-- the first pairs and those behind them are all
pub parted : {S : Type 0} {G : Ghosts S} (part : Part S G)
    → pairs_of part ≡ first_of part ++ more_of part
parted part = sym (take-append-drop part.first (pairs_of part))

-- since this moment nothing is left but what is left now
abbrev pub OnlyNow : {S : Type 0} → Ghosts S → Type 0
OnlyNow {S = S} G = (d : S) (c : List ℕ) → G.images_since d (G.moment d) c → G.images d c

pub rest_in : {S : Type 0} {G : Ghosts S} → OnlyNow G → (store : Option (Store S G)) → G.tells
    → (state_in store).whole ≡ true → (c : List ℕ) → images_in store (moment_in store) c
    → told_as (state_in store).base c ≡ Some (state_in store).pairs
rest_in only None told whole c left = absurd left
rest_in only (Some s) told whole c left =
    images_told (s.log.kept whole told) s.generation (s.same whole told) c
    (only (device_of s) c left)

module _ {S R : Type 0} {G : Ghosts S} {H : Ghosts R} where
  pub paths_shown : (r : Relay S R G H) (hit : Hit) → G.tells × H.tells → stands r hit
      → map (λ (f : File). f.0) (shows r hit).1 ≡ paths_of hit
  paths_shown r hit told (inl (side, stood)) =
      ap (λ (b : Bool). map (λ (f : File). f.0) (cond b (shows_in r.local.store hit)
      (shows_in r.second.store hit)).1)
      (eq-eqb hit.side 0 side)
      ∙ paths_in r.local.store hit stood
  paths_shown r hit told (inr (side, stood)) =
      ap (λ (n : ℕ). map (λ (f : File). f.0) (cond (n == 0) (shows_in r.local.store hit)
      (shows_in r.second.store hit)).1)
      side
      ∙ paths_in r.second.store hit stood

  -- what the bytes say of a store of a relay that is whole
  pub local_says : (r : Relay S R G H) → IsTrue r.whole → G.tells → H.tells
      → (told : Option (List Pair)) → told ≡ Some (pairs_of r.local)
      → IsNotedBy r.access.local_puts (first_of r.local) told
      → says_by r.access.local_puts (firsts r.access.local_puts (first_of r.local)
      (first_of r.second)) (first_of r.local) told
      ≡ Some (state_of r).pairs
  local_says r whole t u told is noted =
      let agree = r.agrees whole t u in
      noted_all r.access.local_puts _ (first_of r.local) (more_of r.local) (state_of r).pairs told
      (is ∙ ap (λ (l : List Pair). Some l) (parted r.local)) agree.local_none
      (later_local r.access.local_puts _ (more_of r.local)
      (more_of r.second) r.added agree.counted agree.local_none) noted

  pub second_says : (r : Relay S R G H) → IsTrue r.whole → G.tells → H.tells
      → (told : Option (List Pair)) → told ≡ Some (pairs_of r.second)
      → IsNotedBy r.access.second_puts (first_of r.second) told
      → says_by r.access.second_puts (firsts r.access.local_puts (first_of r.local)
      (first_of r.second)) (first_of r.second) told
      ≡ Some (state_of r).pairs
  second_says r whole t u told is noted =
      let agree = r.agrees whole t u in
      noted_all r.access.second_puts _ (first_of r.second) (more_of r.second)
      (state_of r).pairs told
      (is ∙ ap (λ (l : List Pair). Some l) (parted r.second)) agree.second_none
      (later_second r.access.local_puts r.access.second_puts _ (more_of r.local)
      (more_of r.second) r.added agree.counted agree.same) noted

  pub rests : OnlyNow G → OnlyNow H → (r : Relay S R G H) (image : Image G.tells H.tells)
      → G.tells × H.tells → IsTrue (state_of r).whole → left_of r (moment_of r) image
      → says (base_of r) image ≡ Some (state_of r).pairs
  rests only also r (Local t u c) told whole left =
      let parts = and_parts _ _ whole in
      let both = and_parts _ _ parts.1 in
      local_says r parts.0 t u (told_as (state_in r.local.store).base c)
      (rest_in only r.local.store t both.0 c left.0) left.1
  rests only also r (Second t u c) told whole left =
      let parts = and_parts _ _ whole in
      let both = and_parts _ _ parts.1 in
      second_says r parts.0 t u (told_as (state_in r.second.store).base c)
      (rest_in also r.second.store u both.1 c left.0) left.1

  -- as a cache: a crash leaves all its pairs
  pub all_rest : OnlyNow G → OnlyNow H → (r : Relay S R G H) (image : Image G.tells H.tells)
      → G.tells × H.tells → IsTrue (state_of r).whole → left_of r (moment_of r) image
      → IsPartSince (state_of r).lasting (state_of r).pairs (says (base_of r) image)
  all_rest only also r image told whole left =
      all_part (state_of r).pairs (says (base_of r) image) (rests only also r image told whole left)

-- no more of them last, and no more room is sure, than there is
pub no_more : (n : ℕ) → n ≤ n
no_more n = omega arith
