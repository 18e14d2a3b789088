-- The current one of any two images, of a store and of a spare one.
use Rattle.std.proofs.Common.{◌≡◌, ◌≤◌, ◌<◌, ◌∙◌, inl, inr, ℕ, Bool, true, false, cond, List, ◌++◌, Option, Some}
use Rattle.std.proofs.Common.{refl, sym, ap, subst, arith}
use Rattle.std.specs.Prelude.{◌⊎◌}
use Rattle.std.proofs.lemmas.Bool.{cases_lt, le-ltb, lt-ltb}
use Rattle.store_dev.specs.Device.{LeavesOnly}
use Rattle.store_dev.specs.declared.device.StoreDevice.{Ghosts}
use Rattle.cache_api.specs.Pairs.{Pair}
use Rattle.record_log.specs.Frames.{reading, ReadsAsOneOf}
use Rattle.artifact_store.specs.Laws.{told_stands}
use Rattle.artifact_store.specs.Pairs.{stands_for, told_as}
use Rattle.cli_words.specs.declared.order.Access.{Access}
use Rattle.compact.specs.declared.side.Side.{Side}
use Rattle.compact.specs.declared.side.Side.TheVariants.{First, Spare}
use Rattle.compact.specs.Current.{generation_in, current_of, on_side, pairs_of}
use Rattle.compact.specs.Left.{IsReread}
use Rattle.compact.proofs.Telling.{store_tells}
use Rattle.run_laws.specs.Effects.{Book}
use Rattle.run_plan.specs.declared.plan.Plan.{Plan}
use Rattle.run_plan.specs.Openings.{Opening}
use Rattle.spawn_dev.specs.declared.command.Step.{Step}
use Rattle.store_answers.specs.Facts.{stands_same, generation_same, current_same}
use Rattle.second_runs.specs.Images.{IsLeftBehind, IsLeftOfLocal, IsOneOfBoth, LeavesPairs, adds}
use Rattle.second_runs.specs.Moments.{Moment}

-- what the run left is told
left_tells : (adds : Bool) (plan : Plan) (o : Opening) (steps : List Step) (first : List Pair)
    (told : Option (List Pair)) → IsLeftBehind adds plan o steps first told
    → (pairs : List Pair) × (told ≡ Some pairs)
left_tells false plan o steps first told left = (first, left)
left_tells true plan o steps first told (more, is, safe) = (first ++ more, is)

pub local_tells : (is_dry : Bool) (access : Access) (book : Book) (plan : Plan) (old : Moment)
    (steps : List Step) (told : Option (List Pair))
    → IsLeftOfLocal is_dry access book plan old steps told
    → (pairs : List Pair) × (told ≡ Some pairs)
local_tells is_dry access book plan old steps told (both, left) =
    left_tells (adds is_dry access.local_puts) plan _ steps both.local told left

-- ---- two images

-- of which the one with the greater generation is current
on_first : (f s : List ℕ) → generation_in s ≤ generation_in f → pairs_of f s ≡ stands_for f
on_first f s le =
    ap (λ (t : Bool). stands_for (on_side (cond t Spare First) f s))
    (le-ltb (generation_in f) (generation_in s) le)

on_spare : (f s : List ℕ) → generation_in f < generation_in s → pairs_of f s ≡ stands_for s
on_spare f s lt =
    ap (λ (t : Bool). stands_for (on_side (cond t Spare First) f s))
    (lt-ltb (generation_in f) (generation_in s) lt)

-- which are read as images that there were
pub both_read : (stores spares : List ℕ → Type 0) (f s : List ℕ) → ReadsAsOneOf stores f
    → ReadsAsOneOf spares s → IsOneOfBoth stores spares f s
both_read stores spares f s (d, now, p) (e, also, q) = (
  d,
  e,
  now,
  also,
  ap (λ (side : Side). stands_for (on_side side f s))
      (current_same d e f s (generation_same f d p) (generation_same s e q))
      ∙ on_same (current_of d e),
)
  where
    on_same : (side : Side) → stands_for (on_side side f s) ≡ stands_for (on_side side d e)
    on_same First = stands_same f d p
    on_same Spare = stands_same s e q

module _ (stores spares : List ℕ → Type 0) (L : Option (List Pair) → Type 0)
    (tells : (told : Option (List Pair)) → L told → (pairs : List Pair) × (told ≡ Some pairs)) where
  -- an image stands for what it tells
  standing : (generation : ℕ) (c : List ℕ) (said : Option (List Pair))
      → L (told_as generation c) → said ≡ stands_for c → L said
  standing generation c said left is =
      let (pairs, told) = tells (told_as generation c) left in
      subst L (told ∙ sym (told_stands generation c pairs told) ∙ sym is) left

  generation_told : (generation : ℕ) (c : List ℕ) → L (told_as generation c)
      → generation_in c ≡ generation
  generation_told generation c left =
      let (pairs, told) = tells (told_as generation c) left in
      (store_tells generation pairs c told).generation

  module _ (a b : List ℕ) (now : stores a) (also : spares b) where
    -- the first one was current, and the run went over it
    late_first : (f s e : List ℕ) → L (told_as (generation_in a) f) → spares e
        → reading s ≡ reading e → IsOneOfBoth stores spares f s ⊎ L (pairs_of f s)
    late_first f s e left there q = elim (cases_lt (generation_in f) (generation_in s)) [
      | inl lt ↦ inl (
        a,
        e,
        now,
        there,
        on_spare f s lt ∙ stands_same s e q ∙ sym (on_spare a e (omega (
          arith,
          lt,
          generation_told (generation_in a) f left,
          generation_same s e q,
        ))),
      )
      | inr le ↦ inr (standing (generation_in a) f (pairs_of f s) left (on_first f s le))
    ]

    first_left : (f s : List ℕ) → ReadsAsOneOf stores f ⊎ L (told_as (generation_in a) f)
        → ReadsAsOneOf spares s → IsOneOfBoth stores spares f s ⊎ L (pairs_of f s)
    first_left f s (inl one) other = inl (both_read stores spares f s one other)
    first_left f s (inr left) (e, there, q) = late_first f s e left there q

    -- the spare one was current
    late_spare : (f s d : List ℕ) → stores d → reading f ≡ reading d
        → L (told_as (generation_in b) s) → IsOneOfBoth stores spares f s ⊎ L (pairs_of f s)
    late_spare f s d there p left = elim (cases_lt (generation_in f) (generation_in s)) [
      | inl lt ↦ inr (standing (generation_in b) s (pairs_of f s) left (on_spare f s lt))
      | inr le ↦ inl (
        d,
        b,
        there,
        also,
        on_first f s le ∙ stands_same f d p ∙ sym (on_first d b (omega (
          arith,
          le,
          generation_told (generation_in b) s left,
          generation_same f d p,
        ))),
      )
    ]

    spare_left : (f s : List ℕ) → ReadsAsOneOf stores f
        → ReadsAsOneOf spares s ⊎ L (told_as (generation_in b) s)
        → IsOneOfBoth stores spares f s ⊎ L (pairs_of f s)
    spare_left f s one (inl other) = inl (both_read stores spares f s one other)
    spare_left f s (d, there, p) (inr left) = late_spare f s d there p left

-- ---- at any moments

-- of the two devices that which is not current is only read again
pub pairs_left : {S P : Type 0} (G : Ghosts S) (H : Ghosts P) (store new : S) (spare then : P)
    (L : Option (List Pair) → Type 0)
    → ((told : Option (List Pair)) → L told → (pairs : List Pair) × (told ≡ Some pairs))
    → G.images store (G.content store) → H.images spare (H.content spare)
    → (current_of (G.content store) (H.content spare) ≡ Spare → IsReread G store new)
    → (current_of (G.content store) (H.content spare) ≡ First → IsReread H spare then)
    → LeavesOnly G.moment G.images_since store new (λ c. ReadsAsOneOf (G.images store) c
    ⊎ L (told_as (generation_in (G.content store)) c))
    → LeavesOnly H.moment H.images_since spare then (λ c. ReadsAsOneOf (H.images spare) c
    ⊎ L (told_as (generation_in (H.content spare)) c))
    → LeavesPairs G H store new spare then (λ f s.
    IsOneOfBoth (G.images store) (H.images spare) f s ⊎ L (pairs_of f s))
pairs_left {S} {P} G H store new spare then L tells now also other spare_other x y f s one two =
    by (current_of (G.content store) (H.content spare)) other spare_other
  where
    by : (side : Side) → (side ≡ Spare → IsReread G store new)
        → (side ≡ First → IsReread H spare then)
        → IsOneOfBoth (G.images store) (H.images spare) f s ⊎ L (pairs_of f s)
    by First o p =
        first_left (G.images store) (H.images spare) L tells (G.content store) (H.content spare)
        now also f s (x.each f one) ((p refl).images.each s two)
    by Spare o p =
        spare_left (G.images store) (H.images spare) L tells (G.content store) (H.content spare)
        now also f s ((o refl).images.each f one) (y.each s two)
