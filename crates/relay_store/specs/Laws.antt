-- What the images of a relay say of each of its devices, and what a pair needs.
use Rattle.std.proofs.Common.{◌≡◌, ◌⊎◌, inl, inr, ⊎_elim, ℕ, ◌≤◌, Bool, true, false, List, []}
use Rattle.std.proofs.Common.{◌++◌, length, take, Option, Some, None, refl, sym, ◌∙◌, ap}
use Rattle.std.proofs.Common.{◌∷◌, ◌<◌, cond, subst, arith, append_assoc}
use Rattle.std.specs.Prelude.{◌↔◌, ◌&&◌, if◌then◌else◌, IsTrue}
use Rattle.std.proofs.lemmas.Bool.{leb-false, lt-leb}
use Rattle.std.proofs.lemmas.List.{append-nil, append_cancel_left}
use Rattle.store_dev.specs.Device.{LeavesOnly}
use Rattle.store_dev.specs.Moments as device
use Rattle.store_dev.specs.declared.device.StoreDevice.{Ghosts}
use Rattle.cache_api.specs.declared.puts.Put.{Put}
use Rattle.cache_api.specs.declared.puts.Put.TheVariants.{Stored, Full}
use Rattle.cache_api.specs.Moments.{Leaves, leaves_more}
use Rattle.cache_api.specs.Pairs.{Pair, IsFirstPart}
use Rattle.pair_frames.specs.Laws.{AreTexts}
use Rattle.pair_frames.proofs.Sizes.{size_ample}
use Rattle.pair_frames.specs.Puts.{put_size}
use Rattle.artifact_store.specs.Pairs.{told_as}
use Rattle.relay_store.specs.declared.relay.Relay.{Relay}
use Rattle.relay_store.specs.Fronts.{in_place_was, is_first}
use Rattle.relay_store.specs.Stores.{state_in, moment_in, images_in}
use Rattle.relay_store.specs.Parts.{first_of, more_of, pairs_of, space_of, into}
use Rattle.relay_store.specs.Puts.{Space, need, takes, puts_in}
use Rattle.relay_store.specs.Relays.{RelayBase, first_pairs, says_by, says, IsNotedBy}
use Rattle.relay_store.specs.Relays.{stores, stores_of, IsNoted, base_of, state_of, moment_of}
use Rattle.relay_store.specs.Relays.{left_of}
use Rattle.relay_store.specs.Relays.Image.{Local, Second}
use Rattle.relay_store.specs.Rests.{parted, later_local, later_second}

-- ---- what a pair needs

-- texts need the size of their frames
pub need_is : (space : Space) (pair : Pair) → AreTexts pair
    → need space pair ≡ put_size space.frames pair
need_is space pair texts = omega (arith, size_ample space.frames pair texts)

-- where a pair is put, its frames pass the room
abbrev pub Passes : Bool → Space → Pair → Type 0
Passes puts space pair = (puts ≡ true) × (space.room < put_size space.frames pair)

-- the answer, by whether it fits in the one and in the other
abbrev answer : Bool → List Put
answer fits = if fits then Stored ∷ [] else Full ∷ []

fits_not : (space : Space) (pair : Pair) → need space pair ≡ put_size space.frames pair
    → takes pair space ≡ false → space.room < put_size space.frames pair
fits_not space pair size is =
    omega (arith, leb-false (need space pair) space.room is, size)

not_fits : (space : Space) (pair : Pair) → need space pair ≡ put_size space.frames pair
    → space.room < put_size space.frames pair → takes pair space ≡ false
not_fits space pair size lt = lt-leb (need space pair) space.room (omega (arith, lt, size))

full_not : (x y : Bool) → answer (x && (y && true)) ≡ Full ∷ [] → (x ≡ false) ⊎ (y ≡ false)
full_not true true e = absurd (cc)
full_not true false e = inr refl
full_not false y e = inl refl

full_alone : (x : Bool) → answer (x && true) ≡ Full ∷ [] → x ≡ false
full_alone true e = absurd (cc)
full_alone false e = refl

second_false : (x y : Bool) → y ≡ false → answer (x && (y && true)) ≡ Full ∷ []
second_false true y e = ap (λ b. answer (b && true)) e
second_false false y e = refl

full_by : (p q : Bool) (a b : Space) (pair : Pair) → need a pair ≡ put_size a.frames pair
    → need b pair ≡ put_size b.frames pair
    → puts_in ((cond p (a ∷ []) []) ++ (cond q (b ∷ []) [])) (pair ∷ []) ≡ Full ∷ []
    → Passes p a pair ⊎ Passes q b pair
full_by true true a b pair x y e = ⊎_elim (λ l. inl (refl, fits_not a pair x l))
    (λ s. inr (refl, fits_not b pair y s)) (full_not (takes pair a) (takes pair b) e)
full_by true false a b pair x y e = inl (refl, fits_not a pair x (full_alone (takes pair a) e))
full_by false true a b pair x y e = inr (refl, fits_not b pair y (full_alone (takes pair b) e))
full_by false false a b pair x y e = absurd (cc)

by_full : (p q : Bool) (a b : Space) (pair : Pair) → need a pair ≡ put_size a.frames pair
    → need b pair ≡ put_size b.frames pair → Passes p a pair ⊎ Passes q b pair
    → puts_in ((cond p (a ∷ []) []) ++ (cond q (b ∷ []) [])) (pair ∷ []) ≡ Full ∷ []
by_full true true a b pair x y (inl l) =
    ap (λ c. answer (c && (takes pair b && true))) (not_fits a pair x l.1)
by_full true true a b pair x y (inr s) =
    second_false (takes pair a) (takes pair b) (not_fits b pair y s.1)
by_full true false a b pair x y (inl l) = ap (λ c. answer (c && true)) (not_fits a pair x l.1)
by_full true false a b pair x y (inr s) = absurd (cc s.0)
by_full false true a b pair x y (inl l) = absurd (cc l.0)
by_full false true a b pair x y (inr s) = ap (λ c. answer (c && true)) (not_fits b pair y s.1)
by_full false false a b pair x y (inl l) = absurd (cc l.0)
by_full false false a b pair x y (inr s) = absurd (cc s.0)

-- For texts there is no room exactly where the frames of the pair pass that of a store that is
-- put into.
pub full_is : {S R : Type 0} {G : Ghosts S} {H : Ghosts R} (r : Relay S R G H) (pair : Pair)
    → AreTexts pair → stores r (pair ∷ []) ≡ Full ∷ []
    ↔ (Passes r.access.local_puts (space_of r.local) pair
    ⊎ Passes r.access.second_puts (space_of r.second) pair)
full_is r pair texts =
    let local = need_is (space_of r.local) pair texts in
    let second = need_is (space_of r.second) pair texts in (
      full_by r.access.local_puts r.access.second_puts (space_of r.local) (space_of r.second) pair
          local second,
      by_full r.access.local_puts r.access.second_puts (space_of r.local) (space_of r.second) pair
          local second,
    )

-- ---- each device

-- What an image of one of the devices stands for: the first pairs of its store, with others
-- behind them where the relay puts into it. These have P behind the first pairs of the relay.
pub record GoesOn (puts : Bool) (all first : List Pair) (P : List Pair → Type 0)
    (told : Option (List Pair)) : Type 0 where
  pub more : List Pair
  pub stands : told ≡ Some (first ++ more)
  pub relay : puts ≡ true → P (all ++ more)
  pub none : puts ≡ false → more ≡ []

-- what an image says is a list of pairs that has P
abbrev pub Says : (List Pair → Type 0) → Option (List Pair) → Type 0
Says P told = (pairs : List Pair) × (told ≡ Some pairs) × P pairs

goes_on : (puts : Bool) (all first : List Pair) (P : List Pair → Type 0)
    (told : Option (List Pair))
    → puts ≡ true → Says P (says_by puts all first told) → GoesOn puts all first P told
goes_on true all first P told puts (pairs, is, has) =
    let (more, stood, at) = in_place_was all first told pairs is in
    record {
      more = more;
      stands = stood;
      relay = λ same. subst P at has;
      none = λ other. absurd (cc);
    }
goes_on false all first P told puts said = absurd (cc)

-- nothing is said where it does not put
says_none : (puts : Bool) (all first : List Pair) (P : List Pair → Type 0)
    (told : Option (List Pair)) → puts ≡ false → Says P (says_by puts all first told) → ⊥
says_none true all first P told other said = absurd (cc)
says_none false all first P told other
    (pairs, is, has) = let none : None ≡ Some pairs = is in absurd (cc)

-- an image of which the relay's images are known, where they are noted
pub known_by : (puts : Bool) (all first : List Pair) (P : List Pair → Type 0)
    (told : Option (List Pair)) (was : Type 0)
    → (IsNotedBy puts first told → was ⊎ Says P (says_by puts all first told))
    → was ⊎ GoesOn puts all first P told
known_by true all first P told was known =
    ⊎_elim (λ old. inl old) (λ said. inr (goes_on true all first P told refl said))
    (known (λ other. absurd (cc)))
known_by false all first P told was known = ⊎_elim
    (λ same. inr (record {
      more = [];
      stands = same ∙ ap (λ (l : List Pair). Some l) (sym (append-nil first));
      relay = λ puts. absurd (cc);
      none = λ other. refl;
    }))
    (λ apart. ⊎_elim (λ old. inl old)
    (λ said. absurd (says_none false all first P told refl said)) (known (λ other. apart)))
    (is_first first told)

module _ {S R : Type 0} {G : Ghosts S} {H : Ghosts R} (old new : Relay S R G H)
    (P : List Pair → Type 0) (t : G.tells) (u : H.tells) (same : base_of new ≡ base_of old)
    (leaves : Leaves moment_of left_of old new (λ image. Says P (says (base_of old) image))) where
  -- Of the local device: whatever a crash may have left at any moment stands for the first pairs
  -- of the local store and what the relay put behind them.
  pub local_device : LeavesOnly moment_in images_in old.local.store new.local.store
      (λ c. GoesOn old.access.local_puts (first_pairs (base_of old) t u) (first_of old.local) P
      (told_as (base_of old).local.generation c))
  local_device = record {
    later = leaves.later.first;
    each = λ c since. ⊎_elim (λ never. absurd never) (λ goes. goes)
        (known_by old.access.local_puts _ (first_of old.local) P (told_as
        (base_of old).local.generation c) ⊥
        (λ noted. inr (leaves.each (Local t u c) (
          since,
          subst (λ (b : RelayBase G.tells H.tells). IsNoted b (Local t u c))
              (sym same) noted,
        ))));
    before = λ m c le since.
        known_by old.access.local_puts _ (first_of old.local) P (told_as
        (base_of old).local.generation c) _
        (λ noted. ⊎_elim (λ was. inl was.0) (λ said. inr said)
        (leaves.before (record { first = m; second = moment_in old.second.store }) (Local t u c)
        (record { first = le; second = omega arith }) (
          since,
          subst (λ (b : RelayBase G.tells H.tells). IsNoted b (Local t u c))
              (sym same) noted,
        )));
  }

  -- and of the second one
  pub second_device : LeavesOnly moment_in images_in old.second.store new.second.store
      (λ c. GoesOn old.access.second_puts (first_pairs (base_of old) t u) (first_of old.second) P
      (told_as (base_of old).second.generation c))
  second_device = record {
    later = leaves.later.second;
    each = λ c since. ⊎_elim (λ never. absurd never) (λ goes. goes)
        (known_by old.access.second_puts _ (first_of old.second) P (told_as
        (base_of old).second.generation c) ⊥
        (λ noted. inr (leaves.each (Second t u c) (
          since,
          subst (λ (b : RelayBase G.tells H.tells). IsNoted b (Second t u c))
              (sym same) noted,
        ))));
    before = λ m c le since.
        known_by old.access.second_puts _ (first_of old.second) P (told_as
        (base_of old).second.generation c) _
        (λ noted. ⊎_elim (λ was. inl was.0) (λ said. inr said)
        (leaves.before (record { first = moment_in old.local.store; second = m }) (Second t u c)
        (record { first = omega arith; second = le }) (
          since,
          subst (λ (b : RelayBase G.tells H.tells). IsNoted b (Second t u c))
              (sym same) noted,
        )));
  }

-- ---- what the relay put

-- an image has the pairs that the store had, and the first of those that were put into it
goes_first : (puts : Bool) (all first more pairs added : List Pair) (told : Option (List Pair))
    → (puts ≡ false → more ≡ []) → (puts ≡ true → all ++ more ≡ pairs)
    → GoesOn puts all first
    (λ now. (n : ℕ) × (n ≤ length added) × (now ≡ pairs ++ take n added)) told
    → IsFirstPart (first ++ more) (into puts added) told
goes_first true all first more pairs added told none ends goes =
    let (n, le, is) = goes.relay refl in
    let same : goes.more ≡ more ++ take n added =
    append_cancel_left all goes.more (more ++ take n added)
    (is ∙ ap (λ (l : List Pair). l ++ take n added) (sym (ends refl))
    ∙ append_assoc all more (take n added)) in (
      n,
      le,
      goes.stands ∙ ap (λ (l : List Pair). Some (first ++ l)) same
          ∙ ap (λ (l : List Pair). Some l) (sym (append_assoc first more (take n added))),
    )
goes_first false all first more pairs added told none ends goes =
    let empty : goes.more ≡ more ++ [] = goes.none refl ∙ sym (none refl)
    ∙ sym (append-nil more) in (
      0,
      omega arith,
      goes.stands ∙ ap (λ (l : List Pair). Some (first ++ l)) empty
          ∙ ap (λ (l : List Pair). Some l) (sym (append_assoc first more [])),
    )

module _ {S R : Type 0} {G : Ghosts S} {H : Ghosts R} (old new : Relay S R G H)
    (whole : IsTrue old.whole) (t : G.tells) (u : H.tells) (same : base_of new ≡ base_of old)
    (added : List Pair)
    (leaves : Leaves moment_of left_of old new
    (λ image. IsFirstPart (state_of old).pairs added (says (base_of old) image))) where
  said : Leaves moment_of left_of old new
      (λ image. Says (λ now. (n : ℕ) × (n ≤ length added) × (now ≡ (state_of old).pairs
      ++ take n added)) (says (base_of old) image))
  said = leaves_more moment_of left_of old new _ _ leaves
      (λ image first. let (n, le, is) = first in (
        (state_of old).pairs
            ++ take n added,
        is,
        (n, le, refl),
      ))

  -- Of the local device: whatever a crash may have left at any moment is a store with the pairs
  -- that the local one had, and the first of those that were put into it.
  pub local_images : LeavesOnly moment_in images_in old.local.store new.local.store
      (λ c. IsFirstPart (pairs_of old.local) (into old.access.local_puts added)
      (told_as (base_of old).local.generation c))
  local_images =
      let agree = old.agrees whole t u in
      device.leaves_more moment_in images_in old.local.store new.local.store _ _
      (local_device old new _ t u same said)
      (λ c goes. subst (λ (l : List Pair). IsFirstPart l (into old.access.local_puts added)
      (told_as (base_of old).local.generation c))
      (sym (parted old.local))
      (goes_first old.access.local_puts _ (first_of old.local) (more_of old.local)
      (state_of old).pairs added _ agree.local_none
      (later_local old.access.local_puts _ (more_of old.local)
      (more_of old.second) old.added agree.counted agree.local_none) goes))

  -- and of the second one
  pub second_images : LeavesOnly moment_in images_in old.second.store new.second.store
      (λ c. IsFirstPart (pairs_of old.second) (into old.access.second_puts added)
      (told_as (base_of old).second.generation c))
  second_images =
      let agree = old.agrees whole t u in
      device.leaves_more moment_in images_in old.second.store new.second.store _ _
      (second_device old new _ t u same said)
      (λ c goes. subst (λ (l : List Pair). IsFirstPart l (into old.access.second_puts added)
      (told_as (base_of old).second.generation c))
      (sym (parted old.second))
      (goes_first old.access.second_puts _ (first_of old.second) (more_of old.second)
      (state_of old).pairs added _ agree.second_none
      (later_second old.access.local_puts old.access.second_puts _ (more_of old.local)
      (more_of old.second) old.added agree.counted agree.same) goes))

-- ---- the stores of a relay that may be used

module _ {S R : Type 0} {G : Ghosts S} {H : Ghosts R} (r : Relay S R G H) (whole : IsTrue r.whole)
    (t : G.tells) (u : H.tells) where
  pub local_goes : GoesOn r.access.local_puts (first_pairs (base_of r) t u) (first_of r.local)
      (λ pairs. pairs ≡ (state_of r).pairs) (Some (pairs_of r.local))
  local_goes =
      let agree = r.agrees whole t u in
      record {
        more = more_of r.local;
        stands = ap (λ (l : List Pair). Some l) (parted r.local);
        relay = later_local r.access.local_puts _ (more_of r.local)
            (more_of r.second) r.added agree.counted agree.local_none;
        none = agree.local_none;
      }

  pub second_goes : GoesOn r.access.second_puts (first_pairs (base_of r) t u) (first_of r.second)
      (λ pairs. pairs ≡ (state_of r).pairs) (Some (pairs_of r.second))
  second_goes =
      let agree = r.agrees whole t u in
      record {
        more = more_of r.second;
        stands = ap (λ (l : List Pair). Some l) (parted r.second);
        relay = later_second r.access.local_puts r.access.second_puts _ (more_of r.local)
            (more_of r.second) r.added agree.counted agree.same;
        none = agree.second_none;
      }

-- ---- the laws, said of all relays

-- between two moments of a relay that may be used at first and keeps its base, a crash leaves its
-- pairs and the first of these
abbrev pub Adds : {S R : Type 0} {G : Ghosts S} {H : Ghosts R} → Relay S R G H → Relay S R G H
    → List Pair → Type 0
Adds old new added = Leaves moment_of left_of old new
    (λ image. IsFirstPart (state_of old).pairs added (says (state_of old).base image))

-- then a crash leaves of the local device the pairs of its store, and the first of these where it
-- is put into
abbrev pub LocalAdds : {S R : Type 0} (G : Ghosts S) (H : Ghosts R) → Type 0
LocalAdds {S = S} {R = R} G H = (old new : Relay S R G H) (added : List Pair)
    → IsTrue (state_of old).whole → G.tells → H.tells
    → (state_of new).base ≡ (state_of old).base → Adds old new added
    → LeavesOnly moment_in images_in (stores_of old).0 (stores_of new).0
    (λ c. IsFirstPart (state_in (stores_of old).0).pairs
    (into (state_of old).base.access.local_puts added)
    (told_as (state_of old).base.local.generation c))

-- and the same of the second one
abbrev pub SecondAdds : {S R : Type 0} (G : Ghosts S) (H : Ghosts R) → Type 0
SecondAdds {S = S} {R = R} G H = (old new : Relay S R G H) (added : List Pair)
    → IsTrue (state_of old).whole → G.tells → H.tells
    → (state_of new).base ≡ (state_of old).base → Adds old new added
    → LeavesOnly moment_in images_in (stores_of old).1 (stores_of new).1
    (λ c. IsFirstPart (state_in (stores_of old).1).pairs
    (into (state_of old).base.access.second_puts added)
    (told_as (state_of old).base.second.generation c))

-- a crash leaves lists of pairs that pass a test
abbrev pub Keeps : {S R : Type 0} {G : Ghosts S} {H : Ghosts R} → Relay S R G H → Relay S R G H
    → (List Pair → Bool) → Type 0
Keeps old new test = Leaves moment_of left_of old new
    (λ image. Says (λ pairs. IsTrue (test pairs)) (says (state_of old).base image))

-- then what it leaves of the local device goes on behind the first pairs of its store so that it
-- passes the test behind those of the relay
abbrev pub LocalKeeps : {S R : Type 0} (G : Ghosts S) (H : Ghosts R) → Type 0
LocalKeeps {S = S} {R = R} G H = (old new : Relay S R G H) (test : List Pair → Bool)
    → (t : G.tells) (u : H.tells) → (state_of new).base ≡ (state_of old).base → Keeps old new test
    → LeavesOnly moment_in images_in (stores_of old).0 (stores_of new).0
    (λ c. GoesOn (state_of old).base.access.local_puts (first_pairs (state_of old).base t u)
    ((state_of old).base.local.first t) (λ pairs. IsTrue (test pairs))
    (told_as (state_of old).base.local.generation c))

abbrev pub SecondKeeps : {S R : Type 0} (G : Ghosts S) (H : Ghosts R) → Type 0
SecondKeeps {S = S} {R = R} G H = (old new : Relay S R G H) (test : List Pair → Bool)
    → (t : G.tells) (u : H.tells) → (state_of new).base ≡ (state_of old).base → Keeps old new test
    → LeavesOnly moment_in images_in (stores_of old).1 (stores_of new).1
    (λ c. GoesOn (state_of old).base.access.second_puts (first_pairs (state_of old).base t u)
    ((state_of old).base.second.first u) (λ pairs. IsTrue (test pairs))
    (told_as (state_of old).base.second.generation c))

-- of texts there is no room for a pair exactly where its frames pass that of a store that is put
-- into
abbrev pub FullLaw : {S R : Type 0} (G : Ghosts S) (H : Ghosts R) → Type 0
FullLaw {S = S} {R = R} G H = (r : Relay S R G H) (pair : Pair) → AreTexts pair
    → stores r (pair ∷ []) ≡ Full ∷ []
    ↔ (Passes r.access.local_puts (space_of r.local) pair
    ⊎ Passes r.access.second_puts (space_of r.second) pair)
