-- A value without floats has no pointer to one.
use Rattle.std.proofs.Common.{◌≡◌, ℕ, ◌+◌, Bool, true, false, cond, ◌||◌, List, [], ◌∷◌, ◌++◌, refl}
use Rattle.serde_json.specs.Data.{Data, null, boolean, number, string, array, object, Items, no_items, item, Members, no_members, member}
use Rattle.serde_json.specs.Find.{is_float}
use Rattle.serde_json.specs.Written.{has_float, items_have_float, members_have_float}
use Rattle.lock_entries.specs.Floats.{floats, item_floats, member_floats}

neither : (a b : Bool) → (a || b) ≡ false → (a ≡ false) × (b ≡ false)
neither true b e = cc
neither false b e = (refl, e)

mutual
  pub no_floats : (at : List ℕ) (d : Data) → has_float d ≡ false → floats at d ≡ []
  no_floats at null e = refl
  no_floats at (boolean b) e = refl
  no_floats at (number n) e = rw e refl
  no_floats at (string s) e = refl
  no_floats at (array ds) e = no_item_floats at 0 ds e
  no_floats at (object ms) e = no_member_floats at ms e

  pub no_item_floats : (at : List ℕ) (n : ℕ) (ds : Items) → items_have_float ds ≡ false → item_floats at n ds ≡ []
  no_item_floats at n no_items e = refl
  no_item_floats at n (item d ds) e = let both = neither (has_float d) (items_have_float ds) e in rw (no_floats _ d both.0) (no_item_floats at (n + 1) ds both.1)

  pub no_member_floats : (at : List ℕ) (ms : Members) → members_have_float ms ≡ false → member_floats at ms ≡ []
  no_member_floats at no_members e = refl
  no_member_floats at (member name d ms) e = let both = neither (has_float d) (members_have_float ms) e in rw (no_floats _ d both.0) (no_member_floats at ms both.1)

-- and the other way round
either_nil : {A : Type 0} (xs ys : List A) → xs ++ ys ≡ [] → (xs ≡ []) × (ys ≡ [])
either_nil [] ys e = (refl, e)
either_nil (x ∷ xs) ys e = cc

no_float_number : (test : Bool) (at : List ℕ) → cond test (at ∷ []) [] ≡ [] → test ≡ false
no_float_number true at e = cc
no_float_number false at e = refl

mutual
  pub without_floats : (at : List ℕ) (d : Data) → floats at d ≡ [] → has_float d ≡ false
  without_floats at null e = refl
  without_floats at (boolean b) e = refl
  without_floats at (number n) e = no_float_number (is_float n) at e
  without_floats at (string s) e = refl
  without_floats at (array ds) e = without_item_floats at 0 ds e
  without_floats at (object ms) e = without_member_floats at ms e

  without_item_floats : (at : List ℕ) (n : ℕ) (ds : Items) → item_floats at n ds ≡ [] → items_have_float ds ≡ false
  without_item_floats at n no_items e = refl
  without_item_floats at n (item d ds) e = let both = either_nil (floats _ d) (item_floats at (n + 1) ds) e in rw (without_floats _ d both.0) (without_item_floats at (n + 1) ds both.1)

  without_member_floats : (at : List ℕ) (ms : Members) → member_floats at ms ≡ [] → members_have_float ms ≡ false
  without_member_floats at no_members e = refl
  without_member_floats at (member name d ms) e = let both = either_nil (floats _ d) (member_floats at ms) e in rw (without_floats _ d both.0) (without_member_floats at ms both.1)
