-- The names of the object at a pointer are those that a step of the pointer reaches.
use Rattle.std.proofs.Common.{◌≡◌, ◌⊎◌, inl, inr, ℕ, zero, suc, List, [], ◌∷◌, true, Option, Some, None, is_some, is_eq, IsSome, Ordering, Less, Equal, Greater, nat_cmp, refl, sym, ap, ◌∙◌, arith}
use Rattle.std.specs.List.{Contains}
use Rattle.std.specs.Ordering.{match_ordering}
use Rattle.std.specs.Cmp.Lexicographic.{slice_cmp}
use Rattle.std.proofs.lemmas.Bool.{false≢true}
use Rattle.std.proofs.lemmas.Map.Text.{is_eq-slice_cmp}
use Rattle.std.proofs.lemmas.Slice.Eq.{bytes_eq-Decides}
use Rattle.serde_json.specs.Data.{Data, null, boolean, number, string, array, object, Members, no_members, member}
use Rattle.serde_json.specs.Find.{get_member, pointer, as_object}
use Rattle.json_view.specs.Look.{Here, look, as_keys, names_of, keys_in}
use Rattle.json_view.specs.Pointer.{pointer_to, AreNamesAt}
use Rattle.json_view.proofs.Pointers.{reaches_member}

contains_none : (y : List ℕ) → Contains [] y → ⊥
contains_none y (k, less, at) = omega arith

contains_cases : (x y : List ℕ) (xs : List (List ℕ)) → Contains (x ∷ xs) y → (x ≡ y) ⊎ Contains xs y
contains_cases x y xs (zero, less, at) = inl at
contains_cases x y xs (suc k, less, at) = inr (k, omega arith, at)

-- a name and the first member's
tied : (name other : List ℕ) → slice_cmp nat_cmp name other ≡ Equal → other ≡ name
tied name other e = sym ((bytes_eq-Decides name other).0 (sym (is_eq-slice_cmp name other) ∙ ap is_eq e))

same_tied : (name other : List ℕ) → other ≡ name → is_eq (slice_cmp nat_cmp name other) ≡ true
same_tied name other same = is_eq-slice_cmp name other ∙ (bytes_eq-Decides name other).1 (sym same)

module _ (name other : List ℕ) (d : Data) (rest : Option Data) (names : List (List ℕ)) where
  member_found : (o : Ordering) → slice_cmp nat_cmp name other ≡ o → (IsSome rest → Contains names name) → IsSome (match_ordering o rest (Some d) rest) → Contains (other ∷ names) name
  member_found Less is later found = let l = later found in (suc l.0, omega (arith, l.1), l.2)
  member_found Equal is later found = (0, omega arith, tied name other is)
  member_found Greater is later found = let l = later found in (suc l.0, omega (arith, l.1), l.2)

  found_member : (o : Ordering) → (is_eq o ≡ true) ⊎ (IsSome rest) → IsSome (match_ordering o rest (Some d) rest)
  found_member Less (inl same) = absurd (false≢true same)
  found_member Less (inr some) = some
  found_member Equal either = refl
  found_member Greater (inl same) = absurd (false≢true same)
  found_member Greater (inr some) = some

named_is_there : (name : List ℕ) (ms : Members) → Contains (names_of ms) name → IsSome (get_member name ms)
named_is_there name no_members among = absurd (contains_none name among)
named_is_there name (member other d ms) among = found_member name other d (get_member name ms) (names_of ms) (slice_cmp nat_cmp name other) (by (contains_cases other name (names_of ms) among) (named_is_there name ms)) where
  by : (other ≡ name) ⊎ Contains (names_of ms) name → (Contains (names_of ms) name → IsSome (get_member name ms)) → (is_eq (slice_cmp nat_cmp name other) ≡ true) ⊎ IsSome (get_member name ms)
  by (inl same) rest = inl (same_tied name other same)
  by (inr later) rest = inr (rest later)

there_is_named : (name : List ℕ) (ms : Members) → IsSome (get_member name ms) → Contains (names_of ms) name
there_is_named name no_members found = absurd (false≢true found)
there_is_named name (member other d ms) found = member_found name other d (get_member name ms) (names_of ms) (slice_cmp nat_cmp name other) refl (there_is_named name ms) found

-- ---- what keys at a pointer say

object_of : (d : Data) (ms : Members) → as_object d ≡ Some ms → d ≡ object ms
object_of null ms e = absurd (cc)
object_of (boolean b) ms e = absurd (cc)
object_of (number n) ms e = absurd (cc)
object_of (string s) ms e = absurd (cc)
object_of (array ds) ms e = absurd (cc)
object_of (object ns) ms e = cc

-- the names of the object that a pointer points to
pub names_at : (at : List ℕ) (d : Data) (ms : Members) → pointer at d ≡ Some (object ms) → AreNamesAt d at (names_of ms)
names_at at d ms there name =
    let reached : pointer (pointer_to at name) d ≡ get_member name ms = (reaches_member at name).member d ms there in
    (λ among. ap is_some reached ∙ named_is_there name ms among, λ found. there_is_named name ms (sym (ap is_some reached) ∙ found))

-- keys stand at a pointer exactly where an object does, and are its names
pub object_at : (at : List ℕ) (d : Data) (keys : List (List ℕ)) → keys_in at d ≡ Here keys → (ms : Members) × (pointer at d ≡ Some (object ms)) × (names_of ms ≡ keys)
unfolding keys_in
object_at at d keys here = by (pointer at d) refl here where
  by_kind : (e : Data) → pointer at d ≡ Some e → look as_keys (Some e) ≡ Here keys → (ms : Members) × (pointer at d ≡ Some (object ms)) × (names_of ms ≡ keys)
  by_kind null there is = absurd (cc)
  by_kind (boolean b) there is = absurd (cc)
  by_kind (number n) there is = absurd (cc)
  by_kind (string s) there is = absurd (cc)
  by_kind (array ds) there is = absurd (cc)
  by_kind (object ms) there is = (ms, there, cc)

  by : (o : Option Data) → pointer at d ≡ o → look as_keys o ≡ Here keys → (ms : Members) × (pointer at d ≡ Some (object ms)) × (names_of ms ≡ keys)
  by None there is = absurd (cc)
  by (Some e) there is = by_kind e there is

pub names_from_keys : (at : List ℕ) (d : Data) (keys : List (List ℕ)) → keys_in at d ≡ Here keys → AreNamesAt d at keys
names_from_keys at d keys here = let o = object_at at d keys here in rw (← o.2) (names_at at d o.0 o.1)
