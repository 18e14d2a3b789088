-- What an accepted value has.
use Rattle.std.proofs.Common.{◌≡◌, ◌⊎◌, inl, inr, ℕ, Bool, true, false, List, [], ◌∷◌, Option, Some, None, is_some, IsSome, option_map, option_and_then, codes, Result, Ok, Err, refl, sym, ap, ◌∙◌, Ordering, Less, Equal, Greater, nat_cmp, cond, subst}
use Rattle.std.specs.Ordering.{match_ordering, is_gt}
use Rattle.rel_path.specs.Paths.{name_cmp}
use Rattle.std.specs.Cmp.Lexicographic.{slice_cmp}
use Rattle.std.proofs.lemmas.Cmp.{nat_list_cmp_total, tied_itself}
use Rattle.serde_json.specs.Data.{Data, null, boolean, number, string, array, object, Members, no_members, member}
use Rattle.serde_json.specs.Find.{get, get_member, as_object}
use Rattle.serde_json.specs.Written.{has_float}
use Rattle.json_view.specs.declared.error.JsonErr.{JsonErr}
use Rattle.lock_entries.specs.declared.entry.Entry.{Entry}
use Rattle.lock_entries.specs.declared.error.LockErr.{LockErr}
use Rattle.lock_entries.specs.declared.error.LockErr.TheVariants.{Number}
use Rattle.lock_entries.specs.Entries.{entry_of, entries_of, with_entry}
use Rattle.std.specs.Option.{option_or}
use Rattle.lock_entries.specs.Floats.{floats, least_float}
use Rattle.lock_entries.specs.Least.{least_by, lesser_by}
use Rattle.lock_entries.specs.Lockfile.{lock_refusal, top_refusal, version_refusal, number_refusal, packages_refusal, packages_if, packages_of, packages_in, or_no_members, entries_in}
use Rattle.lock_entries.proofs.NoFloats.{without_floats}
use Rattle.lock_entries.proofs.Ascending.{entry_of-location}
use Rattle.npm_lock.specs.Sets.{Has}

both_none : (a b : Option LockErr) → option_or a b ≡ None → (a ≡ None) × (b ≡ None)
both_none None b e = (refl, e)
both_none (Some x) b e = absurd (cc)

pub record HasNone (d : Data) : Type 0 where
  pub top : top_refusal (as_object d) ≡ None
  pub version : version_refusal d ≡ None
  pub number : number_refusal d ≡ None
  pub packages : packages_refusal d ≡ None

pub accepted : (d : Data) → lock_refusal d ≡ None → HasNone d
accepted d e =
    let first = both_none (top_refusal (as_object d)) _ e in
    let second = both_none (version_refusal d) _ first.1 in
    let third = both_none (number_refusal d) (packages_refusal d) second.1 in
    record { top = first.0; version = second.0; number = third.0; packages = third.1 }

-- no number is a float
lesser_some : (b : Bool) (x y : List ℕ) → option_map Number (cond b (Some y) (Some x)) ≡ None → ⊥
lesser_some true x y e = cc
lesser_some false x y e = cc

some_lesser : (x : List ℕ) (o : Option (List ℕ)) → option_map Number (lesser_by (λ p. p) (Some x) o) ≡ None → ⊥
some_lesser x None e = cc
some_lesser x (Some y) e = lesser_some (is_gt (name_cmp x y)) x y e

none_least : (xs : List (List ℕ)) → option_map Number (least_by (λ p. p) xs) ≡ None → xs ≡ []
none_least [] e = refl
none_least (x ∷ xs) e = absurd (some_lesser x (least_by (λ p. p) xs) e)

pub no_float : (d : Data) → lock_refusal d ≡ None → has_float d ≡ false
unfolding number_refusal least_float
no_float d e = without_floats [] d (none_least (floats [] d) (accepted d e).number)

-- `packages` is an object
some_packages : (o : Option Members) → packages_if o ≡ None → (ms : Members) × (o ≡ Some ms)
some_packages None e = absurd (cc)
some_packages (Some ms) e = (ms, refl)

pub packages_there : (d : Data) → lock_refusal d ≡ None → (ms : Members) × (packages_of d ≡ Some ms)
unfolding packages_refusal
packages_there d e = some_packages (packages_of d) (accepted d e).packages

pub object_of : (d : Data) (ms : Members) → as_object d ≡ Some ms → d ≡ object ms
object_of null ms e = absurd (cc)
object_of (boolean b) ms e = absurd (cc)
object_of (number n) ms e = absurd (cc)
object_of (string s) ms e = absurd (cc)
object_of (array ds) ms e = absurd (cc)
object_of (object ns) ms e = cc

-- a value that is looked into for an object has the one that is found
inner : (o : Option Data) (ms : Members) → option_and_then as_object o ≡ Some ms → o ≡ Some (object ms)
inner None ms e = absurd (cc)
inner (Some p) ms e = ap Some (object_of p ms e)

pub packages_get : (d : Data) (ms : Members) → packages_of d ≡ Some ms → get (codes "packages") d ≡ Some (object ms)
packages_get d ms e = inner (get (codes "packages") d) ms e

-- each entry stands in `packages`
there_here : (o : Ordering) (rest : Option Data) (d : Data) → (o ≡ Equal) ⊎ (is_some rest ≡ true) → is_some (match_ordering o rest (Some d) rest) ≡ true
there_here Less rest d (inl e) = absurd (cc)
there_here Less rest d (inr h) = h
there_here Equal rest d h = refl
there_here Greater rest d (inl e) = absurd (cc)
there_here Greater rest d (inr h) = h

entry_there : (ms : Members) (e : Entry) → Has (entries_of ms) e → is_some (get_member e.location ms) ≡ true
entry_there no_members e h = absurd h
entry_there (member l d ms) e h = there_here (slice_cmp nat_cmp e.location l) (get_member e.location ms) d (by (entry_of l d) refl h (entry_there ms e)) where
  by : (r : Result Entry JsonErr) → entry_of l d ≡ r → Has (with_entry r (entries_of ms)) e → (Has (entries_of ms) e → is_some (get_member e.location ms) ≡ true) → (slice_cmp nat_cmp e.location l ≡ Equal) ⊎ (is_some (get_member e.location ms) ≡ true)
  by (Ok x) is (inl same) later = inl (ap (λ k. slice_cmp nat_cmp k l) (ap (λ (y : Entry). y.location) (sym same) ∙ entry_of-location l d x is) ∙ tied_itself nat_list_cmp_total l)
  by (Ok x) is (inr among) later = inr (later among)
  by (Err z) is among later = inr (later among)

pub entries_there : (d p : Data) → lock_refusal d ≡ None → get (codes "packages") d ≡ Some p → (e : Entry) → Has (entries_in d) e → IsSome (get e.location p)
unfolding packages_in
entries_there d p ok at e h =
    let ms = packages_there d ok in
    let same : Some p ≡ Some (object ms.0) = sym at ∙ packages_get d ms.0 ms.1 in
    let p_is : p ≡ object ms.0 = cc in
    rw p_is (entry_there ms.0 e (subst (λ o. Has (entries_of (or_no_members o)) e) ms.1 h))
