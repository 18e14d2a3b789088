-- A cut lockfile is a lockfile, and nests no deeper.
use Rattle.std.proofs.Common.{◌≡◌, inl, inr, ◌≤◌, ◌||◌, ℕ, max, Bool, true, false, cond, List, [], Option, Some, None, option_map, option_and_then, codes, refl, sym, ap, ◌∙◌, Ordering, Less, Equal, Greater, nat_cmp, is_eq, arith}
use Rattle.std.specs.Ordering.{match_ordering}
use Rattle.std.specs.Cmp.Lexicographic.{slice_cmp}
use Rattle.std.proofs.lemmas.Bool.{cases_Bool}
use Rattle.serde_json.specs.Data.{Data, null, boolean, number, string, array, object, Members, no_members, member, depth, members_depth}
use Rattle.serde_json.specs.Find.{get, get_member, as_object}
use Rattle.serde_json.specs.Written.{has_float, members_have_float}
use Rattle.rel_path.specs.Paths.{name_eq}
use Rattle.rel_path.proofs.PathLaws.{name_same}
use Rattle.std.proofs.lemmas.Map.Text.{is_eq-slice_cmp}
use Rattle.lock_entries.specs.declared.error.LockErr.{LockErr}
use Rattle.lock_entries.specs.declared.error.LockErr.TheVariants.{Number}
use Rattle.lock_entries.specs.Entries.{wrongs_of, least_wrong}
use Rattle.std.specs.Option.{option_or}
use Rattle.lock_entries.specs.Floats.{least_float}
use Rattle.lock_entries.specs.Least.{least_by}
use Rattle.lock_entries.specs.Lockfile.{lock_refusal, top_refusal, version_refusal, version_if, as_whole, number_refusal, packages_refusal, packages_if, packages_of, wrong_of}
use Rattle.lock_entries.proofs.NoFloats.{no_floats}
use Rattle.lock_entries.proofs.Wrongs.{split_wrongs, join_wrongs, refused_none, none_refused}
use Rattle.npm_lock.specs.Cut.{is_in, keeps, with_member, picked, cut_entry, picked_in, cut_top, cut}
use Rattle.npm_lock.proofs.Accepted.{accepted, no_float, packages_there, packages_get, object_of}

-- ---- what is found in picked members

module _ (f : List ℕ → Data → Data) where
  found_picked : (o : Ordering) (name k : List ℕ) (d : Data) (rest now : Option Data) → slice_cmp nat_cmp name k ≡ o → now ≡ option_map (f name) rest
      → match_ordering o now (Some (f k d)) now ≡ option_map (f name) (match_ordering o rest (Some d) rest)
  found_picked Less name k d rest now is e = e
  found_picked Equal name k d rest now is e = let same : name ≡ k = name_same name k (sym (is_eq-slice_cmp name k) ∙ ap is_eq is) in ap (λ n. Some (f n d)) (sym same)
  found_picked Greater name k d rest now is e = e

  get_picked : (name : List ℕ) (ms : Members) → get_member name (picked (λ k d. Some (f k d)) ms) ≡ option_map (f name) (get_member name ms)
  get_picked name no_members = refl
  get_picked name (member k d ms) = found_picked (slice_cmp nat_cmp name k) name k d (get_member name ms) _ refl (get_picked name ms)

-- ---- floats and depth

module _ (pick : List ℕ → Data → Option Data) where
  picked_whole : ((k : List ℕ) (d e : Data) → pick k d ≡ Some e → has_float d ≡ false → has_float e ≡ false) → (ms : Members) → members_have_float ms ≡ false → members_have_float (picked pick ms) ≡ false
  picked_whole keeps no_members whole = refl
  picked_whole keeps (member k d ms) whole = by (pick k d) refl (neither (has_float d) (members_have_float ms) whole) (picked_whole keeps ms) where
    neither : (a b : Bool) → (a || b) ≡ false → (a ≡ false) × (b ≡ false)
    neither true b e = absurd (cc)
    neither false b e = (refl, e)

    by : (o : Option Data) → pick k d ≡ o → (has_float d ≡ false) × (members_have_float ms ≡ false) → (members_have_float ms ≡ false → members_have_float (picked pick ms) ≡ false) → members_have_float (with_member k o (picked pick ms)) ≡ false
    by None is both more = more both.1
    by (Some e) is both more = rw (keeps k d e is both.0) (more both.1)

  picked_shallow : ((k : List ℕ) (d e : Data) → pick k d ≡ Some e → depth e ≤ depth d) → (ms : Members) → members_depth (picked pick ms) ≤ members_depth ms
  picked_shallow keeps no_members = omega arith
  picked_shallow keeps (member k d ms) = by (pick k d) refl (picked_shallow keeps ms) where
    by : (o : Option Data) → pick k d ≡ o → members_depth (picked pick ms) ≤ members_depth ms → members_depth (with_member k o (picked pick ms)) ≤ max (depth d) (members_depth ms)
    by None is more = omega (arith, more)
    by (Some e) is more = omega (arith, more, keeps k d e is)

module _ (folders locations : List ℕ → Bool) where
  entry_is : (k : List ℕ) (d e : Data) → cut_entry folders locations k d ≡ Some e → d ≡ e
  entry_is k d e is =
      elim (cases_Bool (keeps folders locations k d)) [
        | inl t ↦ let h : Some d ≡ Some e = rw t at is in cc
        | inr f ↦ let h : None ≡ Some e = rw f at is in absurd (cc)
      ]

  packages_whole : (d : Data) → has_float d ≡ false → has_float (picked_in (cut_entry folders locations) d) ≡ false
  packages_whole null e = e
  packages_whole (boolean b) e = e
  packages_whole (number n) e = e
  packages_whole (string s) e = e
  packages_whole (array ds) e = e
  packages_whole (object ms) e = picked_whole (cut_entry folders locations) (λ k d x is whole. rw (← entry_is k d x is) whole) ms e

  packages_shallow : (d : Data) → depth (picked_in (cut_entry folders locations) d) ≤ depth d
  packages_shallow null = omega arith
  packages_shallow (boolean b) = omega arith
  packages_shallow (number n) = omega arith
  packages_shallow (string s) = omega arith
  packages_shallow (array ds) = omega arith
  packages_shallow (object ms) = let h = picked_shallow (cut_entry folders locations) (λ k d x is. rw (← entry_is k d x is) (omega arith)) ms in omega (arith, h)

  abbrev top_of : List ℕ → Data → Data
  top_of name d = cond (name_eq name (codes "packages")) (picked_in (cut_entry folders locations) d) d

  top_whole : (k : List ℕ) (d e : Data) → cut_top folders locations k d ≡ Some e → has_float d ≡ false → has_float e ≡ false
  top_whole k d e is whole = by (name_eq k (codes "packages")) is where
    by : (b : Bool) → Some (cond b (picked_in (cut_entry folders locations) d) d) ≡ Some e → has_float e ≡ false
    by true h = let same : picked_in (cut_entry folders locations) d ≡ e = cc in rw (← same) (packages_whole d whole)
    by false h = let same : d ≡ e = cc in rw (← same) whole

  top_shallow : (k : List ℕ) (d e : Data) → cut_top folders locations k d ≡ Some e → depth e ≤ depth d
  top_shallow k d e is = by (name_eq k (codes "packages")) is where
    by : (b : Bool) → Some (cond b (picked_in (cut_entry folders locations) d) d) ≡ Some e → depth e ≤ depth d
    by true h = let same : picked_in (cut_entry folders locations) d ≡ e = cc in rw (← same) (packages_shallow d)
    by false h = let same : d ≡ e = cc in rw (← same) (omega arith)

  -- ---- what is wrong with entries

  wrongs_picked : (ms : Members) → wrongs_of ms ≡ [] → wrongs_of (picked (cut_entry folders locations) ms) ≡ []
  wrongs_picked no_members e = refl
  wrongs_picked (member k d ms) e = by (keeps folders locations k d) (split_wrongs k d ms e) (wrongs_picked ms) where
    by : (b : Bool) → (wrongs_of (member k d no_members) ≡ []) × (wrongs_of ms ≡ []) → (wrongs_of ms ≡ [] → wrongs_of (picked (cut_entry folders locations) ms) ≡ [])
        → wrongs_of (with_member k (cond b (Some d) None) (picked (cut_entry folders locations) ms)) ≡ []
    by true both more = join_wrongs k d (picked (cut_entry folders locations) ms) both.0 (more both.1)
    by false both more = more both.1

-- ---- the laws

top_some : (o : Option Members) → top_refusal o ≡ None → (ms : Members) × (o ≡ Some ms)
top_some None e = absurd (cc)
top_some (Some ms) e = (ms, refl)

pub accepted_object : (d : Data) → lock_refusal d ≡ None → (ms : Members) × (d ≡ object ms)
accepted_object d e = let ms = top_some (as_object d) (accepted d e).top in (ms.0, object_of d ms.0 ms.1)

four_none : (a b c x : Option LockErr) → a ≡ None → b ≡ None → c ≡ None → x ≡ None → option_or a (option_or b (option_or c x)) ≡ None
four_none a b c x p q r s = rw (p, q, r, s) refl

option_same : {A : Type 0} (o : Option A) → option_map (λ a. a) o ≡ o
option_same None = refl
option_same (Some a) = refl

module _ (folders locations : List (List ℕ)) where
  abbrev pick : List ℕ → Data → Option Data
  pick = cut_top (is_in folders) (is_in locations)

  version_cut : (ms : Members) → version_refusal (object ms) ≡ None → version_refusal (object (picked pick ms)) ≡ None
  unfolding version_refusal
  version_cut ms e =
      ap (λ o. version_if (option_and_then as_whole o)) (get_picked (top_of (is_in folders) (is_in locations)) (codes "lockfileVersion") ms ∙ option_same (get_member (codes "lockfileVersion") ms)) ∙ e

  number_cut : (ms : Members) → has_float (object ms) ≡ false → number_refusal (object (picked pick ms)) ≡ None
  unfolding number_refusal least_float
  number_cut ms e = ap (λ xs. option_map Number (least_by (λ p. p) xs)) (no_floats [] (object (picked pick ms)) (picked_whole pick (top_whole (is_in folders) (is_in locations)) ms e))

  packages_cut : (ms ps : Members) → get (codes "packages") (object ms) ≡ Some (object ps) → packages_of (object (picked pick ms)) ≡ Some (picked (cut_entry (is_in folders) (is_in locations)) ps)
  packages_cut ms ps e = ap (option_and_then as_object) (get_picked (top_of (is_in folders) (is_in locations)) (codes "packages") ms ∙ ap (option_map (top_of (is_in folders) (is_in locations) (codes "packages"))) e)

  least_cut : (ps : Members) → wrong_of (least_wrong ps) ≡ None → wrong_of (least_wrong (picked (cut_entry (is_in folders) (is_in locations)) ps)) ≡ None
  least_cut ps e = none_refused (picked (cut_entry (is_in folders) (is_in locations)) ps) (wrongs_picked (is_in folders) (is_in locations) ps (refused_none ps e))

  refused_cut : (ms ps : Members) → packages_of (object ms) ≡ Some ps → get (codes "packages") (object ms) ≡ Some (object ps) → packages_refusal (object ms) ≡ None → packages_refusal (object (picked pick ms)) ≡ None
  unfolding packages_refusal
  refused_cut ms ps there at e = ap packages_if (packages_cut ms ps at) ∙ least_cut ps (ap packages_if (sym there) ∙ e)

  pub cut_accepted : (d : Data) → lock_refusal d ≡ None → lock_refusal (cut folders locations d) ≡ None
  unfolding cut
  cut_accepted d e =
      let o = accepted_object d e in
      let a = accepted d e in
      let ps = packages_there d e in
      let at = packages_get d ps.0 ps.1 in
      let is : picked_in pick d ≡ object (picked pick o.0) = ap (picked_in pick) o.1 in
      ap lock_refusal is ∙ four_none _ _ _ _ refl (version_cut o.0 (ap version_refusal (sym o.1) ∙ a.version)) (number_cut o.0 (ap has_float (sym o.1) ∙ no_float d e))
      (refused_cut o.0 ps.0 (ap packages_of (sym o.1) ∙ ps.1) (ap (get (codes "packages")) (sym o.1) ∙ at) (ap packages_refusal (sym o.1) ∙ a.packages))

  pub cut_shallow : (d : Data) → depth (cut folders locations d) ≤ depth d
  unfolding cut
  cut_shallow null = omega arith
  cut_shallow (boolean b) = omega arith
  cut_shallow (number n) = omega arith
  cut_shallow (string s) = omega arith
  cut_shallow (array ds) = omega arith
  cut_shallow (object ms) = let h = picked_shallow pick (top_shallow (is_in folders) (is_in locations)) ms in omega (arith, h)
