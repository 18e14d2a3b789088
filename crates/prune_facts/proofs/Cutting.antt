-- What an owner uses of a lockfile is the same in the cut one, where the cut keeps all of it.
use Rattle.std.proofs.Common.{◌≡◌, ℕ, Bool, true, false, cond, List, [], ◌∷◌, Option, Some, None, map, filter, codes, refl, sym, ap, ◌∙◌, subst, inl, inr}
use mathlib.Core.Path.{fun_ext}
use Rattle.std.specs.Prelude.{option_and_then, unwrap_or, Result, Ok, Err}
use Rattle.std.specs.Option.{option_map}
use Rattle.std.specs.declared.cmp.Ordering.{Ordering}
use Rattle.std.specs.declared.cmp.Ordering.TheVariants.{Less, Equal, Greater}
use Rattle.std.specs.Ordering.{is_eq, nat_cmp, match_ordering}
use Rattle.std.specs.Cmp.Lexicographic.{slice_cmp}
use Rattle.std.proofs.lemmas.Bool.{or_right, false≢true, false_from_ne_true}
use Rattle.std.proofs.lemmas.Map.Text.{is_eq-slice_cmp}
use Rattle.rel_path.specs.Paths.{name_eq}
use Rattle.rel_path.proofs.PathLaws.{name_same}
use Rattle.serde_json.specs.Data.{Data, null, boolean, number, string, array, object, Members, no_members, member}
use Rattle.serde_json.specs.Find.{get, get_member, as_object}
use Rattle.serde_json.specs.Written.{compact_text}
use Rattle.json_view.specs.declared.error.JsonErr.{JsonErr}
use Rattle.lock_entries.specs.declared.entry.Entry.{Entry}
use Rattle.lock_entries.specs.declared.entry.Name.{Name}
use Rattle.lock_entries.specs.Entries.{entry_of, entry_with, parts_at, entry_pointer, with_entry, entries_of}
use Rattle.lock_entries.specs.Lockfile.{packages_in, or_no_members, entries_in}
use Rattle.npm_lock.specs.declared.start.Start.{Start}
use Rattle.npm_lock.specs.Cut.{is_in, keeps, with_member, picked, cut_entry, picked_in, cut_top, cut}
use Rattle.npm_lock.specs.Lookup.{has}
use Rattle.npm_lock.specs.Sets.{Has}
use Rattle.npm_lock.specs.Externals.{IsExternals, text_in, entry_text, members_in, Externals}
use Rattle.prune_facts.proofs.Lists.{bool_same}
use Rattle.prune_facts.proofs.Remaining.{IsLeft, entry_at_location, still_least}

-- ---- the cut

module _ (f : List ℕ → Data → Data) where
  found_picked : (o : Ordering) (name k : List ℕ) (d : Data) (rest now : Option Data) → slice_cmp nat_cmp name k ≡ o → now ≡ option_map (f name) rest
      → match_ordering o now (Some (f k d)) now ≡ option_map (f name) (match_ordering o rest (Some d) rest)
  found_picked Less name k d rest now is e = e
  found_picked Equal name k d rest now is e = let same : name ≡ k = name_same name k (sym (is_eq-slice_cmp name k) ∙ ap is_eq is) in ap (λ n. Some (f n d)) (sym same)
  found_picked Greater name k d rest now is e = e

  get_picked : (name : List ℕ) (ms : Members) → get_member name (picked (λ k d. Some (f k d)) ms) ≡ option_map (f name) (get_member name ms)
  get_picked name no_members = refl
  get_picked name (member k d ms) = found_picked (slice_cmp nat_cmp name k) name k d (get_member name ms) _ refl (get_picked name ms)

entry_location : (location : List ℕ) (d : Data) (e : Entry) → entry_of location d ≡ Ok e → e.location ≡ location
unfolding entry_of
entry_location location d e is = by (parts_at (entry_pointer location) d) is
  where
    by : (r : Result (Option (List ℕ) × List Name) JsonErr) → entry_with location r ≡ Ok e → e.location ≡ location
    by (Ok parts) k = ap (λ (r : Result Entry JsonErr). location_in r) (sym k)
      where
        location_in : Result Entry JsonErr → List ℕ
        location_in (Ok entry) = entry.location
        location_in (Err fault) = location
    by (Err fault) k = cc

module _ (folders locations : List ℕ → Bool) where
  abbrev pick : List ℕ → Data → Option Data
  pick = cut_entry folders locations

  kept_here : (location : List ℕ) (d : Data) → locations location ≡ true → keeps folders locations location d ≡ true
  kept_here location d h = or_right _ (locations location) h

  fewer_entries : (ms : Members) (e : Entry) → Has (entries_of (picked pick ms)) e → Has (entries_of ms) e
  fewer_entries no_members e h = h
  fewer_entries (member location d ms) e h = by (keeps folders locations location d) h (fewer_entries ms e)
    where
      with : (r : Result Entry JsonErr) (few many : List Entry) → (Has few e → Has many e) → Has (with_entry r few) e → Has (with_entry r many) e
      with (Ok x) few many rest (inl s) = inl s
      with (Ok x) few many rest (inr u) = inr (rest u)
      with (Err fault) few many rest u = rest u

      more : (r : Result Entry JsonErr) (many : List Entry) → Has many e → Has (with_entry r many) e
      more (Ok x) many u = inr u
      more (Err fault) many u = u

      by : (b : Bool) → Has (entries_of (with_member location (cond b (Some d) None) (picked pick ms))) e → (Has (entries_of (picked pick ms)) e → Has (entries_of ms) e) → Has (with_entry (entry_of location d) (entries_of ms)) e
      by true u rest = with (entry_of location d) (entries_of (picked pick ms)) (entries_of ms) rest u
      by false u rest = more (entry_of location d) (entries_of ms) (rest u)

  kept_entries : (ms : Members) (e : Entry) → Has (entries_of ms) e → locations e.location ≡ true → Has (entries_of (picked pick ms)) e
  kept_entries no_members e h k = h
  kept_entries (member location d ms) e h k = by (entry_of location d) refl h (λ u. kept_entries ms e u k)
    where
      after : (b : Bool) → Has (entries_of (picked pick ms)) e → Has (entries_of (with_member location (cond b (Some d) None) (picked pick ms))) e
      after false u = u
      after true u = more (entry_of location d) u
        where
          more : (r : Result Entry JsonErr) → Has (entries_of (picked pick ms)) e → Has (with_entry r (entries_of (picked pick ms))) e
          more (Ok x) v = inr v
          more (Err fault) v = v

      here : (x : Entry) → entry_of location d ≡ Ok x → x ≡ e → Has (entries_of (with_member location (pick location d) (picked pick ms))) e
      here x is s =
          rw (kept_here location d (ap locations (sym (entry_location location d x is) ∙ ap (λ (y : Entry). y.location) s) ∙ k))
          (subst (λ r. Has (with_entry r (entries_of (picked pick ms))) e) (sym is) (inl s))

      by : (r : Result Entry JsonErr) → entry_of location d ≡ r → Has (with_entry r (entries_of ms)) e → (Has (entries_of ms) e → Has (entries_of (picked pick ms)) e) → Has (entries_of (with_member location (pick location d) (picked pick ms))) e
      by (Ok x) is (inl s) rest = here x is s
      by (Ok x) is (inr u) rest = after (keeps folders locations location d) (rest u)
      by (Err fault) is u rest = after (keeps folders locations location d) (rest u)

  -- the members of a set within the locations
  same_members : (set : List ℕ → Bool) (ms : Members) → ((e : Entry) → Has (entries_of ms) e → set e.location ≡ true → locations e.location ≡ true)
      → filter (λ (e : Entry). set e.location) (entries_of (picked pick ms)) ≡ filter (λ (e : Entry). set e.location) (entries_of ms)
  same_members set no_members within = refl
  same_members set (member location d ms) within = by (entry_of location d) refl (same_members set ms) within
    where
      of_set : List Entry → List Entry
      of_set es = filter (λ (e : Entry). set e.location) es

      dropped : (x : Entry) → entry_of location d ≡ Ok x → ((e : Entry) → Has (x ∷ entries_of ms) e → set e.location ≡ true → locations e.location ≡ true) → of_set (entries_of (picked pick ms)) ≡ of_set (entries_of ms)
          → (b : Bool) → keeps folders locations location d ≡ b → of_set (entries_of (with_member location (cond b (Some d) None) (picked pick ms))) ≡ of_set (x ∷ entries_of ms)
      dropped x is inside rest true k = ap (λ r. of_set (with_entry r (entries_of (picked pick ms)))) is ∙ ap (λ es. cond (set x.location) (x ∷ es) es) rest
      dropped x is inside rest false k =
          rw (false_from_ne_true (set x.location) (λ t. false≢true (sym k ∙ kept_here location d (ap locations (sym (entry_location location d x is)) ∙ inside x (inl refl) t)))) rest

      past : of_set (entries_of (picked pick ms)) ≡ of_set (entries_of ms) → (fault : JsonErr) → entry_of location d ≡ Err fault → (b : Bool) → of_set (entries_of (with_member location (cond b (Some d) None) (picked pick ms))) ≡ of_set (entries_of ms)
      past rest fault is true = ap (λ r. of_set (with_entry r (entries_of (picked pick ms)))) is ∙ rest
      past rest fault is false = rest

      by : (r : Result Entry JsonErr) → entry_of location d ≡ r → (((e : Entry) → Has (entries_of ms) e → set e.location ≡ true → locations e.location ≡ true) → of_set (entries_of (picked pick ms)) ≡ of_set (entries_of ms))
          → ((e : Entry) → Has (with_entry (entry_of location d) (entries_of ms)) e → set e.location ≡ true → locations e.location ≡ true)
          → of_set (entries_of (with_member location (pick location d) (picked pick ms))) ≡ of_set (with_entry (entry_of location d) (entries_of ms))
      by (Ok x) is rest inside =
          let in_all = subst (λ r. (e : Entry) → Has (with_entry r (entries_of ms)) e → set e.location ≡ true → locations e.location ≡ true) is inside in
          dropped x is in_all (rest (λ e h. in_all e (inr h))) (keeps folders locations location d) refl ∙ sym (ap (λ r. of_set (with_entry r (entries_of ms))) is)
      by (Err fault) is rest inside =
          let in_all = subst (λ r. (e : Entry) → Has (with_entry r (entries_of ms)) e → set e.location ≡ true → locations e.location ≡ true) is inside in
          past (rest in_all) fault is (keeps folders locations location d) ∙ sym (ap (λ r. of_set (with_entry r (entries_of ms))) is)

  -- what stands at a kept location
  same_get : (location : List ℕ) → locations location ≡ true → (ms : Members) → get_member location (picked pick ms) ≡ get_member location ms
  same_get location k no_members = refl
  same_get location k (member name d ms) = by (keeps folders locations name d) refl (slice_cmp nat_cmp location name) refl (same_get location k ms)
    where
      by : (b : Bool) → keeps folders locations name d ≡ b → (o : Ordering) → slice_cmp nat_cmp location name ≡ o → get_member location (picked pick ms) ≡ get_member location ms
          → get_member location (with_member name (cond b (Some d) None) (picked pick ms)) ≡ match_ordering o (get_member location ms) (Some d) (get_member location ms)
      by true is o at rest = ap (λ r. match_ordering r (get_member location (picked pick ms)) (Some d) (get_member location (picked pick ms))) at ∙ ap (λ r. match_ordering o r (Some d) r) rest
      by false is Less at rest = rest
      by false is Equal at rest = absurd (false≢true (sym is ∙ kept_here name d (ap locations (sym (name_same location name (sym (is_eq-slice_cmp location name) ∙ ap is_eq at))) ∙ k)))
      by false is Greater at rest = rest

  get_in : (location : List ℕ) → locations location ≡ true → (d : Data) → get location (picked_in pick d) ≡ get location d
  get_in location k null = refl
  get_in location k (boolean b) = refl
  get_in location k (number n) = refl
  get_in location k (string s) = refl
  get_in location k (array ds) = refl
  get_in location k (object ms) = same_get location k ms

  object_in : (d : Data) → as_object (picked_in pick d) ≡ option_map (picked pick) (as_object d)
  object_in null = refl
  object_in (boolean b) = refl
  object_in (number n) = refl
  object_in (string s) = refl
  object_in (array ds) = refl
  object_in (object ms) = refl

  abbrev top : List ℕ → Data → Data
  top name d = cond (name_eq name (codes "packages")) (picked_in pick d) d

  -- the object of entries is picked
  packages_cut : (d : Data) → get (codes "packages") (picked_in (cut_top folders locations) d) ≡ option_map (picked_in pick) (get (codes "packages") d)
  packages_cut null = refl
  packages_cut (boolean b) = refl
  packages_cut (number n) = refl
  packages_cut (string s) = refl
  packages_cut (array ds) = refl
  packages_cut (object ms) = get_picked top (codes "packages") ms

-- ---- uses

module _ (folders locations : List (List ℕ)) (d : Data) where
  entries_cut : packages_in (cut folders locations d) ≡ picked (cut_entry (is_in folders) (is_in locations)) (packages_in d)
  unfolding packages_in cut
  entries_cut = ap (λ o. or_no_members (option_and_then as_object o)) (packages_cut (is_in folders) (is_in locations) d) ∙ by (get (codes "packages") d)
    where
      inner : (o : Option Members) → or_no_members (option_map (picked (cut_entry (is_in folders) (is_in locations))) o) ≡ picked (cut_entry (is_in folders) (is_in locations)) (or_no_members o)
      inner None = refl
      inner (Some ms) = refl

      by : (o : Option Data) → or_no_members (option_and_then as_object (option_map (picked_in (cut_entry (is_in folders) (is_in locations))) o)) ≡ picked (cut_entry (is_in folders) (is_in locations)) (or_no_members (option_and_then as_object o))
      by None = refl
      by (Some x) = ap or_no_members (object_in (is_in folders) (is_in locations) x) ∙ inner (as_object x)

  text_cut : (location : List ℕ) → is_in locations location ≡ true → entry_text (cut folders locations d) location ≡ entry_text d location
  unfolding text_in cut
  text_cut location k = ap (λ o. unwrap_or (option_map compact_text (option_and_then (get location) o)) []) (packages_cut (is_in folders) (is_in locations) d) ∙ by (get (codes "packages") d)
    where
      by : (o : Option Data) → unwrap_or (option_map compact_text (option_and_then (get location) (option_map (picked_in (cut_entry (is_in folders) (is_in locations))) o))) [] ≡ unwrap_or (option_map compact_text (option_and_then (get location) o)) []
      by None = refl
      by (Some x) = ap (λ o. unwrap_or (option_map compact_text o) []) (get_in (is_in folders) (is_in locations) location k x)

  pub left_entries : IsLeft (is_in locations) (entries_in d) (entries_in (cut folders locations d))
  left_entries = record {
    fewer = λ e h. fewer_entries (is_in folders) (is_in locations) (packages_in d) e (subst (λ ms. Has (entries_of ms) e) entries_cut h);
    kept = λ e h k. subst (λ ms. Has (entries_of ms) e) (sym entries_cut) (kept_entries (is_in folders) (is_in locations) (packages_in d) e h k);
  }

  abbrev with_text : Data → Entry → List ℕ × List ℕ
  with_text lock e = (e.location, entry_text lock e.location)

  npm_filter : (t : Entry → Bool) (es : List Entry) (e : Entry) → Has (filter t es) e → Has es e × (t e ≡ true)
  npm_filter t [] e h = absurd h
  npm_filter t (x ∷ es) e h = by (t x) refl h (npm_filter t es e)
    where
      by : (b : Bool) → t x ≡ b → Has (cond b (x ∷ filter t es) (filter t es)) e → (Has (filter t es) e → Has es e × (t e ≡ true)) → Has (x ∷ es) e × (t e ≡ true)
      by true k (inl s) rest = (inl s, ap t (sym s) ∙ k)
      by true k (inr u) rest = let r = rest u in (inr r.0, r.1)
      by false k u rest = let r = rest u in (inr r.0, r.1)

  map_npm : (f g : Entry → List ℕ × List ℕ) (es : List Entry) → ((e : Entry) → Has es e → f e ≡ g e) → map f es ≡ map g es
  map_npm f g [] same = refl
  map_npm f g (x ∷ es) same = let a = same x (inl refl) in let b = map_npm f g es (λ e h. same e (inr h)) in λ j. a j ∷ b j

  npm_map : (f : Entry → List ℕ × List ℕ) (es : List Entry) (e : Entry) → Has es e → Has (map f es) (f e)
  npm_map f [] e h = absurd h
  npm_map f (x ∷ es) e (inl s) = inl (ap f s)
  npm_map f (x ∷ es) e (inr h) = inr (npm_map f es e h)

  has_npm : (t : Entry → Bool) (es : List Entry) (e : Entry) → Has es e → t e ≡ true → Has (filter t es) e
  has_npm t [] e h k = absurd h
  has_npm t (x ∷ es) e (inl s) k = rw (ap t s ∙ k) (inl s)
  has_npm t (x ∷ es) e (inr h) k = by (t x) (has_npm t es e h k)
    where
      by : (b : Bool) → Has (filter t es) e → Has (cond b (x ∷ filter t es) (filter t es)) e
      by true u = inr u
      by false u = u

  module _ (set : List ℕ → Bool) (within : (e : Entry) → Has (entries_in d) e → set e.location ≡ true → is_in locations e.location ≡ true) where
    members_cut : members_in (cut folders locations d) set ≡ members_in d set
    members_cut =
        ap (λ es. map (with_text (cut folders locations d)) es) (ap (λ ms. filter (λ (e : Entry). set e.location) (entries_of ms)) entries_cut ∙ same_members (is_in folders) (is_in locations) set (packages_in d) within)
        ∙ map_npm (with_text (cut folders locations d)) (with_text d) (filter (λ (e : Entry). set e.location) (entries_in d))
        (λ e h. let r = npm_filter (λ (e : Entry). set e.location) (entries_in d) e h in let t = text_cut e.location (within e r.0 r.1) in λ j. (e.location, t j))

  -- the same starts reach the same in the cut lockfile, where it keeps what they reach in the whole one
  pub same_uses : (starts : List Start) (pairs others : List (List ℕ × List ℕ)) → ((pair : List ℕ × List ℕ) → Has pairs pair → is_in locations pair.0 ≡ true)
      → Externals d starts (Ok pairs) → Externals (cut folders locations d) starts (Ok others) → pairs ≡ others
  same_uses starts pairs others keeps a b = a.3 ∙ sym (members_cut a.0 within) ∙ ap (members_in (cut folders locations d)) one ∙ sym b.3
    where
      within : (e : Entry) → Has (entries_in d) e → a.0 e.location ≡ true → is_in locations e.location ≡ true
      within e h k = keeps (with_text d e) (subst (λ ps. Has ps (with_text d e)) (sym a.3) (npm_map (with_text d) (filter (λ (x : Entry). a.0 x.location) (entries_in d)) e (has_npm (λ (x : Entry). a.0 x.location) (entries_in d) e h k)))

      there : (l : List ℕ) → has (entries_in d) l ≡ true → a.0 l ≡ true → is_in locations l ≡ true
      there l h k = let r = entry_at_location (entries_in d) l h in ap (is_in locations) (sym r.2) ∙ within r.0 r.1 (ap a.0 r.2 ∙ k)

      least : IsExternals (entries_in (cut folders locations d)) starts a.0
      least = still_least (is_in locations) (entries_in d) (entries_in (cut folders locations d)) left_entries starts a.0 a.1 there

      one : a.0 ≡ b.0
      one = fun_ext (λ x. bool_same (a.0 x) (b.0 x) (least.1 b.0 b.1.0 x) (b.1.1 a.0 least.0 x))
