-- What an owner that stays uses of the lockfile is what it uses of the cut one.
use Rattle.std.proofs.Common.{◌≡◌, ◌⊎◌, ℕ, suc, Bool, true, false, cond, List, [], ◌∷◌, Option, Some, None, map, refl, sym, ap, ◌∙◌, subst, inl, inr}
use mathlib.Core.Path.{fun_ext}
use Rattle.std.specs.Prelude.{Ok, is_some}
use Rattle.std.specs.Option.{option_map}
use Rattle.std.specs.List.{join_with_byte}
use Rattle.std.proofs.lemmas.Bool.{cases_Bool, false≢true}
use Rattle.serde_json.specs.Data.{Data}
use Rattle.rel_path.specs.Paths.{name_eq}
use Rattle.rel_path.proofs.PathLaws.{name_self}
use Rattle.lock_entries.specs.declared.entry.Entry.{Entry}
use Rattle.lock_entries.specs.Lockfile.{entries_in}
use Rattle.npm_lock.specs.declared.start.Start.{Start}
use Rattle.npm_lock.specs.Cut.{is_in, cut}
use Rattle.npm_lock.specs.Lookup.{number_of, has, first, found, places}
use Rattle.npm_lock.specs.Sets.{Has as HasIn}
use Rattle.npm_lock.specs.Externals.{LooksUp, IsClosed, IsExternals, IsMissing, Externals, entry_text, members_in}
use Rattle.workspaces.specs.declared.member.Package.{Package}
use Rattle.workspaces.specs.Lists.{Has}
use Rattle.workspaces.specs.Space.{Space, owners}
use Rattle.collect.specs.Parts.{Uses, starts_of}
use Rattle.repository.specs.Reading.{Contents}
use Rattle.pruned_files.specs.Cut.{kept_owners, locations_in, IsCutLock, IsCutTo}
use Rattle.pruned_files.specs.Pruned.{Pruning, IsPruning}
use Rattle.prune_facts.proofs.Lists.{bool_same, none≢some, some_inj, has_any, has-map, has-filter}
use Rattle.prune_facts.proofs.Remaining.{IsLeft, entry_at_location, still_least}
use Rattle.prune_facts.proofs.Cutting.{left_entries, same_uses}
use Rattle.prune_facts.proofs.Pairing.{pair_of}
use Rattle.prune_laws.proofs.Owners.{IsSound, part_of}
use Rattle.prune_laws.proofs.Defs.{has_flat}
use Rattle.prune_laws.proofs.Needs.{same_starts}

-- ---- look-ups

first_is : (t : List ℕ → Bool) (xs : List (List ℕ)) (x : List ℕ) → first t xs ≡ Some x → HasIn xs x × (t x ≡ true)
first_is t [] x e = absurd (none≢some x e)
first_is t (y ∷ ys) x e =
    elim (cases_Bool (t y)) [
      | inl k ↦ let same = some_inj y x (rw k at e) in (inl same, ap t (sym same) ∙ k)
      | inr f ↦ let r = first_is t ys x (rw f at e) in (inr r.0, r.1)
    ]

first_not : (t : List ℕ → Bool) (xs : List (List ℕ)) (x : List ℕ) → first t xs ≡ None → HasIn xs x → t x ≡ true → ⊥
first_not t [] x e h k = h
first_not t (y ∷ ys) x e h k =
    elim (cases_Bool (t y)) [
      | inl u ↦ none≢some y (sym (rw u at e))
      | inr f ↦ elim h [ inl same ↦ false≢true (sym f ∙ ap t same ∙ k) | inr u ↦ first_not t ys x (rw f at e) u k ]
    ]

-- what stands among entries is found by its location
has_entry : (es : List Entry) (e : Entry) → HasIn es e → has es e.location ≡ true
has_entry [] e h = absurd h
has_entry (x ∷ es) e h = by h (has_entry es e)
  where
    further : (b : Bool) (o : Option ℕ) → is_some o ≡ true → is_some (cond b (Some 0) (option_map suc o)) ≡ true
    further true o k = refl
    further false None k = k
    further false (Some n) k = refl

    by : (x ≡ e) ⊎ HasIn es e → (HasIn es e → has es e.location ≡ true) → has (x ∷ es) e.location ≡ true
    by (inl same) rest = ap (λ b. is_some (cond b (Some 0) (option_map suc (number_of es e.location)))) (ap (λ (y : Entry). name_eq y.location e.location) same ∙ name_self e.location)
    by (inr u) rest = further (name_eq x.location e.location) (number_of es e.location) (rest u)

-- where those entries are left that starts reach, nothing is missing there
module _ (keep : List ℕ → Bool) (many few : List Entry) (left : IsLeft keep many few) (starts : List Start) (set : List ℕ → Bool) (is : IsExternals many starts set)
    (within : (l : List ℕ) → has many l ≡ true → set l ≡ true → keep l ≡ true) where
  wider : (s : Start) → LooksUp few starts set s → LooksUp many starts set s
  wider s (inl h) = inl h
  wider s (inr m) = inr (record { entry = m.entry; among = left.fewer m.entry m.among; is_member = m.is_member; no_link = m.no_link; name = m.name; named = m.named; same = m.same })

  still_nothing : (s : Start) → LooksUp many starts set s → found few s.from s.name ≡ None → found many s.from s.name ≡ None
  unfolding found IsClosed
  still_nothing s look none = by (first (has many) (places s.from s.name)) refl
    where
      by : (o : Option (List ℕ)) → first (has many) (places s.from s.name) ≡ o → first (has many) (places s.from s.name) ≡ None
      by None e = e
      by (Some l) e =
          let at = first_is (has many) (places s.from s.name) l e in
          let kept = within l at.1 (is.0 s look l e) in
          let entry = entry_at_location many l at.1 in
          let there : has few l ≡ true = ap (has few) (sym entry.2) ∙ has_entry few entry.0 (left.kept entry.0 entry.1 (ap keep entry.2 ∙ kept)) in
          absurd (first_not (has few) (places s.from s.name) l none at.0 there)

  none_missing : ((s : Start) → IsMissing many starts set s → ⊥) → (s : Start) → IsMissing few starts set s → ⊥
  none_missing none s m = let look = wider s m.looked_up in none s (record { looked_up = look; hard = m.hard; nothing = still_nothing s look m.nothing })

-- ---- what is used

to_has : {X : Type 0} (xs : List X) (x : X) → HasIn xs x → Has xs x
to_has [] x h = h
to_has (y ∷ ys) x (inl e) = inl e
to_has (y ∷ ys) x (inr h) = inr (to_has ys x h)

one_use : (lock : Data) (starts : List Start) (pairs more : List (List ℕ × List ℕ)) → Externals lock starts (Ok pairs) → Externals lock starts (Ok more) → pairs ≡ more
one_use lock starts pairs more a b = a.3 ∙ ap (members_in lock) (fun_ext (λ x. bool_same (a.0 x) (b.0 x) (a.1.1 b.0 b.1.0 x) (b.1.1 a.0 a.1.0 x))) ∙ sym b.3

located : (pairs : List (List ℕ × List ℕ)) (uses : List (List (List ℕ × List ℕ))) (pair : List ℕ × List ℕ) → Has uses pairs → Has pairs pair → is_in (locations_in uses) pair.0 ≡ true
located pairs uses pair h k =
    has_any (name_eq pair.0) (locations_in uses) pair.0 (has_flat (λ (ps : List (List ℕ × List ℕ)). map (λ (p : List ℕ × List ℕ). p.0) ps) uses pairs pair.0 h (has-map (λ (p : List ℕ × List ℕ). p.0) pairs pair k)) (name_self pair.0)

-- the cut lockfile, which keeps the locations, has what starts reach there
module _ (folders locations : List (List ℕ)) (lock : Data) (starts : List Start) (pairs : List (List ℕ × List ℕ)) (keeps : (pair : List ℕ × List ℕ) → Has pairs pair → is_in locations pair.0 ≡ true) where
  reaches : (a : Externals lock starts (Ok pairs)) → (l : List ℕ) → has (entries_in lock) l ≡ true → a.0 l ≡ true → is_in locations l ≡ true
  reaches a l h k =
      let entry = entry_at_location (entries_in lock) l h in
      let among = has-filter (λ (e : Entry). a.0 e.location) (entries_in lock) entry.0 (to_has (entries_in lock) entry.0 entry.1) (ap a.0 entry.2 ∙ k) in
      let listed = has-map (λ (e : Entry). (e.location, entry_text lock e.location)) _ entry.0 among in
      ap (is_in locations) (sym entry.2) ∙ keeps (entry.0.location, entry_text lock entry.0.location) (subst (λ ps. Has ps (entry.0.location, entry_text lock entry.0.location)) (sym a.3) listed)

  pub still_externals : Externals lock starts (Ok pairs) → Externals (cut folders locations lock) starts (Ok pairs)
  still_externals a =
      let left = left_entries folders locations lock in
      let least = still_least (is_in locations) (entries_in lock) (entries_in (cut folders locations lock)) left starts a.0 a.1 (reaches a) in
      let none = none_missing (is_in locations) (entries_in lock) (entries_in (cut folders locations lock)) left starts a.0 a.1 (reaches a) a.2 in
      let same = same_uses folders locations lock starts pairs (members_in (cut folders locations lock) a.0) (λ pair u. keeps pair (to_has pairs pair u)) a (a.0, least, none, refl) in
      (a.0, least, none, same)

module _ (contents : Contents) (targets : List (List ℕ)) (p : Pruning) (sound : IsSound contents.space contents.setup) (is : IsPruning contents targets p) (q : Package) (h : Has (owners contents.space) q) (k : p.set q.folder ≡ true) where
  abbrev part : Space
  part = part_of contents.space p.set

  -- an owner that stays uses the same
  pub still_uses : (pairs : List (List ℕ × List ℕ)) → Uses contents.space contents.lock q pairs → Uses part p.lock q pairs
  still_uses pairs = by contents.lock p.lock p.text is.cut
    where
      of_lock : (lock value : Data) → IsCutTo contents p.set lock value → Externals lock (starts_of contents.space q) (Ok pairs) → Externals value (starts_of part q) (Ok pairs)
      of_lock lock value to a =
          let its = pair_of (λ o ps. Uses contents.space (Some lock) o ps) (kept_owners contents.space p.set) to.uses to.each q (has-filter (λ (o : Package). p.set o.folder) (owners contents.space) q h k) in
          let keeps : (pair : List ℕ × List ℕ) → Has pairs pair → is_in (locations_in to.uses) pair.0 ≡ true =
          λ pair u. located its.0 to.uses pair its.1 (subst (λ ps. Has ps pair) (one_use lock (starts_of contents.space q) pairs its.0 a its.2) u) in
          let there = still_externals (map (λ (o : Package). join_with_byte 47 o.folder) (kept_owners contents.space p.set)) (locations_in to.uses) lock (starts_of contents.space q) pairs keeps a in
          subst (λ starts. Externals value starts (Ok pairs)) (sym (same_starts contents targets p.set sound is.kept.0 q h k)) (subst (λ d. Externals d (starts_of contents.space q) (Ok pairs)) (sym to.is) there)

      by : (lock value : Option Data) (text : Option (List ℕ)) → IsCutLock contents p.set lock value text → Uses contents.space lock q pairs → Uses part value q pairs
      by None None None c a = a
      by None None (Some text) c a = absurd c
      by None (Some value) text c a = absurd c
      by (Some lock) None text c a = absurd c
      by (Some lock) (Some value) None c a = absurd c
      by (Some lock) (Some value) (Some text) c a = of_lock lock value c.0 a
