-- What starts reach in a lockfile is the same where a part of its entries is left that holds all of it.
use Rattle.std.proofs.Common.{◌≡◌, ◌&&◌, ◌||◌, ℕ, suc, Bool, true, false, cond, List, [], ◌∷◌, Option, Some, None, refl, sym, ap, ◌∙◌, inl, inr}
use Rattle.std.specs.Prelude.{is_some, zero}
use Rattle.std.specs.Option.{option_map}
use Rattle.std.proofs.lemmas.Bool.{cases_Bool, or_right, and_parts, and_from, false≢true, false_from_ne_true}
use Rattle.rel_path.specs.Paths.{name_eq}
use Rattle.rel_path.proofs.PathLaws.{name_same, name_self}
use Rattle.lock_entries.specs.declared.entry.Entry.{Entry}
use Rattle.npm_lock.specs.declared.start.Start.{Start}
use Rattle.npm_lock.specs.Lookup.{number_of, has, first, found, places}
use Rattle.npm_lock.specs.Sets.{Has}
use Rattle.npm_lock.specs.Externals.{LooksUp, IsClosed, IsExternals}
use Rattle.prune_facts.proofs.Lists.{none≢some, some_inj}

-- ---- where a part of the locations is left

first_true : (s : List ℕ → Bool) (xs : List (List ℕ)) (y : List ℕ) → first s xs ≡ Some y → s y ≡ true
first_true s [] y h = absurd (none≢some y h)
first_true s (x ∷ xs) y h =
    elim (cases_Bool (s x)) [
      | inl k ↦ ap s (sym (some_inj x y (rw k at h))) ∙ k
      | inr f ↦ first_true s xs y (rw f at h)
    ]

module _ (s t : List ℕ → Bool) (less : (x : List ℕ) → t x ≡ true → s x ≡ true) where
  first_none : (xs : List (List ℕ)) → first s xs ≡ None → first t xs ≡ None
  first_none [] h = refl
  first_none (x ∷ xs) h =
      elim (cases_Bool (s x)) [
        | inl k ↦ absurd (none≢some x (sym (rw k at h)))
        | inr f ↦ rw (false_from_ne_true (t x) (λ u. false≢true (sym f ∙ less x u))) (first_none xs (rw f at h))
      ]

  first_some : (xs : List (List ℕ)) (y : List ℕ) → first s xs ≡ Some y → t y ≡ true → first t xs ≡ Some y
  first_some [] y h u = absurd (none≢some y h)
  first_some (x ∷ xs) y h u =
      elim (cases_Bool (s x)) [
        | inl k ↦ let e = some_inj x y (rw k at h) in rw (ap t e ∙ u) (ap Some e)
        | inr f ↦ rw (false_from_ne_true (t x) (λ v. false≢true (sym f ∙ less x v))) (first_some xs y (rw f at h) u)
      ]

has_step : (e : Entry) (es : List Entry) (l : List ℕ) → has (e ∷ es) l ≡ (name_eq e.location l || has es l)
has_step e es l = by (name_eq e.location l) (number_of es l)
  where
    by : (b : Bool) (o : Option ℕ) → is_some (cond b (Some zero) (option_map suc o)) ≡ (b || is_some o)
    by true o = refl
    by false None = refl
    by false (Some n) = refl

pub entry_at_location : (es : List Entry) (l : List ℕ) → has es l ≡ true → (e : Entry) × (Has es e) × (e.location ≡ l)
entry_at_location [] l h = absurd (false≢true h)
entry_at_location (e ∷ es) l h = by (name_eq e.location l) refl (sym (has_step e es l) ∙ h) (entry_at_location es l)
  where
    by : (b : Bool) → name_eq e.location l ≡ b → (b || has es l) ≡ true → (has es l ≡ true → (x : Entry) × (Has es x) × (x.location ≡ l)) → (x : Entry) × (Has (e ∷ es) x) × (x.location ≡ l)
    by true s k rest = (e, inl refl, name_same e.location l s)
    by false s k rest = let r = rest k in (r.0, inr r.1, r.2)

has_location : (es : List Entry) (e : Entry) → Has es e → has es e.location ≡ true
has_location [] e h = absurd h
has_location (x ∷ es) e (inl s) = has_step x es e.location ∙ ap (λ b. b || has es e.location) (ap (λ (y : Entry). name_eq y.location e.location) s ∙ name_self e.location)
has_location (x ∷ es) e (inr h) = has_step x es e.location ∙ or_right (name_eq x.location e.location) (has es e.location) (has_location es e h)

-- of these entries those are left, and all at the kept locations
pub record IsLeft (keep : List ℕ → Bool) (many few : List Entry) : Type 0 where
  pub fewer : (e : Entry) → Has few e → Has many e
  pub kept : (e : Entry) → Has many e → keep e.location ≡ true → Has few e

module _ (keep : List ℕ → Bool) (many few : List Entry) (left : IsLeft keep many few) where
  has_less : (l : List ℕ) → has few l ≡ true → has many l ≡ true
  has_less l h = let r = entry_at_location few l h in ap (has many) (sym r.2) ∙ has_location many r.0 (left.fewer r.0 r.1)

  has_kept : (l : List ℕ) → has many l ≡ true → keep l ≡ true → has few l ≡ true
  has_kept l h k = let r = entry_at_location many l h in ap (has few) (sym r.2) ∙ has_location few r.0 (left.kept r.0 r.1 (ap keep r.2 ∙ k))

  found_there : (from name l : List ℕ) → found many from name ≡ Some l → has many l ≡ true
  unfolding found
  found_there from name l h = first_true (has many) (places from name) l h

  found_kept : (from name l : List ℕ) → found many from name ≡ Some l → keep l ≡ true → found few from name ≡ Some l
  unfolding found
  found_kept from name l h k = first_some (has many) (has few) has_less (places from name) l h (has_kept l (found_there from name l h) k)

  -- what is found in what is left was found before, where all that is found before is kept
  found_before : (from name : List ℕ) → ((l : List ℕ) → found many from name ≡ Some l → keep l ≡ true) → (l : List ℕ) → found few from name ≡ Some l → found many from name ≡ Some l
  unfolding found
  found_before from name all l h = by (found many from name) refl
    where
      by : (o : Option (List ℕ)) → found many from name ≡ o → found many from name ≡ Some l
      by None e = absurd (none≢some l (sym (first_none (has many) (has few) has_less (places from name) e) ∙ h))
      by (Some x) e = e ∙ ap Some (some_inj x l (sym (found_kept from name x e (all x e)) ∙ h))

  module _ (starts : List Start) (set : List ℕ → Bool) (is : IsExternals many starts set) (within : (l : List ℕ) → has many l ≡ true → set l ≡ true → keep l ≡ true) where
    wider : (s : Start) → LooksUp few starts set s → LooksUp many starts set s
    wider s (inl h) = inl h
    wider s (inr m) = inr (record { entry = m.entry; among = left.fewer m.entry m.among; is_member = m.is_member; no_link = m.no_link; name = m.name; named = m.named; same = m.same })

    reached : (s : Start) → LooksUp many starts set s → (l : List ℕ) → found many s.from s.name ≡ Some l → (set l ≡ true) × (keep l ≡ true)
    unfolding IsClosed
    reached s look l f = let t = is.0 s look l f in (t, within l (found_there s.from s.name l f) t)

    closed : IsClosed few starts set
    unfolding IsClosed
    closed s look l f = (reached s (wider s look) l (found_before s.from s.name (λ x e. (reached s (wider s look) x e).1) l f)).0

    narrower : (other : List ℕ → Bool) (s : Start) → LooksUp many starts (λ l. set l && other l) s → LooksUp many starts set s × LooksUp few starts other s
    narrower other s (inl h) = (inl h, inl h)
    narrower other s (inr m) =
        let both = and_parts (set m.entry.location) (other m.entry.location) m.is_member in (
          inr (record { entry = m.entry; among = m.among; is_member = both.0; no_link = m.no_link; name = m.name; named = m.named; same = m.same }),
          inr (record {
            entry = m.entry;
            among = left.kept m.entry m.among (within m.entry.location (has_location many m.entry m.among) both.0);
            is_member = both.1;
            no_link = m.no_link;
            name = m.name;
            named = m.named;
            same = m.same;
          }),
        )

    both_closed : (other : List ℕ → Bool) → IsClosed few starts other → IsClosed many starts (λ l. set l && other l)
    unfolding IsClosed
    both_closed other c s look l f =
        let n = narrower other s look in
        let r = reached s n.0 l f in
        and_from (set l) (other l) r.0 (c s n.1 l (found_kept s.from s.name l f r.1))

    -- the least set is the same in what is left
    pub still_least : IsExternals few starts set
    still_least = (closed, λ other c x t. (and_parts (set x) (other x) (is.1 (λ l. set l && other l) (both_closed other c) x t)).1)
