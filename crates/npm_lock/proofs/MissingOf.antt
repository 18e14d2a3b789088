-- What is missing is what the loops over starts and members gather.
use Rattle.std.proofs.Common.{◌≡◌, ◌⊎◌, inl, inr, ⊎_elim, ℕ, Bool, true, false, cond, ◌&&◌, not, List, [], ◌∷◌, ◌++◌, Option, Some, None, is_none, refl, sym, ap, ◌∙◌, subst}
use Rattle.std.proofs.lemmas.Bool.{and_parts, cases_Bool, false≢true}
use Rattle.std.proofs.lemmas.Cmp.{upto}
use Rattle.lock_entries.specs.declared.entry.Name.{Name}
use Rattle.lock_entries.specs.declared.entry.Entry.{Entry}
use Rattle.npm_lock.specs.declared.start.Start.{Start}
use Rattle.npm_lock.specs.declared.start.Lack.{Lack}
use Rattle.npm_lock.specs.Sets.{Has, Within}
use Rattle.npm_lock.specs.Lookup.{found_number}
use Rattle.npm_lock.specs.Finds.{root_of}
use Rattle.npm_lock.specs.Lacks.{least_after, with_lack, is_lacking, start_lacks, name_lacks, beyond, member_lacks}
use Rattle.npm_lock.specs.Reach.{set_of}
use Rattle.npm_lock.specs.Externals.{lookup_of, LooksUp, IsExternals, IsMissing, lack_of, IsLeastLack, Reach, IsReachAmong}
use Rattle.npm_lock.proofs.Lacking.{after-append, is_most, lack_total, IsLeastOf, least_is, none_is, none_before}
use Rattle.npm_lock.proofs.Locating.{found_none, number_none, closed_fewer}
use Rattle.npm_lock.proofs.Reaching.{has_left, has_right, has_append}

lacking_is : (soft : Bool) (o : Option ℕ) → is_lacking soft o ≡ true → (soft ≡ false) × (o ≡ None)
lacking_is true o e = absurd (false≢true e)
lacking_is false None e = (refl, refl)
lacking_is false (Some n) e = absurd (false≢true e)

lacking_from : (soft : Bool) (o : Option ℕ) → soft ≡ false → o ≡ None → is_lacking soft o ≡ true
lacking_from soft o s n = rw (s, n) refl

with_here : (test : Bool) (a : Lack) (xs : List Lack) → test ≡ true → Has (with_lack test a xs) a
with_here test a xs t = rw t (inl refl)

with_later : (test : Bool) (a b : Lack) (xs : List Lack) → Has xs b → Has (with_lack test a xs) b
with_later true a b xs h = inr h
with_later false a b xs h = h

with_cases : (test : Bool) (a b : Lack) (xs : List Lack) → Has (with_lack test a xs) b → ((test ≡ true) × (a ≡ b)) ⊎ Has xs b
with_cases true a b xs (inl e) = inl (refl, e)
with_cases true a b xs (inr h) = inr h
with_cases false a b xs h = inr h

module _ (es : List Entry) where
  start_lacking : (starts : List Start) (s : Start) → Has starts s → s.soft ≡ false → root_of es s ≡ None → Has (start_lacks es starts) (lack_of s)
  start_lacking [] s h hard none = absurd h
  start_lacking (x ∷ starts) s (inl same) hard none = rw same (with_here _ (lack_of s) (start_lacks es starts) (lacking_from s.soft (root_of es s) hard none))
  start_lacking (x ∷ starts) s (inr h) hard none = with_later _ (lack_of x) (lack_of s) (start_lacks es starts) (start_lacking starts s h hard none)

  lacking_start : (starts : List Start) (a : Lack) → Has (start_lacks es starts) a → (s : Start) × Has starts s × (s.soft ≡ false) × (root_of es s ≡ None) × (lack_of s ≡ a)
  lacking_start [] a h = absurd h
  lacking_start (x ∷ starts) a h = by (with_cases (is_lacking x.soft (root_of es x)) (lack_of x) a (start_lacks es starts) h) (lacking_start starts a) where
    by : ((is_lacking x.soft (root_of es x) ≡ true) × (lack_of x ≡ a)) ⊎ Has (start_lacks es starts) a → (Has (start_lacks es starts) a → (s : Start) × Has starts s × (s.soft ≡ false) × (root_of es s ≡ None) × (lack_of s ≡ a)) → (s : Start) × Has (x ∷ starts) s × (s.soft ≡ false) × (root_of es s ≡ None) × (lack_of s ≡ a)
    by (inl p) later = let l = lacking_is x.soft (root_of es x) p.0 in (x, inl refl, l.0, l.1, p.1)
    by (inr h) later = let r = later h in (r.0, inr r.1, r.2, r.3, r.4)

  name_lacking : (e : Entry) (names : List Name) (n : Name) → Has names n → n.soft ≡ false → found_number es e.location n.text ≡ None → Has (name_lacks es e.location names) (lack_of (lookup_of e n))
  name_lacking e [] n h hard none = absurd h
  name_lacking e (x ∷ names) n (inl same) hard none = rw same (with_here _ (lack_of (lookup_of e n)) (name_lacks es e.location names) (lacking_from n.soft (found_number es e.location n.text) hard none))
  name_lacking e (x ∷ names) n (inr h) hard none = with_later _ (lack_of (lookup_of e x)) (lack_of (lookup_of e n)) (name_lacks es e.location names) (name_lacking e names n h hard none)

  lacking_name : (e : Entry) (names : List Name) (a : Lack) → Has (name_lacks es e.location names) a → (n : Name) × Has names n × (n.soft ≡ false) × (found_number es e.location n.text ≡ None) × (lack_of (lookup_of e n) ≡ a)
  lacking_name e [] a h = absurd h
  lacking_name e (x ∷ names) a h = by (with_cases (is_lacking x.soft (found_number es e.location x.text)) (lack_of (lookup_of e x)) a (name_lacks es e.location names) h) (lacking_name e names a) where
    by : ((is_lacking x.soft (found_number es e.location x.text) ≡ true) × (lack_of (lookup_of e x) ≡ a)) ⊎ Has (name_lacks es e.location names) a → (Has (name_lacks es e.location names) a → (n : Name) × Has names n × (n.soft ≡ false) × (found_number es e.location n.text ≡ None) × (lack_of (lookup_of e n) ≡ a)) → (n : Name) × Has (x ∷ names) n × (n.soft ≡ false) × (found_number es e.location n.text ≡ None) × (lack_of (lookup_of e n) ≡ a)
    by (inl p) later = let l = lacking_is x.soft (found_number es e.location x.text) p.0 in (x, inl refl, l.0, l.1, p.1)
    by (inr h) later = let r = later h in (r.0, inr r.1, r.2, r.3, r.4)

  module _ (set : List ℕ → Bool) where
    member_lacking : (xs : List Entry) (e : Entry) (a : Lack) → Has xs e → set e.location ≡ true → e.link ≡ None → Has (name_lacks es e.location e.names) a → Has (member_lacks es set xs) a
    member_lacking [] e a h m l n = absurd h
    member_lacking (x ∷ xs) e a (inl same) m l n = rw same (has_left _ (member_lacks es set xs) a (subst (λ b. Has (cond b (name_lacks es e.location e.names) []) a) (sym (ap (λ t. t && is_none e.link) m ∙ ap is_none l)) n))
    member_lacking (x ∷ xs) e a (inr h) m l n = has_right _ (member_lacks es set xs) a (member_lacking xs e a h m l n)

    lacking_member : (xs : List Entry) (a : Lack) → Has (member_lacks es set xs) a → (e : Entry) × Has xs e × (set e.location ≡ true) × (e.link ≡ None) × Has (name_lacks es e.location e.names) a
    lacking_member [] a h = absurd h
    lacking_member (x ∷ xs) a h =
        ⊎_elim (λ here. let p = by (set x.location) x.link refl refl here in (x, inl refl, p.0, p.1, p.2)) (λ later. let r = lacking_member xs a later in (r.0, inr r.1, r.2, r.3, r.4))
        (has_append (cond (set x.location && is_none x.link) (name_lacks es x.location x.names) []) (member_lacks es set xs) a h)
      where
        by : (b : Bool) (o : Option (List ℕ)) → set x.location ≡ b → x.link ≡ o → Has (cond (b && is_none o) (name_lacks es x.location x.names) []) a → (set x.location ≡ true) × (x.link ≡ None) × Has (name_lacks es x.location x.names) a
        by true None s l h = (s, l, h)
        by true (Some f) s l h = absurd h
        by false o s l h = absurd h

    module _ (starts : List Start) where
      abbrev all : List Lack
      all = start_lacks es starts ++ member_lacks es set es

      missing_lacks : (s : Start) → IsMissing es starts set s → Has all (lack_of s)
      missing_lacks s m = by m.looked_up where
        none : found_number es s.from s.name ≡ None
        none = found_none es s.from s.name m.nothing

        by : LooksUp es starts set s → Has all (lack_of s)
        by (inl among) = has_left _ _ (lack_of s) (start_lacking starts s among m.hard none)
        by (inr i) =
            let n = name_lacking i.entry i.entry.names i.name i.named (ap (λ (t : Start). t.soft) i.same ∙ m.hard) (ap (λ (t : Start). found_number es t.from t.name) i.same ∙ none) in
            has_right _ _ (lack_of s) (member_lacking es i.entry (lack_of s) i.among i.is_member i.no_link (subst (λ t. Has (name_lacks es i.entry.location i.entry.names) (lack_of t)) i.same n))

      lacks_missing : (a : Lack) → Has all a → (s : Start) × IsMissing es starts set s × (lack_of s ≡ a)
      lacks_missing a h = ⊎_elim from_start from_member (has_append (start_lacks es starts) (member_lacks es set es) a h) where
        from_start : Has (start_lacks es starts) a → (s : Start) × IsMissing es starts set s × (lack_of s ≡ a)
        from_start h = let r = lacking_start starts a h in (r.0, record { looked_up = inl r.1; hard = r.2; nothing = number_none es r.0.from r.0.name r.3 }, r.4)

        from_member : Has (member_lacks es set es) a → (s : Start) × IsMissing es starts set s × (lack_of s ≡ a)
        from_member h =
            let r = lacking_member es a h in
            let n = lacking_name r.0 r.0.names a r.4 in
            (lookup_of r.0 n.0, record { looked_up = inr (record { entry = r.0; among = r.1; is_member = r.2; no_link = r.3; name = n.0; named = n.1; same = refl }); hard = n.2; nothing = number_none es r.0.location n.0.text n.3 }, n.4)

-- what is missing is missing for more starts and members too
missing_more : (es : List Entry) (few many : List Start) (base set : List ℕ → Bool) → ((s : Start) → Has few s → Has many s) → Within base set → (s : Start) → IsMissing es few base s → IsMissing es many set s
missing_more es few many base set more within s m = record { looked_up = looks m.looked_up; hard = m.hard; nothing = m.nothing } where
  looks : LooksUp es few base s → LooksUp es many set s
  looks (inl h) = inl (more s h)
  looks (inr i) = inr (record { entry = i.entry; among = i.among; is_member = within i.entry.location i.is_member; no_link = i.no_link; name = i.name; named = i.named; same = i.same })

-- the base, and what starts reach beyond it
module _ (es : List Entry) (starts : List Start) (r : Reach) (known : IsReachAmong es r) (set : List ℕ → Bool) (externals : IsExternals es (starts ++ r.starts) set) where
  abbrev base : List ℕ → Bool
  base = set_of es r.set

  abbrev every : List Start
  every = starts ++ r.starts

  abbrev further : List Lack
  further = start_lacks es starts ++ member_lacks es (beyond base set) es

  base_within : Within base set
  base_within = known.externals.1 set (closed_fewer es starts r.starts set externals.0)

  beyond_within : Within (beyond base set) set
  beyond_within l t = (and_parts (set l) (not (base l)) t).0

  base_missing : (s : Start) → IsMissing es r.starts base s → IsMissing es every set s
  base_missing = missing_more es r.starts every base set (λ s h. has_right starts r.starts s h) base_within

  further_missing : (s : Start) → IsMissing es starts (beyond base set) s → IsMissing es every set s
  further_missing = missing_more es starts every (beyond base set) set (λ s h. has_left starts r.starts s h) beyond_within

  -- each is one of the base or one beyond it
  missing_split : (s : Start) → IsMissing es every set s → IsMissing es r.starts base s ⊎ IsMissing es starts (beyond base set) s
  missing_split s m = by m.looked_up where
    by : LooksUp es every set s → IsMissing es r.starts base s ⊎ IsMissing es starts (beyond base set) s
    by (inl among) = ⊎_elim (λ h. inr (record { looked_up = inl h; hard = m.hard; nothing = m.nothing })) (λ h. inl (record { looked_up = inl h; hard = m.hard; nothing = m.nothing })) (has_append starts r.starts s among)
    by (inr i) = elim (cases_Bool (base i.entry.location)) [
      | inl t ↦ inl (record { looked_up = inr (record { entry = i.entry; among = i.among; is_member = t; no_link = i.no_link; name = i.name; named = i.named; same = i.same }); hard = m.hard; nothing = m.nothing })
      | inr f ↦ inr (record { looked_up = inr (record { entry = i.entry; among = i.among; is_member = rw (i.is_member, f) refl; no_link = i.no_link; name = i.name; named = i.named; same = i.same }); hard = m.hard; nothing = m.nothing })
    ]

  none_least : least_after further r.least ≡ None → IsLeastLack es every set None
  none_least e s m = ⊎_elim before later (missing_split s m) where
    before : IsMissing es r.starts base s → ⊥
    before b = subst (IsLeastLack es r.starts base) (none_before further r.least e) known.lacking s b

    later : IsMissing es starts (beyond base set) s → ⊥
    later n = none_is further r.least e (lack_of s) (missing_lacks es (beyond base set) starts s n)

  some_least : (b : Lack) → least_after further r.least ≡ Some b → IsLeastLack es every set (Some b)
  some_least b e = record { start = one.0; missing = one.1; same = one.2; least = λ s m. rw one.2 (⊎_elim (before s) (later s) (missing_split s m)) } where
    of : IsLeastOf further r.least b
    of = least_is further r.least b e

    in_base : r.least ≡ Some b → IsLeastLack es r.starts base (Some b)
    in_base q = subst (IsLeastLack es r.starts base) q known.lacking

    one : (s : Start) × IsMissing es every set s × (lack_of s ≡ b)
    one = ⊎_elim (λ h. let s = lacks_missing es (beyond base set) starts b h in (s.0, further_missing s.0 s.1, s.2)) (λ q. let l = in_base q in (l.start, base_missing l.start l.missing, l.same)) of.which

    later : (s : Start) → IsMissing es starts (beyond base set) s → is_most b (lack_of s)
    later s m = of.each (lack_of s) (missing_lacks es (beyond base set) starts s m)

    before : (s : Start) → IsMissing es r.starts base s → is_most b (lack_of s)
    before s m = by r.least refl known.lacking where
      by : (o : Option Lack) → r.least ≡ o → IsLeastLack es r.starts base o → is_most b (lack_of s)
      by None q none = absurd (none s m)
      by (Some x) q l = upto lack_total b x (lack_of s) (of.kept x q) (subst (λ a. is_most a (lack_of s)) l.same (l.least s m))

  -- the least of the base's and of those beyond it is the least of all
  pub least_lack : (now : Option Lack) → now ≡ least_after (member_lacks es (beyond base set) es) (least_after (start_lacks es starts) r.least) → IsLeastLack es every set now
  least_lack None e = none_least (after-append (start_lacks es starts) (member_lacks es (beyond base set) es) r.least ∙ sym e)
  least_lack (Some b) e = some_least b (after-append (start_lacks es starts) (member_lacks es (beyond base set) es) r.least ∙ sym e)
