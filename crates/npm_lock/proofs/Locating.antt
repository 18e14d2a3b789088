-- Sets of numbers as sets of locations: what is reached by number is the least set of locations.
use Rattle.std.proofs.Common.{◌≡◌, inl, inr, ⊎_elim, ◌<◌, ℕ, zero, suc, Bool, true, false, cond, List, [], ◌∷◌, ◌++◌, length, get_or, map, replicate, Option, Some, None, is_some, option_map, option_and_then, refl, sym, ap, ◌∙◌, subst, arith}
use Rattle.std.specs.Prelude.{IfSome}
use Rattle.std.proofs.lemmas.Bool.{cases_Bool, cases_lt, false≢true}
use Rattle.std.proofs.lemmas.List.{get_or-map, get_or_past, length-map, length-replicate}
use Rattle.rel_path.proofs.PathLaws.{name_same}
use Rattle.rel_path.specs.Paths.{name_eq}
use Rattle.lock_entries.specs.declared.entry.Name.{Name}
use Rattle.lock_entries.specs.declared.entry.Entry.{Entry}
use Rattle.lock_entries.specs.Lockfile.{locations, Ascend}
use Rattle.npm_lock.specs.declared.start.Start.{Start}
use Rattle.npm_lock.specs.Sets.{Has}
use Rattle.npm_lock.specs.Lookup.{number_of, has, first, places, found, found_number}
use Rattle.npm_lock.specs.Finds.{found_by, root_of}
use Rattle.npm_lock.specs.Reach.{is_set, finds_at, HoldsItsFinds, IsClosedUnder, IsReached, AreBelow, AllBelow, flag_of, set_of}
use Rattle.npm_lock.specs.Externals.{lookup_of, LooksUp, IsClosed, IsExternals, Reach, IsReachAmong}
use Rattle.npm_lock.proofs.Numbers.{number_here, number_is}
use Rattle.npm_lock.proofs.Reaching.{has_left, has_right, has_append, set_below, none_set, finds_below as all_below}

-- ---- lists

pub same_at : {X : Type 0} (xs : List X) (i : ℕ) (d e : X) → i < length xs → get_or xs i d ≡ get_or xs i e
same_at [] i d e lt = absurd (omega (arith, lt))
same_at (x ∷ xs) zero d e lt = refl
same_at (x ∷ xs) (suc i) d e lt = same_at xs i d e (omega (arith, lt))

pub has_at : {X : Type 0} (xs : List X) (i : ℕ) (x : X) → i < length xs → x ≡ get_or xs i x → Has xs x
has_at [] i x lt e = absurd (omega (arith, lt))
has_at (y ∷ xs) zero x lt e = inl (sym e)
has_at (y ∷ xs) (suc i) x lt e = inr (has_at xs i x (omega (arith, lt)) e)

pub at_has : {X : Type 0} (xs : List X) (x : X) → Has xs x → (i : ℕ) × (i < length xs) × (x ≡ get_or xs i x)
at_has [] x h = absurd h
at_has (y ∷ xs) x (inl e) = (0, omega arith, sym e)
at_has (y ∷ xs) x (inr h) = let k = at_has xs x h in (suc k.0, omega (arith, k.1), k.2)

pub nth : {X : Type 0} (xs : List X) (i : ℕ) → i < length xs → (x : X) × (x ≡ get_or xs i x)
nth [] i lt = absurd (omega (arith, lt))
nth (x ∷ xs) zero lt = (x, refl)
nth (x ∷ xs) (suc i) lt = nth xs i (omega (arith, lt))

pub has_map : {X Y : Type 0} (f : X → Y) (xs : List X) (x : X) → Has xs x → Has (map f xs) (f x)
has_map f [] x h = absurd h
has_map f (y ∷ xs) x (inl e) = inl (ap f e)
has_map f (y ∷ xs) x (inr h) = inr (has_map f xs x h)

pub map_has : {X Y : Type 0} (f : X → Y) (xs : List X) (y : Y) → Has (map f xs) y → (x : X) × Has xs x × (f x ≡ y)
map_has f [] y h = absurd h
map_has f (x ∷ xs) y (inl e) = (x, inl refl, e)
map_has f (x ∷ xs) y (inr h) = let k = map_has f xs y h in (k.0, inr k.1, k.2)

pub map_at : {X Y : Type 0} (f : X → Y) (xs : List X) (i : ℕ) (x : X) (d : Y) → i < length xs → x ≡ get_or xs i x → get_or (map f xs) i d ≡ f x
map_at f xs i x d lt e = get_or-map f xs i x d lt ∙ ap f (sym e)

-- ---- what is found

some_from : {X : Type 0} (o : Option X) → is_some o ≡ true → (x : X) × (o ≡ Some x)
some_from None e = absurd (false≢true e)
some_from (Some x) e = (x, refl)

first-test : (test : List ℕ → Bool) (ps : List (List ℕ)) (l : List ℕ) → first test ps ≡ Some l → test l ≡ true
first-test test [] l e = absurd (cc)
first-test test (p ∷ ps) l e =
    elim (cases_Bool (test p)) [
      | inl t ↦ let same : p ≡ l = let h : Some p ≡ Some l = rw t at e in cc in ap test (sym same) ∙ t
      | inr f ↦ first-test test ps l (rw f at e)
    ]

module _ (es : List Entry) (from name : List ℕ) where
  -- a location that is found has a number, which is found
  pub found_some : (l : List ℕ) → found es from name ≡ Some l → (n : ℕ) × (number_of es l ≡ Some n) × (found_number es from name ≡ Some n)
  unfolding found found_number
  found_some l e =
      let n = some_from (number_of es l) (first-test (has es) (places from name) l e) in
      (n.0, n.1, ap (option_and_then (number_of es)) e ∙ n.1)

  both : (o : Option (List ℕ)) (n : ℕ) → option_and_then (number_of es) o ≡ Some n → (l : List ℕ) × (o ≡ Some l) × (number_of es l ≡ Some n)
  both None n e = absurd (cc)
  both (Some l) n e = (l, refl, e)

  pub number_some : (n : ℕ) → found_number es from name ≡ Some n → (l : List ℕ) × (found es from name ≡ Some l) × (number_of es l ≡ Some n)
  unfolding found_number
  number_some n e = both (found es from name) n e

  -- nothing is found exactly where no number is
  pub found_none : found es from name ≡ None → found_number es from name ≡ None
  unfolding found_number
  found_none e = ap (option_and_then (number_of es)) e

  pub number_none : found_number es from name ≡ None → found es from name ≡ None
  number_none e = by (found es from name) refl where
    by : (o : Option (List ℕ)) → found es from name ≡ o → o ≡ None
    by None h = refl
    by (Some l) h = let n = found_some l h in absurd (let z : None ≡ Some n.0 = sym e ∙ n.2 in cc)

  pub number_below : (n : ℕ) → found_number es from name ≡ Some n → n < length es
  number_below n e = let l = number_some n e in (number_is es l.0 n l.2).0

pub is_below : (es : List Entry) (from name : List ℕ) (o : Option ℕ) → o ≡ found_number es from name → IfSome o (λ n. n < length es)
is_below es from name None e = tt
is_below es from name (Some n) e = number_below es from name n (sym e)

-- ---- numbers and locations

abbrev location_at : List Entry → ℕ → List ℕ
location_at es n = get_or (locations es) n []

some_suc : (o : Option ℕ) (n : ℕ) → option_map suc o ≡ Some n → (m : ℕ) × (o ≡ Some m) × (n ≡ suc m)
some_suc None n e = absurd (cc)
some_suc (Some m) n e = (m, refl, cc)

location_is : (es : List Entry) (l : List ℕ) (n : ℕ) → number_of es l ≡ Some n → location_at es n ≡ l
location_is [] l n e = absurd (cc)
location_is (x ∷ es) l n e = by (name_eq x.location l) refl e (location_is es l) where
  by : (b : Bool) → name_eq x.location l ≡ b → cond b (Some 0) (option_map suc (number_of es l)) ≡ Some n → ((m : ℕ) → number_of es l ≡ Some m → location_at es m ≡ l) → location_at (x ∷ es) n ≡ l
  by true same is more = let z : 0 ≡ n = cc in rw (← z) (name_same x.location l same)
  by false other is more = let s = some_suc (number_of es l) n is in rw s.2 (more s.0 s.1)

pub number_at : (es : List Entry) (i : ℕ) (e : Entry) → Ascend es → i < length es → e ≡ get_or es i e → number_of es e.location ≡ Some i
number_at es i e up lt at = number_here es i e.location up lt (λ d. ap (λ (x : Entry). x.location) (same_at es i d e lt ∙ sym at))

pub flag_at : (es : List Entry) (bits : List Bool) (i : ℕ) (e : Entry) → Ascend es → i < length es → e ≡ get_or es i e → set_of es bits e.location ≡ is_set bits i
flag_at es bits i e up lt at = ap (flag_of bits) (number_at es i e up lt at)

flag_some : (bits : List Bool) (o : Option ℕ) → flag_of bits o ≡ true → (n : ℕ) × (o ≡ Some n) × (is_set bits n ≡ true)
flag_some bits None e = absurd (false≢true e)
flag_some bits (Some n) e = (n, refl, e)

-- ---- what the names of an entry find

pub by_names : (es : List Entry) (e : Entry) → e.link ≡ None → found_by es e ≡ map (λ n. found_number es e.location n.text) e.names
unfolding found_by
by_names es e no_link = rw no_link refl

by_link : (es : List Entry) (e : Entry) (m : ℕ) → Has (found_by es e) (Some m) → e.link ≡ None
unfolding found_by
by_link es e m = by e.link where
  by : (o : Option (List ℕ)) → Has (cond (is_some o) [] (map (λ (n : Name). found_number es e.location n.text) e.names)) (Some m) → o ≡ None
  by None h = refl
  by (Some l) h = absurd h

pub found_by-length : (es : List Entry) (e : Entry) → e.link ≡ None → length (found_by es e) ≡ length e.names
found_by-length es e no_link = ap length (by_names es e no_link) ∙ length-map e.names (λ (n : Name). found_number es e.location n.text)

below_map : {X : Type 0} (size : ℕ) (f : X → Option ℕ) → ((x : X) (n : ℕ) → f x ≡ Some n → n < size) → (xs : List X) → AreBelow size (map f xs)
below_map size f below [] = tt
below_map size f below (x ∷ xs) = by (f x) refl (below_map size f below xs) where
  by : (o : Option ℕ) → f x ≡ o → AreBelow size (map f xs) → AreBelow size (o ∷ map f xs)
  by None e rest = rest
  by (Some n) e rest = (below x n e, rest)

module _ (es : List Entry) where
  pub roots_below : (starts : List Start) → AreBelow (length es) (map (root_of es) starts)
  roots_below starts = below_map (length es) (root_of es) (λ s n e. number_below es s.from s.name n e) starts

  entry_below : (e : Entry) → AreBelow (length es) (found_by es e)
  unfolding found_by
  entry_below e = by e.link where
    by : (o : Option (List ℕ)) → AreBelow (length es) (cond (is_some o) [] (map (λ (n : Name). found_number es e.location n.text) e.names))
    by None = below_map (length es) (λ (n : Name). found_number es e.location n.text) (λ n m e'. number_below es e.location n.text m e') e.names
    by (Some l) = tt

  pub finds_below : (xs : List Entry) → AllBelow (length es) (map (found_by es) xs)
  finds_below [] = tt
  finds_below (x ∷ xs) = (entry_below x, finds_below xs)

-- ---- by number and by location

-- a number of the finds is one of the entries
below_has : (size : ℕ) (found : List (Option ℕ)) (m : ℕ) → AreBelow size found → Has found (Some m) → m < size
below_has size [] m below h = absurd h
below_has size (None ∷ found) m below (inl e) = absurd (cc)
below_has size (None ∷ found) m below (inr h) = below_has size found m below h
below_has size (Some k ∷ found) m below (inl e) = let same : k ≡ m = cc in rw (← same) below.0
below_has size (Some k ∷ found) m below (inr h) = below_has size found m below.1 h

module _ (es : List Entry) where
  abbrev finds : List (List (Option ℕ))
  finds = map (found_by es) es

  entry_at : (n m : ℕ) → Has (finds_at finds n) (Some m) → n < length es
  entry_at n m h = ⊎_elim (λ lt. lt) (λ ge. absurd (subst (λ f. Has f (Some m)) (get_or_past finds n [] (omega (arith, ge, length-map es (found_by es)))) h)) (cases_lt n (length es))

  find_below : (n m : ℕ) → Has (finds_at finds n) (Some m) → m < length es
  find_below n m h = below_has (length es) (finds_at finds n) m (all_below (length es) finds (finds_below es es) n) h

  location_of : (n : ℕ) (e : Entry) → n < length es → e ≡ get_or es n e → location_at es n ≡ e.location
  location_of n e lt at = get_or-map (λ (x : Entry). x.location) es n e [] lt ∙ ap (λ (x : Entry). x.location) (sym at)

  -- the flag of a number is that of its location
  flag_there : (up : Ascend es) (bits : List Bool) (n : ℕ) → n < length es → set_of es bits (location_at es n) ≡ is_set bits n
  flag_there up bits n lt = let e = nth es n lt in ap (set_of es bits) (location_of n e.0 lt e.1) ∙ flag_at es bits n e.0 up lt e.1

-- what a closed set of locations is, by number
module _ (es : List Entry) (starts : List Start) (other : List ℕ → Bool) (is_closed : IsClosed es starts other) where
  other_found : (s : Start) → LooksUp es starts other s → (n : ℕ) → found_number es s.from s.name ≡ Some n → other (location_at es n) ≡ true
  unfolding IsClosed
  other_found s looks n e = let l = number_some es s.from s.name n e in rw (location_is es l.0 n l.2) (is_closed s looks l.0 l.1)

  from_entry : (n m : ℕ) (e : Entry) → n < length es → e ≡ get_or es n e → other (location_at es n) ≡ true → Has (finds_at (finds es) n) (Some m) → other (location_at es m) ≡ true
  from_entry n m e lt at t h =
      let here : Has (found_by es e) (Some m) = subst (λ f. Has f (Some m)) (map_at (found_by es) es n e [] lt at) h in
      let no_link = by_link es e m here in
      let k = map_has (λ (x : Name). found_number es e.location x.text) e.names (Some m) (subst (λ f. Has f (Some m)) (by_names es e no_link) here) in
      other_found (lookup_of e k.0) (inr (record { entry = e; among = has_at es n e lt at; is_member = ap other (sym (location_of es n e lt at)) ∙ t; no_link = no_link; name = k.0; named = k.1; same = refl })) m k.2

  holds_finds : HoldsItsFinds (finds es) (λ n. other (location_at es n))
  holds_finds n m t h = let lt = entry_at es n m h in let e = nth es n lt in from_entry n m e.0 lt e.1 t h

-- what is closed under more starts is closed under some of them
pub closed_fewer : (es : List Entry) (more starts : List Start) (set : List ℕ → Bool) → IsClosed es (more ++ starts) set → IsClosed es starts set
unfolding IsClosed
closed_fewer es more starts set closed s (inl among) l e = closed s (inl (has_right more starts s among)) l e
closed_fewer es more starts set closed s (inr m) l e = closed s (inr m) l e

module _ (es : List Entry) (up : Ascend es) (base : Reach) (known : IsReachAmong es base) where
  base_below : (n : ℕ) → is_set base.set n ≡ true → n < length es
  base_below n t = omega (arith, set_below base.set n t, known.size)

  -- what the base's numbers find is in the base
  pub base_holds : HoldsItsFinds (finds es) (is_set base.set)
  base_holds n m t h =
      sym (flag_there es up base.set m (find_below es n m h))
      ∙ holds_finds es base.starts (set_of es base.set) known.externals.0 n m (flag_there es up base.set n (base_below n t) ∙ t) h

  -- ---- the theorem

  module _ (starts : List Start) (bits : List Bool) (reached : IsReached (finds es) base.set (map (root_of es) starts) bits) where
    set_there : (l : List ℕ) (n : ℕ) → number_of es l ≡ Some n → is_set bits n ≡ true → set_of es bits l ≡ true
    set_there l n e t = ap (flag_of bits) e ∙ t

    base_there : (l : List ℕ) → set_of es base.set l ≡ true → set_of es bits l ≡ true
    base_there l t = let n = flag_some base.set (number_of es l) t in set_there l n.0 n.1 (reached.least.0.begun n.0 n.2)

    closed : IsClosed es (starts ++ base.starts) (set_of es bits)
    unfolding IsClosed
    closed s (inl among) l e = ⊎_elim started before (has_append starts base.starts s among) where
      started : Has starts s → set_of es bits l ≡ true
      started h =
          let n = found_some es s.from s.name l e in
          set_there l n.0 n.1 (reached.least.0.rooted n.0 (subst (Has (map (root_of es) starts)) n.2 (has_map (root_of es) starts s h)))

      before : Has base.starts s → set_of es bits l ≡ true
      before h = base_there l (known.externals.0 s (inl h) l e)
    closed s (inr m) l e =
        let e' : found es m.entry.location m.name.text ≡ Some l = ap (λ (t : Start). found es t.from t.name) m.same ∙ e in
        let n = found_some es m.entry.location m.name.text l e' in
        let at = at_has es m.entry m.among in
        let here : is_set bits at.0 ≡ true = sym (flag_at es bits at.0 m.entry up at.1 at.2) ∙ m.is_member in
        let finds_here : finds_at (finds es) at.0 ≡ map (λ (x : Name). found_number es m.entry.location x.text) m.entry.names = map_at (found_by es) es at.0 m.entry [] at.1 at.2 ∙ by_names es m.entry m.no_link in
        let there : Has (finds_at (finds es) at.0) (Some n.0) = rw finds_here (subst (Has (map (λ (x : Name). found_number es m.entry.location x.text) m.entry.names)) n.2 (has_map (λ (x : Name). found_number es m.entry.location x.text) m.entry.names m.name m.named)) in
        set_there l n.0 n.1 (reached.least.0.members at.0 n.0 here there)

    module _ (other : List ℕ → Bool) (is_closed : IsClosed es (starts ++ base.starts) other) where
      closed_under : IsClosedUnder (finds es) base.set (map (root_of es) starts) (λ n. other (location_at es n))
      closed_under = record {
        begun = λ n t. known.externals.1 other (closed_fewer es starts base.starts other is_closed) (location_at es n) (flag_there es up base.set n (base_below n t) ∙ t);
        rooted = λ n h. let k = map_has (root_of es) starts (Some n) h in other_found es (starts ++ base.starts) other is_closed k.0 (inl (has_left starts base.starts k.0 k.1)) n k.2;
        members = holds_finds es (starts ++ base.starts) other is_closed;
      }

      least : (l : List ℕ) → set_of es bits l ≡ true → other l ≡ true
      least l t =
          let n = flag_some bits (number_of es l) t in
          subst (λ x. other x ≡ true) (location_is es l n.0 n.1) (reached.least.1 (λ k. other (location_at es k)) closed_under n.0 n.2)

    pub externals_reached : IsExternals es (starts ++ base.starts) (set_of es bits)
    externals_reached = (closed, least)

-- ---- from nothing

nothing_of : (es : List Entry) (n : ℕ) (l : List ℕ) → set_of es (replicate n false) l ≡ true → ⊥
nothing_of es n l t = let m = flag_some (replicate n false) (number_of es l) t in none_set n m.0 m.2

nothing_looked_up : (es : List Entry) (n : ℕ) (s : Start) → LooksUp es [] (set_of es (replicate n false)) s → ⊥
nothing_looked_up es n s (inl h) = h
nothing_looked_up es n s (inr m) = nothing_of es n m.entry.location m.is_member

pub nothing_reached : (es : List Entry) (r : Reach) → r.starts ≡ [] → r.set ≡ replicate (length es) false → r.least ≡ None → IsReachAmong es r
unfolding IsClosed
nothing_reached es r starts set least = record {
  size = ap length set ∙ length-replicate (length es) false;
  externals = rw (starts, set) (λ s looks l e. absurd (nothing_looked_up es (length es) s looks), λ other closed l t. absurd (nothing_of es (length es) l t));
  lacking = rw (starts, set, least) (λ s m. nothing_looked_up es (length es) s m.looked_up);
}
