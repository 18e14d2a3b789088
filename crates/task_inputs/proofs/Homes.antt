-- Homes that lie apart, found by the names of their folders.
use Rattle.std.proofs.Common.{◌≡◌, ◌≢◌, ◌⊎◌, inl, inr, ◌&&◌, ◌||◌, ℕ, zero, suc, ◌+◌, ◌<◌, ◌≤◌, Bool, true, false, cond, List, [], ◌∷◌, ◌++◌, length, get_or, take, drop, map, refl, sym, ap, ◌∙◌, subst, arith}
use Rattle.std.specs.Prelude.{Option, Some, None, IsSome, Result, Ok, Err, IfOk, Vec, not}
use Rattle.std.specs.declared.alloc.Global.{Global}
use Rattle.std.specs.List.{slice_get, list_any, AllByRecursion, HoldsAt}
use Rattle.std.specs.Option.{option_map}
use Rattle.std.specs.Map.{lookup}
use Rattle.std.specs.BTreeMap.{insert_entry}
use Rattle.std.specs.Ordering.{is_eq, match_ordering}
use Rattle.std.specs.declared.cmp.Ordering.{Ordering}
use Rattle.std.specs.declared.cmp.Ordering.TheVariants.{Less, Equal, Greater}
use Rattle.std.proofs.Math.ListN.{take-append-drop, length-append}
use Rattle.std.proofs.lemmas.Bool.{false≢true, cases_eq, eqb-true}
use Rattle.std.proofs.lemmas.List.{map_more, length-map, take_all}
use Rattle.std.proofs.lemmas.Option.{slice_get_within, get_or_from_slice_get, slice_get-get_or}
use Rattle.rel_path.specs.Paths.{Path, name_eq, path_eq, path_cmp, strip}
use Rattle.rel_path.proofs.PathLaws.{path_ties, path_same, path_self, name_same, name_self, strip_is, strip_append}
use Rattle.globs.specs.Outputs.{declares}
use Rattle.workspaces.specs.declared.member.Package.{Package}
use Rattle.workspaces.specs.Space.{Space, IsProper, owners, root_package, is_home_of, is_root_folder, lies_in_some, lies_below, is_proper, manifest_in, manifest_name}
use Rattle.workspaces.proofs.Owners.{owners_count, package_slot, root_slot}
use Rattle.task_definitions.specs.Setup.{Setup}
use Rattle.task_inputs.specs.Homes.{Home, Configured, home_of, folders_of, configured_in, LieApart, declared_in}
use Rattle.task_inputs.specs.Facts.{place_by, home_place, is_manifest_in, may_count_in}
use Rattle.task_inputs.specs.Folders.{Folders, number_at, AreHomes, AreIndexed, Numbers, IsFound, IsHomeOf}

never : {X : Type 0} (x : X) (o : Option X) → o ≡ None → o ≡ Some x → ⊥
never x o none some = cc

-- ---- look-ups after an insertion

abbrev Key : Type 0
Key = Vec (List ℕ) Global

abbrev key_cmp : Key → Key → Ordering
key_cmp a b = path_cmp a.items b.items

abbrev at_key : Path → Key → Bool
at_key folder key = is_eq (path_cmp folder key.items)

at_same : (folder : Path) (key : Key) → at_key folder key ≡ true → folder ≡ key.items
at_same folder key e = path_same folder key.items (path_ties folder key.items ∙ e)

order_same : (a b : Path) → path_cmp a b ≡ Equal → a ≡ b
order_same a b e = path_same a b (path_ties a b ∙ ap is_eq e)

order_self : (a : Path) → is_eq (path_cmp a a) ≡ true
order_self a = sym (path_ties a a) ∙ path_self a

not_both : (folder : Path) (key other : Key) → key_cmp key other ≡ Greater → at_key folder other ≡ true → at_key folder key ≡ true → ⊥
not_both folder key other g a b =
    let equal : is_eq (key_cmp key other) ≡ true = rw (← at_same folder key b, ← at_same folder other a) (order_self folder) in
    false≢true (sym (ap is_eq g) ∙ equal)

module _ {V : Type 0} where
  twice : (t : Bool) (a b last : Option V) → cond t a last ≡ cond t a (cond t b last)
  twice true a b last = refl
  twice false a b last = refl

  swapped : (s t : Bool) (a b last : Option V) → (s ≡ true → t ≡ true → ⊥) → cond s a (cond t b last) ≡ cond t b (cond s a last)
  swapped true true a b last never = absurd (never refl refl)
  swapped true false a b last never = refl
  swapped false t a b last never = refl

  match_cases : (folder : Path) (e : Key × V) (es : List (Key × V)) (key : Key) (v : V) (o : Ordering) → key_cmp key e.0 ≡ o → lookup (at_key folder) (insert_entry key_cmp es key v) ≡ cond (at_key folder key) (Some v) (lookup (at_key folder) es)
      → lookup (at_key folder) (match_ordering o ((key, v) ∷ e ∷ es) ((e.0, v) ∷ es) (e ∷ insert_entry key_cmp es key v)) ≡ cond (at_key folder key) (Some v) (lookup (at_key folder) (e ∷ es))
  match_cases folder e es key v Less is h = refl
  match_cases folder e es key v Equal is h =
      let same : at_key folder key ≡ at_key folder e.0 = ap (λ names. is_eq (path_cmp folder names)) (order_same key.items e.0.items is) in
      rw same (twice (at_key folder e.0) (Some v) (Some e.1) (lookup (at_key folder) es))
  match_cases folder e es key v Greater is h =
      rw h (swapped (at_key folder e.0) (at_key folder key) (Some e.1) (Some v) (lookup (at_key folder) es) (not_both folder key e.0 is))

  lookup_inserted : (folder : Path) (entries : List (Key × V)) (key : Key) (v : V) → lookup (at_key folder) (insert_entry key_cmp entries key v) ≡ cond (at_key folder key) (Some v) (lookup (at_key folder) entries)
  lookup_inserted folder [] key v = refl
  lookup_inserted folder (e ∷ es) key v = match_cases folder e es key v (key_cmp key e.0) refl (lookup_inserted folder es key v)

-- what stands by a folder when a number was put by one
pub number_put : (folder other : Path) (old new : Folders) (key : Key) (number : ℕ) → key.items ≡ folder → new.entries ≡ insert_entry key_cmp old.entries key number → number_at new other ≡ cond (path_eq other folder) (Some number) (number_at old other)
number_put folder other old new key number names is =
    ap (lookup (at_key other)) is ∙ lookup_inserted other old.entries key number ∙ ap (λ b. cond b (Some number) (number_at old other)) (sym (path_ties other key.items) ∙ ap (path_eq other) names)

-- ---- numbers of owners, the first so many of them

some_or : (b : Bool) (number : ℕ) (old : Option ℕ) → IsSome old → IsSome (cond b (Some number) old)
some_or true number old there = refl
some_or false number old there = there

module _ (members : List Package) (count : ℕ) (folder : Path) (old new : Folders) (less : count < length members) (its : (d : Package) → folder ≡ (get_or members count d).folder)
    (put : (other : Path) → number_at new other ≡ cond (path_eq other folder) (Some count) (number_at old other)) where
  first : (d : Package) → slice_get members count ≡ Some (get_or members count d)
  first d = slice_get-get_or members count d less

  with_one : Package → Numbers members count old → Numbers members (count + 1) new
  with_one d n = record {
    sound = λ other place at. by other place (path_eq other folder) refl (sym (put other) ∙ at);
    whole = λ place p below at. elim (cases_eq place count) [
      | inl e ↦ subst IsSome (sym (put p.folder)) (subst (λ b. IsSome (cond b (Some count) (number_at old p.folder))) (sym (here place p e at)) refl)
      | inr ne ↦ subst IsSome (sym (put p.folder)) (some_or (path_eq p.folder folder) count (number_at old p.folder) (n.whole place p (omega (arith, below, ne)) at))
    ];
  } where
    by : (other : Path) (place : ℕ) (b : Bool) → path_eq other folder ≡ b → cond b (Some count) (number_at old other) ≡ Some place → (place < count + 1) × (p : Package) × (slice_get members place ≡ Some p) × (p.folder ≡ other)
    by other place true e at =
        let same : count ≡ place = cc in
        (omega (arith, same), get_or members count d, subst (λ k. slice_get members k ≡ Some (get_or members count d)) same (first d), sym (its d) ∙ sym (path_same other folder e))
    by other place false e at = let s = n.sound other place at in let l : place < count = s.0 in (omega (arith, l), s.1, s.2, s.3)

    here : (place : ℕ) (p : Package) → place ≡ count → slice_get members place ≡ Some p → path_eq p.folder folder ≡ true
    here place p e at =
        let is : get_or members count p ≡ p = get_or_from_slice_get members count p p (subst (λ k. slice_get members k ≡ Some p) e at) in
        rw (its p, is) (path_self p.folder)

  pub one_numbered : Numbers members count old → Numbers members (count + 1) new
  one_numbered n = by members refl less where
    by : (ps : List Package) → ps ≡ members → count < length members → Numbers members (count + 1) new
    by [] e l = absurd (omega (arith, ap length e))
    by (d ∷ ps) e l = with_one d n

-- ---- homes by their places

pub get-map : {X Y : Type 0} (f : X → Y) (xs : List X) (i : ℕ) → slice_get (map f xs) i ≡ option_map f (slice_get xs i)
get-map f [] i = refl
get-map f (x ∷ xs) zero = refl
get-map f (x ∷ xs) (suc i) = get-map f xs i

-- the element that a mapped one came from
pub got-map : {X Y : Type 0} (f : X → Y) (xs : List X) (i : ℕ) (y : Y) → slice_get (map f xs) i ≡ Some y → (x : X) × (slice_get xs i ≡ Some x) × (f x ≡ y)
got-map f [] i y at = cc
got-map f (x ∷ xs) zero y at = (x, refl, cc)
got-map f (x ∷ xs) (suc i) y at = got-map f xs i y at

pub any-map : {X Y : Type 0} (f : X → Y) (test : Y → Bool) (xs : List X) → list_any test (map f xs) ≡ list_any (λ x. test (f x)) xs
any-map f test [] = refl
any-map f test (x ∷ xs) = ap (λ b. test (f x) || b) (any-map f test xs)

all_get : {X : Type 0} (P : X → Type 0) (xs : List X) (i : ℕ) (x : X) → AllByRecursion P xs → slice_get xs i ≡ Some x → P x
all_get P [] i x all at = absurd (never x None refl at)
all_get P (y ∷ ys) zero x all at = let same : y ≡ x = cc in subst P same all.0
all_get P (y ∷ ys) (suc i) x all at = all_get P ys i x all.1 at

root_is : (folder : Path) → is_root_folder folder ≡ true → folder ≡ []
root_is [] e = refl
root_is (name ∷ names) e = absurd (omega (arith, eqb-true (length (name ∷ names)) 0 e))

pub some_same : {X : Type 0} (x y : X) → Some x ≡ Some y → x ≡ y
some_same x y e = cc

module _ (setup : Setup) (space : Space) (apart : LieApart space.packages) (proper : IsProper space) where
  abbrev homes_of : List Home
  homes_of = map (home_of setup) (owners space)

  inner_at : (i : ℕ) (p : Package) → i < length space.packages → slice_get (owners space) i ≡ Some p → slice_get space.packages i ≡ Some p
  inner_at i p less at = sym (package_slot space i less) ∙ at

  -- the owner of a home that is the root's comes last
  alone_at : (i : ℕ) (p : Package) → slice_get (owners space) i ≡ Some p → is_root_folder p.folder ≡ true → i ≡ length space.packages
  alone_at i p at is_root = elim (cases_eq i (length space.packages)) [
    | inl e ↦ e
    | inr ne ↦
        let within : i < length (owners space) = slice_get_within (owners space) i p at in
        let less : i < length space.packages = omega (arith, within, owners_count space, ne) in
        absurd (all_get (λ (m : Package). m.folder ≢ []) space.packages i p proper.below_root (inner_at i p less at) (root_is p.folder is_root))
  ]

  apart_at : (i j : ℕ) (p q : Package) → i < j → j < length space.packages → slice_get (owners space) i ≡ Some p → slice_get (owners space) j ≡ Some q → (strip p.folder q.folder ≡ None) × (strip q.folder p.folder ≡ None)
  apart_at i j p q less below at_i at_j =
      let is_p = get_or_from_slice_get space.packages i p p (inner_at i p (omega (arith, less, below)) at_i) in
      let is_q = get_or_from_slice_get space.packages j q p (inner_at j q below at_j) in
      let both = apart i j p less below in
      (rw (is_p, is_q) at both.0, rw (is_p, is_q) at both.1)

  pub homes_are : AreHomes homes_of
  homes_are = record {
    last = length space.packages;
    count = length-map (owners space) (home_of setup) ∙ owners_count space;
    root = home_of setup (root_package space.root);
    stands = get-map (home_of setup) (owners space) (length space.packages) ∙ ap (option_map (home_of setup)) (root_slot space);
    at_root = refl;
    alone = λ i a at is_root.
        let p = got-map (home_of setup) (owners space) i a at in
        alone_at i p.0 p.1 (ap (λ (h : Home). is_root_folder h.folder) p.2 ∙ is_root);
    apart = λ i j a b less below at_i at_j.
        let p = got-map (home_of setup) (owners space) i a at_i in
        let q = got-map (home_of setup) (owners space) j b at_j in
        let both = apart_at i j p.0 q.0 less below p.1 q.1 in
        let fold_p : p.0.folder ≡ a.folder = ap (λ (h : Home). h.folder) p.2 in
        let fold_q : q.0.folder ≡ b.folder = ap (λ (h : Home). h.folder) q.2 in
        (rw (fold_p, fold_q) at both.0, rw (fold_p, fold_q) at both.1);
  }

pub not_true : (b : Bool) → (b ≡ true → ⊥) → b ≡ false
not_true true never = absurd (never refl)
not_true false never = refl

module _ (homes : List Home) (are : AreHomes homes) where
  -- where the folder is not the root's the home is not the last
  inner_less : (i : ℕ) (a : Home) → slice_get homes i ≡ Some a → is_root_folder a.folder ≡ false → i < are.last
  inner_less i a at inner = elim (cases_eq i are.last) [
    | inl e ↦
        let same : a ≡ are.root = some_same a are.root (sym at ∙ ap (slice_get homes) e ∙ are.stands) in
        absurd (false≢true (sym inner ∙ ap (λ (h : Home). is_root_folder h.folder) same ∙ are.at_root))
    | inr ne ↦ let within = slice_get_within homes i a at in omega (arith, within, are.count, ne)
  ]

  less_inner : (i : ℕ) (a : Home) → slice_get homes i ≡ Some a → i < are.last → is_root_folder a.folder ≡ false
  less_inner i a at less = not_true (is_root_folder a.folder) (λ e. absurd (omega (arith, less, are.alone i a at e)))

pub indexed : (setup : Setup) (members : List Package) (count : ℕ) (folders : Folders) → length members ≡ count + 1 → AreHomes (map (home_of setup) members) → Numbers members count folders → AreIndexed (map (home_of setup) members) folders
indexed setup members count folders long are n = record {
  sound = λ folder place at.
      let p = n.sound folder place at in
      let here : slice_get homes place ≡ Some (home_of setup p.1) = get-map (home_of setup) members place ∙ ap (option_map (home_of setup)) p.2 in
      let less : place < count = p.0 in
      record { home = home_of setup p.1; stands = here; here = p.3; inner = ap is_root_folder (sym p.3) ∙ less_inner homes are place (home_of setup p.1) here (omega (arith, less, are.count, same, long)) };
  whole = λ place home at inner.
      let p = got-map (home_of setup) members place home at in
      let less = inner_less homes are place home at inner in
      subst (λ (h : Home). IsSome (number_at folders h.folder)) p.2 (n.whole place p.0 (omega (arith, less, are.count, same, long)) p.1);
  are = are;
} where
  homes : List Home
  homes = map (home_of setup) members

  same : length homes ≡ length members
  same = length-map members (home_of setup)

-- ---- two folders above one path

clash : (a b path r s : Path) → strip a path ≡ Some r → strip b path ≡ Some s → strip a b ≡ None → strip b a ≡ None → ⊥
clash [] b path r s ea eb nab nba = never b (Some b) nab refl
clash (x ∷ xs) [] path r s ea eb nab nba = never (x ∷ xs) (Some (x ∷ xs)) nba refl
clash (x ∷ xs) (y ∷ ys) [] r s ea eb nab nba = never r None refl ea
clash (x ∷ xs) (y ∷ ys) (n ∷ ns) r s ea eb nab nba = by (name_eq x n) refl (name_eq y n) refl ea eb (clash xs ys ns r s) where
  by : (t : Bool) → name_eq x n ≡ t → (u : Bool) → name_eq y n ≡ u → cond t (strip xs ns) None ≡ Some r → cond u (strip ys ns) None ≡ Some s → (strip xs ns ≡ Some r → strip ys ns ≡ Some s → strip xs ys ≡ None → strip ys xs ≡ None → ⊥) → ⊥
  by false e u f a b inner = never r None refl a
  by true e false f a b inner = never s None refl b
  by true e true f a b inner =
      let same : x ≡ y = name_same x n e ∙ sym (name_same y n f) in
      let xy : name_eq x y ≡ true = rw (← same) (name_self x) in
      let yx : name_eq y x ≡ true = rw same (name_self y) in
      inner a b (ap (λ v. cond v (strip xs ys) None) (sym xy) ∙ nab) (ap (λ v. cond v (strip ys xs) None) (sym yx) ∙ nba)

-- what lies below a folder is more than it
pub below_is : (path folder : Path) → lies_below path folder ≡ true → (name : List ℕ) × (names : Path) × (strip folder path ≡ Some (name ∷ names))
below_is path folder below = by (strip folder path) refl below where
  by : (o : Option Path) → strip folder path ≡ o → is_proper o ≡ true → (name : List ℕ) × (names : Path) × (strip folder path ≡ Some (name ∷ names))
  by None e p = absurd (false≢true p)
  by (Some []) e p = absurd (false≢true p)
  by (Some (name ∷ names)) e p = (name, names, e)

pub no_two : (homes : List Home) (path : Path) (are : AreHomes homes) (i j : ℕ) (a b : Home) → i < j → j < are.last → slice_get homes i ≡ Some a → slice_get homes j ≡ Some b → lies_below path a.folder ≡ true → lies_below path b.folder ≡ true → ⊥
no_two homes path are i j a b less below at_i at_j below_a below_b =
    let x = below_is path a.folder below_a in
    let y = below_is path b.folder below_b in
    let both = are.apart i j a b less below at_i at_j in
    clash a.folder b.folder path (x.0 ∷ x.1) (y.0 ∷ y.1) x.2 y.2 both.0 both.1

-- ---- the home of a path

take_front : (front : Path) (rest : Path) → take (length front) (front ++ rest) ≡ front
take_front [] rest = refl
take_front (f ∷ fs) rest = ap (λ ns. f ∷ ns) (take_front fs rest)

strip_take : (path : Path) (depth : ℕ) → depth < length path → lies_below path (take depth path) ≡ true
strip_take path depth less = by (drop depth path) refl where
  by : (rest : Path) → drop depth path ≡ rest → lies_below path (take depth path) ≡ true
  by [] e = absurd (omega (arith, ap length (sym (take-append-drop depth path)), length-append (take depth path) (drop depth path), ap length e, length_take_le depth path, less)) where
    length_take_le : (n : ℕ) (ns : Path) → length (take n ns) ≤ n
    length_take_le zero ns = omega arith
    length_take_le (suc n) [] = omega arith
    length_take_le (suc n) (m ∷ ms) = let more = length_take_le n ms in omega (arith, more)
  by (name ∷ rest) e =
      let whole : path ≡ take depth path ++ (name ∷ rest) = sym (take-append-drop depth path) ∙ ap (λ r. take depth path ++ r) e in
      let cut : strip (take depth path) path ≡ Some (name ∷ rest) = ap (strip (take depth path)) whole ∙ strip_append (take depth path) (name ∷ rest) in
      ap is_proper cut

pub all_by_get : {X : Type 0} (P : X → Type 0) (xs : List X) → ((i : ℕ) (x : X) → slice_get xs i ≡ Some x → P x) → AllByRecursion P xs
all_by_get P [] each = tt
all_by_get P (x ∷ xs) each = (each 0 x refl, all_by_get P xs (λ i y at. each (suc i) y at))

and_true : (a : Bool) → (a && true) ≡ a
and_true true = refl
and_true false = refl

and_both : (a b : Bool) → (a && b) ≡ true → (a ≡ true) × (b ≡ true)
and_both true b e = (refl, e)
and_both false b e = absurd (false≢true e)

no_both : (b : Bool) → not b ≡ true → b ≡ true → ⊥
no_both true e f = absurd (false≢true e)
no_both false e f = absurd (false≢true f)

-- of two folders, one the root's and one not, and a path
module _ (folders : List Path) (folder path : Path) where
  its_below : is_home_of folders folder path ≡ true → lies_below path folder ≡ true
  unfolding is_home_of
  its_below e = (and_both (lies_below path folder) (not (is_root_folder folder && lies_in_some folders path)) e).0

  inner_its : is_root_folder folder ≡ false → is_home_of folders folder path ≡ lies_below path folder
  unfolding is_home_of
  inner_its inner = ap (λ r. lies_below path folder && not (r && lies_in_some folders path)) inner ∙ and_true (lies_below path folder)

  root_its : is_root_folder folder ≡ true → lies_below path folder ≡ true → lies_in_some folders path ≡ false → is_home_of folders folder path ≡ true
  unfolding is_home_of
  root_its root below none = rw (root, below, none) refl

  root_alone : is_root_folder folder ≡ true → is_home_of folders folder path ≡ true → lies_in_some folders path ≡ true → ⊥
  unfolding is_home_of
  root_alone root e inside = no_both (is_root_folder folder && lies_in_some folders path) (and_both (lies_below path folder) (not (is_root_folder folder && lies_in_some folders path)) e).1 (rw (root, inside) refl)

below_root : (path : Path) (folder : Path) → is_root_folder folder ≡ true → 0 < length path → lies_below path folder ≡ true
below_root path folder e long = ap (lies_below path) (root_is folder e) ∙ by path long where
  by : (names : Path) → 0 < length names → lies_below names [] ≡ true
  by [] l = absurd (omega (arith, l))
  by (name ∷ names) l = refl

some_above : (homes : List Home) (path : Path) (i : ℕ) (h : Home) → slice_get homes i ≡ Some h → is_root_folder h.folder ≡ false → lies_below path h.folder ≡ true → lies_in_some (folders_of homes) path ≡ true
some_above [] path i h at inner below = absurd (never h None refl at)
some_above (x ∷ xs) path zero h at inner below =
    let same : x ≡ h = cc in
    rw (same, inner, below) refl
some_above (x ∷ xs) path (suc i) h at inner below =
    rw (some_above xs path i h at inner below) (or_true (not (is_root_folder x.folder) && lies_below path x.folder)) where
      or_true : (b : Bool) → (b || true) ≡ true
      or_true true = refl
      or_true false = refl

any_none : {X : Type 0} (test : X → Bool) (xs : List X) → ((i : ℕ) (x : X) → slice_get xs i ≡ Some x → test x ≡ false) → list_any test xs ≡ false
any_none test [] each = refl
any_none test (x ∷ xs) each = rw (each 0 x refl, any_none test xs (λ i y at. each (suc i) y at)) refl

module _ (homes : List Home) (folders : Folders) (path : Path) (ix : AreIndexed homes folders) where
  pub home_of_number : (place : ℕ) → IsFound folders path (Some place) → IsHomeOf homes path (Some place)
  home_of_number place is =
      let at = ix.sound (take is.0 path) place is.2 in
      (at.home, at.stands, rw at.here (inner_its (folders_of homes) (take is.0 path) path at.inner ∙ strip_take path is.0 is.1))

  none_above : IsFound folders path None → (i : ℕ) (h : Home) → slice_get homes i ≡ Some h → (not (is_root_folder h.folder) && lies_below path h.folder) ≡ false
  none_above none i h at = by (is_root_folder h.folder) refl (lies_below path h.folder) refl where
    by : (r : Bool) → is_root_folder h.folder ≡ r → (b : Bool) → lies_below path h.folder ≡ b → (not r && b) ≡ false
    by true r b e = refl
    by false r false e = refl
    by false r true e =
        let x = below_is path h.folder e in
        let is : path ≡ h.folder ++ (x.0 ∷ x.1) = strip_is h.folder path (x.0 ∷ x.1) x.2 in
        let front : take (length h.folder) path ≡ h.folder = ap (take (length h.folder)) is ∙ take_front h.folder (x.0 ∷ x.1) in
        let less : length h.folder < length path = omega (arith, ap length is, length-append h.folder (x.0 ∷ x.1)) in
        let there : IsSome (number_at folders h.folder) = ix.whole i h at r in
        absurd (false≢true (subst IsSome (ap (number_at folders) (sym front) ∙ none (length h.folder) less) there))

  -- where no folder above the path has a number, the root is its home
  pub home_at_root : (place : ℕ) → 0 < length path → length homes ≡ place + 1 → IsFound folders path None → IsHomeOf homes path (Some place)
  home_at_root place long count none =
      let are = ix.are in
      let last : are.last ≡ place = omega (arith, count, are.count) in
      let alone : lies_in_some (folders_of homes) path ≡ false =
      any-map (λ (h : Home). h.folder) (λ f. not (is_root_folder f) && lies_below path f) homes ∙ any_none (λ (h : Home). not (is_root_folder h.folder) && lies_below path h.folder) homes (none_above none) in
      (are.root, subst (λ k. slice_get homes k ≡ Some are.root) last are.stands, root_its (folders_of homes) are.root.folder path are.at_root (below_root path are.root.folder are.at_root long) alone)

-- the root folder has no home
pub home_of_none : (homes : List Home) (path : Path) → length path ≡ 0 → IsHomeOf homes path None
home_of_none homes [] none = all_by_get (λ (h : Home). is_home_of (folders_of homes) h.folder [] ≡ false) homes (λ i h at. not_true (is_home_of (folders_of homes) h.folder []) (λ e. false≢true (sym (nothing h.folder) ∙ its_below (folders_of homes) h.folder [] e))) where
  nothing : (folder : Path) → lies_below [] folder ≡ false
  nothing [] = refl
  nothing (name ∷ names) = refl
home_of_none homes (name ∷ names) none = absurd (omega (arith, none))

-- a path has one home
module _ (homes : List Home) (path : Path) (are : AreHomes homes) where
  root_only : (a b : Home) (j : ℕ) → is_root_folder a.folder ≡ true → is_home_of (folders_of homes) a.folder path ≡ true → slice_get homes j ≡ Some b → is_root_folder b.folder ≡ false → is_home_of (folders_of homes) b.folder path ≡ true → ⊥
  root_only a b j root its at inner its_b = root_alone (folders_of homes) a.folder path root its (some_above homes path j b at inner (its_below (folders_of homes) b.folder path its_b))

  pub only_home : (place : ℕ) (home : Home) → slice_get homes place ≡ Some home → is_home_of (folders_of homes) home.folder path ≡ true → (i : ℕ) (h : Home) → slice_get homes i ≡ Some h → is_home_of (folders_of homes) h.folder path ≡ true → i ≡ place
  only_home place home at its i h at_h its_h = by (is_root_folder home.folder) refl (is_root_folder h.folder) refl where
    split : (a b : ℕ) → a ≢ b → (a < b) ⊎ (b < a)
    split zero zero ne = absurd (ne refl)
    split zero (suc b) ne = inl (omega arith)
    split (suc a) zero ne = inr (omega arith)
    split (suc a) (suc b) ne = elim (split a b (λ e. ne (ap suc e))) [ inl l ↦ inl (omega (arith, l)) | inr r ↦ inr (omega (arith, r)) ]

    below : lies_below path home.folder ≡ true
    below = its_below (folders_of homes) home.folder path its

    below_h : lies_below path h.folder ≡ true
    below_h = its_below (folders_of homes) h.folder path its_h

    by : (r : Bool) → is_root_folder home.folder ≡ r → (s : Bool) → is_root_folder h.folder ≡ s → i ≡ place
    by true r true s = are.alone i h at_h s ∙ sym (are.alone place home at r)
    by true r false s = absurd (root_only home h i r its at_h s its_h)
    by false r true s = absurd (root_only h home place s its_h at r its)
    by false r false s = elim (cases_eq i place) [
      | inl e ↦ e
      | inr ne ↦ absurd (elim (split i place ne) [
        | inl less ↦ no_two homes path are i place h home less (inner_less homes are place home at r) at_h at below_h below
        | inr more ↦ no_two homes path are place i home h more (inner_less homes are i h at_h s) at at_h below below_h
      ])
    ]

-- ---- what is declared in the home

none_passes : (P Q : Home → Bool) (homes : List Home) → AllByRecursion (λ h. P h ≡ false) homes → list_any (λ h. P h && Q h) homes ≡ false
none_passes P Q [] all = refl
none_passes P Q (h ∷ hs) all = rw (all.0, none_passes P Q hs all.1) refl

alone : (P Q : Home → Bool) (homes : List Home) (place : ℕ) (home : Home) → slice_get homes place ≡ Some home → P home ≡ true → ((i : ℕ) (h : Home) → slice_get homes i ≡ Some h → P h ≡ true → i ≡ place) → list_any (λ h. P h && Q h) homes ≡ Q home
alone P Q [] place home at holds only = cc
alone P Q (h ∷ hs) zero home at holds only =
    let same : h ≡ home = cc in
    rw (same, holds) (or_none (Q home) (none hs (λ i x at_x px. absurd (omega (arith, only (suc i) x at_x px))))) where
      or_none : (a : Bool) {b : Bool} → b ≡ false → (a || b) ≡ a
      or_none true e = refl
      or_none false e = e

      none : (xs : List Home) → ((i : ℕ) (x : Home) → slice_get xs i ≡ Some x → P x ≡ true → ⊥) → list_any (λ x. P x && Q x) xs ≡ false
      none [] never = refl
      none (x ∷ xs) never = by (P x) refl (none xs (λ i y at_y py. never (suc i) y at_y py)) where
        by : (b : Bool) → P x ≡ b → list_any (λ y. P y && Q y) xs ≡ false → ((b && Q x) || list_any (λ y. P y && Q y) xs) ≡ false
        by true e more = absurd (never 0 x refl e)
        by false e more = more
alone P Q (h ∷ hs) (suc place) home at holds only = by (P h) refl (alone P Q hs place home at holds (λ i x at_x px. let e = only (suc i) x at_x px in omega (arith, e))) where
  by : (b : Bool) → P h ≡ b → list_any (λ x. P x && Q x) hs ≡ Q home → ((b && Q h) || list_any (λ x. P x && Q x) hs) ≡ Q home
  by true e more = absurd (omega (arith, only 0 h refl e))
  by false e more = more

abbrev pub tasks_declare : Path → Home → Bool
tasks_declare path home = list_any (λ (t : Configured). declares t.outputs home.folder path) home.tasks

abbrev pub is_its : List Home → Path → Home → Bool
is_its homes path home = is_home_of (folders_of homes) home.folder path

module _ (path : Path) (homes : List Home) where
  pub declared_none : IsHomeOf homes path None → declared_in homes path ≡ false
  unfolding declared_in
  declared_none none = none_passes (is_its homes path) (tasks_declare path) homes none

  pub declared_alone : (place : ℕ) → AreHomes homes → (is : IsHomeOf homes path (Some place)) → declared_in homes path ≡ tasks_declare path is.0
  unfolding declared_in
  declared_alone place are is = alone (is_its homes path) (tasks_declare path) homes place is.0 is.1 is.2 (only_home homes path are place is.0 is.1 is.2)

-- ---- the homes of owners, one after another

pub made_of : {E : Type 0} (setup : Setup) (space : Space) (o : ℕ) (folder : Path) (name : List ℕ) (scripts : List (List ℕ × List ℕ)) (result : Result Home E) → HoldsAt (λ p. folder ≡ p.folder) (owners space) o → HoldsAt (λ p. name ≡ p.name) (owners space) o
    → HoldsAt (λ p. scripts ≡ p.manifest.scripts) (owners space) o → IfOk result (λ home. home ≡ record { folder = folder; tasks = configured_in setup name scripts }) → IfOk result (λ home. HoldsAt (λ p. home ≡ home_of setup p) (owners space) o)
made_of setup space o folder name scripts (Ok home) folders names all is = λ d. is ∙ rw (folders d, names d, all d) refl
made_of setup space o folder name scripts (Err e) folders names all is = tt

pub home_more : (setup : Setup) (members : List Package) (p : ℕ) (made : Home) (old new : List Home) → p < length members → ((d : Package) → made ≡ home_of setup (get_or members p d))
    → old ≡ map (home_of setup) (take p members) → new ≡ old ++ made ∷ [] → new ≡ map (home_of setup) (take (p + 1) members)
home_more setup members p made old new less is before more = by members refl less where
  by : (ps : List Package) → ps ≡ members → p < length members → new ≡ map (home_of setup) (take (p + 1) members)
  by [] e l = absurd (omega (arith, ap length e))
  by (d ∷ ps) e l = more ∙ ap (λ hs. hs ++ made ∷ []) before ∙ ap (λ h. map (home_of setup) (take p members) ++ h ∷ []) (is d) ∙ sym (map_more (home_of setup) members p d l)

pub homes_whole : (setup : Setup) (members : List Package) (count : ℕ) (homes : List Home) → length members ≤ count → homes ≡ map (home_of setup) (take count members) → homes ≡ map (home_of setup) members
homes_whole setup members count homes le is = is ∙ ap (map (home_of setup)) (take_all count members le)

-- ---- the place of the home, and what may count

pub place_is : (homes : List Home) (path : Path) (found : Option ℕ) → AreHomes homes → IsHomeOf homes path found → found ≡ home_place homes path
unfolding home_place
place_is homes path None are none = sym (no_place homes none) where
  no_place : (hs : List Home) → AllByRecursion (λ (h : Home). is_its homes path h ≡ false) hs → place_by (is_its homes path) hs ≡ None
  no_place [] all = refl
  no_place (h ∷ hs) all = rw (all.0, no_place hs all.1) refl
place_is homes path (Some place) are is = sym (found homes place is.0 is.1 is.2 (only_home homes path are place is.0 is.1 is.2)) where
  found : (hs : List Home) (n : ℕ) (home : Home) → slice_get hs n ≡ Some home → is_its homes path home ≡ true → ((i : ℕ) (h : Home) → slice_get hs i ≡ Some h → is_its homes path h ≡ true → i ≡ n) → place_by (is_its homes path) hs ≡ Some n
  found [] n home at its only = cc
  found (h ∷ hs) zero home at its only = let same : h ≡ home = cc in rw (same, its) refl
  found (h ∷ hs) (suc n) home at its only =
      by (is_its homes path h) refl (found hs n home at its (λ i x at_x b. let e = only (suc i) x at_x b in omega (arith, e))) where
        by : (b : Bool) → is_its homes path h ≡ b → place_by (is_its homes path) hs ≡ Some n → cond b (Some 0) (option_map suc (place_by (is_its homes path) hs)) ≡ Some (suc n)
        by true e more = absurd (omega (arith, only 0 h refl e))
        by false e more = rw more refl

below_file : (folder : Path) (name : List ℕ) → lies_below (folder ++ name ∷ []) folder ≡ true
below_file folder name = ap is_proper (strip_append folder (name ∷ []))

-- a single name lies below no folder but the root's
name_alone : (folders : List Path) (name : List ℕ) → lies_in_some folders (name ∷ []) ≡ false
name_alone folders name = any_none (λ f. not (is_root_folder f) && lies_below (name ∷ []) f) folders (λ i f at. one f) where
  one : (f : Path) → (not (is_root_folder f) && lies_below (name ∷ []) f) ≡ false
  one [] = refl
  one (x ∷ xs) = rw (below xs) (and_none (not (is_root_folder (x ∷ xs)))) where
    and_none : (a : Bool) → (a && false) ≡ false
    and_none true = refl
    and_none false = refl

    by : (b : Bool) (o : Option Path) → is_proper o ≡ false → is_proper (cond b o None) ≡ false
    by true o e = e
    by false o e = refl

    below : (ns : Path) → lies_below (name ∷ []) (x ∷ ns) ≡ false
    below [] = by (name_eq x name) (Some []) refl
    below (n ∷ ns) = by (name_eq x name) None refl

-- a file that stands in the folder has its home there
pub file_its : (folders : List Path) (folder path : Path) (name : List ℕ) → path_eq path (folder ++ name ∷ []) ≡ true → is_home_of folders folder path ≡ true
file_its folders folder path name e = ap (is_home_of folders folder) (path_same path (folder ++ name ∷ []) e) ∙ by (is_root_folder folder) refl where
  by : (r : Bool) → is_root_folder folder ≡ r → is_home_of folders folder (folder ++ name ∷ []) ≡ true
  by false r = inner_its folders folder (folder ++ name ∷ []) r ∙ below_file folder name
  by true r =
      let here : folder ++ name ∷ [] ≡ name ∷ [] = ap (λ f. f ++ name ∷ []) (root_is folder r) in
      root_its folders folder (folder ++ name ∷ []) r (below_file folder name) (ap (lies_in_some folders) here ∙ name_alone folders name)

abbrev pub is_manifest_of : Path → Home → Bool
is_manifest_of path home = not (is_root_folder home.folder) && path_eq path (manifest_in home.folder)

guarded : (P M : Home → Bool) (homes : List Home) → ((h : Home) → M h ≡ true → P h ≡ true) → list_any M homes ≡ list_any (λ h. P h && M h) homes
guarded P M [] within = refl
guarded P M (h ∷ hs) within = by (M h) refl (guarded P M hs within) where
  by : (b : Bool) → M h ≡ b → list_any M hs ≡ list_any (λ x. P x && M x) hs → (b || list_any M hs) ≡ ((P h && b) || list_any (λ x. P x && M x) hs)
  by true e more = rw (within h e) refl
  by false e more = more ∙ sym (no_left (P h) (list_any (λ x. P x && M x) hs)) where
    no_left : (a b : Bool) → ((a && false) || b) ≡ b
    no_left true b = refl
    no_left false b = refl

module _ (path : Path) (homes : List Home) where
  manifest_its : (h : Home) → is_manifest_of path h ≡ true → is_its homes path h ≡ true
  manifest_its h e = file_its (folders_of homes) h.folder path manifest_name (and_both (not (is_root_folder h.folder)) (path_eq path (manifest_in h.folder)) e).1

  manifests : is_manifest_in homes path ≡ list_any (λ (h : Home). is_its homes path h && is_manifest_of path h) homes
  manifests = guarded (is_its homes path) (is_manifest_of path) homes manifest_its

  pub may_count_none : IsHomeOf homes path None → may_count_in homes path ≡ true
  unfolding may_count_in
  may_count_none none = rw (declared_none path homes none, manifests, none_passes (is_its homes path) (is_manifest_of path) homes none) refl

  pub may_count_some : (place : ℕ) → AreHomes homes → (is : IsHomeOf homes path (Some place)) → may_count_in homes path ≡ (not (tasks_declare path is.0) && not (is_manifest_of path is.0))
  unfolding may_count_in
  may_count_some place are is =
      rw (declared_alone path homes place are is, manifests, alone (is_its homes path) (is_manifest_of path) homes place is.0 is.1 is.2 (only_home homes path are place is.0 is.1 is.2)) refl
