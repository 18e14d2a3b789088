-- A listing of any files stands in order.
use Rattle.std.proofs.Common.{◌≡◌, ◌<◌, ℕ, zero, suc, Bool, true, false, cond, ◌||◌, List, [], ◌∷◌, map, filter, get_or, refl, sym, ap, ◌∙◌, subst}
use Rattle.std.specs.Prelude.{Option, Some, None, is_some}
use Rattle.std.specs.Option.{option_map}
use Rattle.std.specs.Ordering.{is_lt}
use Rattle.std.specs.List.{list_any, slice_get, cons_option, AllByRecursion}
use Rattle.std.specs.List.Sorted.{IsStrictlySortedBy}
use Rattle.std.specs.declared.cmp.Ordering.TheVariants.{Less}
use Rattle.std.proofs.lemmas.Bool.{false≢true, or_left, or_right}
use Rattle.serde_json.specs.Data.{Data}
use Rattle.rel_path.specs.Paths.{Path, path_eq, path_cmp, is_among}
use Rattle.rel_path.specs.Files.{FileMap, file_at, has}
use Rattle.rel_path.proofs.PathLaws.{path_same}
use Rattle.spawn_dev.specs.Orders.{IsAscending, IsBefore, AscendByPath}
use Rattle.workspaces.specs.Space.{Space, owner_named}
use Rattle.task_definitions.specs.Setup.{Setup}
use Rattle.listing.specs.declared.part.Part.{Part}
use Rattle.listing.specs.declared.part.Listing.{Listing}
use Rattle.run_laws.specs.Ancestors.{blank}
use Rattle.run_laws.specs.Closures.{names}
use Rattle.run_laws.specs.Valid.{IsOrderedPart, IsOrdered}
use Rattle.collect.specs.declared.wanted.Wanted.{Wanted}
use Rattle.collect.specs.Parts.{IsPart, takes_input}
use Rattle.collect.specs.Listings.{ArePaired, with_bytes, takes_in, takes_by, is_needed, needed, IsListing}
use Rattle.collect.specs.Laws.{CanBeListed, HoldsInputs}
use Rattle.collect.proofs.Lists.{paired_at, paired_back, list_at}
use Rattle.collect.proofs.Asked.{file_known, among_filter, among_get}
use Rattle.collect.proofs.Whole.{and_left, filter_among, sorted_filter}

-- ---- lists

pub any_found : {X : Type 0} (test : X → Bool) (xs : List X) → list_any test xs ≡ true → (i : ℕ) × (x : X) × (slice_get xs i ≡ Some x) × (test x ≡ true)
any_found test [] e = absurd (false≢true e)
any_found {X = X} test (x ∷ xs) e = by (test x) refl e (any_found test xs) where
  by : (b : Bool) → test x ≡ b → (b || list_any test xs) ≡ true → (list_any test xs ≡ true → (i : ℕ) × (y : X) × (slice_get xs i ≡ Some y) × (test y ≡ true)) → (i : ℕ) × (y : X) × (slice_get (x ∷ xs) i ≡ Some y) × (test y ≡ true)
  by true t f more = (0, x, refl, t)
  by false t f more = let m = more f in (suc m.0, m.1, m.2, m.3)

pub any_from : {X : Type 0} (test : X → Bool) (xs : List X) (i : ℕ) (x : X) → slice_get xs i ≡ Some x → test x ≡ true → list_any test xs ≡ true
any_from test [] i x at t = cc
any_from test (y ∷ xs) zero x at t = let same : y ≡ x = cc in or_left (test y) (list_any test xs) (ap test same ∙ t)
any_from test (y ∷ xs) (suc i) x at t = or_right (test y) (list_any test xs) (any_from test xs i x at t)

pub all_get : {X : Type 0} (P : X → Type 0) (xs : List X) (i : ℕ) (x : X) → slice_get xs i ≡ Some x → AllByRecursion P xs → P x
all_get P [] i x at all = cc
all_get P (y ∷ xs) zero x at all = let same : y ≡ x = cc in subst P same all.0
all_get P (y ∷ xs) (suc i) x at all = all_get P xs i x at all.1

pub filter_test : (test : Path → Bool) (walk : List Path) (p : Path) → is_among (filter test walk) p ≡ true → test p ≡ true
filter_test test [] p e = absurd (false≢true e)
filter_test test (w ∷ walk) p e = by (test w) refl (path_eq w p) refl e (filter_test test walk p) where
  by : (a : Bool) → test w ≡ a → (b : Bool) → path_eq w p ≡ b → is_among (cond a (w ∷ filter test walk) (filter test walk)) p ≡ true → (is_among (filter test walk) p ≡ true → test p ≡ true) → test p ≡ true
  by true t true f e more = ap test (sym (path_same w p f)) ∙ t
  by true t false f e more = more (ap (λ b. b || is_among (filter test walk) p) (sym f) ∙ e)
  by false t b f e more = more e

-- ---- files in order

is_before : (p q : Path) → path_cmp p q ≡ Less → IsBefore p q
is_before p q e = ap is_lt e

befores : (p : Path) (paths : List Path) → AllByRecursion (λ q. path_cmp p q ≡ Less) paths → AllByRecursion (IsBefore p) paths
befores p [] all = tt
befores p (q ∷ paths) all = (is_before p q all.0, befores p paths all.1)

pub paths_ascend : (paths : List Path) → IsStrictlySortedBy path_cmp paths → IsAscending IsBefore paths
unfolding IsStrictlySortedBy
paths_ascend [] sorted = tt
paths_ascend (p ∷ paths) sorted = (befores p paths sorted.0, paths_ascend paths sorted.1)

all_bytes : (P : Path → Type 0) (files : FileMap) (paths : List Path) → AllByRecursion P paths → AllByRecursion (λ f. P f.0) (with_bytes files paths)
all_bytes P files [] all = tt
all_bytes P files (p ∷ paths) all = by (files p) (all_bytes P files paths all.1) where
  by : (o : Option (List ℕ)) → AllByRecursion (λ f. P f.0) (with_bytes files paths) → AllByRecursion (λ f. P f.0) (cons_option (option_map (λ bytes. (p, bytes)) o) (with_bytes files paths))
  by None more = more
  by (Some bytes) more = (all.0, more)

bytes_ascend : (files : FileMap) (paths : List Path) → IsAscending IsBefore paths → AscendByPath (with_bytes files paths)
bytes_ascend files [] up = tt
bytes_ascend files (p ∷ paths) up = by (files p) (bytes_ascend files paths up.1) where
  by : (o : Option (List ℕ)) → AscendByPath (with_bytes files paths) → AscendByPath (cons_option (option_map (λ bytes. (p, bytes)) o) (with_bytes files paths))
  by None more = more
  by (Some bytes) more = (all_bytes (IsBefore p) files paths up.0, more)

-- ---- parts and tasks

same_deps : (R : Wanted → Part → Type 0) → ((w : Wanted) (part : Part) → R w part → part.deps ≡ w.deps) → (wanted : List Wanted) (parts : List Part) (i : ℕ) → ArePaired R wanted parts → (get_or parts i blank).deps ≡ get_or (map (λ (w : Wanted). w.deps) wanted) i []
same_deps R deps [] [] i p = refl
same_deps R deps [] (part ∷ parts) i p = absurd p
same_deps R deps (w ∷ wanted) [] i p = absurd p
same_deps R deps (w ∷ wanted) (part ∷ parts) zero p = deps w part p.0
same_deps R deps (w ∷ wanted) (part ∷ parts) (suc i) p = same_deps R deps wanted parts i p.1

module _ (setup : Setup) (space : Space) (lock : Option Data) (files : FileMap) (walk : List Path) (env : List (List ℕ × List ℕ)) (wanted : List Wanted) (l : Listing) (can : CanBeListed space walk wanted) (is : IsListing setup space lock files walk env wanted l) where
  -- an input of a part is a walked file that its task takes
  pub naming : (path : Path) → names l.parts path ≡ true
      → (i : ℕ) × (w : Wanted) × (part : Part) × (r : IsPart setup space lock files walk env w part) × (slice_get wanted i ≡ Some w) × (is_among walk path ≡ true) × (takes_input setup space files walk r.member r.def path ≡ true)
  naming path e =
      let found = any_found (λ (part : Part). is_among part.inputs path) l.parts e in
      let back = paired_back (IsPart setup space lock files walk env) wanted l.parts found.0 found.1 is.parts found.2 in
      let r = back.2 in
      let among : is_among (filter (takes_input setup space files walk r.member r.def) walk) path ≡ true = ap (λ ps. is_among ps path) (sym r.inputs) ∙ found.3 in
      (found.0, back.0, found.1, r, back.1, filter_among (takes_input setup space files walk r.member r.def) walk path among, filter_test (takes_input setup space files walk r.member r.def) walk path among)

  among_needed : (path : Path) → names l.parts path ≡ true → is_among (needed setup space files walk wanted) path ≡ true
  unfolding needed
  among_needed path e =
      let n = naming path e in
      let takes : takes_in (takes_input setup space files walk) setup n.1 path (owner_named space n.1.id.«package») ≡ true =
      ap (λ o. takes_in (takes_input setup space files walk) setup n.1 path o) n.3.stands ∙ ap (λ o. takes_by (takes_input setup space files walk) path n.3.member o) n.3.defined ∙ n.6 in
      among_filter (is_needed setup space files walk wanted) walk path n.5 (any_from (λ (w : Wanted). takes_in (takes_input setup space files walk) setup w path (owner_named space w.id.«package»)) wanted n.0 n.1 n.4 takes)

  file_there : (path : Path) → names l.parts path ≡ true → file_at l.files path ≡ files path
  file_there path e = ap (λ fs. file_at fs path) is.files_are ∙ file_known files (needed setup space files walk wanted) path ∙ ap (λ b. cond b (files path) None) (among_needed path e)

  pub holds_inputs : HoldsInputs files l
  holds_inputs path e = sym (file_there path e)

  present : (path : Path) → names l.parts path ≡ true → is_some (file_at l.files path) ≡ true
  present path e = ap is_some (file_there path e) ∙ and_left (has files path) _ (naming path e).6

  -- what some task takes is an input of its part
  named_part : (path : Path) → is_among walk path ≡ true → is_needed setup space files walk wanted path ≡ true → names l.parts path ≡ true
  named_part path among e =
      let found = any_found (λ (w : Wanted). takes_in (takes_input setup space files walk) setup w path (owner_named space w.id.«package»)) wanted e in
      let part = paired_at (IsPart setup space lock files walk env) wanted l.parts found.0 found.1 is.parts found.2 in
      let r = part.2 in
      let takes : takes_input setup space files walk r.member r.def path ≡ true =
      sym (ap (λ o. takes_in (takes_input setup space files walk) setup found.1 path o) r.stands ∙ ap (λ o. takes_by (takes_input setup space files walk) path r.member o) r.defined) ∙ found.3 in
      let named : is_among part.0.inputs path ≡ true = ap (λ ps. is_among ps path) r.inputs ∙ among_filter (takes_input setup space files walk r.member r.def) walk path among takes in
      any_from (λ (p : Part). is_among p.inputs path) l.parts found.0 part.0 part.1 named

  named : AllByRecursion (λ f. names l.parts f.0 ≡ true) l.files
  unfolding needed
  named = subst (λ fs. AllByRecursion (λ f. names l.parts f.0 ≡ true) fs) (sym is.files_are)
      (all_bytes (λ path. names l.parts path ≡ true) files (needed setup space files walk wanted)
      (list_at (λ path. names l.parts path ≡ true) (filter (is_needed setup space files walk wanted) walk)
      (λ i path at. let among = among_get (filter (is_needed setup space files walk wanted) walk) i path at in
      named_part path (filter_among (is_needed setup space files walk wanted) walk path among) (filter_test (is_needed setup space files walk wanted) walk path among))))

  ascend : AscendByPath l.files
  unfolding needed
  ascend = subst AscendByPath (sym is.files_are) (bytes_ascend files (filter (is_needed setup space files walk wanted) walk) (paths_ascend (filter (is_needed setup space files walk wanted) walk) (sorted_filter (is_needed setup space files walk wanted) walk can.ascend)))

  part_ordered : (i : ℕ) (part : Part) → slice_get l.parts i ≡ Some part → IsOrderedPart part
  part_ordered i part at =
      let back = paired_back (IsPart setup space lock files walk env) wanted l.parts i part is.parts at in
      let r = back.2 in
      record {
        home = ap (λ o. o.folder) r.outs ∙ sym r.folder;
        inputs = subst (IsAscending IsBefore) (sym r.inputs) (paths_ascend (filter (takes_input setup space files walk r.member r.def) walk) (sorted_filter (takes_input setup space files walk r.member r.def) walk can.ascend));
        deps = subst (λ (ds : List ℕ). IsAscending (λ a b. a < b) ds) (sym r.deps) (all_get (λ (w : Wanted). IsAscending (λ a b. a < b) w.deps) wanted i back.0 back.1 can.deps);
      }

  pub is_ordered : IsOrdered l
  is_ordered = record {
    ascend = ascend;
    named = named;
    present = present;
    lower = λ i. subst (λ (ds : List ℕ). AllByRecursion (λ d. d < i) ds) (sym (same_deps (IsPart setup space lock files walk env) (λ w part r. r.deps) wanted l.parts i is.parts)) (can.lower i);
    parts = list_at IsOrderedPart l.parts part_ordered;
  }
