-- Owners by their numbers.
use Rattle.std.proofs.Common.{◌≡◌, ◌<◌, ◌+◌, ◌||◌, ℕ, zero, suc, Bool, true, false, cond, List, [], ◌∷◌, ◌++◌, length, get_or, take, map, filter, refl, sym, ap, ◌∙◌, arith}
use Rattle.std.specs.Prelude.{Some, not}
use Rattle.std.specs.List.{AllByRecursion, HoldsAt, list_any, slice_get, cons_option, join_with_byte}
use Rattle.std.proofs.lemmas.List.{take_more, map-append}
use Rattle.std.proofs.lemmas.List.Elements.{filter_map-append, filter-append}
use Rattle.std.proofs.lemmas.List.Folds.{list_any-append}
use Rattle.std.proofs.lemmas.Option.{slice_get-get_or}
use Rattle.rel_path.specs.Paths.{Path}
use Rattle.workspaces.specs.declared.member.Package.{Package}
use Rattle.workspaces.specs.Lists.{places, passes_at}
use Rattle.workspaces.specs.Space.{Space, owners, root_package}
use Rattle.workspaces.proofs.Owners.{package_owner}
use Rattle.repository.specs.Reading.{Contents}
use Rattle.kept_packages.specs.Kept.{kept_places}
use Rattle.pruned_files.specs.declared.by_name.Side.{Side}
use Rattle.pruned_files.specs.declared.by_name.Side.TheVariants.{BeforeRoot, Root, BehindRoot}
use Rattle.pruned_files.specs.Calls.{owners_at, side_of, side_at, is_side, on_side, by_name}
use Rattle.pruned_files.specs.Cut.{kept_owners}
use Rattle.pruned_files.specs.Lacks.{is_before_root, owners_by_name}
use Rattle.pruned_files.proofs.Bools.{or_false}
use Rattle.pruned_files.proofs.Numbers.{got_places, got_all, places_behind, slot_front, slot_behind, passes_there, passes_behind, filter_swap, filter_none}

-- ---- the owners that stay

pub kept_at : (contents : Contents) (set : Path → Bool) → owners_at contents.space (kept_places contents set) ≡ kept_owners contents.space set
kept_at contents set = got_all (λ (p : Package). set p.folder) (owners contents.space) (slice_get (owners contents.space)) (λ n x e. e)

pub at_append : (space : Space) (ns ms : List ℕ) → owners_at space (ns ++ ms) ≡ owners_at space ns ++ owners_at space ms
at_append space ns ms = filter_map-append (slice_get (owners space)) ns ms

pub at_one : (space : Space) (n : ℕ) (d : Package) → n < length (owners space) → owners_at space (n ∷ []) ≡ get_or (owners space) n d ∷ []
at_one space n d lt = ap (λ o. cons_option o []) (slice_get-get_or (owners space) n d lt)

-- one number more
pub at_more : (space : Space) (numbers : List ℕ) (i : ℕ) (d : Package) → i < length numbers → get_or numbers i 0 < length (owners space)
    → owners_at space (take (i + 1) numbers) ≡ owners_at space (take i numbers) ++ get_or (owners space) (get_or numbers i 0) d ∷ []
at_more space numbers i d lt low =
    ap (owners_at space) (take_more numbers i 0 lt) ∙ at_append space (take i numbers) (get_or numbers i 0 ∷ []) ∙ ap (λ ps. owners_at space (take i numbers) ++ ps) (at_one space (get_or numbers i 0) d low)

-- what holds of some of them is told by a test of each
pub any_more : (test : Package → Bool) (space : Space) (numbers : List ℕ) (i : ℕ) (d : Package) (old new : Bool) → i < length numbers → get_or numbers i 0 < length (owners space) → old ≡ list_any test (owners_at space (take i numbers))
    → new ≡ (old || test (get_or (owners space) (get_or numbers i 0) d)) → new ≡ list_any test (owners_at space (take (i + 1) numbers))
any_more test space numbers i d old new lt low was is =
    is ∙ ap (λ b. b || test p) was ∙ ap (λ b. list_any test (owners_at space (take i numbers)) || b) (sym (or_false (test p)))
    ∙ sym (ap (list_any test) (at_more space numbers i d lt low) ∙ list_any-append test (owners_at space (take i numbers)) (p ∷ []))
  where
    p : Package
    p = get_or (owners space) (get_or numbers i 0) d

-- there is an owner
pub some_owner : (space : Space) → Package
some_owner space = root_package space.root

-- ---- in the order of their names

side_front : (space : Space) (n : ℕ) (p : Package) → slice_get space.packages n ≡ Some p → side_at space n ≡ side_of true (is_before_root p)
side_front space n p e = ap (λ b. side_of b (passes_at is_before_root space.packages n)) (passes_there (λ (q : Package). true) space.packages n p e) ∙ ap (side_of true) (passes_there is_before_root space.packages n p e)

pub side_root : (space : Space) → side_at space (length space.packages) ≡ Root
side_root space = ap (λ b. side_of b (passes_at is_before_root space.packages (length space.packages))) (passes_behind (λ (q : Package). true) space.packages)

-- the side of a package whose name is before that of the root, or is not
pub side_is : (space : Space) (n : ℕ) (before : Bool) → n < length space.packages → HoldsAt (λ p. before ≡ is_before_root p) (owners space) n → side_of true before ≡ side_at space n
side_is space n before lt its =
    let d = some_owner space in
    ap (side_of true) (its d ∙ ap is_before_root (package_owner space n d lt)) ∙ sym (side_front space n (get_or space.packages n d) (slice_get-get_or space.packages n d lt))

-- the root, if it stays and is looked for
abbrev root_if : Bool → Bool → Package → List Package
root_if stays here root = cond stays (cond here (root ∷ []) []) []

module _ (space : Space) (set : Path → Bool) where
  abbrev stays : Package → Bool
  stays p = set p.folder

  on_one_side : (side : Side) (of : Package → Bool) → ((p : Package) → is_side (side_of true (is_before_root p)) side ≡ of p)
      → owners_at space (on_side space side (places stays (owners space))) ≡ filter of (filter stays space.packages) ++ root_if (set []) (is_side Root side) (root_package space.root)
  on_one_side side of same =
      ap (λ ns. owners_at space (filter test ns)) (places_behind stays space.packages (root_package space.root))
      ∙ ap (owners_at space) (filter-append test front back)
      ∙ at_append space (filter test front) (filter test back)
      ∙ ap (λ ps. ps ++ owners_at space (filter test back)) (got_places stays space.packages (slice_get (owners space)) test of (λ n p e. slot_front space.packages (root_package space.root ∷ []) n p e) (λ n p e. ap (λ s. is_side s side) (side_front space n p e) ∙ same p))
      ∙ ap (λ ps. filter of (filter stays space.packages) ++ ps) (last (set []))
    where
      test : ℕ → Bool
      test n = is_side (side_at space n) side

      front : List ℕ
      front = places stays space.packages

      back : List ℕ
      back = cond (set []) (length space.packages ∷ []) []

      here : (b : Bool) → owners_at space (cond b (length space.packages ∷ []) []) ≡ cond b (root_package space.root ∷ []) []
      here true = ap (λ o. cons_option o []) (slot_behind space.packages (root_package space.root))
      here false = refl

      last : (b : Bool) → owners_at space (filter test (cond b (length space.packages ∷ []) [])) ≡ root_if b (is_side Root side) (root_package space.root)
      last true = ap (λ t. owners_at space (cond t (length space.packages ∷ []) [])) (ap (λ s. is_side s side) (side_root space)) ∙ here (is_side Root side)
      last false = refl

  abbrev root_there : List Package
  root_there = cond (set []) (root_package space.root ∷ []) []

  no_root : (b : Bool) → root_if b false (root_package space.root) ≡ []
  no_root true = refl
  no_root false = refl

  append_none : (ps : List Package) → ps ++ [] ≡ ps
  append_none [] = refl
  append_none (p ∷ ps) = ap (λ qs. p ∷ qs) (append_none ps)

  is_before_side : (b : Bool) → is_side (side_of true b) BeforeRoot ≡ b
  is_before_side true = refl
  is_before_side false = refl

  is_root_side : (b : Bool) → is_side (side_of true b) Root ≡ false
  is_root_side true = refl
  is_root_side false = refl

  is_behind_side : (b : Bool) → is_side (side_of true b) BehindRoot ≡ not b
  is_behind_side true = refl
  is_behind_side false = refl

  -- the packages before the root, the root, and those behind it
  abbrev pub in_order : List Package
  in_order = filter is_before_root (filter stays space.packages) ++ (root_there ++ filter (λ p. not (is_before_root p)) (filter stays space.packages))

  pub ordered : owners_at space (by_name space (places stays (owners space))) ≡ in_order
  ordered =
      let ns = places stays (owners space) in
      at_append space (on_side space BeforeRoot ns) (on_side space Root ns ++ on_side space BehindRoot ns)
      ∙ ap (λ ps. owners_at space (on_side space BeforeRoot ns) ++ ps) (at_append space (on_side space Root ns) (on_side space BehindRoot ns))
      ∙ ap (λ ps. ps ++ (owners_at space (on_side space Root ns) ++ owners_at space (on_side space BehindRoot ns)))
      (on_one_side BeforeRoot is_before_root (λ p. is_before_side (is_before_root p)) ∙ ap (λ ps. filter is_before_root (filter stays space.packages) ++ ps) (no_root (set [])) ∙ append_none (filter is_before_root (filter stays space.packages)))
      ∙ ap (λ ps. filter is_before_root (filter stays space.packages) ++ (ps ++ owners_at space (on_side space BehindRoot ns)))
      (on_one_side Root (λ p. false) (λ p. is_root_side (is_before_root p)) ∙ ap (λ ps. ps ++ root_there) (filter_none (filter stays space.packages)))
      ∙ ap (λ ps. filter is_before_root (filter stays space.packages) ++ (root_there ++ ps))
      (on_one_side BehindRoot (λ p. not (is_before_root p)) (λ p. is_behind_side (is_before_root p)) ∙ ap (λ ps. filter (λ p. not (is_before_root p)) (filter stays space.packages) ++ ps) (no_root (set [])) ∙ append_none (filter (λ p. not (is_before_root p)) (filter stays space.packages)))

  pub named_order : filter stays (owners_by_name space) ≡ in_order
  named_order =
      filter-append stays (filter is_before_root space.packages) (root_package space.root ∷ filter (λ p. not (is_before_root p)) space.packages)
      ∙ ap (λ ps. ps ++ filter stays (root_package space.root ∷ filter (λ p. not (is_before_root p)) space.packages)) (filter_swap stays is_before_root space.packages)
      ∙ ap (λ ps. filter is_before_root (filter stays space.packages) ++ ps) (split (set []) (filter stays (filter (λ p. not (is_before_root p)) space.packages)) ∙ ap (λ ps. root_there ++ ps) (filter_swap stays (λ p. not (is_before_root p)) space.packages))
    where
      split : (b : Bool) (ps : List Package) → cond b (root_package space.root ∷ ps) ps ≡ cond b (root_package space.root ∷ []) [] ++ ps
      split true ps = refl
      split false ps = refl

-- ---- numbers of owners that are there

below_append : (count : ℕ) (ns ms : List ℕ) → AllByRecursion (λ n. n < count) ns → AllByRecursion (λ n. n < count) ms → AllByRecursion (λ n. n < count) (ns ++ ms)
below_append count [] ms all more = more
below_append count (n ∷ ns) ms all more = (all.0, below_append count ns ms all.1 more)

below_part : (count : ℕ) (test : ℕ → Bool) (ns : List ℕ) → AllByRecursion (λ n. n < count) ns → AllByRecursion (λ n. n < count) (filter test ns)
below_part count test [] all = tt
below_part count test (n ∷ ns) all = by (test n) (below_part count test ns all.1) where
  by : (b : Bool) → AllByRecursion (λ n. n < count) (filter test ns) → AllByRecursion (λ n. n < count) (cond b (n ∷ filter test ns) (filter test ns))
  by true more = (all.0, more)
  by false more = more

pub below_named : (space : Space) (count : ℕ) (ns : List ℕ) → AllByRecursion (λ n. n < count) ns → AllByRecursion (λ n. n < count) (by_name space ns)
below_named space count ns all =
    below_append count (on_side space BeforeRoot ns) (on_side space Root ns ++ on_side space BehindRoot ns) (below_part count (λ n. is_side (side_at space n) BeforeRoot) ns all)
    (below_append count (on_side space Root ns) (on_side space BehindRoot ns) (below_part count (λ n. is_side (side_at space n) Root) ns all) (below_part count (λ n. is_side (side_at space n) BehindRoot) ns all))

pub below_at : (count : ℕ) (ns : List ℕ) (i : ℕ) → i < length ns → AllByRecursion (λ n. n < count) ns → get_or ns i 0 < count
below_at count [] i lt all = absurd (omega arith)
below_at count (n ∷ ns) zero lt all = all.0
below_at count (n ∷ ns) (suc i) lt all = below_at count ns i (omega arith) all.1

pub below_behind : (count : ℕ) (ns : List ℕ) (n : ℕ) (ms : List ℕ) → AllByRecursion (λ k. k < count) (ns ++ n ∷ ms) → (AllByRecursion (λ k. k < count) ns) × (n < count)
below_behind count [] n ms all = (tt, all.0)
below_behind count (k ∷ ns) n ms all = let more = below_behind count ns n ms all.1 in ((all.0, more.0), more.1)

-- ---- folders as texts

pub texts_more : (space : Space) (numbers : List ℕ) (i : ℕ) (folder : Path) (text : List ℕ) (old new : List (List ℕ)) → i < length numbers → AllByRecursion (λ n. n < length (owners space)) numbers
    → HoldsAt (λ p. folder ≡ p.folder) (owners space) (get_or numbers i 0) → text ≡ join_with_byte 47 folder → old ≡ map (λ p. join_with_byte 47 p.folder) (owners_at space (take i numbers)) → new ≡ old ++ text ∷ []
    → new ≡ map (λ p. join_with_byte 47 p.folder) (owners_at space (take (i + 1) numbers))
texts_more space numbers i folder text old new lt all its is was put =
    let d = some_owner space in
    put ∙ ap (λ l. l ++ text ∷ []) was ∙ ap (λ t. map (λ (p : Package). join_with_byte 47 p.folder) (owners_at space (take i numbers)) ++ t ∷ []) (is ∙ ap (join_with_byte 47) (its d))
    ∙ sym (ap (map (λ (p : Package). join_with_byte 47 p.folder)) (at_more space numbers i d lt (below_at (length (owners space)) numbers i lt all))
    ∙ map-append (λ (p : Package). join_with_byte 47 p.folder) (owners_at space (take i numbers)) (get_or (owners space) (get_or numbers i 0) d ∷ []))
