-- The lockfile, cut to owners whose uses were looked up in the order of their names.
use Rattle.std.proofs.Common.{◌≡◌, ◌<◌, ◌+◌, ◌||◌, ℕ, Bool, true, false, cond, List, [], ◌∷◌, ◌++◌, length, get_or, take, drop, map, filter, refl, sym, ap, ◌∙◌, subst}
use Rattle.std.specs.Prelude.{Option, Some, Ok, Err, not}
use Rattle.std.specs.List.{AllByRecursion, HoldsAt, list_any, flat_map, cons_option, join_with_byte}
use Rattle.std.proofs.lemmas.List.{take-append-drop, drop_more, take_more}
use Rattle.std.proofs.lemmas.List.Elements.{filter-append}
use Rattle.std.proofs.lemmas.List.Folds.{list_any-append}
use Rattle.std.proofs.lemmas.Grind.{flat_map-append}
use Rattle.std.proofs.lemmas.Option.{slice_get-get_or}
use mathlib.Core.Path.{fun_ext}
use Rattle.serde_json.specs.Data.{Data}
use Rattle.rel_path.specs.Paths.{Path, name_eq}
use Rattle.npm_lock.specs.Cut.{cut, is_in, picked_in, cut_top}
use Rattle.workspaces.specs.declared.member.Package.{Package}
use Rattle.workspaces.specs.Space.{Space, owners, root_package}
use Rattle.collect.specs.Listings.{ArePaired}
use Rattle.collect.specs.Parts.{Uses}
use Rattle.collect.specs.Refusals.{IsMissingOf}
use Rattle.collect.specs.Steps.{UsesAt, FindsAt}
use Rattle.repository.specs.Reading.{Contents}
use Rattle.kept_packages.specs.Kept.{kept_places}
use Rattle.pruned_files.specs.Calls.{owners_at, by_name, AreLocations, MissesAt, Locates, CutsOne, CutsText}
use Rattle.pruned_files.specs.Cut.{kept_owners, locations_in, IsCutTo}
use Rattle.pruned_files.specs.Lacks.{is_before_root, FindsAll, IsFirstMissing}
use Rattle.pruned_files.specs.declared.error.CutErr.{CutErr}
use Rattle.pruned_files.specs.declared.error.CutErr.TheVariants.{Missing, OutOfMemory}
use Rattle.pruned_files.proofs.Bools.{or_swap}
use Rattle.pruned_files.proofs.Members.{kept_at, at_append, some_owner, in_order, ordered, named_order, below_named, below_behind}
use Rattle.pruned_files.proofs.Paired.{parts_of, joined, merged}

abbrev Pairs : Type 0
Pairs = List (List ℕ × List ℕ)

abbrev names : Pairs → List (List ℕ)
names pairs = map (λ (pair : List ℕ × List ℕ). pair.0) pairs

-- ---- of owners by their numbers

pub uses_at : (space : Space) (lock : Option Data) (ns : List ℕ) (uses : List Pairs) → AllByRecursion (λ n. n < length (owners space)) ns → ArePaired (UsesAt space lock) ns uses → ArePaired (λ p pairs. Uses space lock p pairs) (owners_at space ns) uses
uses_at space lock [] [] all p = tt
uses_at space lock [] (u ∷ uses) all p = absurd p
uses_at space lock (n ∷ ns) [] all p = absurd p
uses_at space lock (n ∷ ns) (u ∷ uses) all p =
    subst (λ o. ArePaired (λ p pairs. Uses space lock p pairs) (cons_option o (owners_at space ns)) (u ∷ uses)) (sym (slice_get-get_or (owners space) n (some_owner space) all.0))
    (p.0 (some_owner space), uses_at space lock ns uses all.1 p.1)

finds_at : (contents : Contents) (lock : Data) (ns : List ℕ) → contents.lock ≡ Some lock → AllByRecursion (λ n. n < length (owners contents.space)) ns → AllByRecursion (FindsAt contents.space (Some lock)) ns → AllByRecursion (FindsAll contents) (owners_at contents.space ns)
finds_at contents lock [] there all found = tt
finds_at contents lock (n ∷ ns) there all found =
    let d = some_owner contents.space in
    subst (λ o. AllByRecursion (FindsAll contents) (cons_option o (owners_at contents.space ns))) (sym (slice_get-get_or (owners contents.space) n d all.0))
    ((found.0.0, subst (λ l. Uses contents.space l (get_or (owners contents.space) n d) found.0.0) (sym there) (found.0.1 d)), finds_at contents lock ns there all.1 found.1)

-- ---- what is kept

same_cut : (folders : List (List ℕ)) (few many : List (List ℕ)) (lock : Data) → ((text : List ℕ) → is_in few text ≡ is_in many text) → cut folders few lock ≡ cut folders many lock
unfolding cut
same_cut folders few many lock same = ap (λ test. picked_in (cut_top (is_in folders) test) lock) (fun_ext same)

turned : (a b c : Bool) → (a || (b || c)) ≡ ((a || c) || b)
turned true b c = refl
turned false b c = or_swap b c

module _ (contents : Contents) (set : Path → Bool) (lock : Data) where
  abbrev space : Space
  space = contents.space

  abbrev stays : Package → Bool
  stays p = set p.folder

  abbrev packages : List Package
  packages = filter stays contents.space.packages

  abbrev root : List Package
  root = cond (set []) (root_package contents.space.root ∷ []) []

  abbrev R : Package → Pairs → Type 0
  R p pairs = Uses contents.space (Some lock) p pairs

  owners_are : kept_owners contents.space set ≡ packages ++ root
  owners_are = filter-append stays contents.space.packages (root_package contents.space.root ∷ [])

  split_any : (test : List ℕ → Bool) (us vs : List Pairs) → list_any test (flat_map names (us ++ vs)) ≡ (list_any test (flat_map names us) || list_any test (flat_map names vs))
  split_any test us vs = ap (list_any test) (flat_map-append names us vs) ∙ list_any-append test (flat_map names us) (flat_map names vs)

  pub cut_to : (keep : List (List ℕ)) (uses : List Pairs) → ArePaired R (in_order contents.space set) uses → keep ≡ locations_in uses → IsCutTo contents set lock (cut (map (λ p. join_with_byte 47 p.folder) (kept_owners contents.space set)) keep lock)
  cut_to keep uses each are =
      let first = parts_of R (filter is_before_root packages) (root ++ filter (λ p. not (is_before_root p)) packages) uses each in
      let second = parts_of R root (filter (λ p. not (is_before_root p)) packages) first.back first.right in
      let whole = merged R names is_before_root packages first.front second.back first.left second.right in
      record {
        uses = whole.whole ++ second.front;
        each = subst (λ ps. ArePaired R ps (whole.whole ++ second.front)) (sym owners_are) (joined R packages root whole.whole second.front whole.each second.left);
        is = same_cut (map (λ (p : Package). join_with_byte 47 p.folder) (kept_owners contents.space set)) keep (locations_in (whole.whole ++ second.front)) lock (λ text.
            ap (list_any (name_eq text)) (are ∙ ap (flat_map names) (first.are ∙ ap (λ us. first.front ++ us) second.are))
            ∙ split_any (name_eq text) first.front (second.front ++ second.back)
            ∙ ap (λ b. list_any (name_eq text) (flat_map names first.front) || b) (split_any (name_eq text) second.front second.back)
            ∙ turned (list_any (name_eq text) (flat_map names first.front)) (list_any (name_eq text) (flat_map names second.front)) (list_any (name_eq text) (flat_map names second.back))
            ∙ ap (λ b. b || list_any (name_eq text) (flat_map names second.front)) (sym (whole.same (name_eq text)))
            ∙ sym (split_any (name_eq text) whole.whole second.front));
      }

-- the cut lockfile, where the numbers are those of the owners that stay
pub cut_is : (contents : Contents) (set : Path → Bool) (lock : Data) (numbers : List ℕ) (folders keep : List (List ℕ)) → numbers ≡ kept_places contents set → AllByRecursion (λ n. n < length (owners contents.space)) numbers
    → folders ≡ map (λ p. join_with_byte 47 p.folder) (owners_at contents.space numbers) → AreLocations contents.space lock (by_name contents.space numbers) keep → IsCutTo contents set lock (cut folders keep lock)
cut_is contents set lock numbers folders keep are below folders_are l =
    subst (λ fs. IsCutTo contents set lock (cut fs keep lock)) (sym (folders_are ∙ ap (map (λ (p : Package). join_with_byte 47 p.folder)) (ap (owners_at contents.space) are ∙ kept_at contents set)))
    (cut_to contents set lock keep l.uses
    (subst (λ ps. ArePaired (λ p pairs. Uses contents.space (Some lock) p pairs) ps l.uses) (ap (λ ns. owners_at contents.space (by_name contents.space ns)) are ∙ ordered contents.space set)
    (uses_at contents.space (Some lock) (by_name contents.space numbers) l.uses (below_named contents.space (length (owners contents.space)) numbers below) l.each)) l.are)

pub misses_is : (contents : Contents) (set : Path → Bool) (lock : Data) (numbers : List ℕ) (from name : List ℕ) → contents.lock ≡ Some lock → numbers ≡ kept_places contents set → AllByRecursion (λ n. n < length (owners contents.space)) numbers
    → MissesAt contents.space lock (by_name contents.space numbers) from name → IsFirstMissing contents set from name
misses_is contents set lock numbers from name there are below m =
    let space = contents.space in let d = some_owner space in
    let all : AllByRecursion (λ n. n < length (owners space)) (m.earlier ++ m.number ∷ m.later) = subst (AllByRecursion (λ n. n < length (owners space))) m.stands (below_named space (length (owners space)) numbers below) in
    let low = below_behind (length (owners space)) m.earlier m.number m.later all in
    record {
      earlier = owners_at space m.earlier;
      member = get_or (owners space) m.number d;
      later = owners_at space m.later;
      stands = named_order space set ∙ sym (ordered space set) ∙ ap (λ ns. owners_at space (by_name space ns)) (sym are) ∙ ap (owners_at space) m.stands ∙ at_append space m.earlier (m.number ∷ m.later)
          ∙ ap (λ o. owners_at space m.earlier ++ cons_option o (owners_at space m.later)) (slice_get-get_or (owners space) m.number d low.1);
      found = finds_at contents lock m.earlier there low.0 m.found;
      misses = subst (λ l. IsMissingOf space l (get_or (owners space) m.number d) from name) (sym there) (m.misses d);
    }

pub text_stop : (contents : Contents) (set : Path → Bool) (lock : Data) (numbers : List ℕ) (e : CutErr) → numbers ≡ kept_places contents set → AllByRecursion (λ n. n < length (owners contents.space)) numbers
    → Locates contents.space lock (by_name contents.space numbers) (Err e) → CutsText contents lock set (Err e)
text_stop contents set lock numbers (Missing from name) are below l = λ there. misses_is contents set lock numbers from name there are below l
text_stop contents set lock numbers OutOfMemory are below l = tt

-- ---- one owner more

paired_push : {X Y : Type 0} (P : X → Y → Type 0) (xs : List X) (ys : List Y) (x : X) (y : Y) → ArePaired P xs ys → P x y → ArePaired P (xs ++ x ∷ []) (ys ++ y ∷ [])
paired_push P [] [] x y p r = (r, tt)
paired_push P [] (b ∷ ys) x y p r = absurd p
paired_push P (a ∷ xs) [] x y p r = absurd p
paired_push P (a ∷ xs) (b ∷ ys) x y p r = (p.0, paired_push P xs ys x y p.1 r)

one_flat : (u : Pairs) → flat_map names (u ∷ []) ≡ names u
one_flat u = append_none (names u) where
  append_none : (xs : List (List ℕ)) → xs ++ [] ≡ xs
  append_none [] = refl
  append_none (x ∷ xs) = ap (λ ys. x ∷ ys) (append_none xs)

pub locations_more : (space : Space) (lock : Data) (numbers : List ℕ) (i : ℕ) (pairs : Pairs) (old new : List (List ℕ)) → i < length numbers → AreLocations space lock (take i numbers) old → HoldsAt (λ p. CutsOne space lock p (Ok pairs)) (owners space) (get_or numbers i 0)
    → new ≡ old ++ names pairs → AreLocations space lock (take (i + 1) numbers) new
locations_more space lock numbers i pairs old new lt so one is = record {
  uses = so.uses ++ pairs ∷ [];
  each = subst (λ ns. ArePaired (UsesAt space (Some lock)) ns (so.uses ++ pairs ∷ [])) (sym (take_more numbers i 0 lt)) (paired_push (UsesAt space (Some lock)) (take i numbers) so.uses (get_or numbers i 0) pairs so.each one);
  are = is ∙ ap (λ l. l ++ names pairs) so.are ∙ ap (λ l. locations_in so.uses ++ l) (sym (one_flat pairs)) ∙ sym (flat_map-append names so.uses (pairs ∷ []));
}

found_before : (space : Space) (lock : Data) (ns : List ℕ) (uses : List Pairs) → ArePaired (UsesAt space (Some lock)) ns uses → AllByRecursion (FindsAt space (Some lock)) ns
found_before space lock [] uses p = tt
found_before space lock (n ∷ ns) [] p = absurd p
found_before space lock (n ∷ ns) (u ∷ uses) p = ((u, p.0), found_before space lock ns uses p.1)

pub locations_stop : (space : Space) (lock : Data) (numbers : List ℕ) (i : ℕ) (keep : List (List ℕ)) (e : CutErr) → i < length numbers → AreLocations space lock (take i numbers) keep → HoldsAt (λ p. CutsOne space lock p (Err e)) (owners space) (get_or numbers i 0) → Locates space lock numbers (Err e)
locations_stop space lock numbers i keep (Missing from name) lt so one = record {
  earlier = take i numbers;
  number = get_or numbers i 0;
  later = drop (i + 1) numbers;
  stands = sym (take-append-drop i numbers) ∙ ap (λ ns. take i numbers ++ ns) (drop_more numbers i 0 lt);
  found = found_before space lock (take i numbers) so.uses so.each;
  misses = one;
}
locations_stop space lock numbers i keep OutOfMemory lt so one = tt
