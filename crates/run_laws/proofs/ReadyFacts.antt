-- What a command sees in a world that is ready for it.
use Rattle.std.proofs.Common.{◌≡◌, ℕ, zero, suc, ◌<◌, ◌&&◌, ◌||◌, ◌⊎◌, not, Bool, true, false, cond, List, [], ◌∷◌, map, length, get_or, slice_get, refl, sym, ap, ◌∙◌, arith, inl, inr, Option, Some, None}
use mathlib.Core.Path.{fun_ext}
use Rattle.std.specs.List.{list_any, AllByRecursion}
use Rattle.std.proofs.lemmas.Bool.{cases_Bool, or_cases, or_left, or_right, and_parts, false≢true, true≢false, false_from_ne_true}
use Rattle.run_core.proofs.Any.{get_or-map, any_at}
use Rattle.std.proofs.lemmas.List.{length-map}
use Rattle.run_laws.proofs.PickFacts.{shift, rank-lt, get_or-pick, length-pick, map-pick}
use Rattle.run_laws.proofs.ClosedParts.{length-clean_upto}
use Rattle.run_laws.proofs.ValidParts.{all-pick, any-pick_all}
use Rattle.run_laws.proofs.EachFacts.{each_law_lem}
use Rattle.rel_path.specs.Paths.{Path, path_eq, is_among}
use Rattle.rel_path.specs.Files.{FileMap, file_at, over}
use Rattle.globs.specs.OwnedFiles.{owns_all}
use Rattle.run_laws.specs.Clean.{over_all, written, is_bad, skips, inputs_of, has_external, seen, outcome, clean}
use Rattle.run_laws.specs.Ancestors.{part_at, blank, is_above, IsLower, is_nil, has_script}
use Rattle.run_laws.specs.Picks.{pick, rank}
use Rattle.run_laws.specs.Closures.{names}
use Rattle.run_laws.specs.Effects.{Book}
use Rattle.spawn_dev.specs.Effects.{IsWellBehaved}
use Rattle.run_laws.specs.Worlds.{seen_in, owns, is_read, is_made}
use Rattle.run_laws.specs.WorldLaws.{IsReadyFor}
use Rattle.listing.specs.declared.part.Listing.{Listing}
use Rattle.run_core.specs.declared.states.Mode.{Mode}
use Rattle.run_laws.specs.declared.outcome.Outcome.{Outcome}
use Rattle.run_laws.specs.declared.outcome.Outcome.TheVariants.{Skipped, Passed, Done}
use Rattle.globs.specs.Outputs.{takes}
use Rattle.std.specs.Prelude.{is_some}
use Rattle.rel_path.proofs.PathLaws.{path_same}
use Rattle.globs.specs.declared.out_set.OutSet.{OutSet}

-- the first, if it is something
abbrev pub first_of_two : Option (List ℕ) → Option (List ℕ) → Option (List ℕ)
first_of_two top below = cond (is_some top) top below

-- nothing, or this
abbrev Maybe : Option (List ℕ) → Option (List ℕ) → Type 0
Maybe v s = (s ≡ None) ⊎ (s ≡ v)

over-maybe : (v top below : Option (List ℕ)) → Maybe v top → below ≡ v → first_of_two top below ≡ v
over-maybe v top below (inl n) e = rw n e
over-maybe v top below (inr s) e = rw (s, e) (by v)
  where
    by : (x : Option (List ℕ)) → first_of_two x x ≡ x
    by None = refl
    by (Some b) = refl

over-here : (v top below : Option (List ℕ)) → top ≡ v → Maybe v below → first_of_two top below ≡ v
over-here v top below e m = rw e (by v below m)
  where
    by : (x y : Option (List ℕ)) → Maybe x y → first_of_two x y ≡ x
    by None y (inl n) = n
    by None y (inr n) = n
    by (Some b) y m = refl

over-either : (v top below : Option (List ℕ)) → Maybe v top → Maybe v below → Maybe v (first_of_two top below)
over-either v top below (inl n) m = rw n m
over-either v top below (inr s) m = inr (over-here v top below s m)

-- files that say nothing or v at the path, over v
over_all-same : (v : Option (List ℕ)) (path : Path) (fs : List (List (Path × List ℕ))) (below : FileMap) → AllByRecursion (λ f. Maybe v (file_at f path)) fs → below path ≡ v → over_all below fs path ≡ v
over_all-same v path [] below a e = e
over_all-same v path (f ∷ fs) below a e = over_all-same v path fs (over below (file_at f)) a.1 (over-maybe v (file_at f path) (below path) a.0 e)

-- and one of them says v
over_all-one : (v : Option (List ℕ)) (path : Path) (fs : List (List (Path × List ℕ))) (below : FileMap) (r : ℕ) → AllByRecursion (λ f. Maybe v (file_at f path)) fs → Maybe v (below path) → r < length fs → file_at (get_or fs r []) path ≡ v → over_all below fs path ≡ v
over_all-one v path [] below r a m l e = absurd (omega arith)
over_all-one v path (f ∷ fs) below zero a m l e = over_all-same v path fs (over below (file_at f)) a.1 (over-here v (file_at f path) (below path) e m)
over_all-one v path (f ∷ fs) below (suc r) a m l e = over_all-one v path fs (over below (file_at f)) r a.1 (over-either v (file_at f path) (below path) a.0 m) (omega arith) e

-- an element of a pick that passes stands at a place that passes
any-pick_place : {X : Type 0} (t : X → Bool) (keep : ℕ → Bool) (d : X) (xs : List X) → list_any t (pick keep xs) ≡ true → (i : ℕ) × (keep i ≡ true) × (i < length xs) × (t (get_or xs i d) ≡ true)
any-pick_place t keep d [] h = absurd (false≢true h)
any-pick_place t keep d (x ∷ xs) h =
    elim (cases_Bool (keep zero)) [
      | inl k ↦ elim (or_cases (t x) (list_any t (pick (shift keep) xs)) (rw k at h)) [
        | inl u ↦ (zero, k, omega arith, u)
        | inr u ↦ let w = any-pick_place t (shift keep) d xs u in let l = w.2 in (suc w.0, w.1, omega arith, w.3)
      ]
      | inr k ↦ let w = any-pick_place t (shift keep) d xs (rw k at h) in let l = w.2 in (suc w.0, w.1, omega arith, w.3)
    ]

any-pick_in : {X : Type 0} (t : X → Bool) (keep : ℕ → Bool) (d : X) (xs : List X) (i : ℕ) → keep i ≡ true → i < length xs → t (get_or xs i d) ≡ true → list_any t (pick keep xs) ≡ true
any-pick_in t keep d [] i k l h = absurd (omega arith)
any-pick_in t keep d (x ∷ xs) zero k l h = rw k (or_left (t x) _ h)
any-pick_in t keep d (x ∷ xs) (suc i) k l h =
    let rest = any-pick_in t (shift keep) d xs i k (omega arith) h in
    elim (cases_Bool (keep zero)) [ inl u ↦ rw u (or_right (t x) _ rest) | inr u ↦ rw u rest ]

pub get_or-some : {X : Type 0} (xs : List X) (i : ℕ) (x d : X) → slice_get xs i ≡ Some x → get_or xs i d ≡ x
get_or-some [] i x d h = absurd (cc)
get_or-some (y ∷ xs) zero x d h = cc
get_or-some (y ∷ xs) (suc i) x d h = get_or-some xs i x d h

-- what another task owns is not among files that the task owns
pub unowned-none : (outs : OutSet) (files : List (Path × List ℕ)) (path : Path) → owns_all outs files ≡ true → takes outs path ≡ false → file_at files path ≡ None
unowned-none outs [] path all free = refl
unowned-none outs (f ∷ files) path all free =
    let p = and_parts (takes outs f.0) (owns_all outs files) all in
    let other : path_eq f.0 path ≡ false = false_from_ne_true _ (λ e. true≢false (sym p.0 ∙ ap (takes outs) (path_same f.0 path e) ∙ free)) in
    rw other (unowned-none outs files path p.1 free)

outcome-tame : (mode : Mode) (book : Book) (l : Listing) → IsWellBehaved book → (j : ℕ) (outs : List Outcome) (path : Path) → owns path (part_at l j) ≡ false → file_at (written (outcome mode book l j outs)) path ≡ None
unfolding outcome seen
outcome-tame mode book l tame j outs path h =
    by (skips mode && list_any (λ d. is_bad (slice_get outs d)) (part_at l j).deps) (is_nil (part_at l j).scripts) h
  where
    by : (b n : Bool) → (not n && takes (part_at l j).outs path) ≡ false → file_at (written (cond b Skipped (cond n Passed (Done (book (seen l j outs)))))) path ≡ None
    by true n h = refl
    by false true h = refl
    by false false h = unowned-none (part_at l j).outs (book (seen l j outs)).files path (tame (seen l j outs)).owned h

pub clean-tame : (mode : Mode) (book : Book) (l : Listing) → IsWellBehaved book → IsLower l → (j : ℕ) → j < length l.parts → (path : Path) → owns path (part_at l j) ≡ false → file_at (written (get_or (clean mode book l) j Skipped)) path ≡ None
clean-tame mode book l tame low j h path no_own =
    rw (get_or-some (clean mode book l) j (outcome mode book l j (clean mode book l)) Skipped (each_law_lem mode book l j low h)) (outcome-tame mode book l tame j (clean mode book l) path no_own)

module _ (mode : Mode) (book : Book) (l : Listing) (i : ℕ) (world : FileMap) (tame : IsWellBehaved book) (low : IsLower l) (lt : i < length l.parts) (ready : IsReadyFor l (clean mode book l) i world) (path : Path) where
  abbrev above : ℕ → Bool
  above = is_above l i

  abbrev outs : List Outcome
  outs = clean mode book l

  abbrev told : List (List (Path × List ℕ))
  told = pick above (map written outs)

  abbrev below : FileMap
  below = inputs_of (part_at l i ∷ pick above l.parts) l.files

  abbrev reads : Bool
  reads = names (part_at l i ∷ pick above l.parts) path

  size : length (map written outs) ≡ length l.parts
  size = length-map outs written ∙ length-clean_upto mode book l (length l.parts)

  file-at : (j : ℕ) → get_or (map written outs) j [] ≡ written (get_or outs j Skipped)
  file-at j = get_or-map written outs j Skipped

  -- each ancestor says nothing of the path, or what the world has
  each-says : AllByRecursion (λ f. Maybe (world path) (file_at f path)) told
  each-says = all-pick _ above [] (map written outs) (λ j a h.
      rw (file-at j) (elim (cases_Bool (owns path (part_at l j))) [
        | inl t ↦ let p = and_parts (has_script (part_at l j)) (takes (part_at l j).outs path) t in inr (sym (ready.owned j a p.0 path p.1))
        | inr f ↦ inl (clean-tame mode book l tame low j (rw (← size) h) path f)
      ]))

  inputs-say : Maybe (world path) (below path)
  inputs-say = elim (cases_Bool reads) [ inl r ↦ rw r (inr (sym (ready.inputs path r))) | inr n ↦ rw n (inl refl) ]

  told-taken : list_any (owns path) (pick above l.parts) ≡ true → over_all below told path ≡ world path
  told-taken h =
      let w = any-pick_place (owns path) above blank l.parts h in
      let k : w.0 < length (map written outs) = rw size w.2 in
      let p = and_parts (has_script (part_at l w.0)) (takes (part_at l w.0).outs path) w.3 in
      over_all-one (world path) path told below (rank above w.0) each-says inputs-say
      (rw (length-pick above (map written outs)) (rank-lt above w.0 (length (map written outs)) w.1 k))
      (rw (get_or-pick above (map written outs) w.0 [] w.1, file-at w.0) (sym (ready.owned w.0 w.1 p.0 path p.1)))

  told-read : reads ≡ true → over_all below told path ≡ world path
  told-read r = over_all-same (world path) path told below each-says (rw r (sym (ready.inputs path r)))

  told-nothing : list_any (owns path) (pick above l.parts) ≡ false → reads ≡ false → over_all below told path ≡ None
  told-nothing h r =
      over_all-same None path told below
      (all-pick _ above [] (map written outs) (λ j a k.
      rw (file-at j) (inl (clean-tame mode book l tame low j (rw (← size) k) path
      (false_from_ne_true _ (λ t. true≢false (sym (any-pick_in (owns path) above blank l.parts j a (rw (← size) k) t) ∙ h)))))))
      (rw r refl)

  files-seen : cond (is_made l i path || is_read l i path) (world path) None ≡ over_all below told path
  files-seen =
      (elim (cases_Bool (list_any (owns path) (pick above l.parts))) [
        | inl t ↦ rw t (sym (told-taken t))
        | inr f ↦ elim (cases_Bool reads) [ inl r ↦ rw (f, r) (sym (told-read r)) | inr n ↦ rw (f, n) (sym (told-nothing f n)) ]
      ])

seen-ready : (mode : Mode) (book : Book) (l : Listing) (i : ℕ) (world : FileMap) → IsWellBehaved book → IsLower l → i < length l.parts → IsReadyFor l (clean mode book l) i world → seen_in l i world ≡ seen l i (clean mode book l)
unfolding seen_in seen
seen-ready mode book l i world tame low lt ready =
    let p = part_at l i in
    let outs = clean mode book l in
    let told = map-pick written (is_above l i) outs in
    let files = fun_ext (λ path. files-seen mode book l i world tame low lt ready path) in
    (λ j. record {
      «package» = p.«package»;
      folder = p.folder;
      task = p.task;
      scripts = p.scripts;
      words = p.args;
      env = p.env;
      outs = p.outs;
      externals = has_external (p ∷ pick (is_above l i) l.parts);
      files = files j;
    })
    ∙ (λ j. record {
      «package» = p.«package»;
      folder = p.folder;
      task = p.task;
      scripts = p.scripts;
      words = p.args;
      env = p.env;
      outs = p.outs;
      externals = has_external (p ∷ pick (is_above l i) l.parts);
      files = over_all (inputs_of (p ∷ pick (is_above l i) l.parts) l.files) (sym told j);
    })

outcome-done : (mode : Mode) (book : Book) (l : Listing) (i : ℕ) (outs : List Outcome) → has_script (part_at l i) ≡ true → (skips mode && list_any (λ d. is_bad (slice_get outs d)) (part_at l i).deps) ≡ false → outcome mode book l i outs ≡ Done (book (seen l i outs))
unfolding outcome
outcome-done mode book l i outs script calm = rw (calm, nil (is_nil (part_at l i).scripts) script) refl
  where
    nil : (b : Bool) → not b ≡ true → b ≡ false
    nil true h = absurd (false≢true h)
    nil false h = refl

pub start_law_lem : (mode : Mode) (book : Book) (l : Listing) (i : ℕ) (world : FileMap) → IsWellBehaved book → IsLower l → i < length l.parts
    → has_script (part_at l i) ≡ true → (skips mode && list_any (λ d. is_bad (slice_get (clean mode book l) d)) (part_at l i).deps) ≡ false
    → IsReadyFor l (clean mode book l) i world
    → slice_get (clean mode book l) i ≡ Some (Done (book (seen_in l i world)))
start_law_lem mode book l i world tame low lt script calm ready =
    each_law_lem mode book l i low lt ∙ ap Some (outcome-done mode book l i (clean mode book l) script calm ∙ ap (λ s. Done (book s)) (sym (seen-ready mode book l i world tame low lt ready)))

pub outcome-passed : (mode : Mode) (book : Book) (l : Listing) (i : ℕ) (outs : List Outcome) → (skips mode && list_any (λ d. is_bad (slice_get outs d)) (part_at l i).deps) ≡ false → has_script (part_at l i) ≡ false → outcome mode book l i outs ≡ Passed
unfolding outcome
outcome-passed mode book l i outs calm script = rw (calm, nil (is_nil (part_at l i).scripts) script) refl
  where
    nil : (b : Bool) → not b ≡ false → b ≡ true
    nil true h = refl
    nil false h = absurd (true≢false h)

-- what the part at a place or an ancestor names, some part names
pub own-names : (l : Listing) (i : ℕ) (path : Path) → is_read l i path ≡ true → names l.parts path ≡ true
own-names l i path h =
    elim (or_cases (is_among (part_at l i).inputs path) (names (pick (is_above l i) l.parts) path) h) [
      | inl u ↦ any_at (λ p. is_among p.inputs path) l.parts i blank refl u
      | inr u ↦ any-pick_all _ (is_above l i) l.parts u
    ]
