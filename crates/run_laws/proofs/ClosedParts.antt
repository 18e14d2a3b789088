-- The clean run of a part of a listing is that part of the clean run.
use Rattle.std.proofs.Common.{◌≡◌, ℕ, zero, suc, ◌<◌, ◌==◌, ◌&&◌, ◌++◌, Bool, true, false, cond, List, [], ◌∷◌, map, filter, length, slice_get, refl, sym, ap, ◌∙◌, arith, inl, inr, Some, length-append}
use mathlib.Core.Path.{fun_ext}
use Rattle.std.proofs.lemmas.List.{length-map}
use Rattle.std.specs.List.{list_any}
use Rattle.std.proofs.lemmas.Bool.{cases_Bool, or_cases, or_left, or_right, false≢true, eqb-true, false_from_ne_true, eq-eqb}
use Rattle.run_core.proofs.Any.{any-map, any_agree, any_at}
use Rattle.run_laws.proofs.PickFacts.{rank-kept, rank-left, get_or-pick, get-pick, pick-pick, pick-push_kept, pick-push_left, length-pick, map-pick, shift}
use Rattle.run_laws.proofs.AncestorFacts.{part-sub, above-sub, reaches-closed, reaches-lower, closure-closed}
use Rattle.rel_path.specs.Paths.{Path, path_eq, is_among}
use Rattle.rel_path.proofs.PathLaws.{path_same}
use Rattle.rel_path.specs.Files.{file_at}
use Rattle.run_laws.specs.Clean.{over_all, written, is_bad, skips, inputs_of, seen_by, seen, outcome, clean_upto, clean}
use Rattle.spawn_dev.specs.Effects.{pair_eq}
use Rattle.run_laws.specs.Ancestors.{part_at, blank, is_above, IsLower, is_nil}
use Rattle.run_laws.specs.Picks.{pick, rank, last}
use Rattle.run_laws.specs.Closures.{renumbered, names, sub_parts, sub_listing, in_closure, closure, IsClosed}
use Rattle.run_laws.specs.Effects.{Book}
use Rattle.listing.specs.declared.part.Part.{Part}
use Rattle.listing.specs.declared.part.Listing.{Listing}
use Rattle.run_core.specs.declared.states.Mode.{Mode}
use Rattle.run_laws.specs.declared.outcome.Outcome.{Outcome}
use Rattle.run_laws.specs.declared.outcome.Outcome.TheVariants.{Skipped, Passed, Done}

-- a path that passes keeps its file
pub file_at-filter : (t : Path → Bool) (files : List (Path × List ℕ)) (path : Path) → t path ≡ true → file_at (filter (λ f. t f.0) files) path ≡ file_at files path
file_at-filter t [] path h = refl
file_at-filter t (f ∷ files) path h =
    elim (cases_Bool (path_eq f.0 path)) [
      | inl e ↦ rw (ap t (path_same f.0 path e) ∙ h, e) refl
      | inr n ↦ elim (cases_Bool (t f.0)) [
        | inl k ↦ rw (k, n) (file_at-filter t files path h)
        | inr k ↦ rw (k, n) (file_at-filter t files path h)
      ]
    ]

any-cons : {X : Type 0} (t : X → Bool) (keep : ℕ → Bool) (x : X) (xs ys : List X) → list_any t xs ≡ true → list_any t (cond (keep zero) (x ∷ xs) xs) ≡ true
any-cons t keep x xs ys h = elim (keep zero) as (λ b. list_any t (cond b (x ∷ xs) xs) ≡ true) [ true ↦ or_right (t x) (list_any t xs) h | false ↦ h ]

-- what holds of some element of a pick holds of some element of a larger one
pub any-pick : {X : Type 0} (t : X → Bool) (few many : ℕ → Bool) → ((j : ℕ) → few j ≡ true → many j ≡ true) → (xs : List X) → list_any t (pick few xs) ≡ true → list_any t (pick many xs) ≡ true
any-pick t few many more [] h = h
any-pick t few many more (x ∷ xs) h =
    elim (cases_Bool (few zero)) [
      | inl k ↦ rw (more zero k) (elim (or_cases (t x) _ (rw k at h)) [
        | inl u ↦ or_left (t x) _ u
        | inr u ↦ or_right (t x) _ (any-pick t (shift few) (shift many) (λ j. more (suc j)) xs u)
      ])
      | inr k ↦ any-cons t many x (pick (shift many) xs) [] (any-pick t (shift few) (shift many) (λ j. more (suc j)) xs (rw k at h))
    ]

-- the parts that a kept part sees
abbrev own_and_above : Listing → ℕ → List Part
own_and_above l i = part_at l i ∷ pick (is_above l i) l.parts

pub names-kept : (l : Listing) (keep : ℕ → Bool) → IsClosed l keep → (i : ℕ) → keep i ≡ true → (path : Path) → names (own_and_above l i) path ≡ true → names (sub_parts l keep) path ≡ true
names-kept l keep closed i h path m =
    any-map _ (renumbered keep) (pick keep l.parts) ∙
    elim (or_cases (is_among (part_at l i).inputs path) (names (pick (is_above l i) l.parts) path) m) [
      | inl u ↦ any_at (λ part. is_among part.inputs path) (pick keep l.parts) (rank keep i) blank refl (rw (get_or-pick keep l.parts i blank h) u)
      | inr u ↦ any-pick _ (is_above l i) keep (λ j. reaches-closed l keep closed i i j h) l.parts u
    ]

above-pick : {X : Type 0} (l : Listing) (keep : ℕ → Bool) → IsLower l → IsClosed l keep → (i : ℕ) → keep i ≡ true → (xs : List X) → pick (is_above (sub_listing l keep) (rank keep i)) (pick keep xs) ≡ pick (is_above l i) xs
above-pick l keep low closed i h xs =
    pick-pick keep (is_above (sub_listing l keep) (rank keep i)) (is_above l i)
    (λ j hj. above-sub l keep low closed i j h hj)
    (λ j hj. false_from_ne_true _ (λ r. false≢true (sym hj ∙ reaches-closed l keep closed i i j h r)))
    xs

inputs-sub : (l : Listing) (keep : ℕ → Bool) → IsClosed l keep → (i : ℕ) → keep i ≡ true → inputs_of (map (renumbered keep) (own_and_above l i)) (sub_listing l keep).files ≡ inputs_of (own_and_above l i) l.files
inputs-sub l keep closed i h = fun_ext (λ path.
    rw (any-map (λ part. is_among part.inputs path) (renumbered keep) (own_and_above l i))
    (elim (cases_Bool (names (own_and_above l i) path)) [
      | inl m ↦ rw m (file_at-filter (names (sub_parts l keep)) l.files path (names-kept l keep closed i h path m))
      | inr m ↦ rw m refl
    ]))

seen_by-sub : (l : Listing) (keep : ℕ → Bool) → IsClosed l keep → (i : ℕ) → keep i ≡ true → (outs : List Outcome)
    → seen_by (sub_listing l keep).files (renumbered keep (part_at l i)) (map (renumbered keep) (pick (is_above l i) l.parts)) outs ≡ seen_by l.files (part_at l i) (pick (is_above l i) l.parts) outs
seen_by-sub l keep closed i h outs =
    let p = part_at l i in
    let e = fun_ext (λ (x : List ℕ × List ℕ). any-map (λ part. list_any (pair_eq x) part.externals) (renumbered keep) (own_and_above l i)) in
    let f = inputs-sub l keep closed i h in
    λ j. record {
      «package» = p.«package»;
      folder = p.folder;
      task = p.task;
      scripts = p.scripts;
      words = p.args;
      env = p.env;
      outs = p.outs;
      externals = e j;
      files = over_all (f j) (map written outs);
    }

pub seen-sub : (l : Listing) (keep : ℕ → Bool) → IsLower l → IsClosed l keep → (i : ℕ) → keep i ≡ true → (outs : List Outcome) → seen (sub_listing l keep) (rank keep i) (pick keep outs) ≡ seen l i outs
unfolding seen
seen-sub l keep low closed i h outs =
    let part = part-sub l keep i h in
    let above = sym (map-pick (renumbered keep) (is_above (sub_listing l keep) (rank keep i)) (pick keep l.parts)) ∙ ap (map (renumbered keep)) (above-pick l keep low closed i h l.parts) in
    let done = above-pick l keep low closed i h outs in
    (λ j. seen_by (sub_listing l keep).files (part j) (above j) (done j)) ∙ seen_by-sub l keep closed i h (pick (is_above l i) outs)

pub outcome-sub : (mode : Mode) (book : Book) (l : Listing) (keep : ℕ → Bool) → IsLower l → IsClosed l keep → (i : ℕ) → keep i ≡ true → (outs : List Outcome) → outcome mode book (sub_listing l keep) (rank keep i) (pick keep outs) ≡ outcome mode book l i outs
unfolding outcome
outcome-sub mode book l keep low closed i h outs =
    let part = part-sub l keep i h in
    let bad : list_any (λ d. is_bad (slice_get (pick keep outs) d)) (part_at (sub_listing l keep) (rank keep i)).deps ≡ list_any (λ d. is_bad (slice_get outs d)) (part_at l i).deps =
    ap (λ p. list_any (λ d. is_bad (slice_get (pick keep outs) d)) p.deps) part
    ∙ any-map _ (rank keep) (part_at l i).deps
    ∙ any_agree (λ d. keep d ≡ true) _ _ (λ d k. ap is_bad (get-pick keep outs d k)) (part_at l i).deps (closed i h) in
    let sees = seen-sub l keep low closed i h outs in
    λ j. cond (skips mode && bad j) Skipped (cond (is_nil (part j).scripts) Passed (Done (book (sees j))))

pub length-clean_upto : (mode : Mode) (book : Book) (l : Listing) (n : ℕ) → length (clean_upto mode book l n) ≡ n
length-clean_upto mode book l zero = refl
length-clean_upto mode book l (suc n) =
    omega (arith, length-append (clean_upto mode book l n) (outcome mode book l n (clean_upto mode book l n) ∷ []), length-clean_upto mode book l n)

pub clean_upto-sub : (mode : Mode) (book : Book) (l : Listing) (keep : ℕ → Bool) → IsLower l → IsClosed l keep → (n : ℕ) → clean_upto mode book (sub_listing l keep) (rank keep n) ≡ pick keep (clean_upto mode book l n)
clean_upto-sub mode book l keep low closed zero = refl
clean_upto-sub mode book l keep low closed (suc n) =
    let outs = clean_upto mode book l n in
    let before = clean_upto-sub mode book l keep low closed n in
    let size = length-clean_upto mode book l n in
    elim (cases_Bool (keep n)) [
      | inl t ↦
          rw (rank-kept keep n t, pick-push_kept keep outs (outcome mode book l n outs) (ap keep size ∙ t))
          ((λ j. before j ++ outcome mode book (sub_listing l keep) (rank keep n) (before j) ∷ [])
          ∙ ap (λ x. pick keep outs ++ x ∷ []) (outcome-sub mode book l keep low closed n t outs))
      | inr f ↦ rw (rank-left keep n f, pick-push_left keep outs (outcome mode book l n outs) (ap keep size ∙ f)) before
    ]

-- the clean run of a closed part of a listing is that part of the clean run
pub clean-sub : (mode : Mode) (book : Book) (l : Listing) (keep : ℕ → Bool) → IsLower l → IsClosed l keep → clean mode book (sub_listing l keep) ≡ pick keep (clean mode book l)
clean-sub mode book l keep low closed =
    ap (clean_upto mode book (sub_listing l keep)) (length-map (pick keep l.parts) (renumbered keep) ∙ length-pick keep l.parts)
    ∙ clean_upto-sub mode book l keep low closed (length l.parts)

pick_none : {X : Type 0} (keep : ℕ → Bool) → ((j : ℕ) → keep j ≡ false) → (xs : List X) → pick keep xs ≡ []
pick_none keep none [] = refl
pick_none keep none (x ∷ xs) = rw (none zero) (pick_none (shift keep) (λ j. none (suc j)) xs)

last-cons : {X : Type 0} (x y : X) (xs : List X) → last xs ≡ Some y → last (x ∷ xs) ≡ Some y
last-cons x y [] h = cc
last-cons x y (z ∷ xs) h = h

pub get_some : {X : Type 0} (xs : List X) (i : ℕ) → i < length xs → (y : X) × (slice_get xs i ≡ Some y)
get_some [] i h = absurd (omega arith)
get_some (x ∷ xs) zero h = (x, refl)
get_some (x ∷ xs) (suc i) h = get_some xs i (omega arith)

-- the last of a pick is at the last place that passes
last-pick : {X : Type 0} (keep : ℕ → Bool) (xs : List X) (i : ℕ) → keep i ≡ true → ((j : ℕ) → i < j → keep j ≡ false) → i < length xs → last (pick keep xs) ≡ slice_get xs i
last-pick keep [] i k past h = absurd (omega arith)
last-pick keep (x ∷ xs) zero k past h = rw (k, pick_none (shift keep) (λ j. past (suc j) (omega arith)) xs) refl
last-pick keep (x ∷ xs) (suc i) k past h =
    let e = last-pick (shift keep) xs i k (λ j l. past (suc j) (omega arith)) (omega arith) in
    elim (cases_Bool (keep zero)) [
      | inl t ↦ let y = get_some xs i (omega arith) in rw (t, y.1) (last-cons x y.0 (pick (shift keep) xs) (e ∙ y.1))
      | inr f ↦ rw f e
    ]

-- the place of a closure is the last one that it picks
pub closure_last : {X : Type 0} (l : Listing) (i : ℕ) → IsLower l → (xs : List X) → i < length xs → last (pick (in_closure l i) xs) ≡ slice_get xs i
closure_last l i low xs h =
    last-pick (in_closure l i) xs i (or_left (i == i) (is_above l i i) (eq-eqb i i refl))
    (λ j lt. false_from_ne_true _ (λ t. elim (or_cases (j == i) (is_above l i j) t) [
      | inl q ↦ absurd (let e = eqb-true j i q in omega arith)
      | inr u ↦ absurd (let e = reaches-lower l low i i j u in omega arith)
    ])) h

pub closure_law_lem : (mode : Mode) (book : Book) (l : Listing) (i : ℕ) → IsLower l → i < length l.parts → last (clean mode book (closure l i)) ≡ slice_get (clean mode book l) i
closure_law_lem mode book l i low h =
    ap last (clean-sub mode book l (in_closure l i) low (closure-closed l i low))
    ∙ closure_last l i low (clean mode book l) (rw (length-clean_upto mode book l (length l.parts)) h)
