-- What the command of a task sees.
use Rattle.std.proofs.Common.{◌≡◌, ◌≢◌, ℕ, zero, suc, ◌+◌, ◌-◌, ◌<◌, ◌==◌, ◌||◌, Bool, true, false, cond, List, [], ◌∷◌, ◌++◌, length, get_or, take, drop, map, refl, sym, ap, ◌∙◌, subst, arith, inl, inr, None, length-append, add-one, drop-cons, append_assoc}
use Rattle.std.specs.Prelude.{IsSome}
use Rattle.std.specs.List.{list_any, AllByRecursion}
use Rattle.std.proofs.lemmas.Bool.{cases_Bool, eq-eqb, ne_eqb, false≢true, false_from_ne_true, or_left, or_right, or_cases}
use Rattle.std.proofs.lemmas.List.{map-append}
use Rattle.std.proofs.lemmas.List.Folds.{list_any-append}
use Rattle.std.proofs.Math.Seq.{take-append_seam}
use Rattle.rel_path.specs.Paths.{Path, path_eq, is_among}
use Rattle.rel_path.specs.Files.{file_at}
use Rattle.rel_path.proofs.PathLaws.{path_same}
use Rattle.globs.specs.declared.out_set.OutSet.{OutSet}
use Rattle.globs.specs.Outputs.{takes}
use Rattle.listing.specs.declared.part.Part.{Part}
use Rattle.listing.specs.declared.part.Listing.{Listing}
use Rattle.spawn_dev.specs.Effects.{may_read, pair_eq}
use Rattle.run_laws.specs.Picks.{pick}
use Rattle.run_laws.specs.Ancestors.{part_at, blank, has_script, is_above, IsLower}
use Rattle.run_laws.specs.Closures.{closure, in_closure, names, renumbered}
use Rattle.run_laws.specs.Valid.{IsOrdered}
use Rattle.run_laws.specs.Clean.{has_external}
use Rattle.run_laws.specs.Worlds.{owns, is_read, is_made, seen_in}
use Rattle.run_laws.specs.ClosureLaws.{ClosureIsOrdered}
use Rattle.run_laws.proofs.AncestorFacts.{reaches-lower}
use Rattle.run_core.proofs.Any.{bool_same, any-map}
use Rattle.run_plan.specs.declared.plan.Plan.{Plan}
use Rattle.run_plan.specs.Plans.{IsValidPlan}
use Rattle.run_plan.specs.Commands.{outs_of, externals_of, command_of}
use Rattle.run_plan.specs.StoryLaws.{Sees}

pick-none : {X : Type 0} (keep : ℕ → Bool) → ((i : ℕ) → keep i ≡ false) → (xs : List X) → pick keep xs ≡ []
pick-none keep none [] = refl
pick-none keep none (x ∷ xs) = rw (none zero) (pick-none (λ i. keep (suc i)) (λ i. none (suc i)) xs)

-- one more element is picked, behind those that were
pick-last : {X : Type 0} (more few : ℕ → Bool) (t : ℕ) → more t ≡ true → ((j : ℕ) → j ≢ t → more j ≡ few j) → ((j : ℕ) → few j ≡ true → j < t) → (xs : List X) (d : X) → t < length xs
    → pick more xs ≡ pick few xs ++ get_or xs t d ∷ []
pick-last more few t here same low [] d h = absurd (omega arith)
pick-last more few zero here same low (x ∷ xs) d h =
    let none : few zero ≡ false = false_from_ne_true (few zero) (λ k. let e = low zero k in omega arith) in
    let later = λ (i : ℕ). false_from_ne_true (few (suc i)) (λ k. let e = low (suc i) k in omega arith) in
    let rest : pick (λ i. more (suc i)) xs ≡ [] = pick-none (λ i. more (suc i)) (λ i. same (suc i) (λ e. absurd (omega arith)) ∙ later i) xs in
    let before : pick (λ i. few (suc i)) xs ≡ [] = pick-none (λ i. few (suc i)) later xs in
    rw (here, none, rest, before) refl
pick-last more few (suc t) here same low (x ∷ xs) d h =
    let rest = pick-last (λ i. more (suc i)) (λ i. few (suc i)) t here (λ j n. same (suc j) (λ e. n (omega arith))) (λ j k. let e = low (suc j) k in omega arith) xs d (omega arith) in
    let first : more zero ≡ few zero = same zero (λ e. absurd (omega arith)) in
    elim (cases_Bool (few zero)) [
      | inl k ↦ rw (first, k) (ap (λ ys. x ∷ ys) rest)
      | inr k ↦ rw (first, k) rest
    ]

pub closure-parts : (l : Listing) (t : ℕ) → IsLower l → t < length l.parts → pick (in_closure l t) l.parts ≡ pick (is_above l t) l.parts ++ part_at l t ∷ []
closure-parts l t low h =
    pick-last (in_closure l t) (is_above l t) t (or_left (t == t) (is_above l t t) (eq-eqb t t refl)) (λ j n. rw (ne_eqb j t n) refl) (λ j k. reaches-lower l low t t j k) l.parts blank h

-- ---- output sets

outs-map : (keep : ℕ → Bool) (parts : List Part) → outs_of (map (renumbered keep) parts) ≡ outs_of parts
outs-map keep [] = refl
outs-map keep (part ∷ parts) = elim (cases_Bool (has_script part)) [ inl h ↦ rw h (ap (λ os. part.outs ∷ os) (outs-map keep parts)) | inr h ↦ rw h (outs-map keep parts) ]

front : {X : Type 0} (xs : List X) (x : X) → take (length (xs ++ x ∷ []) - 1) (xs ++ x ∷ []) ≡ xs
front xs x =
    let n : length (xs ++ x ∷ []) - 1 ≡ length xs = omega (arith, length-append xs (x ∷ [])) in
    rw n (take-append_seam xs (x ∷ []))

pub above-is : (l : Listing) (t : ℕ) → IsLower l → t < length l.parts → outs_of (take (length (closure l t).parts - 1) (closure l t).parts) ≡ outs_of (pick (is_above l t) l.parts)
above-is l t low h =
    let ren = renumbered (in_closure l t) in
    let e : (closure l t).parts ≡ map ren (pick (is_above l t) l.parts) ++ ren (part_at l t) ∷ [] = ap (map ren) (closure-parts l t low h) ∙ map-append ren (pick (is_above l t) l.parts) (part_at l t ∷ []) in
    ap (λ ps. outs_of (take (length ps - 1) ps)) e ∙ ap outs_of (front (map ren (pick (is_above l t) l.parts)) (ren (part_at l t))) ∙ outs-map (in_closure l t) (pick (is_above l t) l.parts)

pub outs-take : (path : Path) (parts : List Part) → list_any (λ outs. takes outs path) (outs_of parts) ≡ list_any (owns path) parts
outs-take path [] = refl
outs-take path (part ∷ parts) =
    elim (cases_Bool (has_script part)) [ inl h ↦ rw h (ap (λ b. takes part.outs path || b) (outs-take path parts)) | inr h ↦ rw h (outs-take path parts) ]

-- one part more
pub outs-step : (parts : List Part) (i : ℕ) (part : Part) (before after : List OutSet) → i < length parts → part ≡ get_or parts i part → before ++ outs_of (drop i parts) ≡ outs_of parts
    → (has_script part ≡ true → after ≡ before ++ part.outs ∷ []) → (has_script part ≡ false → after ≡ before) → after ++ outs_of (drop (i + 1) parts) ≡ outs_of parts
outs-step parts i part before after less is all with_it without =
    let cut : drop i parts ≡ part ∷ drop (i + 1) parts = rw (add-one, drop-cons parts i part) (ap (λ p. p ∷ drop (suc i) parts) (sym is)) in
    let whole : before ++ outs_of (part ∷ drop (i + 1) parts) ≡ outs_of parts = ap (λ ps. before ++ outs_of ps) (sym cut) ∙ all in
    elim (cases_Bool (has_script part)) [
      | inl h ↦ rw (with_it h, append_assoc) (rw h at whole)
      | inr h ↦ rw (without h) (rw h at whole)
    ]

-- ---- installed packages

externals-any : (e : List ℕ × List ℕ) (keep : ℕ → Bool) (parts : List Part) → list_any (pair_eq e) (externals_of (map (renumbered keep) parts)) ≡ has_external parts e
externals-any e keep [] = refl
externals-any e keep (part ∷ parts) =
    list_any-append (pair_eq e) part.externals (externals_of (map (renumbered keep) parts)) ∙ ap (λ b. list_any (pair_eq e) part.externals || b) (externals-any e keep parts)

or-swap : (a b : Bool) → (a || (b || false)) ≡ (b || a)
or-swap true true = refl
or-swap true false = refl
or-swap false true = refl
or-swap false false = refl

external-last : (e : List ℕ × List ℕ) (parts : List Part) (part : Part) → has_external (parts ++ part ∷ []) e ≡ has_external (part ∷ parts) e
external-last e parts part = list_any-append (λ p. list_any (pair_eq e) p.externals) parts (part ∷ []) ∙ or-swap (has_external parts e) (list_any (pair_eq e) part.externals)

-- ---- inputs

among-files : (files : List (Path × List ℕ)) (path : Path) → IsSome (file_at files path) → is_among (map (λ f. f.0) files) path ≡ true
among-files [] path h = absurd (false≢true h)
among-files (f ∷ files) path h = elim (cases_Bool (path_eq f.0 path)) [
  | inl e ↦ or_left (path_eq f.0 path) _ e
  | inr e ↦ or_right (path_eq f.0 path) _ (among-files files path (rw e at h))
]

among-named : (parts : List Part) (files : List (Path × List ℕ)) (path : Path) → AllByRecursion (λ f. names parts f.0 ≡ true) files → is_among (map (λ f. f.0) files) path ≡ true → names parts path ≡ true
among-named parts [] path all h = absurd (false≢true h)
among-named parts (f ∷ files) path all h = elim (or_cases (path_eq f.0 path) (is_among (map (λ f. f.0) files) path) h) [
  | inl e ↦ subst (λ p. names parts p ≡ true) (path_same f.0 path e) all.0
  | inr k ↦ among-named parts files path all.1 k
]

pub reads-named : (l : Listing) → IsOrdered l → (path : Path) → is_among (map (λ f. f.0) l.files) path ≡ names l.parts path
reads-named l o path = bool_same (is_among (map (λ f. f.0) l.files) path) (names l.parts path) (λ h. among-named l.parts l.files path o.named h) (λ h. among-files l.files path (o.present path h))

pub names-map : (keep : ℕ → Bool) (parts : List Part) (path : Path) → names (map (renumbered keep) parts) path ≡ names parts path
names-map keep parts path = any-map (λ part. is_among part.inputs path) (renumbered keep) parts

pub names-last : (parts : List Part) (part : Part) (path : Path) → names (parts ++ part ∷ []) path ≡ names (part ∷ parts) path
names-last parts part path = list_any-append (λ p. is_among p.inputs path) parts (part ∷ []) ∙ or-swap (names parts path) (is_among part.inputs path)

-- ---- all of it

pub sees-lem : ClosureIsOrdered → (plan : Plan) (t : ℕ) → IsValidPlan plan → t < length plan.listing.parts → Sees plan t
unfolding command_of seen_in
sees-lem law plan t valid h files =
    let l = plan.listing in
    let above = pick (is_above l t) l.parts in
    let part = part_at l t in
    let parts : (closure l t).parts ≡ map (renumbered (in_closure l t)) (above ++ part ∷ []) = ap (map (renumbered (in_closure l t))) (closure-parts l t valid.ordered.lower h) in
    let external : (e : List ℕ × List ℕ) → list_any (pair_eq e) (externals_of (closure l t).parts) ≡ has_external (part ∷ above) e =
    λ e. ap (λ ps. list_any (pair_eq e) (externals_of ps)) parts ∙ externals-any e (in_closure l t) (above ++ part ∷ []) ∙ external-last e above part in
    let made : (path : Path) → list_any (λ outs. takes outs path) (outs_of above) ≡ is_made l t path = λ path. outs-take path above in
    let read : (path : Path) → is_among (map (λ f. f.0) (closure l t).files) path ≡ is_read l t path =
    λ path. reads-named (closure l t) (law l t valid.ordered) path ∙ ap (λ ps. names ps path) parts ∙ names-map (in_closure l t) (above ++ part ∷ []) path ∙ names-last above part path in
    λ i. record {
      «package» = part.package;
      folder = part.folder;
      task = part.task;
      scripts = part.scripts;
      words = part.args;
      env = part.env;
      outs = part.outs;
      externals = λ e. external e i;
      files = λ path. cond (made path i || read path i) (files path) None;
    }

-- which paths a command may read, by the plan
pub may-read : ClosureIsOrdered → (plan : Plan) (t : ℕ) → IsValidPlan plan → t < length plan.listing.parts → (path : Path) → may_read (command_of plan t) path ≡ (is_made plan.listing t path || is_read plan.listing t path)
unfolding command_of
may-read law plan t valid h path =
    let l = plan.listing in
    let parts : (closure l t).parts ≡ map (renumbered (in_closure l t)) (pick (is_above l t) l.parts ++ part_at l t ∷ []) = ap (map (renumbered (in_closure l t))) (closure-parts l t valid.ordered.lower h) in
    let made = outs-take path (pick (is_above l t) l.parts) in
    let read = reads-named (closure l t) (law l t valid.ordered) path ∙ ap (λ ps. names ps path) parts ∙ names-map (in_closure l t) (pick (is_above l t) l.parts ++ part_at l t ∷ []) path ∙ names-last (pick (is_above l t) l.parts) (part_at l t) path in
    λ i. made i || read i

pub outs-is : (plan : Plan) (t : ℕ) → (command_of plan t).outs ≡ (part_at plan.listing t).outs
unfolding command_of
outs-is plan t = refl

pub place-is : (plan : Plan) (t : ℕ) → (command_of plan t).place ≡ t
unfolding command_of
place-is plan t = refl
