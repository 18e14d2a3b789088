-- What is printed.
use Rattle.std.proofs.Common.{◌≡◌, ◌<◌, ◌≤◌, ◌+◌, ℕ, zero, suc, Bool, true, false, cond, List, [], ◌∷◌, ◌++◌, length, get_or, take, refl, sym, ap, ◌∙◌, arith}
use Rattle.std.specs.Prelude.{None, Result, Ok, Err}
use Rattle.std.specs.List.{HoldsAt, filter_map, slice_get, cons_option}
use Rattle.std.proofs.lemmas.List.{take_more}
use Rattle.std.proofs.lemmas.List.Elements.{filter_map-append}
use Rattle.std.proofs.lemmas.Grind.{flat_map-append}
use Rattle.std.proofs.lemmas.Option.{slice_get-get_or}
use Rattle.rel_path.specs.Paths.{Path}
use Rattle.workspaces.specs.declared.member.Package.{Package}
use Rattle.workspaces.specs.Lists.{places}
use Rattle.workspaces.specs.Space.{Space, owners, root_package}
use Rattle.workspaces.proofs.Owners.{package_owner}
use Rattle.repository.specs.Reading.{Contents}
use Rattle.kept_packages.specs.Kept.{kept_places}
use Rattle.pruned_files.specs.Pruned.{kept_packages}
use Rattle.pruned_files.proofs.Numbers.{got_all, places_behind}
use Rattle.prune.specs.declared.error.PruneErr.{PruneErr}
use Rattle.prune.specs.declared.error.PruneErr.TheVariants.{NoPackage, OutTaken, Missing, TooLarge, TreeFailed, SinkFailed, OutOfMemory}
use Rattle.prune.specs.declared.planning.Plan.{Plan}
use Rattle.prune.specs.Cause.{HasCause, counts_of}
use Rattle.prune.specs.Printed.{named_line, added_line, added_lines, Prints}
use Rattle.prune.specs.Steps.{packages_at, IsPlan, PutsText}

-- ---- packages by their numbers

past : {X : Type 0} (xs : List X) (n : ℕ) → length xs ≤ n → slice_get xs n ≡ None
past [] n le = refl
past (x ∷ xs) zero le = absurd (omega (arith, le))
past (x ∷ xs) (suc n) le = past xs n (omega (arith, le))

pub append_none : {X : Type 0} (xs : List X) → xs ++ [] ≡ xs
append_none [] = refl
append_none (x ∷ xs) = ap (λ ys. x ∷ ys) (append_none xs)

-- the numbers of those that stay, and maybe that of the root
pub packages_kept : (contents : Contents) (set : Path → Bool) → packages_at contents.space (kept_places contents set) ≡ kept_packages contents.space set
packages_kept contents set =
    ap (filter_map (slice_get packages)) (places_behind stays packages root) ∙ filter_map-append (slice_get packages) (places stays packages) (cond (set []) (length packages ∷ []) [])
    ∙ ap (λ ps. ps ++ filter_map (slice_get packages) (cond (set []) (length packages ∷ []) [])) (got_all stays packages (slice_get packages) (λ n p e. e))
    ∙ ap (λ ps. kept_packages contents.space set ++ ps) (no_root (set [])) ∙ append_none (kept_packages contents.space set)
  where
    packages : List Package
    packages = contents.space.packages

    root : Package
    root = root_package contents.space.root

    stays : Package → Bool
    stays p = set p.folder

    no_root : (b : Bool) → filter_map (slice_get packages) (cond b (length packages ∷ []) []) ≡ []
    no_root true = ap (λ o. cons_option o []) (past packages (length packages) (omega arith))
    no_root false = refl

-- ---- lines

pub one_line : (space : Space) (n : ℕ) (name : List ℕ) → n < length space.packages → HoldsAt (λ p. name ≡ p.name) (owners space) n → named_line name ≡ added_lines (packages_at space (n ∷ []))
one_line space n name lt its =
    let d = root_package space.root in
    ap named_line (its d ∙ ap (λ (p : Package). p.name) (package_owner space n d lt)) ∙ sym (append_none (added_line (get_or space.packages n d)))
    ∙ sym (ap (λ o. added_lines (cons_option o [])) (slice_get-get_or space.packages n d lt))

pub no_line : (space : Space) (n : ℕ) → length space.packages ≤ n → added_lines (packages_at space (n ∷ [])) ≡ []
no_line space n le = ap (λ o. added_lines (cons_option o [])) (past space.packages n le)

pub lines_more : (space : Space) (numbers : List ℕ) (i : ℕ) (old new : List ℕ) → i < length numbers → old ≡ added_lines (packages_at space (take i numbers)) → new ≡ old ++ added_lines (packages_at space (get_or numbers i 0 ∷ [])) → new ≡ added_lines (packages_at space (take (i + 1) numbers))
lines_more space numbers i old new lt was is =
    is ∙ ap (λ l. l ++ added_lines (packages_at space (get_or numbers i 0 ∷ []))) was
    ∙ sym (ap (λ ns. added_lines (packages_at space ns)) (take_more numbers i 0 lt) ∙ ap added_lines (filter_map-append (slice_get space.packages) (take i numbers) (get_or numbers i 0 ∷ []))
    ∙ flat_map-append added_line (packages_at space (take i numbers)) (packages_at space (get_or numbers i 0 ∷ [])))

-- ---- of a plan

pub prints : (contents : Contents) (targets : List (List ℕ)) (plan : Plan) (old new : List ℕ) (result : Result (Unit {0}) PruneErr) → IsPlan contents targets plan → PutsText (added_lines (packages_at contents.space plan.kept)) old new result → Prints contents targets old new result
prints contents targets plan old new result p put = by result put where
  text : List ℕ
  text = added_lines (packages_at contents.space plan.kept)

  is : text ≡ added_lines (kept_packages contents.space p.pruning.set)
  is = ap added_lines (ap (packages_at contents.space) p.kept ∙ packages_kept contents p.pruning.set)

  by : (result : Result (Unit {0}) PruneErr) → PutsText (added_lines (packages_at contents.space plan.kept)) old new result → Prints contents targets old new result
  by (Ok u) put = (text, (p.pruning.set, p.is.kept, is), put)
  by (Err (NoPackage name)) put = absurd put
  by (Err (OutTaken path)) put = absurd put
  by (Err (Missing from name)) put = absurd put
  by (Err (TooLarge path)) put = absurd put
  by (Err TreeFailed) put = absurd put
  by (Err SinkFailed) put = (text, (p.pruning.set, p.is.kept, is), put)
  by (Err OutOfMemory) put = put

-- a fault of the tree is none of the output
pub prints_nothing : (contents : Contents) (targets : List (List ℕ)) (written : List ℕ) (before now : ℕ) (e : PruneErr) → HasCause (counts_of before 0) (counts_of now 0) (Err e) → Prints contents targets written written (Err e)
prints_nothing contents targets written before now (NoPackage name) c = refl
prints_nothing contents targets written before now (OutTaken path) c = refl
prints_nothing contents targets written before now (Missing from name) c = refl
prints_nothing contents targets written before now (TooLarge path) c = refl
prints_nothing contents targets written before now TreeFailed c = refl
prints_nothing contents targets written before now SinkFailed c = absurd (omega (arith, c.1))
prints_nothing contents targets written before now OutOfMemory c = refl
