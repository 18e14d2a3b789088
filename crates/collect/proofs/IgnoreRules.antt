-- The rules of the ignore files that were read.
use Rattle.std.proofs.Common.{◌≡◌, ℕ, Bool, true, false, cond, ◌||◌, List, [], ◌∷◌, ◌++◌, map, refl, sym, ap, ◌∙◌}
use Rattle.std.specs.Prelude.{Option, Some, None}
use Rattle.std.specs.Option.{option_map}
use Rattle.std.specs.List.{AllByRecursion, cons_option}
use Rattle.std.specs.List.Sorted.{IsStrictlySortedBy}
use Rattle.std.specs.declared.cmp.Ordering.TheVariants.{Less}
use Rattle.std.proofs.lemmas.Bool.{false≢true}
use Rattle.rel_path.specs.Paths.{Path, path_eq, is_among, path_cmp}
use Rattle.rel_path.specs.Files.{FileMap}
use Rattle.rel_path.proofs.PathLaws.{path_same, path_self, path_cmp_self, name_same}
use Rattle.ignore_rules.specs.Stacks.{rules_at}
use Rattle.ignore_rules.specs.Rules.{rules_of}
use Rattle.task_inputs.specs.Ignores.{is_ignore_file, ignore_name, rules_found}
use Rattle.collect.specs.Listings.{with_bytes}
use Rattle.collect.specs.Steps.{folder_of, rules_file}
use Rattle.collect.proofs.Readings.{folder_above}

pub append_none : {X : Type 0} (xs : List X) → xs ++ [] ≡ xs
append_none [] = refl
append_none (x ∷ xs) = ap (λ ys. x ∷ ys) (append_none xs)

-- an ignore file is the one of its folder
pub of_folder : (p : Path) → is_ignore_file p ≡ true → p ≡ folder_of p ++ ignore_name ∷ []
of_folder [] e = absurd (false≢true e)
of_folder (x ∷ []) e = ap (λ n. n ∷ []) (name_same x ignore_name e)
of_folder (x ∷ y ∷ p) e = ap (λ q. x ∷ q) (of_folder (y ∷ p) e)

less_among : (x : Path) (paths : List Path) (q : Path) → AllByRecursion (λ y. path_cmp x y ≡ Less) paths → path_eq x q ≡ true → is_among paths q ≡ false
less_among x [] q all e = refl
less_among x (y ∷ paths) q all e = by (path_eq y q) refl (less_among x paths q all.1 e) where
  by : (b : Bool) → path_eq y q ≡ b → is_among paths q ≡ false → (b || is_among paths q) ≡ false
  by true f more = absurd (let a : path_cmp x x ≡ Less = ap (path_cmp x) (path_same x q e ∙ sym (path_same y q f)) ∙ all.0 in let b = path_cmp_self x in cc)
  by false f more = more

pub rules_read : (files : FileMap) (folder : Path) (paths : List Path) → IsStrictlySortedBy path_cmp paths → AllByRecursion (λ p. is_ignore_file p ≡ true) paths
    → rules_at (map rules_file (with_bytes files paths)) folder ≡ cond (is_among paths (folder ++ ignore_name ∷ [])) (rules_found (files (folder ++ ignore_name ∷ []))) []
unfolding IsStrictlySortedBy
rules_read files folder [] sorted all = refl
rules_read files folder (x ∷ paths) sorted all = by (files x) refl (path_eq x (folder ++ ignore_name ∷ [])) refl (rules_read files folder paths sorted.1 all.1) where
  same_folder : path_eq x (folder ++ ignore_name ∷ []) ≡ true → path_eq folder (folder_of x) ≡ true
  same_folder e = ap (λ p. path_eq folder (folder_of p)) (path_same x (folder ++ ignore_name ∷ []) e) ∙ ap (path_eq folder) (folder_above folder ignore_name) ∙ path_self folder

  other_folder : (b : Bool) → path_eq folder (folder_of x) ≡ b → path_eq x (folder ++ ignore_name ∷ []) ≡ false → b ≡ false
  other_folder true f e = absurd (false≢true (sym e ∙ ap (path_eq x) (ap (λ p. p ++ ignore_name ∷ []) (path_same folder (folder_of x) f) ∙ sym (of_folder x all.0)) ∙ path_self x))
  other_folder false f e = refl

  by : (o : Option (List ℕ)) → files x ≡ o → (b : Bool) → path_eq x (folder ++ ignore_name ∷ []) ≡ b → rules_at (map rules_file (with_bytes files paths)) folder ≡ cond (is_among paths (folder ++ ignore_name ∷ [])) (rules_found (files (folder ++ ignore_name ∷ []))) []
      → rules_at (map rules_file (cons_option (option_map (λ bytes. (x, bytes)) o) (with_bytes files paths))) folder ≡ cond (b || is_among paths (folder ++ ignore_name ∷ [])) (rules_found (files (folder ++ ignore_name ∷ []))) []
  by None e true f more = more ∙ ap (λ a. cond a (rules_found (files (folder ++ ignore_name ∷ []))) []) (less_among x paths (folder ++ ignore_name ∷ []) sorted.0 f) ∙ ap rules_found (sym e ∙ ap files (path_same x (folder ++ ignore_name ∷ []) f))
  by None e false f more = more
  by (Some bytes) e true f more =
      ap (λ a. cond a (rules_of bytes) [] ++ rules_at (map rules_file (with_bytes files paths)) folder) (same_folder f)
      ∙ ap (λ rules. rules_of bytes ++ rules) (more ∙ ap (λ a. cond a (rules_found (files (folder ++ ignore_name ∷ []))) []) (less_among x paths (folder ++ ignore_name ∷ []) sorted.0 f))
      ∙ append_none (rules_of bytes) ∙ ap rules_found (sym e ∙ ap files (path_same x (folder ++ ignore_name ∷ []) f))
  by (Some bytes) e false f more = ap (λ a. cond a (rules_of bytes) [] ++ rules_at (map rules_file (with_bytes files paths)) folder) (other_folder (path_eq folder (folder_of x)) refl f) ∙ more
