-- Packages by their names, and the scripts of the root.
use Rattle.std.proofs.Common.{◌≡◌, ◌≢◌, ◌==◌, ℕ, zero, suc, ◌+◌, ◌<◌, Bool, true, false, List, [], ◌∷◌, ◌++◌, length, get_or, take, refl, sym, ap, ◌∙◌, subst, arith}
use Rattle.std.specs.Prelude.{Option, Some, None, is_some, not, find}
use Rattle.std.specs.List.{slice_get, filter_map, cons_option}
use Rattle.std.specs.Option.{option_map}
use Rattle.std.proofs.lemmas.Bool.{false≢true, or_left}
use Rattle.std.proofs.lemmas.List.{take_more}
use Rattle.std.proofs.lemmas.List.Elements.{filter_map-append}
use Rattle.std.proofs.lemmas.List.Folds.{list_any_none}
use Rattle.std.proofs.lemmas.Option.{slice_get-get_or}
use Rattle.rel_path.specs.Paths.{name_eq}
use Rattle.rel_path.proofs.PathLaws.{name_same, name_self}
use Rattle.workspaces.specs.declared.member.Package.{Package}
use Rattle.workspaces.specs.Space.{Space, IsProper, root_name}
use Rattle.workspaces.specs.Steps.{IsNoName, IsNamedAt}
use Rattle.turbo_config.specs.declared.entry.TaskDef.{TaskDef}
use Rattle.task_definitions.specs.Setup.{Setup, task_def}
use Rattle.task_inputs.specs.Homes.{Configured, configured_by, configured_in}
use Rattle.collect.proofs.Lists.{found_at, not_at}
use Rattle.repository.specs.Reading.{Contents}
use Rattle.kept_packages.specs.Answers.{is_unknown}
use Rattle.kept_packages.specs.Kept.{has_root_task}
use Rattle.kept_packages.specs.Needs.{Gains, IsTarget}
use Rattle.kept_packages.proofs.Lists.{or_none, get_has, has_any}
use Rattle.kept_packages.proofs.Gains.{held, there, gains_one, gains_next, target_splits}
use Rattle.kept_packages.proofs.Owners.{inner_slot, one_named}

-- ---- the packages of names

name_other : (a b : List ℕ) → a ≢ b → name_eq a b ≡ false
name_other a b ne = by (name_eq a b) refl where
  by : (t : Bool) → name_eq a b ≡ t → t ≡ false
  by true e = absurd (ne (name_same a b e))
  by false e = refl

its_name : (packages : List Package) (target : List ℕ) (n : ℕ) (m : Package) → IsNamedAt packages target n → slice_get packages n ≡ Some m → name_eq m.name target ≡ true
its_name packages target n m named at = subst (λ t. name_eq m.name t ≡ true) (held (λ (p : Package). p.name ≡ target) packages n m named.1 at) (name_self m.name)

is_known : (packages : List Package) (target : List ℕ) (n : ℕ) → IsNamedAt packages target n → is_unknown packages target ≡ false
is_known packages target n named =
    let m = there packages n named.0 in
    ap not (has_any (λ (p : Package). name_eq p.name target) packages m.0 (get_has packages n m.0 m.1) (its_name packages target n m.0 named m.1))

not_known : (packages : List Package) (target : List ℕ) → IsNoName packages target → is_unknown packages target ≡ true
not_known packages target none = ap not (list_any_none (λ (p : Package). name_eq p.name target) packages (λ k d less. name_other _ target (none k d less)))

target_one : (space : Space) (proper : IsProper space) (target : List ℕ) (n : ℕ) (old new : List ℕ) → IsNamedAt space.packages target n → new ≡ old ++ n ∷ [] → Gains space (IsTarget space (target ∷ [])) old new
target_one space proper target n old new named put =
    let m = there space.packages n named.0 in
    gains_one space (IsTarget space (target ∷ [])) old new n put
    (record { member = m.0; stands = inner_slot space n m.0 m.1; is = (get_has space.packages n m.0 m.1, or_left (name_eq m.0.name target) false (its_name space.packages target n m.0 named m.1)) })
    (λ q t. one_named space proper target n q named t.0 (or_none (name_eq q.name target) t.1))

module _ (space : Space) (targets : List (List ℕ)) (i : ℕ) (target : List ℕ) (less : i < length targets) (is : target ≡ get_or targets i target) (known : find (is_unknown space.packages) (take i targets) ≡ None) where
  -- one more name that a package has
  pub known_next : (n : ℕ) → IsNamedAt space.packages target n → find (is_unknown space.packages) (take (i + 1) targets) ≡ None
  known_next n named = not_at (is_unknown space.packages) targets i target less known (ap (is_unknown space.packages) (sym is) ∙ is_known space.packages target n named)

  pub numbers_next : (proper : IsProper space) (n : ℕ) (old new : List ℕ) → IsNamedAt space.packages target n → new ≡ old ++ n ∷ [] → Gains space (IsTarget space (take i targets)) [] old → Gains space (IsTarget space (take (i + 1) targets)) [] new
  numbers_next proper n old new named put before = gains_next space (IsTarget space) (target_splits space) targets i target [] old new less is before (target_one space proper target n old new named put)

  -- the first name that no package has
  pub unknown_here : (name : List ℕ) → IsNoName space.packages target → name ≡ target → find (is_unknown space.packages) targets ≡ Some name
  unknown_here name none same =
      found_at (is_unknown space.packages) targets i target less known (ap (is_unknown space.packages) (sym is) ∙ not_known space.packages target none)
      ∙ slice_get-get_or targets i target less ∙ ap (λ t. Some t) (sym is ∙ sym same)

-- ---- scripts with a definition

module _ (setup : Setup) (name : List ℕ) (scripts : List (List ℕ × List ℕ)) (i : ℕ) (d : List ℕ × List ℕ) (less : i < length scripts) where
  pub none_next : configured_in setup name (take i scripts) ≡ [] → task_def setup name (get_or scripts i d).0 ≡ None → configured_in setup name (take (i + 1) scripts) ≡ []
  unfolding configured_in
  none_next before none =
      ap (filter_map (configured_by setup name)) (take_more scripts i d less) ∙ filter_map-append (configured_by setup name) (take i scripts) (get_or scripts i d ∷ [])
      ∙ ap (λ (cs : List Configured). cs ++ cons_option (configured_by setup name (get_or scripts i d)) []) before
      ∙ ap (λ o. cons_option (option_map (λ (def : TaskDef). record { task = (get_or scripts i d).0; outputs = def.outputs }) o) []) none

  pub some_here : (def : TaskDef) → task_def setup name (get_or scripts i d).0 ≡ Some def → (length (configured_in setup name scripts) == 0) ≡ false
  unfolding configured_in
  some_here def some = long scripts i less refl where
    long : (ss : List (List ℕ × List ℕ)) (k : ℕ) → k < length ss → get_or ss k d ≡ get_or scripts i d → (length (filter_map (configured_by setup name) ss) == 0) ≡ false
    long [] k l same = absurd (omega (arith, l))
    long (s ∷ ss) zero l same = by (configured_by setup name s) (ap (configured_by setup name) same ∙ ap (option_map (λ (e : TaskDef). record { task = (get_or scripts i d).0; outputs = e.outputs })) some) where
      by : (o : Option Configured) → o ≡ Some (record { task = (get_or scripts i d).0; outputs = def.outputs }) → (length (cons_option o (filter_map (configured_by setup name) ss)) == 0) ≡ false
      by None e = cc
      by (Some c) e = grind arith
    long (s ∷ ss) (suc k) l same = by (configured_by setup name s) (long ss k (omega (arith, l)) same) where
      by : (o : Option Configured) → (length (filter_map (configured_by setup name) ss) == 0) ≡ false → (length (cons_option o (filter_map (configured_by setup name) ss)) == 0) ≡ false
      by None e = e
      by (Some c) e = grind arith

  pub none_so : (o : Option TaskDef) → o ≡ task_def setup name (get_or scripts i d).0 → is_some o ≡ false → task_def setup name (get_or scripts i d).0 ≡ None
  none_so None is e = sym is
  none_so (Some def) is e = absurd (false≢true (sym e))

  pub some_so : (o : Option TaskDef) → o ≡ task_def setup name (get_or scripts i d).0 → is_some o ≡ true → (length (configured_in setup name scripts) == 0) ≡ false
  some_so None is e = absurd (false≢true e)
  some_so (Some def) is e = some_here def (sym is)

-- whether the root has one, by its name and its scripts
pub root_has : (contents : Contents) (name : List ℕ) (scripts : List (List ℕ × List ℕ)) (none : Bool) → name ≡ root_name → scripts ≡ contents.space.root.scripts → (length (configured_in contents.setup name scripts) == 0) ≡ none → not none ≡ has_root_task contents
root_has contents name scripts none named own e =
    ap not (sym e ∙ ap (λ n. length (configured_in contents.setup n scripts) == 0) named ∙ ap (λ ss. length (configured_in contents.setup root_name ss) == 0) own)
