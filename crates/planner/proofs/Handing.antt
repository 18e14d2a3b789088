-- The variables that are passed on, task by task.
use Rattle.std.proofs.Common.{◌≡◌, ◌⊎◌, inl, inr, ◌+◌, ◌<◌, ◌≤◌, ℕ, List, [], ◌∷◌, ◌++◌, length, get_or, sym, ◌∙◌, subst, arith}
use Rattle.std.specs.Prelude.{Some, slice_get, slice_index_or}
use Rattle.std.proofs.lemmas.Bool.{cases_lt}
use Rattle.std.proofs.lemmas.List.{get_or_push, get_or_append_left, get_or_default}
use Rattle.std.proofs.lemmas.Option.{slice_get-get_or}
use Rattle.env_select.specs.Choice.{IsChosen, is_given}
use Rattle.env_select.specs.declared.choose.EnvMode.{EnvMode}
use Rattle.turbo_config.specs.declared.entry.TaskDef.{TaskDef}
use Rattle.listing.specs.declared.part.Part.{Part}
use Rattle.run_laws.specs.Ancestors.{blank}

module _ (mode : EnvMode) (global : List (List ℕ)) (env : List (List ℕ × List ℕ)) (defs : List TaskDef) (parts : List Part) where
  -- what is passed on to the first tasks
  abbrev pub AreGiven : ℕ → List (List (List ℕ × List ℕ)) → Type 0
  AreGiven n lists = (t : ℕ) (def : TaskDef) → t < n → slice_get defs t ≡ Some def → IsChosen (is_given mode def.pass global (slice_index_or parts t blank).env) env (slice_index_or lists t [])

  pub given_more : (n : ℕ) (lists : List (List (List ℕ × List ℕ))) → length lists ≡ n → AreGiven n lists → (def : TaskDef) (part : Part) (pairs : List (List ℕ × List ℕ)) → n < length defs → n < length parts → def ≡ get_or defs n def → part ≡ get_or parts n part
      → IsChosen (is_given mode def.pass global part.env) env pairs → AreGiven (n + 1) (lists ++ pairs ∷ [])
  given_more n lists count so def part pairs less inside def_is part_is chosen t d before at = by (cases_lt t n) where
    by : (t < n) ⊎ (n ≤ t) → IsChosen (is_given mode d.pass global (slice_index_or parts t blank).env) env (slice_index_or (lists ++ pairs ∷ []) t [])
    by (inl earlier) = subst (λ given. IsChosen (is_given mode d.pass global (slice_index_or parts t blank).env) env given) (sym (get_or_append_left lists (pairs ∷ []) [] t (omega (arith, earlier, count)))) (so t d earlier at)
    by (inr later) =
        let here : n ≡ t = omega (arith, later, before) in
        let same : def ≡ d = let found : slice_get defs n ≡ Some (get_or defs n def) = slice_get-get_or defs n def less in let asked : slice_get defs n ≡ Some d = subst (λ m. slice_get defs m ≡ Some d) (sym here) at in cc in
        let own : part ≡ slice_index_or parts n blank = part_is ∙ get_or_default parts n part blank inside in
        let last : slice_index_or (lists ++ pairs ∷ []) n [] ≡ pairs = get_or_push lists pairs [] n count in
        subst (λ m. IsChosen (is_given mode d.pass global (slice_index_or parts m blank).env) env (slice_index_or (lists ++ pairs ∷ []) m [])) here
        (subst (λ given. IsChosen (is_given mode d.pass global (slice_index_or parts n blank).env) env given) (sym last)
        (subst (λ (p : Part). IsChosen (is_given mode d.pass global p.env) env pairs) own
        (subst (λ (x : TaskDef). IsChosen (is_given mode x.pass global part.env) env pairs) same chosen)))
