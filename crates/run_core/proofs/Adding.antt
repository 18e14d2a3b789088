-- One more dependent in the lists of dependents.
use Rattle.std.proofs.Common.{◌≡◌, ℕ, suc, ◌+◌, ◌<◌, ◌==◌, true, false, cond, List, [], ◌∷◌, ◌++◌, length, take, set, get_or, get_or-set_same, get_or-set_other, refl, sym, ap, ◌∙◌, arith, inl, inr}
use Rattle.std.proofs.lemmas.Bool.{cases_Bool, cases_eq, eq-eqb, ne_eqb}
use Rattle.std.proofs.lemmas.List.{get_or_read}
use Rattle.run_core.specs.Tables.{times, list_at}
use Rattle.run_core.proofs.Members.{times-more}

times-push : (u : ℕ) (xs : List ℕ) (y : ℕ) → times u (xs ++ y ∷ []) ≡ times u xs + cond (u == y) 1 0
times-push u [] y = elim (u == y) as (λ b. cond b 1 0 ≡ 0 + cond b 1 0) [ true ↦ refl | false ↦ refl ]
times-push u (x ∷ xs) y =
    let h = times-push u xs y in
    elim (u == x) as (λ b. cond b (suc (times u (xs ++ y ∷ []))) (times u (xs ++ y ∷ [])) ≡ cond b (suc (times u xs)) (times u xs) + cond (u == y) 1 0) [ true ↦ omega (arith, h) | false ↦ h ]

pub added : (start old : List (List ℕ)) (deps : List ℕ) (i task : ℕ) (list new : List ℕ) → i < length deps → get_or deps i 0 < length old → list ≡ get_or old (get_or deps i 0) list → new ≡ list ++ task ∷ []
    → ((d u : ℕ) → times u (list_at old d) ≡ times u (list_at start d) + cond (u == task) (times d (take i deps)) 0)
    → (d u : ℕ) → times u (list_at (set old (get_or deps i 0) new) d) ≡ times u (list_at start d) + cond (u == task) (times d (take (i + 1) deps)) 0
added start old deps i task list new l inside is push before d u =
    let x = get_or deps i 0 in
    let more = times-more d deps i l in
    let was = before d u in
    elim (cases_eq d x) [
      | inl e ↦
          let here : times u (list_at (set old x new) d) ≡ times u (list_at old d) + cond (u == task) 1 0 =
          ap (λ k. times u (list_at (set old x new) k)) e ∙ ap (times u) (get_or-set_same old x new [] inside ∙ push) ∙ times-push u list task
          ∙ ap (λ xs. times u xs + cond (u == task) 1 0) (get_or_read old x list inside is [] ∙ ap (list_at old) (sym e)) in
          let one : times d (take (i + 1) deps) ≡ times d (take i deps) + 1 = rw (eq-eqb d x e) at more in
          elim (cases_Bool (u == task)) [
            | inl t ↦ rw t (let here' = rw t at here in let was' = rw t at was in omega (arith, here', was', one))
            | inr f ↦ rw f (let here' = rw f at here in let was' = rw f at was in omega (arith, here', was'))
          ]
      | inr n ↦
          let same : times d (take (i + 1) deps) ≡ times d (take i deps) + 0 = rw (ne_eqb d x n) at more in
          let there : times u (list_at (set old x new) d) ≡ times u (list_at old d) = ap (times u) (get_or-set_other old x d new [] n) in
          elim (cases_Bool (u == task)) [
            | inl t ↦ rw t (let was' = rw t at was in omega (arith, there, was', same))
            | inr f ↦ rw f (let was' = rw f at was in omega (arith, there, was'))
          ]
    ]
