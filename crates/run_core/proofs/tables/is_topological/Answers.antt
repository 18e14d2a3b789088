use Rattle.std.proofs.Common.{◌≡◌, ◌<◌, All, length, refl, sym, subst, ◌∙◌, inl, inr, arith}
use Rattle.std.proofs.lemmas.Bool.{cases_lt, false≢true, true≢false}
use Rattle.std.proofs.lemmas.List.{get_or_read}
use Rattle.std.proofs.lemmas.List.Elements.{All-from_recursion, recursion_from_All}
use Rattle.std.specs.List.{AllByRecursion}
use Rattle.run_core.specs.Tables.{list_at}
use Rattle.run_core.proofs.Members.{list-past}
use Rattle.run_core.proofs.tables.is_topological.Goals as goal

pub returns-then-not-are_below : goal.returns-then-not-are_below
returns-then-not-are_below c =
    let deps = c.args.deps.now in
    let t = c.loop-t.t in
    let list : c.as_slice.result.now ≡ list_at deps t = c.as_slice.ensures ∙ get_or_read deps t _ c.loop-t-test.true c.index-deps-t.is _ in (
      (λ e. absurd (false≢true e)),
      (λ order. absurd (true≢false (sym (c.are_below.ensures.1 (subst (λ xs. All (λ d. d < t) xs) (sym list) (All-from_recursion (λ d. d < t) (list_at deps t) (order t)))) ∙ c.if-not-are_below.true))),
    )

pub returns : goal.returns
returns c =
    let deps = c.args.deps.now in (
      (λ e t. elim (cases_lt t (length deps)) [
        | inl b ↦ recursion_from_All (λ d. d < t) (list_at deps t) (c.loop-t.invariant t (let k = c.loop-t-test.false in omega (arith, b, k)))
        | inr o ↦ subst (λ xs. AllByRecursion (λ d. d < t) xs) (sym (list-past deps t o)) tt
      ]),
      (λ order. refl),
    )
