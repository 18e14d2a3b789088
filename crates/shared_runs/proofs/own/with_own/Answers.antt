use Rattle.std.proofs.Common.{◌≡◌, ℕ, suc, ◌+◌, ◌-◌, ◌<◌, List, [], ◌∷◌, ◌++◌, sym, ◌∙◌, ap, arith}
use Rattle.std.proofs.Common.{append_assoc}
use Rattle.shared_runs.specs.Own.{numbers_on}
use Rattle.shared_runs.proofs.own.with_own.Goals as goal

one_on : (n next : ℕ) → n < next → numbers_on n (next - n) ≡ n ∷ numbers_on (n + 1) (next - (n + 1))
one_on n next lt =
    let more : next - n ≡ suc (next - (n + 1)) = omega (arith, lt) in
    ap (numbers_on n) more

pub loop-number-preserved : goal.loop-number-preserved
loop-number-preserved c =
    let n = c.loop-number.number in
    let items = c.loop-number.items.items in
    let next = c.in-Some.next in
    let rest = numbers_on (n + 1) (next - (n + 1)) in
    ap (λ (l : List ℕ). l ++ rest) c.in_ok-push.ensures.items
    ∙ append_assoc items (n ∷ []) rest
    ∙ ap (λ (l : List ℕ). items ++ l) (sym (one_on n next c.loop-number-test.true))
    ∙ c.loop-number.invariant
