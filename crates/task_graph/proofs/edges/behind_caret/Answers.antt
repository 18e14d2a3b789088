use Rattle.std.proofs.Common.{◌≡◌, ◌≢◌, ◌∷◌, [], ℕ, List, None, refl, ap, lit<, false, true, Bool, eqb, arith}
use Rattle.std.proofs.lemmas.Bool.Decides.{nat_tests}
use Rattle.std.proofs.lemmas.Str.Pattern.{strip_prefix_char}
use Rattle.turbo_config.specs.Names.{begins_caret}
use Rattle.task_graph.proofs.edges.behind_caret.Goals as goal

none_begins : (text : List ℕ) → ((rest : List ℕ) → text ≢ 94 ∷ rest) → begins_caret text ≡ false
none_begins [] none = refl
none_begins (b ∷ bs) none = by (eqb b 94) refl where
  by : (t : Bool) → eqb b 94 ≡ t → t ≡ false
  by true e = let same : b ≡ 94 = grind (arith, nat_tests, e) in absurd (none bs (ap (λ c. c ∷ bs) same))
  by false e = refl

pub returns-in-None-clause-value : goal.returns-in-None-clause-value
returns-in-None-clause-value c =
    let t = strip_prefix_char 94 c.args.text.now None c.in-None.ensures.cases (lit< tt) in
    rw (none_begins c.args.text.now t) refl
