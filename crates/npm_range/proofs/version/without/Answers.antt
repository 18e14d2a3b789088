use Rattle.std.proofs.Common.{◌≡◌, ◌∙◌, sym, ap, Some, None, ℕ, List, Option, Bor, ◌≢◌, ◌∷◌}
use Rattle.std.specs.Option.{unwrap_or, MatchOption}
use Rattle.std.proofs.lemmas.Str.Pattern.{strip_prefix_char}
use Rattle.npm_range.specs.Grammar.{without}
use Rattle.npm_range.proofs.Cuts.{without-found, without-none}
use Rattle.npm_range.proofs.version.without.Goals as goal

stripped : (mark : ℕ) (text : Bor (List ℕ)) (r : Option (Bor (List ℕ))) → MatchOption r ((rest : List ℕ) → text.now ≢ mark ∷ rest) (λ x. text.now ≡ mark ∷ x.now) → (unwrap_or r text).now ≡ without mark text.now
stripped mark text None h = sym (without-none mark text.now h)
stripped mark text (Some x) h = sym (without-found mark text.now x.now h)

pub returns : goal.returns
returns c = rw c.unwrap_or.ensures (stripped c.args.mark c.args.text c.strip_prefix.result (strip_prefix_char c.args.mark c.args.text.now c.strip_prefix.result c.strip_prefix.ensures.cases c.requires))
