use Rattle.std.proofs.Common.{◌≡◌, ◌∷◌, ◌++◌, [], ◌∙◌, sym, append_assoc, arith}
use Rattle.std.proofs.lemmas.Grind.{common_steps}
use Rattle.glob_syntax.specs.Tokens.{token_of, token_with}
use Rattle.glob_syntax.proofs.Tokens.{no_end_behind}
use Rattle.glob_syntax.proofs.token.read_tokens.Goals as goal

pub loop-mark-preserved-in-Some-2 : goal.loop-mark-preserved-in-Some-2
loop-mark-preserved-in-Some-2 c =
    let pushed : c.push.new.self.items ≡ c.loop-mark.tokens.items ++ token_with c.in-Some.mark.now.at c.in-Some-2.sign ∷ [] = grind (arith, common_steps) in
    let read = rw c.in-Some-2.is at c.in_ok-sign.ensures.tokens in
    (rw (pushed, append_assoc) (rw (c.in-Some.ensures.cases.0, read) at c.loop-mark.invariant.0), λ t. cc)

pub loop-mark-preserved-then-none_ends : goal.loop-mark-preserved-then-none_ends
loop-mark-preserved-then-none_ends c =
    let pushed : c.push-in-None.new.self.items ≡ c.loop-mark.tokens.items ++ token_of c.in-Some.mark.now ∷ [] = grind (arith, common_steps) in
    let read = rw c.in-None.is at c.in_ok-sign.ensures.tokens in
    let slash = sym c.is_slash.ensures ∙ c.if-not-is_slash.true in
    (rw (pushed, append_assoc) (rw (c.in-Some.ensures.cases.0, read) at c.loop-mark.invariant.0), λ t. no_end_behind c.in-Some.mark.now c.in-Some.behind.now slash (rw c.in-Some.ensures.cases.0 at (c.loop-mark.invariant.1 t)))
