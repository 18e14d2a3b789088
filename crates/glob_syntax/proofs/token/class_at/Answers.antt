use Rattle.std.proofs.Common.{sym, ◌∙◌, refl}
use Rattle.glob_syntax.proofs.Tokens.{no_class}
use Rattle.glob_syntax.proofs.token.class_at.Goals as goal
use Rattle.glob_syntax.proofs.token.class_at.Goals.{then-none_ends-via-then-none_ends, then-none_ends-via-else-none_ends+then-not-is_plain}

pub returns-then-none_ends-clause-tokens : goal.returns-then-none_ends-clause-tokens
returns-then-none_ends-clause-tokens c = elim c.then-none_ends.branch [
  | then-none_ends-via-then-none_ends w ↦ no_class c.args.mark.now c.args.behind.now (c.requires w.if-none_ends.true)
  | then-none_ends-via-else-none_ends+then-not-is_plain w ↦
      let e = sym w.is_plain.ensures ∙ w.if-not-is_plain.true in rw e refl
]
