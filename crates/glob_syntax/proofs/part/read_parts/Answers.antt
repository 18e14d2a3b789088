use Rattle.std.proofs.Common.{◌≡◌, ◌+◌, ◌∙◌, sym, ap, arith, append_assoc, drop}
use Rattle.std.specs.List.{filter_map}
use Rattle.rel_path.proofs.Parts.{turn}
use Rattle.glob_syntax.specs.Pieces.{seen}
use Rattle.glob_syntax.specs.Parts.{part_of}
use Rattle.glob_syntax.proofs.Components.{with_front-nil, parts-slash, parts-other}
use Rattle.glob_syntax.proofs.part.read_parts.Goals as goal
use Rattle.glob_syntax.proofs.part.read_parts.Goals.{then-is_slash+in_ok-push_part, else-is_slash+in_ok-push}

pub loop-token-init : goal.loop-token-init
loop-token-init c =
    let none : c.new-parts.result.items ≡ _ = c.new-parts.ensures.items in
    rw (none, c.new-component.ensures) (ap (filter_map part_of) (sym (with_front-nil (seen c.args.tokens.now))))

pub loop-token-preserved : goal.loop-token-preserved
loop-token-preserved c =
    let token = c.token-item.result.now in
    let rest = seen (drop (c.loop-token.token-index + 1) c.args.tokens.now) in
    let before = rw (turn c.args.tokens.now c.loop-token.token-index c.token-item.result (omega arith, c.token-item.is)).1 at c.loop-token.invariant in
    elim c.if-is_slash.branch [
      | then-is_slash+in_ok-push_part w ↦
          let e = sym c.is_slash.ensures ∙ w.if-is_slash.true in
          rw (w.parts-is, w.component-is, w.new-component-then-is_slash.ensures, w.in_ok-push_part.ensures, append_assoc, ← parts-slash c.loop-token.component token rest e) before
      | else-is_slash+in_ok-push w ↦
          let e = sym c.is_slash.ensures ∙ w.if-is_slash.false in
          rw (w.parts-is, w.component-is, w.in_ok-push.ensures, ← parts-other c.loop-token.component token rest e) before
    ]
