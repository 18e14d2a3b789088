use Rattle.std.proofs.Common.{◌<◌, ◌^◌, ◌++◌, ◌∙◌, List, ℕ, length, ap, arith}
use Rattle.pair_writer.proofs.Adding.{text_is, text_size}
use Rattle.pair_writer.proofs.pieces.Pieces.put_to.Goals as goal

pub returns-clause-text : goal.returns-clause-text
returns-clause-text c are x =
    let mid = c.put_count.new.to.items in
    let q = c.close.new.self in
    let written = c.in_ok-extend_from_slice.ensures.items ∙ ap (λ (l : List ℕ). mid ++ l) c.as_slice.ensures.value in
    let short : length q.items.items < 2 ^ 63 = omega (arith, q.items.ok) in
    text_is c.args.self q are c.args.to.now.items mid c.extend_from_slice.new.self.items x c.in_ok-close.ensures short c.in_ok-put_count.ensures written

pub returns-clause-size : goal.returns-clause-size
returns-clause-size c =
    let mid = c.put_count.new.to.items in
    let q = c.close.new.self in
    let written = c.in_ok-extend_from_slice.ensures.items ∙ ap (λ (l : List ℕ). mid ++ l) c.as_slice.ensures.value in
    text_size c.args.self q c.args.to.now.items mid c.extend_from_slice.new.self.items c.in_ok-close.ensures c.in_ok-put_count.ensures written
