use Rattle.std.proofs.Common.{ap, arith, length, length-append, take, ◌∷◌, ◌≡◌}
use Rattle.rel_path.proofs.Parts.{join-first, join-more, turn}
use Rattle.listing.specs.KeyText.{path_text}
use Rattle.cache_api.proofs.writing.path_len.Goals as goal
use Rattle.cache_api.proofs.writing.path_len.Goals.{then-i-gt0, else-i-gt0}

pub loop-i-preserved : goal.loop-i-preserved
loop-i-preserved c =
    let path = c.args.path.now in
    let name = c.index-path-i.result in
    let t = turn path c.loop-i.i name (omega arith, c.index-path-i.is) in
    let first = join-first path c.loop-i.i name t.0 in
    let more = join-more path c.loop-i.i name t.0 (omega arith) in
    let whole = c.saturating_add-len-in-loop-i.ensures in
    let same = ap length c.as_str.ensures in
    elim c.if-i-gt0.branch [
      | then-i-gt0 w ↦ omega (arith, whole, same, w.len-is, w.saturating_add-len.ensures, c.loop-i.invariant, ap length (more w.if-i-gt0.true), length-append (path_text (take c.loop-i.i path)) (47 ∷ name))
      | else-i-gt0 w ↦ let root : c.loop-i.i ≡ 0 = omega (arith, w.if-i-gt0.false) in omega (arith, whole, same, w.len-is, c.loop-i.invariant, ap length (first root), ap (λ n. length (path_text (take n path))) root)
    ]
