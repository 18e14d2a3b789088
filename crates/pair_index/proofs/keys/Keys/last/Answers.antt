use Rattle.std.proofs.Common.{List, ℕ, length, subst}
use Rattle.std.specs.Prelude.{IfSome, IfNone}
use Rattle.print_index.specs.Digests.{IsLastBelow, NoneBelow}
use Rattle.cache_api.specs.Keys.{text_of}
use Rattle.pair_index.specs.Keys.{prints_in}
use Rattle.pair_index.proofs.Places.{last_print}
use Rattle.pair_index.proofs.keys.Keys.last.Goals as goal

pub returns-then-by_print : goal.returns-then-by_print
returns-then-by_print c =
    let keys = c.args.self.now in
    let prints = prints_in keys in
    let r = c.last.result in
    last_print c.args.by_print keys (text_of c.args.key.now) r c.if-by_print.true
    (subst (λ (d : List ℕ). IfSome r (IsLastBelow prints (length prints) d)) c.print.ensures c.last.ensures.greatest)
    (subst (λ (d : List ℕ). IfNone r (NoneBelow prints (length prints) d)) c.print.ensures c.last.ensures.none)
