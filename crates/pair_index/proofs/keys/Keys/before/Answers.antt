use Rattle.sha2.specs.Sha256.{sha256}
use Rattle.cache_api.specs.Keys.{text_of}
use Rattle.pair_index.proofs.Places.{print_at, before_print}
use Rattle.pair_index.proofs.keys.Keys.before.Goals as goal

pub returns-then-by_print : goal.returns-then-by_print
returns-then-by_print c =
    let keys = c.args.self.now in
    let key = text_of c.args.key.now in
    let at = print_at c.args.by_print keys key c.args.at c.if-by_print.true c.requires.inside c.requires.may in
    let e = c.before-then-by_print.ensures in
    before_print c.args.by_print keys key c.args.at c.before-then-by_print.result c.if-by_print.true c.requires.inside
    (e.greatest (sha256 key) at) (e.none (sha256 key) at)
