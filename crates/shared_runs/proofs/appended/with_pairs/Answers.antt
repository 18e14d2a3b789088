use Rattle.std.proofs.Common.{◌≡◌, List, sym, ◌∙◌, ap, subst}
use Rattle.std.specs.Prelude.{IsTrue}
use Rattle.cache_api.specs.Keys.{new_pairs}
use Rattle.cache_api.specs.Pairs.{Pair}
use Rattle.cache_api.specs.declared.puts.NewPair.{NewPair}
use Rattle.shared_runs.specs.Appended.{HasPairs}
use Rattle.shared_runs.specs.Others.{pairs_of}
use Rattle.pair_reader.specs.declared.wanted.Lengths.TheVariants as lengths
use Rattle.shared_runs.proofs.Appending.{has_pairs}
use Rattle.shared_runs.proofs.appended.with_pairs.Goals as goal

pub returns-in-Ok-put_all-clause-put : goal.returns-in-Ok-put_all-clause-put
returns-in-Ok-put_all-clause-put g c told =
    let s = g.S.StoreDevice in
    let file = c.args.file in
    let new = c.put_all.new.self in
    let is : new_pairs c.as_slice.result.now ≡ pairs_of c.args.puts.now =
    ap (λ (l : List NewPair). new_pairs l) c.as_slice.ensures.value ∙ c.in_ok-pairs-in-Ok.ensures in
    let has = has_pairs s file (c.requires told) c.in-Ok.store new told lengths.All
    c.in-Ok.ensures.opened
    (new_pairs c.as_slice.result.now) (c.in-Ok-put_all.ensures.frames told)
    (c.put_all.ensures.images told)
    (subst (λ b. IsTrue b) (sym c.in-Ok-put_all.ensures.whole) c.in-Ok.ensures.opened.whole) in
    subst (λ d. HasPairs s file (pairs_of c.args.puts.now) d) (sym c.device.ensures.device)
    (subst (λ (l : List Pair). HasPairs s file l new.log.device) is has)
