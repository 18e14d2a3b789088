use Rattle.std.proofs.Common.{subst}
use Rattle.artifact_store.specs.Store.{state_of}
use Rattle.compact.specs.Picks.{IsApartAt}
use Rattle.compact.proofs.Keys.{IsMissing, apart_missing, apart_both, key_missing, none_of}
use Rattle.compact.proofs.Picking.{picks_still}
use Rattle.compact.proofs.Seeking.{pairs_read}
use Rattle.compact.proofs.choose.new_digest.Goals as goal

pub returns-then-is_none-clause-some : goal.returns-then-is_none-clause-some
returns-then-is_none-clause-some g c told =
    let pairs = (state_of c.args.from.now).pairs in
    let picks = c.args.picks.now in
    let digests = picks.prints.digests in
    let none = none_of c.last.result c.is_none.result (IsMissing digests c.quick_print-quick.result) c.is_none.ensures c.if-is_none.true c.last.ensures.none in
    key_missing pairs picks.numbers.items c.args.key.now
    (apart_missing pairs picks.numbers.items digests c.args.key.now c.requires.picks.even (c.requires.picks.prints told)
    (subst (λ d. IsMissing digests d) c.quick_print-quick.ensures none))

pub is_picked-requires-2-clause-picks : goal.is_picked-requires-2-clause-picks
is_picked-requires-2-clause-picks g c =
    picks_still c.args.from.now c.is_picked.new.from c.args.picks.now c.is_picked.ensures.reads c.requires.picks

pub returns-clause-some : goal.returns-clause-some
returns-clause-some g c told =
    let first = c.args.from.now in
    let mid = c.is_picked.new.from in
    let pairs = (state_of first).pairs in
    let picks = c.args.picks.now in
    let numbers = picks.numbers.items in
    let digests = picks.prints.digests in
    let key = c.args.key.now in
    let quick = c.in_ok-is_picked.ensures.apart told c.if-branch.false in
    let hashed = c.in_ok-is_picked-2.ensures.apart told c.if-branch-2.false in
    key_missing pairs numbers key
    (apart_both pairs numbers digests key c.requires.picks.even (c.requires.picks.prints told)
    (subst (λ d. IsApartAt pairs numbers digests d key) c.quick_print-quick.ensures quick)
    (subst (λ d. IsApartAt pairs numbers digests d key) c.digest-digest.ensures
    (subst (λ l. IsApartAt l numbers digests c.digest-digest.result key) (pairs_read first mid c.is_picked.ensures.reads) hashed)))
