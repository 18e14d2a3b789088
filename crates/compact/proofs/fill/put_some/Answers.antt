use Rattle.std.proofs.Common.{◌≡◌, ◌≤◌, ℕ, List, [], ◌∷◌, ◌++◌, take, drop, get_or, sym, ◌∙◌, ap, subst, take-append-drop}
use Rattle.std.specs.Prelude.{sum_by}
use Rattle.std.proofs.lemmas.Result.{err_from_is_err_and}
use Rattle.cache_api.specs.Cache.{ample}
use Rattle.cache_api.specs.Pairs.{Pair}
use Rattle.artifact_store.specs.Store.{state_of, frames_of, device_of}
use Rattle.compact.specs.Picks.{pair_of, pairs_at, held_pairs}
use Rattle.compact.specs.Room.{AllFit}
use Rattle.compact.proofs.Fitting.{ample_fits}
use Rattle.compact.proofs.Seeking.{pairs_read}
use Rattle.compact.proofs.Filling.{puts_none}
use Rattle.compact.proofs.Parts.{first_pair, take_first, useful_first, part_lacks, part_put}
use Rattle.compact.proofs.fill.put_some.Goals as goal

pub returns-in_err-batch-clause-puts : goal.returns-in_err-batch-clause-puts
returns-in_err-batch-clause-puts g c =
    puts_none c.args.to.now c.requires.to_whole (g.met.P.StoreDevice.only_now (device_of c.args.to.now))

pub put_one-requires-clause-useful : goal.put_one-requires-clause-useful
put_one-requires-clause-useful g c told =
    useful_first (state_of c.args.from.now).pairs (state_of c.batch_of.new.from).pairs c.args.numbers.now (pairs_read c.args.from.now c.batch_of.new.from c.batch_of.ensures.reads) c.requires.some (c.requires.useful told)

pub returns-in_err-put_one-clause-room : goal.returns-in_err-put_one-clause-room
returns-in_err-put_one-clause-room g c told tells =
    let pairs = (state_of c.args.from.now).pairs in
    let numbers = c.args.numbers.now in
    let same = pairs_read c.args.from.now c.batch_of.new.from c.batch_of.ensures.reads in
    let p = err_from_is_err_and c.from_residual-in_err-put_one.result c.from_residual-in_err-put_one.ensures.1 in
    rw (p.1, p.2) (part_lacks c.in_err-put_one.field-0.0 (frames_of c.args.to.now) (frames_of c.put_one.new.to) (frames_of c.put_one.new.to) (pairs_at pairs numbers)
    (pair_of (state_of c.batch_of.new.from).pairs (get_or numbers 0 0) ∷ []) (drop 1 (pairs_at pairs numbers))
    (first_pair pairs numbers c.requires.some ∙ ap (λ (l : List Pair). (pair_of l (get_or numbers 0 0) ∷ []) ++ drop 1 (pairs_at pairs numbers)) (sym same))
    (c.in_err-put_one.ensures.room told tells))

pub returns-then-batch-eq0-clause-pairs : goal.returns-then-batch-eq0-clause-pairs
returns-then-batch-eq0-clause-pairs g c told tells =
    let pairs = (state_of c.args.from.now).pairs in
    let numbers = c.args.numbers.now in
    let same = pairs_read c.args.from.now c.batch_of.new.from c.batch_of.ensures.reads in
    c.in_ok-put_one.ensures.pairs told tells
    ∙ ap (λ (l : List Pair). (state_of c.args.to.now).pairs ++ l) (ap (λ (l : List Pair). pair_of l (get_or numbers 0 0) ∷ []) same ∙ sym (take_first pairs numbers c.requires.some))

pub returns-then-batch-eq0-clause-room : goal.returns-then-batch-eq0-clause-room
returns-then-batch-eq0-clause-room g c told tells =
    let pairs = (state_of c.args.from.now).pairs in
    let numbers = c.args.numbers.now in
    let same = pairs_read c.args.from.now c.batch_of.new.from c.batch_of.ensures.reads in
    part_put (frames_of c.args.to.now) (frames_of c.put_one.new.to) (pairs_at pairs numbers)
    (pair_of (state_of c.batch_of.new.from).pairs (get_or numbers 0 0) ∷ []) (drop 1 (pairs_at pairs numbers))
    (first_pair pairs numbers c.requires.some ∙ ap (λ (l : List Pair). (pair_of l (get_or numbers 0 0) ∷ []) ++ drop 1 (pairs_at pairs numbers)) (sym same))
    (c.in_ok-put_one.ensures.room told tells)

pub put_fitting-requires-clause-room : goal.put_fitting-requires-clause-room
put_fitting-requires-clause-room g c told =
    let to = c.args.to.now in
    let held = c.in_ok-batch.batch.held.items in
    let le : sum_by ample (held_pairs held) ≤ (state_of to).room = subst (λ (n : ℕ). sum_by ample (held_pairs held) ≤ n) c.free-free.ensures c.in_ok-batch.ensures.room in
    subst (λ l. AllFit (state_of to).room (frames_of to) (held_pairs l)) (sym c.as_slice.ensures.value)
    (ample_fits (held_pairs held) (state_of to).room (frames_of to) c.in_ok-batch.ensures.texts le)

pub returns-in_err-put_fitting-clause-room : goal.returns-in_err-put_fitting-clause-room
returns-in_err-put_fitting-clause-room g c told tells =
    let all = pairs_at (state_of c.args.from.now).pairs c.args.numbers.now in
    let taken = c.in_ok-batch.batch.taken in
    let some : held_pairs c.as_slice.result.now ≡ take taken all = ap held_pairs c.as_slice.ensures.value ∙ c.in_ok-batch.ensures.pairs told in
    let p = err_from_is_err_and c.from_residual-in_err-put_fitting.result c.from_residual-in_err-put_fitting.ensures.1 in
    rw (p.1, p.2) (part_lacks c.in_err-put_fitting.field-0.0 (frames_of c.args.to.now) (frames_of c.put_fitting.new.to) (frames_of c.put_fitting.new.to) all
    (held_pairs c.as_slice.result.now) (drop taken all)
    (sym (take-append-drop taken all) ∙ ap (λ (l : List Pair). l ++ drop taken all) (sym some))
    (c.in_err-put_fitting.ensures.room tells))

pub returns-clause-room : goal.returns-clause-room
returns-clause-room g c told tells =
    let all = pairs_at (state_of c.args.from.now).pairs c.args.numbers.now in
    let taken = c.in_ok-batch.batch.taken in
    let some : held_pairs c.as_slice.result.now ≡ take taken all = ap held_pairs c.as_slice.ensures.value ∙ c.in_ok-batch.ensures.pairs told in
    part_put (frames_of c.args.to.now) (frames_of c.put_fitting.new.to) all (held_pairs c.as_slice.result.now) (drop taken all)
    (sym (take-append-drop taken all) ∙ ap (λ (l : List Pair). l ++ drop taken all) (sym some))
    (c.in_ok-put_fitting.ensures.room tells)
