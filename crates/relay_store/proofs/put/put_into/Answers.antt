use Rattle.std.proofs.lemmas.List.{append-nil, take-append-drop}
use Rattle.relay_store.proofs.Putting.{more_grown, leads_by}
use Rattle.cache_api.specs.Pairs.{Pair}
use Rattle.std.proofs.Common.{List, [], ◌++◌, take, drop, sym, ◌∙◌, ap, arith}
use Rattle.std.specs.Prelude.{Err, min}
use Rattle.std.proofs.lemmas.Result.{err_from_is_err_and, IfOk-weaker}
use Rattle.cache_api.specs.Cache.{ArePut}
use Rattle.cache_api.specs.Keys.{new_pairs}
use Rattle.relay_store.specs.Parts.{state_of, more_of}
use Rattle.relay_store.proofs.Asked.{may_none, on_ok}
use Rattle.relay_store.proofs.Spaces.{are_put_less}
use Rattle.relay_store.proofs.put.put_into.Goals as goal

pub returns-in_err-put_all-in-true-true-clause-local
    : goal.returns-in_err-put_all-in-true-true-clause-local
returns-in_err-put_all-in-true-true-clause-local g c =
    let p = err_from_is_err_and c.from_residual.result c.from_residual.ensures.1 in
    rw p.1 (may_none g.met.S.StoreDevice.only_now c.args.local.now c.requires.local_whole
    c.args.access.local_puts (new_pairs c.args.pairs.now) (Err p.0) tt)

pub returns-in_ok-put_all-in-true-true-clause-room
    : goal.returns-in_ok-put_all-in-true-true-clause-room
returns-in_ok-put_all-in-true-true-clause-room g c =
    let l = (state_of c.put_all-in-true-true.new.self).room in
    let s = (state_of c.put_all.new.self).room in
    rw (c.in-true-true.is-0, c.in-true-true.is-1)
    (IfOk-weaker c.put_all-in-true-true.result (ArePut l (new_pairs c.args.pairs.now))
    (ArePut (min l s) (new_pairs c.args.pairs.now))
    (λ puts x. are_put_less l (min l s) (new_pairs c.args.pairs.now) puts (omega arith) x)
    c.put_all-in-true-true.ensures.room)

pub returns-in-true-false-clause-second : goal.returns-in-true-false-clause-second
returns-in-true-false-clause-second g c =
    may_none g.met.R.StoreDevice.only_now c.args.second.now c.requires.second_whole _ _
    c.put_all-in-true-false.result
    (on_ok c.put_all-in-true-false.result c.in-true-false.is-1)

pub returns-in-false-default-clause-local : goal.returns-in-false-default-clause-local
returns-in-false-default-clause-local g c =
    may_none g.met.S.StoreDevice.only_now c.args.local.now c.requires.local_whole _ _
    c.put_all-in-false-default.result
    (on_ok c.put_all-in-false-default.result c.in-false-default.is-0)

pub returns-in_err-put_all-in-true-true-clause-leads
    : goal.returns-in_err-put_all-in-true-true-clause-leads
returns-in_err-put_all-in-true-true-clause-leads g c t u both same =
    let l = c.args.local.now in
    let s = c.args.second.now in
    let (n, le, is) = c.put_all.ensures.grown.pairs u in
    leads_by (more_of l) (more_of l) (more_of s) (more_of c.put_all.new.self) [] _
    (sym (append-nil (more_of l)))
    (more_grown s c.put_all.new.self _ u c.put_all.ensures.grown.first is) same

pub returns-in_ok-put_all-in-true-true-clause-leads
    : goal.returns-in_ok-put_all-in-true-true-clause-leads
returns-in_ok-put_all-in-true-true-clause-leads g c t u both same =
    let l = c.args.local.now in
    let s = c.args.second.now in
    let k = c.put_all-in-true-true.new.self in
    let news = new_pairs c.args.pairs.now in
    let (n, le, is) = c.put_all-in-true-true.ensures.grown.pairs t in
    leads_by (more_of l) (more_of k) (more_of s) (more_of c.put_all.new.self) (take n news)
    (drop n news)
    (more_grown l k (take n news) t c.put_all-in-true-true.ensures.grown.first is)
    (more_grown s c.put_all.new.self news u c.put_all.ensures.grown.first
    (c.in_ok-put_all-in-true-true.ensures.all u)
    ∙ ap (λ (m : List Pair). more_of s ++ m) (sym (take-append-drop n news))) same
