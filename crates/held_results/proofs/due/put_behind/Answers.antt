use Rattle.std.proofs.Common.{◌≡◌, List, ◌++◌, ap, subst, ◌∙◌}
use Rattle.std.proofs.lemmas.Result.{err_from_is_err_and}
use Rattle.cache_api.specs.Keys.{new_pairs}
use Rattle.cache_api.specs.Pairs.{Pair}
use Rattle.cache_api.specs.Puts.{PutsAll}
use Rattle.cache_api.proofs.NonePut.{none_put}
use Rattle.held_results.specs.Due.{due_pairs}
use Rattle.held_results.proofs.due.put_behind.Goals as goal

pub returns-in_err-all : goal.returns-in_err-all
returns-in_err-all g c =
    let p = err_from_is_err_and c.from_residual.result c.from_residual.ensures.1 in
    rw (p.1, p.2, c.in_err-all.ensures.memory) (none_put g.C.Cache _ c.args.inner.now (g.met.C.Cache.within c.args.inner.now)
    (λ told image at. g.met.C.Cache.at_rest c.args.inner.now image told c.requires at))

pub returns : goal.returns
returns g c =
    let e : new_pairs c.as_slice.result.now ≡ due_pairs c.args.due.now ++ new_pairs c.args.pairs.now =
    ap new_pairs c.as_slice.ensures.value ∙ c.in_ok-all.ensures.all in
    let x = c.put_all.ensures in
    subst (λ (news : List Pair). PutsAll g.C.Cache news c.args.inner.now c.put_all.new.self c.put_all.result) e (record {
      outcome = x.outcome;
      put = x.put;
      pairs = x.pairs;
      lasts = x.lasts;
      lasting = x.lasting;
      left = x.left;
      hits = x.hits;
      keeps = x.keeps;
      whole = x.whole;
      answers = x.answers;
      cause = x.cause;
    })
