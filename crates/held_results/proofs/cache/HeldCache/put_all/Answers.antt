use Rattle.std.proofs.Common.{◌≡◌, ℕ, List, length, drop, sym, ap, subst, ◌∙◌, arith}
use Rattle.std.proofs.lemmas.List.{length-map}
use Rattle.cache_api.specs.declared.puts.Put.{Put}
use Rattle.cache_api.specs.Cache.{ArePut}
use Rattle.cache_api.specs.Keys.{new_pairs, own_pair}
use Rattle.cache_api.specs.Moments.{Leaves}
use Rattle.cache_api.specs.Pairs.{Pair, IsPartSince}
use Rattle.cache_api.proofs.Rooms.{are_put_more}
use Rattle.held_results.specs.declared.due.Due.{Due}
use Rattle.held_results.specs.Due.{due_pairs}
use Rattle.held_results.specs.Laws.{held_same}
use Rattle.held_results.proofs.After.{after_ok, after_failed}
use Rattle.held_results.proofs.cache.HeldCache.put_all.Goals as goal

pub returns-in-Ok-clause-put : goal.returns-in-Ok-clause-put
returns-in-Ok-clause-put g c =
    let due = c.as_slice.result.now in
    let news = new_pairs c.args.pairs.now in
    let count : c.len-count.result ≡ length (due_pairs due) =
    omega (arith, ap length c.as_slice.ensures.value, length-map due (λ (d : Due). own_pair d.key d.artifact)) in
    subst (λ (ps : List Put). ArePut (g.C.Cache.state c.put_behind.new.inner).room news ps)
    (sym (c.behind.ensures ∙ ap (λ (n : ℕ). drop n c.in-Ok.puts) count))
    (are_put_more _ (due_pairs due) news c.in-Ok.puts c.in-Ok.ensures.put)

pub returns-in-Ok-clause-pairs : goal.returns-in-Ok-clause-pairs
returns-in-Ok-clause-pairs g c told =
    let h = c.args.self.now in
    let same = held_same h c.requires told (g.met.C.Cache.spare h.inner) (g.met.C.Cache.to_put h.inner)
    (new_pairs c.args.pairs.now) _ c.as_slice.ensures.value in
    after_ok h c.put_behind.new.inner _ (ap due_pairs c.clear.ensures.items) _ _ same (c.in-Ok.ensures.pairs told)

pub returns-in-Err-Failed-clause-pairs : goal.returns-in-Err-Failed-clause-pairs
returns-in-Err-Failed-clause-pairs g c told =
    let h = c.args.self.now in
    let same = held_same h c.requires told (g.met.C.Cache.spare h.inner) (g.met.C.Cache.to_put h.inner)
    (new_pairs c.args.pairs.now) _ c.as_slice.ensures.value in
    after_failed h c.put_behind.new.inner _ (ap due_pairs c.clear-in-Err-Failed.ensures.items) _ _ same
    (rw c.in-Err-Failed.field-0-is at (c.in-Err-Failed.ensures.pairs told))

pub returns-in-Ok-clause-left : goal.returns-in-Ok-clause-left
returns-in-Ok-clause-left g c told =
    let h = c.args.self.now in
    subst (λ (ps : List Pair). Leaves g.C.Cache.moment g.C.Cache.left h.inner c.put_behind.new.inner
    (λ image. IsPartSince (g.C.Cache.state h.inner).lasting ps (g.C.Cache.says (g.C.Cache.state h.inner).base image)))
    (held_same h c.requires told (g.met.C.Cache.spare h.inner) (g.met.C.Cache.to_put h.inner)
    (new_pairs c.args.pairs.now) _ c.as_slice.ensures.value) (c.put_behind.ensures.left told)

pub returns-in-Err-Failed-clause-left : goal.returns-in-Err-Failed-clause-left
returns-in-Err-Failed-clause-left g c told =
    let h = c.args.self.now in
    subst (λ (ps : List Pair). Leaves g.C.Cache.moment g.C.Cache.left h.inner c.put_behind.new.inner
    (λ image. IsPartSince (g.C.Cache.state h.inner).lasting ps (g.C.Cache.says (g.C.Cache.state h.inner).base image)))
    (held_same h c.requires told (g.met.C.Cache.spare h.inner) (g.met.C.Cache.to_put h.inner)
    (new_pairs c.args.pairs.now) _ c.as_slice.ensures.value) (c.put_behind.ensures.left told)

pub returns-in-Err-OutOfMemory-clause-left : goal.returns-in-Err-OutOfMemory-clause-left
returns-in-Err-OutOfMemory-clause-left g c told =
    let h = c.args.self.now in
    subst (λ (ps : List Pair). Leaves g.C.Cache.moment g.C.Cache.left h.inner c.put_behind.new.inner
    (λ image. IsPartSince (g.C.Cache.state h.inner).lasting ps (g.C.Cache.says (g.C.Cache.state h.inner).base image)))
    (held_same h c.requires told (g.met.C.Cache.spare h.inner) (g.met.C.Cache.to_put h.inner)
    (new_pairs c.args.pairs.now) _ c.as_slice.ensures.value) (c.put_behind.ensures.left told)
