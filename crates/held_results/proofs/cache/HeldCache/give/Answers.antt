use Rattle.std.proofs.Common.{◌≡◌, ◌+◌, ◌≤◌, List, [], ◌∷◌, ◌++◌, sym, ap, ◌∙◌, append_assoc, arith}
use Rattle.std.proofs.lemmas.List.{map-append}
use Rattle.cache_api.specs.declared.puts.Put.{Put}
use Rattle.cache_api.specs.Artifacts.{artifact}
use Rattle.cache_api.specs.Cache.{ample}
use Rattle.cache_api.specs.Keys.{own_pair}
use Rattle.cache_api.specs.Memory.{capped}
use Rattle.cache_api.specs.Moments.{started}
use Rattle.cache_api.specs.Pairs.{Pair, pair_for, chosen}
use Rattle.held_results.specs.declared.due.Due.{Due}
use Rattle.held_results.specs.Due.{due_pairs}
use Rattle.held_results.specs.Held.{held_pairs, state_of}
use Rattle.cache_api.proofs.Firsts.{part_more}
use Rattle.held_results.specs.Laws.{held_within, held_rest, below_whole, held_stored}
use Rattle.held_results.proofs.cache.HeldCache.give.Goals as goal

pub returns-in_err-push-clause-left : goal.returns-in_err-push-clause-left
returns-in_err-push-clause-left g c told =
    let h = c.args.self.now in
    let within = g.met.C.Cache.within h.inner told in
    started g.C.Cache.moment g.C.Cache.left h.inner _ (λ image at. part_more _ _ _ _ (held_within h within)
    (held_rest h image within (g.met.C.Cache.at_rest h.inner image told (below_whole h c.requires) at)))

pub returns-then-wanted-min-clause-left : goal.returns-then-wanted-min-clause-left
returns-then-wanted-min-clause-left g c told =
    let h = c.args.self.now in
    let within = g.met.C.Cache.within h.inner told in
    started g.C.Cache.moment g.C.Cache.left h.inner _ (λ image at. part_more _ _ _ _ (held_within h within)
    (held_rest h image within (g.met.C.Cache.at_rest h.inner image told (below_whole h c.requires) at)))

pub returns-then-wanted-min-clause-outcome : goal.returns-then-wanted-min-clause-outcome
returns-then-wanted-min-clause-outcome g c told =
    let h = c.args.self.now in
    let new = own_pair c.args.key c.args.artifact in
    let weight : c.ample_room.result ≡ capped (ample new) = c.ample_room.ensures
    ∙ ap (λ k. capped (ample (pair_for k (artifact c.args.artifact)))) (c.text.ensures ∙ c.as_key.ensures) in
    let fits : h.taken + ample new ≤ (g.C.Cache.state h.inner).sure = omega (arith, weight, c.room.ensures told) in
    sym (held_stored h c.requires told (g.met.C.Cache.spare h.inner) (g.met.C.Cache.to_put h.inner) new fits)

pub returns-then-wanted-min-clause-pairs : goal.returns-then-wanted-min-clause-pairs
returns-then-wanted-min-clause-pairs g c told =
    let h = c.args.self.now in
    let new = own_pair c.args.key c.args.artifact in
    let below = (g.C.Cache.state h.inner).pairs in
    ap (λ (due : List Due). below ++ due_pairs due) c.in_ok-push.ensures.items
    ∙ ap (λ (ps : List Pair). below ++ ps) (map-append (λ (d : Due). own_pair d.key d.artifact) h.due.items _)
    ∙ sym (append_assoc below (held_pairs h) (new ∷ []))
    ∙ ap (λ (puts : List Put). (state_of h).pairs ++ chosen (new ∷ []) puts) (returns-then-wanted-min-clause-outcome g c told)
