use Rattle.std.proofs.Common.{◌≡◌, false, List, sym, subst}
use Rattle.std.specs.List.{list_any}
use Rattle.rel_path.specs.Paths.{name_eq}
use Rattle.cache_api.specs.Keys.{text_of, own_text}
use Rattle.cache_api.specs.Pairs.{Pair, LacksKey}
use Rattle.cache_api.proofs.Lacking.{lacks_both}
use Rattle.held_results.specs.Laws.{held_due, lacks_held}
use Rattle.held_results.proofs.cache.HeldCache.is_due.Goals as goal

pub returns-else-is_among : goal.returns-else-is_among
returns-else-is_among g c told none =
    let h = c.args.self.now in
    let key = text_of c.args.key.now in
    let free : list_any (λ d. name_eq (own_text d.key) key) h.due.items ≡ false = cc in
    subst (λ (ps : List Pair). LacksKey key ps) (sym (held_due h (g.met.C.Cache.within h.inner told)))
    (lacks_both key _ _ (c.is_due.ensures told none) (lacks_held key h.due.items free))
