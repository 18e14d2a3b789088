-- A cache of which all pairs last.
use Rattle.std.proofs.Common.{ℕ, List, length, sym, ap, ◌∙◌, subst, Option}
use Rattle.cache_api.specs.declared.hit.Hit.{Hit}
use Rattle.cache_api.specs.Artifacts.{Artifact}
use Rattle.cache_api.specs.Cache.{CacheState, CacheReads, AllLast, due_in}
use Rattle.cache_api.specs.Moments.{Moment}
use Rattle.cache_api.specs.Pairs.{Pair, LacksKey, due_of}
use Rattle.cache_api.proofs.Firsts.{none_due}

-- with no key anything is due
pub none-lacks : {D : Type 0} (state : CacheState D) (key : List ℕ) → AllLast state
    → LacksKey key (due_in state)
none-lacks state key last =
    subst (LacksKey key) (sym (ap (λ n. due_of state.pairs n) last ∙ none_due state.pairs)) tt

-- they last on where it is only read
pub reads-last : {D S X : Type 0} (tells : Type 0) (state : S → CacheState D)
    (cost : S → List ℕ → ℕ) (stands : S → Hit → Type 0) (shows : S → Hit → Artifact)
    (moment : S → Moment) (since : S → Moment → X → Type 0) (says : D → X → Option (List Pair))
    (old new : S) → CacheReads tells state cost stands shows moment since says old new → tells
    → AllLast (state old) → AllLast (state new)
reads-last tells state cost stands shows moment since says old new reads told last =
    reads.lasting told ∙ last ∙ ap length (sym (reads.pairs told))
