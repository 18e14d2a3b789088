-- How the calls of a cache follow one another.
use Rattle.std.specs.Prelude.{ℕ, List, Option}
use Rattle.std.proofs.Common.{refl, ◌∙◌, arith}
use Rattle.cache_api.specs.declared.hit.Hit.{Hit}
use Rattle.cache_api.specs.Artifacts.{Artifact}
use Rattle.cache_api.specs.Pairs.{Pair, IsPartSince}
use Rattle.cache_api.specs.Moments.{Moment, started, leaves_then}
use Rattle.cache_api.specs.Cache.{CacheState, Keeps, HitsStay, CacheReads}

module _ {B : Type 0} where
  pub keeps_none : (state : CacheState B) → Keeps state state
  keeps_none state = record { base = refl; room = omega arith; probes = omega arith }

  pub keeps_then : (a b d : CacheState B) → Keeps a b → Keeps b d → Keeps a d
  keeps_then a b d x y = record {
    base = y.base ∙ x.base;
    room = omega (arith, x.room, y.room);
    probes = omega (arith, x.probes, y.probes);
  }

module _ {S : Type 0} (tells : Type 0) (stands : S → Hit → Type 0)
    (shows : S → Hit → Artifact) where
  pub stay_none : (cache : S) → HitsStay tells stands shows cache cache
  stay_none cache = record { stays = λ hit stood. stood; same = λ told hit stood. refl }

  pub stay_then : (a b d : S) → HitsStay tells stands shows a b → HitsStay tells stands shows b d
      → HitsStay tells stands shows a d
  stay_then a b d x y = record {
    stays = λ hit stood. y.stays hit (x.stays hit stood);
    same = λ told hit stood. y.same told hit (x.stays hit stood) ∙ x.same told hit stood;
  }

module _ {B S X : Type 0} (tells : Type 0) (state : S → CacheState B) (cost : S → List ℕ → ℕ)
    (stands : S → Hit → Type 0) (shows : S → Hit → Artifact) (moment : S → Moment)
    (since : S → Moment → X → Type 0) (says : B → X → Option (List Pair)) where
  -- before the first call, where a crash leaves all pairs that last and the first of those that are due
  pub reads_none : (cache : S)
      → (tells → (image : X) → since cache (moment cache) image
      → IsPartSince (state cache).lasting (state cache).pairs (says (state cache).base image))
      → CacheReads tells state cost stands shows moment since says cache cache
  reads_none cache rests = record {
    pairs = λ told. refl;
    lasting = λ told. refl;
    sure = λ told. refl;
    cost_same = λ told key. refl;
    hits = stay_none tells stands shows cache;
    left = λ told. started moment since cache
        (λ image. IsPartSince (state cache).lasting (state cache).pairs
        (says (state cache).base image)) (rests told);
    keeps = keeps_none (state cache);
  }

  -- one call and then another
  pub reads_then : (a b d : S) → CacheReads tells state cost stands shows moment since says a b
      → CacheReads tells state cost stands shows moment since says b d
      → CacheReads tells state cost stands shows moment since says a d
  reads_then a b d x y = record {
    pairs = λ told. y.pairs told ∙ x.pairs told;
    lasting = λ told. y.lasting told ∙ x.lasting told;
    sure = λ told. y.sure told ∙ x.sure told;
    cost_same = λ told key. y.cost_same told key ∙ x.cost_same told key;
    hits = stay_then tells stands shows a b d x.hits y.hits;
    left = λ told. leaves_then moment since a b d _ _
        (λ image. IsPartSince (state a).lasting (state a).pairs (says (state a).base image))
        (x.left told) (y.left told) (λ image is. is)
        (λ image is. rw (← x.keeps.base, ← x.pairs told, ← x.lasting told) is);
    keeps = keeps_then (state a) (state b) (state d) x.keeps y.keeps;
  }
