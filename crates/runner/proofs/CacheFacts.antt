-- What calls leave of a cache, one after another.
use Rattle.std.proofs.Common.{◌≡◌, ◌+◌, ◌-◌, ◌≤◌, ℕ, List, [], ◌++◌, length, take, refl, sym, ap, ◌∙◌, subst, arith, append_assoc, append-nil, Option, Some, Err}
use Rattle.std.proofs.Math.Seq.{take-append-add}
use Rattle.std.proofs.lemmas.List.{length-take, take_all}
use Rattle.cache_api.specs.declared.error.CacheErr.TheVariants.{Failed}
use Rattle.cache_api.specs.declared.hit.Hit.{Hit}
use Rattle.cache_api.specs.Artifacts.{Artifact}
use Rattle.cache_api.specs.Cache.{CacheState, CacheReads, Keeps, AllLast}
use Rattle.cache_api.specs.Calls.{keeps_none, keeps_then}
use Rattle.cache_api.specs.Moments.{Moment, Leaves, started, leaves_more, leaves_then}
use Rattle.cache_api.specs.Pairs.{Pair, AreFirst, IsPartSince}
use Rattle.spawn_dev.specs.declared.command.Step.{Step as Told}
use Rattle.run_plan.specs.declared.plan.Plan.{Plan}
use Rattle.run_plan.specs.Answers.{IsSafe}
use Rattle.run_plan.specs.Halts.{HaltLaw}
use Rattle.run_plan.specs.Openings.{Opening}
use Rattle.task_devices.specs.Keeping.{AreThere, LastOn, IsFurther as LastsIn}
use Rattle.task_devices.proofs.KeepFacts.{same_first, last_on, last_none}
use Rattle.runner.specs.Answers.{Grows, HasSafePairs, IsFurther, LeavesSafe, LeavesFurther}
use Rattle.runner.specs.Halting.{CacheGoes}

pub grows-none : {X : Type 0} (xs : List X) → Grows xs xs
grows-none xs = ([], sym (append-nil xs))

pub grows-same : {X : Type 0} (xs ys : List X) → ys ≡ xs → Grows xs ys
grows-same xs ys same = ([], same ∙ sym (append-nil xs))

pub grows-then : {X : Type 0} (xs ys zs : List X) → Grows xs ys → Grows ys zs → Grows xs zs
grows-then xs ys zs first last = (
  first.0 ++ last.0,
  last.1 ∙ ap (λ list. list ++ last.0) first.1 ∙ append_assoc xs first.0 last.0,
)

-- a crash leaves what is safe at these steps, and so at later ones
pub safe-on : (law : HaltLaw) (plan : Plan) (o : Opening) (room less : ℕ)
    (steps later : List Told) (said : Option (List Pair)) → less ≤ room → Grows steps later
    → HasSafePairs plan o room steps said → HasSafePairs plan o less later said
safe-on law plan o room less steps later said le grows safe = (
  safe.0,
  safe.1,
  subst (λ list. IsSafe plan o less list safe.0) (sym grows.1)
      (law.safe_later plan o room less steps grows.0 safe.0 le safe.2),
)

-- ---- the first of pairs

-- what begins with these still does where more of it is cut off
further : (n : ℕ) (first more pairs : List Pair) → length first ≤ n → pairs ≡ first ++ more
    → take n pairs ≡ first ++ take (n - length first) more
further n first more pairs le is =
    let parts : n ≡ length first + (n - length first) = omega (arith, le) in
    ap (take n) is ∙ ap (λ k. take k (first ++ more)) parts
    ∙ take-append-add first more (n - length first)

there-then : (n m : ℕ) (first mid last : List Pair) → n ≤ m → AreThere n first mid
    → AreThere m mid last → AreThere n first last
there-then n m first mid last le x y =
    let size = length-take n first in
    let kept = further m (take n first) x.0 mid (omega (arith, size, le)) x.1 in (
      take (m - length (take n first)) x.0 ++ y.0,
      y.1 ∙ ap (λ ps. ps ++ y.0) kept
          ∙ append_assoc (take n first) (take (m - length (take n first)) x.0) y.0,
    )

module _ {D S X : Type 0} (state : S → CacheState D) (moment : S → Moment)
    (left : S → Moment → X → Type 0) (says : D → X → Option (List Pair)) where
  -- ---- what is safe at each moment

  abbrev Safe : Plan → Opening → List Told → S → S → Type 0
  Safe = LeavesSafe state moment left says

  -- what a crash leaves of one cache
  abbrev Rests : S → Type 0
  Rests cache = (image : X) → left cache (moment cache) image
      → IsPartSince (state cache).lasting (state cache).pairs (says (state cache).base image)

  -- a crash leaves the first of the pairs, and these are safe
  pub safe-part : (plan : Plan) (o : Opening) (steps : List Told) (old new : S)
      → Leaves moment left old new (λ image.
      IsPartSince (state old).lasting (state old).pairs (says (state old).base image))
      → ((pairs : List Pair) → AreFirst (state old).lasting (state old).pairs pairs
      → IsSafe plan o (state new).room steps pairs) → Safe plan o steps old new
  safe-part plan o steps old new leaves safe =
      leaves_more moment left old new
      (λ image. IsPartSince (state old).lasting (state old).pairs (says (state old).base image))
      (λ image. HasSafePairs plan o (state new).room steps (says (state old).base image)) leaves
      (λ image is. (
        take is.0 (state old).pairs,
        is.2,
        safe (take is.0 (state old).pairs) (is.0, is.1, refl),
      ))

  -- the cache is not called
  pub safe-none : (plan : Plan) (o : Opening) (steps : List Told) (cache : S) → Rests cache
      → ((pairs : List Pair) → AreFirst (state cache).lasting (state cache).pairs pairs
      → IsSafe plan o (state cache).room steps pairs) → Safe plan o steps cache cache
  safe-none plan o steps cache rests safe =
      safe-part plan o steps cache cache
      (started moment left cache (λ image.
      IsPartSince (state cache).lasting (state cache).pairs (says (state cache).base image)) rests)
      safe

  -- more steps come
  pub safe-more : (law : HaltLaw) (plan : Plan) (o : Opening) (steps later : List Told)
      (old new : S) → Grows steps later → Safe plan o steps old new → Safe plan o later old new
  safe-more law plan o steps later old new grows safe =
      leaves_more moment left old new
      (λ image. HasSafePairs plan o (state new).room steps (says (state old).base image))
      (λ image. HasSafePairs plan o (state new).room later (says (state old).base image)) safe
      (λ image is. safe-on law plan o (state new).room (state new).room steps later
      (says (state old).base image) (omega arith) grows is)

  -- one call and then another
  pub safe-then : (law : HaltLaw) (plan : Plan) (o : Opening) (steps later : List Told)
      (a b d : S) → Keeps (state a) (state b) → Keeps (state b) (state d) → Grows steps later
      → Safe plan o steps a b → Safe plan o later b d → Safe plan o later a d
  safe-then law plan o steps later a b d first last grows x y =
      leaves_then moment left a b d
      (λ image. HasSafePairs plan o (state b).room steps (says (state a).base image))
      (λ image. HasSafePairs plan o (state d).room later (says (state b).base image))
      (λ image. HasSafePairs plan o (state d).room later (says (state a).base image)) x y
      (λ image is. safe-on law plan o (state b).room (state d).room steps later
      (says (state a).base image) last.room grows is)
      (λ image is. (is.0, ap (λ (base : D). says base image) (sym first.base) ∙ is.1, is.2))

  -- ---- what lasts

  last-then : (a b d : S) → Keeps (state a) (state b) → LastOn state moment left says a b
      → LastOn state moment left says b d → LastOn state moment left says a d
  last-then a b d keeps x y = record {
    lasting = omega (arith, x.lasting, y.lasting);
    there = there-then (state a).lasting (state b).lasting (state a).pairs (state b).pairs
        (state d).pairs x.lasting x.there y.there;
    images = leaves_then moment left a b d
        (λ image. LastsIn (state a).lasting (state a).pairs (says (state a).base image))
        (λ image. LastsIn (state b).lasting (state b).pairs (says (state b).base image))
        (λ image. LastsIn (state a).lasting (state a).pairs (says (state a).base image))
        x.images y.images (λ image is. is)
        (λ image is.
        let there = there-then (state a).lasting (state b).lasting (state a).pairs
        (state b).pairs (take (state b).lasting (state b).pairs ++ is.0) x.lasting x.there
        (is.0, refl) in (
          there.0,
          ap (λ (base : D). says base image) (sym keeps.base) ∙ is.1
              ∙ ap (λ (list : List Pair). Some list) there.1,
        ));
  }

  -- where all pairs lasted, they are there
  pub all-there : (old new : S) → AllLast (state old) → LastOn state moment left says old new
      → Grows (state old).pairs (state new).pairs
  all-there old new last on = (
    on.there.0,
    on.there.1
        ∙ ap (λ ps. ps ++ on.there.0) (take_all (state old).lasting (state old).pairs
        (omega (arith, last))),
  )

  pub all-further : (old new : S) → AllLast (state old) → LastOn state moment left says old new
      → LeavesFurther state moment left says old new
  all-further old new last on =
      leaves_more moment left old new
      (λ image. LastsIn (state old).lasting (state old).pairs (says (state old).base image))
      (λ image. IsFurther (state old).pairs (says (state old).base image)) on.images
      (λ image is. (
        is.0,
        is.1 ∙ ap (λ (ps : List Pair). Some (ps ++ is.0))
            (take_all (state old).lasting (state old).pairs (omega (arith, last))),
      ))

  module _ (tells : Type 0) where
    abbrev Goes : S → S → Type 0
    Goes = CacheGoes tells state moment left says

    pub cache-then : (a b d : S) → Goes a b → Goes b d → Goes a d
    cache-then a b d x y = record {
      keeps = keeps_then (state a) (state b) (state d) x.keeps y.keeps;
      lasts = λ told. last-then a b d x.keeps (x.lasts told) (y.lasts told);
    }

    -- the first of the pairs are left, and a crash leaves the first of them
    pub cache-part : (old new : S) → Keeps (state old) (state new)
        → (tells → (state old).lasting ≤ length (state old).pairs)
        → (tells → (state old).lasting ≤ (state new).lasting)
        → (tells → AreFirst (state old).lasting (state old).pairs (state new).pairs)
        → (tells → Leaves moment left old new (λ image.
        IsPartSince (state old).lasting (state old).pairs (says (state old).base image)))
        → Goes old new
    cache-part old new keeps within more first images =
        let l = (state old).lasting in
        let all = sym (append-nil (state old).pairs) in
        record {
          keeps = keeps;
          lasts = λ told. last_on state moment left says {T = Unit {0}} old new (Err Failed) []
              (within told) (more told)
              (subst (λ ps. AreFirst l ps (state new).pairs) all (first told))
              (subst (λ ps. Leaves moment left old new (λ image.
              IsPartSince l ps (says (state old).base image))) all (images told));
        }

    pub cache-none : (cache : S) → (tells → Rests cache) → Goes cache cache
    cache-none cache rests = record {
      keeps = keeps_none (state cache);
      lasts = λ told. last_none state moment left says cache (rests told);
    }

    module _ (cost : S → List ℕ → ℕ) (stands : S → Hit → Type 0) (shows : S → Hit → Artifact) where
      pub cache-reads : (old new : S)
          → (tells → (state old).lasting ≤ length (state old).pairs)
          → CacheReads tells state cost stands shows moment left says old new → Goes old new
      cache-reads old new within reads =
          cache-part old new reads.keeps within
          (λ told. let same = reads.lasting told in omega (arith, same))
          (λ told. same_first (state old).lasting (state old).pairs (state new).pairs
          (reads.pairs told)) reads.left

      -- where all lasted, they still do
      pub reads-last : (old new : S) → tells
          → CacheReads tells state cost stands shows moment left says old new
          → AllLast (state old) → AllLast (state new)
      reads-last old new told reads last =
          reads.lasting told ∙ last ∙ ap length (sym (reads.pairs told))
