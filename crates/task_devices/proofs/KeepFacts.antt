-- The first of pairs behind which one was put or not, and what lasts of them.
use Rattle.std.proofs.Common.{◌≡◌, ℕ, ◌+◌, ◌≤◌, List, [], ◌∷◌, ◌++◌, length, take, drop, Option, Some, Result, Ok, Err, refl, sym, ap, ◌∙◌, arith, inl, inr}
use Rattle.std.proofs.lemmas.List.{append-nil, take-append-drop, take-append-le, take_all, take-take}
use Rattle.cache_api.specs.declared.error.CacheErr.{CacheErr}
use Rattle.cache_api.specs.declared.error.CacheErr.TheVariants.{Full as CannotFit, Failed, OutOfMemory}
use Rattle.cache_api.specs.declared.puts.Put.{Put}
use Rattle.cache_api.specs.declared.puts.Put.TheVariants.{Stored, Full}
use Rattle.cache_api.specs.Cache.{CacheState, AllAfter}
use Rattle.cache_api.specs.Moments.{Moment, Leaves, started, leaves_more}
use Rattle.cache_api.specs.Pairs.{Pair, chosen, AreFirst, IsPartSince}
use Rattle.cache_api.proofs.Firsts.{first_more}
use Rattle.task_devices.specs.Keeping.{MayBePut, AreThere, IsFurther, LastOn}

pub may_be_chosen : (pair : Pair) (before : List Pair) (puts : List Put)
    → MayBePut pair before (before ++ chosen (pair ∷ []) puts)
may_be_chosen pair before [] = inl (append-nil before)
may_be_chosen pair before (Stored ∷ puts) = inr refl
may_be_chosen pair before (Full ∷ puts) = inl (append-nil before)

-- all of them are their first
pub same_first : (lasting : ℕ) (pairs now : List Pair) → now ≡ pairs → AreFirst lasting pairs now
same_first lasting pairs now same =
    let n = lasting + length pairs in
    (n, omega arith, same ∙ sym (take_all n pairs (omega arith)))

-- whatever a call answered that was to put these behind the pairs
pub first_after : {T : Type 0} (result : Result T CacheErr) (lasting : ℕ)
    (before added now : List Pair) → lasting ≤ length before
    → AllAfter result lasting before added now → AreFirst lasting (before ++ added) now
first_after (Ok value) lasting before added now within after =
    same_first lasting (before ++ added) now after
first_after (Err CannotFit) lasting before added now within after =
    first_more lasting before added now within (same_first lasting before now after)
first_after (Err Failed) lasting before added now within after = after
first_after (Err OutOfMemory) lasting before added now within after =
    first_more lasting before added now within (same_first lasting before now after)

-- ---- what lasted is there

there_in : (lasting : ℕ) (before all now : List Pair) → take lasting all ≡ take lasting before
    → AreFirst lasting all now → AreThere lasting before now
there_in lasting before all now same (n, at, is) =
    let first : take lasting now ≡ take lasting before =
    ap (take lasting) is ∙ take-take lasting n all at ∙ same in
    (drop lasting now, sym (take-append-drop lasting now) ∙ ap (λ ps. ps ++ drop lasting now) first)

further_in : (lasting : ℕ) (before all : List Pair) (said : Option (List Pair))
    → take lasting all ≡ take lasting before → IsPartSince lasting all said
    → IsFurther lasting before said
further_in lasting before all said same (n, at, is) =
    let there = there_in lasting before all (take n all) same (n, at, refl) in
    (there.0, is ∙ ap Some there.1)

module _ {D S X : Type 0} (state : S → CacheState D) (moment : S → Moment)
    (left : S → Moment → X → Type 0) (says : D → X → Option (List Pair)) where
  -- where these were to be put behind the pairs, whatever was answered
  pub last_on : {T : Type 0} (old new : S) (result : Result T CacheErr) (added : List Pair)
      → (state old).lasting ≤ length (state old).pairs
      → (state old).lasting ≤ (state new).lasting
      → AllAfter result (state old).lasting (state old).pairs added (state new).pairs
      → Leaves moment left old new (λ image. IsPartSince (state old).lasting
      ((state old).pairs ++ added) (says (state old).base image))
      → LastOn state moment left says old new
  last_on old new result added within more after images =
      let lasting = (state old).lasting in
      let before = (state old).pairs in
      let same = take-append-le lasting before added within in
      let first = first_after result lasting before added (state new).pairs within after in
      record {
        lasting = more;
        there = there_in lasting before (before ++ added) (state new).pairs same first;
        images = leaves_more moment left old new (λ image. IsPartSince lasting (before ++ added)
            (says (state old).base image))
            (λ image. IsFurther lasting before (says (state old).base image)) images
            (λ image part. further_in lasting before (before ++ added)
            (says (state old).base image) same part);
      }

  -- where the cache was not called
  pub last_none : (cache : S) → ((image : X) → left cache (moment cache) image
      → IsPartSince (state cache).lasting (state cache).pairs (says (state cache).base image))
      → LastOn state moment left says cache cache
  last_none cache rests =
      let lasting = (state cache).lasting in
      let pairs = (state cache).pairs in
      record {
        lasting = omega arith;
        there = there_in lasting pairs pairs pairs refl (same_first lasting pairs pairs refl);
        images = started moment left cache
            (λ image. IsFurther lasting pairs (says (state cache).base image))
            (λ image here. further_in lasting pairs pairs (says (state cache).base image) refl
            (rests image here));
      }
