-- What is left of the pairs of a cache, where pairs are put and where what was due is put.
use Rattle.std.specs.Prelude.{◌≡◌, ◌⊎◌, ℕ, ◌<◌, ◌≤◌, Bool, true, List, [], ◌∷◌, ◌++◌, take, Option, Some, Result, Ok, Err}
use Rattle.rel_path.specs.Files.{FileMap}
use Rattle.globs.specs.declared.out_set.OutSet.{OutSet}
use Rattle.cache_api.specs.declared.hit.Hit.{Hit}
use Rattle.cache_api.specs.Artifacts.{File, Artifact}
use Rattle.cache_api.specs.Cache.{CacheState, Keeps, HitsStay, AllLast, ample}
use Rattle.cache_api.specs.Moments.{Moment, Leaves}
use Rattle.cache_api.specs.Pairs.{Pair, pair_for, AreFirst, IsPartSince}
use Rattle.page.specs.declared.blocks.Note.{Note}
use Rattle.page.specs.declared.blocks.Note.TheVariants.{Stored, Shared, Large, Full}
use Rattle.run_plan.specs.Results.{Taken}
use Rattle.task_devices.specs.declared.error.RunErr.{RunErr}
use Rattle.task_devices.specs.declared.error.RunErr.TheVariants.{StoreFault}

-- ---- what is put

-- the pair stands behind the others, or there was too little room for it
abbrev pub PutAs : Pair → List Pair → ℕ → List Pair → Note → Type 0
PutAs pair before room after Stored = after ≡ before ++ pair ∷ []
PutAs pair before room after (Shared path) = ⊥
PutAs pair before room after (Large path) = ⊥
PutAs pair before room after Full = (room < ample pair) × (after ≡ before)

-- it may have been put or not
abbrev pub MayBePut : Pair → List Pair → List Pair → Type 0
MayBePut pair before after = (after ≡ before) ⊎ (after ≡ before ++ pair ∷ [])

-- The result with this log was to be put, and its pair stands behind the others: its files are
-- those that the task owns, in order, of which none is shared or too large.
pub record IsKept (put : Bool) (files : FileMap) (outs : OutSet) (limit : ℕ) (key log : List ℕ)
    (before after : List Pair) : Type 0 where
  pub may : put ≡ true
  pub taken : List File
  pub taken_are : Taken files outs limit taken
  pub pairs_are : after ≡ before ++ pair_for key (log, taken) ∷ []

-- it may have been put or not
abbrev pub MayBeKept : Bool → FileMap → OutSet → ℕ → List ℕ → List ℕ → List Pair → List Pair
    → Type 0
MayBeKept put files outs limit key log before after =
    (after ≡ before) ⊎ IsKept put files outs limit key log before after

-- ---- what is left

-- these are the first of pairs that have P, at least so many of them
abbrev pub AreFirstOf : ℕ → (List Pair → Type 0) → List Pair → Type 0
AreFirstOf lasting P now = (added : List Pair) × P added × AreFirst lasting added now

-- what a crash leaves stands for the first of pairs that have P, at least so many of them
abbrev pub IsPartOf : ℕ → (List Pair → Type 0) → Option (List Pair) → Type 0
IsPartOf lasting P said = (added : List Pair) × P added × IsPartSince lasting added said

-- the first of the pairs, so many of them, are there, and perhaps others behind them
abbrev pub AreThere : ℕ → List Pair → List Pair → Type 0
AreThere lasting pairs now = (more : List Pair) × (now ≡ take lasting pairs ++ more)

-- what a crash leaves stands for such pairs
abbrev pub IsFurther : ℕ → List Pair → Option (List Pair) → Type 0
IsFurther lasting pairs said = (more : List Pair) × (said ≡ Some (take lasting pairs ++ more))

-- The pairs that lasted before a call last on, at each moment and whatever it answers. D is what the
-- cache keeps, S the cache, X what a crash leaves.
pub record LastOn {D S X : Type 0} (state : S → CacheState D) (moment : S → Moment)
    (left : S → Moment → X → Type 0) (says : D → X → Option (List Pair)) (old new : S)
    : Type 0 where
  pub lasting : (state old).lasting ≤ (state new).lasting
  pub there : AreThere (state old).lasting (state old).pairs (state new).pairs
  pub images : Leaves moment left old new (λ image.
      IsFurther (state old).lasting (state old).pairs (says (state old).base image))

-- ---- what was due

-- After what was due was put: the pairs are as before, and all last. After a fault of the cache they
-- are the first of those before, and at least those that lasted, and after any other error as before.
abbrev pub SettlesAs : {T D : Type 0} → Result T RunErr → CacheState D → CacheState D → Type 0
SettlesAs (Ok _) old new = (new.pairs ≡ old.pairs) × AllLast new
SettlesAs (Err StoreFault) old new = AreFirst old.lasting old.pairs new.pairs
SettlesAs (Err _) old new = new.pairs ≡ old.pairs

-- What a call leaves that puts what is due, whatever it answers. Where nothing was due, it costs
-- nothing and changes no costs.
pub record Settles {T D S X : Type 0} (tells : Type 0) (state : S → CacheState D)
    (cost : S → List ℕ → ℕ) (stands : S → Hit → Type 0) (shows : S → Hit → Artifact)
    (moment : S → Moment) (left : S → Moment → X → Type 0) (says : D → X → Option (List Pair))
    (old new : S) (result : Result T RunErr) : Type 0 where
  pub pairs : tells → SettlesAs result (state old) (state new)
  pub lasting : tells → (state old).lasting ≤ (state new).lasting
  pub images : tells → Leaves moment left old new (λ image.
      IsPartSince (state old).lasting (state old).pairs (says (state old).base image))
  pub probes : tells → AllLast (state old) → (state new).probes ≡ (state old).probes
  pub costs : tells → AllLast (state old) → (key : List ℕ) → cost new key ≡ cost old key
  pub hits : HitsStay tells stands shows old new
  pub keeps : Keeps (state old) (state new)
