-- What putting what is due leaves, and what comes behind it.
use Rattle.std.proofs.Common.{◌≡◌, ◌⊎◌, ◌≤◌, ℕ, List, length, refl, sym, ap, ◌∙◌, subst, arith, inl, inr, Option, Result, Ok, Err}
use Rattle.std.specs.Prelude.{OnOk}
use Rattle.std.proofs.lemmas.List.{take_all}
use Rattle.rel_path.specs.Causes.{Counts, CountsFaults, Rose}
use Rattle.tree_dev.specs.Tree.{TreeState}
use Rattle.cache_api.specs.declared.error.CacheErr.{CacheErr}
use Rattle.cache_api.specs.declared.error.CacheErr.TheVariants as store
use Rattle.cache_api.specs.declared.hit.Hit.{Hit}
use Rattle.cache_api.specs.Artifacts.{Artifact}
use Rattle.cache_api.specs.Cache.{CacheState, Keeps, AllLast, SettledAs, due_in, is_fault}
use Rattle.cache_api.specs.Calls.{keeps_none}
use Rattle.cache_api.specs.Moments.{Moment, Leaves, started}
use Rattle.cache_api.specs.Pairs.{Pair, AreFirst, IsPartSince, LacksKey, due_of}
use Rattle.cache_api.proofs.Firsts.{none_due}
use Rattle.spawn_dev.specs.declared.effect.Effect.{Effect}
use Rattle.spawn_dev.specs.Effects.{Seen}
use Rattle.spawn_dev.specs.Spawn.{Runs}
use Rattle.run_core.specs.Machine.{States}
use Rattle.run_plan.specs.declared.plan.Plan.{Plan}
use Rattle.run_plan.specs.StoryLaws.{Stands, StoryLaw}
use Rattle.task_devices.specs.declared.error.RunErr.{RunErr}
use Rattle.task_devices.specs.declared.error.RunErr.TheVariants.{TreeFault, StoreFault, StartFault, SinkFault, OutOfMemory}
use Rattle.task_devices.specs.Keeping.{Settles, SettlesAs}
use Rattle.task_devices.specs.Stops.{faults_of, StopsBy}
use Rattle.task_devices.proofs.KeepFacts.{same_first}
use Rattle.run_board.specs.declared.board.Board.{Board}
use Rattle.run_board.specs.Progress.{StaysOn, now_of}
use Rattle.run_board.proofs.StoryFacts.{become}
use Rattle.runner.specs.Costs.{Spends, SpendsAtMost}
use Rattle.runner.specs.Due.{PutsDue}
use Rattle.runner.specs.Halting.{CacheGoes}
use Rattle.runner.proofs.CacheFacts.{cache-part}
use Rattle.runner.proofs.CostFacts.{costs-same}

-- ---- by what putting them answered

module _ {D : Type 0} (old new : CacheState D) where
  abbrev First : Type 0
  First = AreFirst old.lasting old.pairs new.pairs

  abbrev Same : Type 0
  Same = Rose old.faults new.faults ⊎ (new.pairs ≡ old.pairs)

  same-first : new.pairs ≡ old.pairs → First
  same-first same = same_first old.lasting old.pairs new.pairs same

  first-settles : {T : Type 0} (result : Result T RunErr) → SettlesAs result old new → First
  first-settles (Ok v) is = same-first is.0
  first-settles (Err TreeFault) is = same-first is
  first-settles (Err StoreFault) is = is
  first-settles (Err StartFault) is = same-first is
  first-settles (Err SinkFault) is = same-first is
  first-settles (Err OutOfMemory) is = same-first is

  same-settles : {T : Type 0} (result : Result T RunErr) → SettlesAs result old new
      → StopsBy (faults_of 0 old.faults 0 0) (faults_of 0 new.faults 0 0) result → Same
  same-settles (Ok v) is cause = inr is.0
  same-settles (Err TreeFault) is cause = inr is
  same-settles (Err StoreFault) is cause = inl cause.0
  same-settles (Err StartFault) is cause = inr is
  same-settles (Err SinkFault) is cause = inr is
  same-settles (Err OutOfMemory) is cause = inr is

  pub kept-settles : {T : Type 0} (result : Result T RunErr) → SettlesAs result old new
      → OnOk result (new.pairs ≡ old.pairs)
  kept-settles (Ok v) is = is.0
  kept-settles (Err e) is = tt

  pub last-settles : {T : Type 0} (result : Result T RunErr) → SettlesAs result old new
      → OnOk result (AllLast new)
  last-settles (Ok v) is = is.1
  last-settles (Err e) is = tt

  first-settled : {T : Type 0} (result : Result T CacheErr) → SettledAs result old new → First
  first-settled (Ok v) is = same-first is.0
  first-settled (Err store.Full) is = same-first is
  first-settled (Err store.Failed) is = is
  first-settled (Err store.OutOfMemory) is = same-first is

  same-settled : {T : Type 0} (result : Result T CacheErr) → SettledAs result old new
      → CountsFaults is_fault old.faults new.faults result → Same
  same-settled (Ok v) is counts = inr is.0
  same-settled (Err store.Full) is counts = inr is
  same-settled (Err store.Failed) is counts = inl counts
  same-settled (Err store.OutOfMemory) is counts = inr is

-- with no key anything is due where all pairs last
pub none-lacks : {D : Type 0} (state : CacheState D) (key : List ℕ) → AllLast state
    → LacksKey key (due_in state)
none-lacks state key last =
    subst (LacksKey key) (sym (ap (λ n. due_of state.pairs n) last ∙ none_due state.pairs)) tt

module _ {D S X : Type 0} (tells : Type 0) (state : S → CacheState D) (cost : S → List ℕ → ℕ)
    (moment : S → Moment) (left : S → Moment → X → Type 0)
    (says : D → X → Option (List Pair)) where
  abbrev Puts : S → S → Type 0
  Puts = PutsDue tells state cost moment left says

  -- where nothing was put
  pub due-none : (cache : S) → (tells → (state cache).lasting ≤ length (state cache).pairs)
      → (tells → (image : X) → left cache (moment cache) image
      → IsPartSince (state cache).lasting (state cache).pairs (says (state cache).base image))
      → Puts cache cache
  due-none cache within rests = record {
    first = λ told. same-first (state cache) (state cache) refl;
    same = λ told. inr refl;
    lasting = λ told. omega arith;
    within = within;
    images = λ told. started moment left cache (λ image.
        IsPartSince (state cache).lasting (state cache).pairs (says (state cache).base image))
        (rests told);
    probes = λ told last. refl;
    costs = λ told last key. refl;
    keeps = keeps_none (state cache);
  }

  pub due-settles : {T : Type 0} (stands : S → Hit → Type 0) (shows : S → Hit → Artifact)
      (old new : S) (result : Result T RunErr)
      → Settles tells state cost stands shows moment left says old new result
      → StopsBy (faults_of 0 (state old).faults 0 0) (faults_of 0 (state new).faults 0 0) result
      → (tells → (state new).lasting ≤ length (state new).pairs) → Puts old new
  due-settles stands shows old new result is cause within = record {
    first = λ told. first-settles (state old) (state new) result (is.pairs told);
    same = λ told. same-settles (state old) (state new) result (is.pairs told) cause;
    lasting = is.lasting;
    within = within;
    images = is.images;
    probes = is.probes;
    costs = is.costs;
    keeps = is.keeps;
  }

  pub due-settled : {T : Type 0} (old new : S) (result : Result T CacheErr)
      → (tells → SettledAs result (state old) (state new))
      → (tells → (state old).lasting ≤ (state new).lasting)
      → (tells → Leaves moment left old new (λ image.
      IsPartSince (state old).lasting (state old).pairs (says (state old).base image)))
      → (tells → AllLast (state old) → (state new).probes ≡ (state old).probes)
      → (tells → AllLast (state old) → (key : List ℕ) → cost new key ≡ cost old key)
      → Keeps (state old) (state new)
      → Counts is_fault (state old).faults (state new).faults result
      → (tells → (state new).lasting ≤ length (state new).pairs) → Puts old new
  due-settled old new result pairs lasting images probes costs keeps cause within = record {
    first = λ told. first-settled (state old) (state new) result (pairs told);
    same = λ told. same-settled (state old) (state new) result (pairs told) cause.counted;
    lasting = lasting;
    within = within;
    images = images;
    probes = probes;
    costs = costs;
    keeps = keeps;
  }

  -- ---- what comes of it

  -- where all pairs lasted, they still do
  pub due-last : (old new : S) → Puts old new → tells → AllLast (state old) → AllLast (state new)
  due-last old new due told last =
      let first = due.first told in
      let all = take_all first.0 (state old).pairs (omega (arith, last, first.1)) in
      let size = ap length (first.2 ∙ all) in
      omega (arith, size, last, due.lasting told, due.within told)

  pub due-goes : (old new : S) → Puts old new
      → (tells → (state old).lasting ≤ length (state old).pairs)
      → CacheGoes tells state moment left says old new
  due-goes old new due within =
      cache-part state moment left says tells old new due.keeps within due.lasting due.first
      due.images

  pub due-spends : (plan : Plan) (before after : States) (old mid new : S) → Puts old mid → tells
      → AllLast (state old) → Spends plan state cost before after mid new
      → Spends plan state cost before after old new
  due-spends plan before after old mid new due told last spends =
      let probes = due.probes told last in
      let same = costs-same (cost old) (cost mid) plan before (due.costs told last) in
      omega (arith, spends, probes, same)

  pub due-spent : (plan : Plan) (before : States) (old mid new : S) → Puts old mid → tells
      → AllLast (state old) → SpendsAtMost plan state cost before mid new
      → SpendsAtMost plan state cost before old new
  due-spent plan before old mid new due told last spent =
      let probes = due.probes told last in
      let same = costs-same (cost old) (cost mid) plan before (due.costs told last) in
      omega (arith, spent, probes, same)

-- ---- the story

-- more of the pairs last, and there is less room
pub due-stands : {B R D : Type 0} (law : StoryLaw) (plan : Plan) (board : Board)
    (effect : B → Seen → Effect) (world : Runs B) (tree : TreeState R) (old new : CacheState D)
    → old.lasting ≤ new.lasting → new.lasting ≤ length new.pairs → new.pairs ≡ old.pairs
    → new.room ≤ old.room
    → StaysOn plan (now_of board effect world tree old) (now_of board effect world tree new)
due-stands law plan board effect world tree old new more within same less o stands =
    let now = now_of board effect world tree old in
    let size = ap length same in
    let mid = record now { lasting = new.lasting } in
    let settled = law.settles plan o now new.lasting stands more (omega (arith, within, size)) in
    let stood : Stands plan o mid =
    record { valid = stands.valid; ready = stands.ready; story = settled } in
    become plan o now (record mid { room = new.room }) (now_of board effect world tree new) stands
    refl refl refl refl refl (sym same) refl refl refl refl refl
    (law.less plan o mid new.room stood less)
