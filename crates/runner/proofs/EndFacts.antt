-- The end of a command, and what is kept of it.
use Rattle.std.proofs.lemmas.Bool.{false≢true}
use Rattle.std.proofs.Common.{◌≡◌, ℕ, ◌≤◌, Bool, true, Err, List, [], ◌∷◌, ◌++◌, length, take, refl, sym, ap, ◌∙◌, subst, arith, inl, inr, Option, append-nil, length-append}
use Rattle.rel_path.specs.Files.{FileMap, file_at, over}
use Rattle.cache_api.specs.Cache.{CacheState}
use Rattle.cache_api.specs.Moments.{Moment, Leaves, leaves_more, started}
use Rattle.cache_api.specs.Pairs.{Pair, AreFirst, IsPartSince}
use Rattle.page.specs.declared.blocks.Note.{Note}
use Rattle.spawn_dev.specs.declared.command.Ended.{Ended}
use Rattle.spawn_dev.specs.declared.command.Step.{Step as Told}
use Rattle.spawn_dev.specs.declared.command.Step.TheVariants as told
use Rattle.run_core.specs.Machine.{IsCalm}
use Rattle.run_laws.specs.Ancestors.{part_at}
use Rattle.run_laws.specs.Keys.{key_of}
use Rattle.run_plan.specs.declared.plan.Plan.{Plan}
use Rattle.run_plan.specs.Answers.{IsSafe}
use Rattle.run_plan.specs.Halts.{HaltLaw, MayBePut}
use Rattle.run_plan.specs.Openings.{Opening, rules_of}
use Rattle.run_plan.specs.Results.{KeptAs, Taken}
use Rattle.run_plan.specs.Stories.{Now}
use Rattle.run_plan.specs.StoryLaws.{Stands, EndsNow, KeptIf, to_put}
use Rattle.task_devices.specs.declared.error.RunErr.{RunErr}
use Rattle.task_devices.specs.declared.error.RunErr.TheVariants.{TreeFault, StoreFault, StartFault, SinkFault, OutOfMemory}
use Rattle.task_devices.specs.Stops.{faults_of, StopsBy, is_sink_fault}
use Rattle.task_devices.specs.Keeping.{AreFirstOf, IsPartOf, MayBeKept}
use Rattle.runner.specs.Answers.{HasSafePairs, LeavesSafe}
use Rattle.runner.specs.Ends.{IsKeptOf, MayBeKeptOf, with_log}

-- a list is not its own first part
pub no-more : {X : Type 0} (xs : List X) (x : X) → xs ≡ xs ++ x ∷ [] → ⊥
no-more xs x e =
    let n = ap length e ∙ length-append xs (x ∷ []) in omega (arith, n)

-- what has no output is not stopped by it
pub no-output : (a b d x y z : ℕ) (e : RunErr)
    → StopsBy {T = Unit {0}} (faults_of a b d 0) (faults_of x y z 0) (Err e)
    → is_sink_fault e ≡ true → ⊥
no-output a b d x y z TreeFault cause sink = absurd (false≢true sink)
no-output a b d x y z StoreFault cause sink = absurd (false≢true sink)
no-output a b d x y z StartFault cause sink = absurd (false≢true sink)
no-output a b d x y z SinkFault cause sink = let rose = cause.0 in absurd (omega (arith, rose))
no-output a b d x y z OutOfMemory cause sink = absurd (false≢true sink)

-- ---- by the log that was written and the key that was made

module _ (plan : Plan) (end : Ended) (sound : Bool) (files now : FileMap) (key : List ℕ)
    (written : now ≡ with_log plan end files) (made : key ≡ key_of plan.listing end.place) where
  pub kept-as : (before : List Pair) (room : ℕ) (after : List Pair) (note : Note)
      → KeptIf (to_put plan sound end.place end.status)
      (KeptAs now (part_at plan.listing end.place).outs plan.limit key end.log before room after
      note) note before after → IsKeptOf plan end sound files before room after note
  kept-as before room after note kept =
      subst (λ fs. KeptIf (to_put plan sound end.place end.status)
      (KeptAs fs (part_at plan.listing end.place).outs plan.limit (key_of plan.listing end.place)
      end.log before room after note) note before after) written
      (subst (λ k. KeptIf (to_put plan sound end.place end.status)
      (KeptAs now (part_at plan.listing end.place).outs plan.limit k end.log before room after
      note) note before after) made kept)

  pub may-as : (before after : List Pair)
      → MayBeKept (to_put plan sound end.place end.status) now
      (part_at plan.listing end.place).outs plan.limit key end.log before after
      → MayBeKeptOf plan end sound files before after
  may-as before after may =
      subst (λ fs. MayBeKept (to_put plan sound end.place end.status) fs
      (part_at plan.listing end.place).outs plan.limit (key_of plan.listing end.place) end.log
      before after) written
      (subst (λ k. MayBeKept (to_put plan sound end.place end.status) now
      (part_at plan.listing end.place).outs plan.limit k end.log before after) made may)

  -- ---- the first of such pairs

  abbrev Kept : List Pair → List Pair → Type 0
  Kept before after = MayBeKept (to_put plan sound end.place end.status) now
      (part_at plan.listing end.place).outs plan.limit key end.log before after

  pub first-as : (lasting : ℕ) (before after : List Pair)
      → AreFirstOf lasting (Kept before) after
      → AreFirstOf lasting (MayBeKeptOf plan end sound files before) after
  first-as lasting before after (added, may, first) = (added, may-as before added may, first)

  pub part-as : (lasting : ℕ) (before : List Pair) (said : Option (List Pair))
      → IsPartOf lasting (Kept before) said
      → IsPartOf lasting (MayBeKeptOf plan end sound files before) said
  part-as lasting before said (added, may, part) = (added, may-as before added may, part)

-- ---- by the effect of the command

module _ (plan : Plan) (now : Now) (end : Ended) (sound : Bool) (files : FileMap)
    (files_are : files ≡ over now.files (file_at (now.will end.place).files)) where
  pub as-put : (after : List Pair) → MayBeKeptOf plan end sound files now.pairs after
      → MayBePut plan now end sound after
  as-put after (inl same) = inl same
  as-put after (inr kept) = inr (record {
    may = kept.may;
    taken = kept.taken;
    taken_are = subst (λ fs. Taken (with_log plan end fs) (part_at plan.listing end.place).outs
        plan.limit kept.taken) files_are kept.taken_are;
    pairs_are = kept.pairs_are;
  })

  pub first-put : (lasting : ℕ) (after : List Pair)
      → AreFirstOf lasting (MayBeKeptOf plan end sound files now.pairs) after
      → (added : List Pair) × MayBePut plan now end sound added × AreFirst lasting added after
  first-put lasting after (added, may, first) = (added, as-put added may, first)

  pub safe-end : (law : HaltLaw) (o : Opening) (less : ℕ) (steps : List Told)
      (added pairs : List Pair) → Stands plan o now → IsCalm (rules_of plan) now.states
      → EndsNow plan now end sound → less ≤ now.room
      → steps ≡ now.steps ++ told.End end ∷ []
      → MayBeKeptOf plan end sound files now.pairs added → AreFirst now.lasting added pairs
      → IsSafe plan o less steps pairs
  safe-end law o less steps added pairs stands calm ends le steps_are may first =
      let all = now.steps ++ told.End end ∷ [] in
      subst (λ list. IsSafe plan o less list pairs) (append-nil all ∙ sym steps_are)
      (law.safe_later plan o now.room less all [] pairs le
      (law.safe_at_end plan o now end sound added pairs stands calm ends (as-put added may) first))

-- the first of such pairs are safe
part-safe : (plan : Plan) (o : Opening) (room : ℕ) (steps : List Told) (lasting : ℕ)
    (P : List Pair → Type 0) (said : Option (List Pair))
    → ((added pairs : List Pair) → P added → AreFirst lasting added pairs
    → IsSafe plan o room steps pairs) → IsPartOf lasting P said
    → HasSafePairs plan o room steps said
part-safe plan o room steps lasting P said safe (added, may, (n, at, is)) =
    (take n added, is, safe added (take n added) may (n, at, refl))

module _ {D S X : Type 0} (state : S → CacheState D) (moment : S → Moment)
    (left : S → Moment → X → Type 0) (says : D → X → Option (List Pair)) where
  pub safe-ended : (plan : Plan) (o : Opening) (steps : List Told) (old new : S) (end : Ended)
      (sound : Bool) (files : FileMap) → Leaves moment left old new (λ image.
      IsPartOf (state old).lasting (MayBeKeptOf plan end sound files (state old).pairs)
      (says (state old).base image))
      → ((added pairs : List Pair) → MayBeKeptOf plan end sound files (state old).pairs added
      → AreFirst (state old).lasting added pairs → IsSafe plan o (state new).room steps pairs)
      → LeavesSafe state moment left says plan o steps old new
  safe-ended plan o steps old new end sound files leaves safe =
      leaves_more moment left old new (λ image.
      IsPartOf (state old).lasting (MayBeKeptOf plan end sound files (state old).pairs)
      (says (state old).base image))
      (λ image. HasSafePairs plan o (state new).room steps (says (state old).base image)) leaves
      (λ image is. part-safe plan o (state new).room steps (state old).lasting
      (MayBeKeptOf plan end sound files (state old).pairs) (says (state old).base image) safe is)

  -- where nothing was put
  pub rests-kept : (plan : Plan) (end : Ended) (sound : Bool) (files : FileMap) (cache : S)
      → ((image : X) → left cache (moment cache) image
      → IsPartSince (state cache).lasting (state cache).pairs (says (state cache).base image))
      → Leaves moment left cache cache (λ image. IsPartOf (state cache).lasting
      (MayBeKeptOf plan end sound files (state cache).pairs) (says (state cache).base image))
  rests-kept plan end sound files cache rests =
      started moment left cache (λ image. IsPartOf (state cache).lasting
      (MayBeKeptOf plan end sound files (state cache).pairs) (says (state cache).base image))
      (λ image here. ((state cache).pairs, inl refl, rests image here))
