-- What is to be written, and what is said where nothing is.
use Rattle.std.proofs.Common.{◌≡◌, ◌<◌, ℕ, Bool, List, length, refl, sym, ap, ◌∙◌, subst}
use Rattle.std.specs.Prelude.{Some, None, Result, Ok, Err}
use Rattle.std.specs.List.{AllByRecursion}
use Rattle.rel_path.specs.Paths.{Path}
use Rattle.rel_path.specs.Files.{FileMap}
use Rattle.workspaces.specs.declared.member.Package.{Package}
use Rattle.workspaces.specs.Space.{owners}
use Rattle.repository.specs.Reading.{Contents}
use Rattle.kept_packages.specs.Answers.{first_unknown, AreKept}
use Rattle.pruned_files.proofs.Numbers.{below_places}
use Rattle.prune.specs.declared.error.PruneErr.{PruneErr}
use Rattle.prune.specs.declared.error.PruneErr.TheVariants.{NoPackage, OutTaken, Missing, TooLarge, TreeFailed, SinkFailed, OutOfMemory}
use Rattle.prune.specs.declared.planning.Plan.{Plan}
use Rattle.prune.specs.Answers.{Leaves}
use Rattle.prune.specs.Cause.{Counts, HasCause}
use Rattle.prune.specs.Folders.{first_below_out}
use Rattle.prune.specs.Printed.{Prints}
use Rattle.prune.specs.Steps.{HasNoName, IsTaken, LacksFor, IsPlanOf, PlansOf, IsPlan, Refuses, Plans}

pub below_kept : (contents : Contents) (targets : List (List ℕ)) (kept : List ℕ) → AreKept contents targets kept → AllByRecursion (λ n. n < length (owners contents.space)) kept
below_kept contents targets kept k = subst (λ ns. AllByRecursion (λ n. n < length (owners contents.space)) ns) (sym k.2) (below_places (λ (p : Package). k.0 p.folder) (owners contents.space))

pub kept_below : (contents : Contents) (targets : List (List ℕ)) (plan : Plan) → IsPlan contents targets plan → AllByRecursion (λ n. n < length (owners contents.space)) plan.kept
kept_below contents targets plan p = below_kept contents targets plan.kept (p.pruning.set, p.is.kept, p.kept)

pub no_name : (contents : Contents) (targets : List (List ℕ)) (e : PruneErr) → HasNoName contents targets e → Refuses contents targets e
no_name contents targets (NoPackage name) h = h
no_name contents targets (OutTaken path) h = absurd h
no_name contents targets (Missing from name) h = absurd h
no_name contents targets (TooLarge path) h = absurd h
no_name contents targets TreeFailed h = absurd h
no_name contents targets SinkFailed h = absurd h
no_name contents targets OutOfMemory h = tt

pub taken : (contents : Contents) (targets : List (List ℕ)) (path : Path) (e : PruneErr) → first_unknown contents targets ≡ None → first_below_out contents.walk ≡ Some path → IsTaken path e → Refuses contents targets e
taken contents targets path (NoPackage name) names first h = absurd h
taken contents targets path (OutTaken other) names first h = (names, first ∙ ap Some (sym h))
taken contents targets path (Missing from name) names first h = absurd h
taken contents targets path (TooLarge large) names first h = absurd h
taken contents targets path TreeFailed names first h = absurd h
taken contents targets path SinkFailed names first h = absurd h
taken contents targets path OutOfMemory names first h = tt

lacked : (contents : Contents) (targets : List (List ℕ)) (kept : List ℕ) (e : PruneErr) → first_unknown contents targets ≡ None → first_below_out contents.walk ≡ None → AreKept contents targets kept → LacksFor contents kept e → Refuses contents targets e
lacked contents targets kept (NoPackage name) names free k l = absurd (l k.0 k.2)
lacked contents targets kept (OutTaken path) names free k l = absurd (l k.0 k.2)
lacked contents targets kept (Missing from name) names free k l = (record { names = names; free = free }, (k.0, k.1, l k.0 k.2))
lacked contents targets kept (TooLarge path) names free k l = absurd (l k.0 k.2)
lacked contents targets kept TreeFailed names free k l = absurd (l k.0 k.2)
lacked contents targets kept SinkFailed names free k l = absurd (l k.0 k.2)
lacked contents targets kept OutOfMemory names free k l = tt

planned : (contents : Contents) (targets : List (List ℕ)) (kept : List ℕ) (plan : Plan) → first_unknown contents targets ≡ None → first_below_out contents.walk ≡ None → AreKept contents targets kept → IsPlanOf contents kept plan → IsPlan contents targets plan
planned contents targets kept plan names free k p =
    let set = k.0 in
    let text = p.text set k.2 in
    record {
      begins = record { names = names; free = free };
      pruning = record { set = set; paths = plan.paths; lock = text.0; text = plan.text };
      is = record { kept = k.1; picked = p.paths set k.2; cut = text.1 };
      kept = p.kept_is ∙ k.2;
      paths = refl;
      layer = p.layer set k.2;
      text = refl;
    }

pub plans : (contents : Contents) (targets : List (List ℕ)) (kept : List ℕ) (result : Result Plan PruneErr) → first_unknown contents targets ≡ None → first_below_out contents.walk ≡ None → AreKept contents targets kept → PlansOf contents kept result → Plans contents targets result
plans contents targets kept (Ok plan) names free k p = planned contents targets kept plan names free k p
plans contents targets kept (Err e) names free k l = lacked contents targets kept e names free k l

-- ---- where nothing is written

pub leaves_refused : (docker : Bool) (contents : Contents) (targets : List (List ℕ)) (files : FileMap) (e : PruneErr) → Refuses contents targets e → Leaves docker contents targets files files (Err e)
leaves_refused docker contents targets files (NoPackage name) r = (refl, r)
leaves_refused docker contents targets files (OutTaken path) r = (refl, r)
leaves_refused docker contents targets files (Missing from name) r = (refl, r)
leaves_refused docker contents targets files (TooLarge path) r = absurd r
leaves_refused docker contents targets files TreeFailed r = absurd r
leaves_refused docker contents targets files SinkFailed r = absurd r
leaves_refused docker contents targets files OutOfMemory r = tt

pub prints_refused : (contents : Contents) (targets : List (List ℕ)) (written : List ℕ) (e : PruneErr) → Refuses contents targets e → Prints contents targets written written (Err e)
prints_refused contents targets written (NoPackage name) r = refl
prints_refused contents targets written (OutTaken path) r = refl
prints_refused contents targets written (Missing from name) r = refl
prints_refused contents targets written (TooLarge path) r = refl
prints_refused contents targets written TreeFailed r = refl
prints_refused contents targets written SinkFailed r = absurd r
prints_refused contents targets written OutOfMemory r = refl

pub cause_refused : (contents : Contents) (targets : List (List ℕ)) (counts : Counts) (e : PruneErr) → Refuses contents targets e → HasCause counts counts (Err e)
cause_refused contents targets counts (NoPackage name) r = refl
cause_refused contents targets counts (OutTaken path) r = refl
cause_refused contents targets counts (Missing from name) r = refl
cause_refused contents targets counts (TooLarge path) r = refl
cause_refused contents targets counts TreeFailed r = absurd r
cause_refused contents targets counts SinkFailed r = absurd r
cause_refused contents targets counts OutOfMemory r = refl
