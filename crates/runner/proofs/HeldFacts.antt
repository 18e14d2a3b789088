-- Which paths are held while commands run.
use Rattle.std.proofs.Common.{◌≡◌, ◌≢◌, ◌⊎◌, ℕ, zero, suc, ◌<◌, Bool, true, false, List, [], ◌∷◌, length, get_or, refl, sym, ap, ◌∙◌, inl, inr}
use Rattle.std.specs.List.{list_any}
use Rattle.std.proofs.lemmas.Bool.{cases_Bool, false≢true, true≢false, and_parts, or_cases, false_from_ne_true}
use Rattle.rel_path.specs.Paths.{Path, is_among}
use Rattle.rel_path.specs.Files.{FileMap}
use Rattle.globs.specs.Outputs.{takes, shares}
use Rattle.globs.specs.OwnedFiles.{cleared}
use Rattle.capture.specs.Owned.{declares}
use Rattle.listing.specs.declared.part.Part.{Part}
use Rattle.spawn_dev.specs.declared.command.Command.{Command}
use Rattle.spawn_dev.specs.Effects.{may_read}
use Rattle.spawn_dev.specs.Spawn.{Runs, live, IsOwned, KeepsClear, OwnsNothing, ReadsFree}
use Rattle.run_core.specs.declared.states.State.TheVariants.{Missed}
use Rattle.run_core.specs.Machine.{States, is_well, is_known, runs, IsCalm}
use Rattle.run_laws.specs.Picks.{pick}
use Rattle.run_laws.specs.Ancestors.{part_at, blank, has_script, is_above}
use Rattle.run_laws.specs.Closures.{names}
use Rattle.run_laws.specs.ClosureLaws.{ClosureIsOrdered}
use Rattle.run_laws.specs.Plans.{log_path}
use Rattle.run_laws.specs.Worlds.{owns, is_made, is_read}
use Rattle.run_core.proofs.Any.{any_at}
use Rattle.run_plan.specs.declared.plan.Plan.{Plan}
use Rattle.run_plan.specs.Commands.{command_of}
use Rattle.run_plan.specs.Openings.{rules_of}
use Rattle.run_plan.specs.Plans.{IsValidPlan}
use Rattle.run_plan.proofs.Steps.{leads-same}
use Rattle.run_plan.proofs.CommandFacts.{may-read, outs-is, place-is}
use Rattle.run_plan.proofs.Closing.{script-below}
use Rattle.runner.specs.Running.{AreOurs, InStep, is_begun}
use Rattle.task_devices.specs.Devices.{IsFree}
use Rattle.runner.proofs.WorldFacts.{running-is, there-is}

some-picked : (t : Part → Bool) (keep : ℕ → Bool) (xs : List Part) → list_any t (pick keep xs) ≡ true → (a : ℕ) × (keep a ≡ true) × (t (get_or xs a blank) ≡ true)
some-picked t keep [] h = absurd (false≢true h)
some-picked t keep (x ∷ xs) h = elim (cases_Bool (keep zero)) [
  | inl k ↦ elim (or_cases (t x) (list_any t (pick (λ i. keep (suc i)) xs)) (rw k at h)) [
    | inl here ↦ (zero, k, here)
    | inr there ↦ let w = some-picked t (λ i. keep (suc i)) xs there in (suc w.0, w.1, w.2)
  ]
  | inr k ↦ let w = some-picked t (λ i. keep (suc i)) xs (rw k at h) in (suc w.0, w.1, w.2)
]

-- ---- what a command may read

module _ (plan : Plan) (valid : IsValidPlan plan) where
  read-named : (t : ℕ) (path : Path) → is_read plan.listing t path ≡ true → names plan.listing.parts path ≡ true
  read-named t path h = elim (or_cases (is_among (part_at plan.listing t).inputs path) (names (pick (is_above plan.listing t) plan.listing.parts) path) h) [
    | inl own ↦ any_at (λ part. is_among part.inputs path) plan.listing.parts t blank refl own
    | inr above ↦ let w = some-picked (λ part. is_among part.inputs path) (is_above plan.listing t) plan.listing.parts above in any_at (λ part. is_among part.inputs path) plan.listing.parts w.0 blank refl w.2
  ]

  -- a task may read only what no task with a script owns, or what an ancestor owns
  reads-only : ClosureIsOrdered → (t : ℕ) (path : Path) → t < length plan.listing.parts → may_read (command_of plan t) path ≡ true
      → ((a : ℕ) × (is_above plan.listing t a ≡ true) × (has_script (part_at plan.listing a) ≡ true) × (takes (part_at plan.listing a).outs path ≡ true)) ⊎ (names plan.listing.parts path ≡ true)
  reads-only law t path below h = elim (or_cases (is_made plan.listing t path) (is_read plan.listing t path) (sym (may-read law plan t valid below path) ∙ h)) [
    | inl made ↦
        let w = some-picked (owns path) (is_above plan.listing t) plan.listing.parts made in
        let p = and_parts (has_script (part_at plan.listing w.0)) (takes (part_at plan.listing w.0).outs path) w.2 in
        inl (w.0, w.1, p.0, p.1)
    | inr read ↦ inr (read-named t path read)
  ]

-- ---- which paths are held

module _ {B : Type 0} (plan : Plan) (valid : IsValidPlan plan) (st : States) where
  module _ (world : Runs B) (ours : AreOurs plan world) (held : Path → Bool) (by : (path : Path) → held path ≡ true → IsOwned world path) where
    -- whoever holds a path
    pub record Holder (path : Path) : Type 0 where
      pub place : ℕ
      pub lives : live world place ≡ true
      pub script : has_script (part_at plan.listing place) ≡ true
      pub owns_it : takes (part_at plan.listing place).outs path ≡ true

    holder : (path : Path) → held path ≡ true → Holder path
    holder path h =
        let w = by path h in
        record {
          place = w.place;
          lives = there-is (world.at w.place) w.command w.at;
          script = ours.scripts w.place w.command w.at;
          owns_it = ap (λ o. takes o path) (sym (ap (λ c. c.outs) (ours.command w.place w.command w.at) ∙ outs-is plan w.place)) ∙ w.takes_it;
        }

    pub free-of : (t : ℕ) → has_script (part_at plan.listing t) ≡ true → live world t ≡ false → IsFree plan t held
    free-of t script idle path own = false_from_ne_true (held path) (λ h.
        let w = holder path h in
        let other : t ≢ w.place = λ e. true≢false (sym w.lives ∙ ap (live world) (sym e) ∙ idle) in
        true≢false (sym w.owns_it ∙ valid.apart.outs t w.place other script w.script path own))

    pub log-free : (t : ℕ) → has_script (part_at plan.listing t) ≡ true → held (log_path (part_at plan.listing t)) ≡ false
    log-free t script = false_from_ne_true (held (log_path (part_at plan.listing t))) (λ h.
        let w = holder (log_path (part_at plan.listing t)) h in
        true≢false (sym w.owns_it ∙ valid.apart.log_outs w.place t w.script script))

    pub declared-free : (t : ℕ) → has_script (part_at plan.listing t) ≡ true → live world t ≡ false → (path : Path) → declares (part_at plan.listing t).outs path ≡ true → held path ≡ false
    declared-free t script idle path h = elim (or_cases (takes (part_at plan.listing t).outs path) (shares (part_at plan.listing t).outs path) h) [
      | inl own ↦ free-of t script idle path own
      | inr shared ↦ false_from_ne_true (held path) (λ k.
          let w = holder path k in
          let other : w.place ≢ t = λ e. true≢false (sym w.lives ∙ ap (live world) e ∙ idle) in
          true≢false (sym shared ∙ valid.apart.shared w.place t other w.script script path w.owns_it))
    ]

  module _ (law : ClosureIsOrdered) (calm : IsCalm (rules_of plan) st) (world : Runs B) (step : InStep plan st world) (t : ℕ) (below : t < length plan.listing.parts) (missed : st t ≡ Missed) (command : Command) (is : command ≡ command_of plan t) where
    script : has_script (part_at plan.listing t) ≡ true
    script = step.scripts t (ap is_begun missed)

    place : command.place ≡ t
    place = ap (λ c. c.place) is ∙ place-is plan t

    outs : command.outs ≡ (part_at plan.listing t).outs
    outs = ap (λ c. c.outs) is ∙ outs-is plan t

    idle : live world t ≡ false
    idle = step.live_is t ∙ ap runs missed

    -- an ancestor of a known task has settled well
    above-well : (u a : ℕ) → is_known (st u) ≡ true → is_above plan.listing u a ≡ true → is_well plan.mode (st a) ≡ true
    above-well u a known above = calm u a (leads-same plan u u a ∙ above) known

    pub is-fresh : live world command.place ≡ false
    is-fresh = ap (live world) place ∙ idle

    pub is-clear : KeepsClear command world
    is-clear u other at path own =
        let own_t = ap (λ o. takes o path) (sym outs) ∙ own in
        let lives = there-is (world.at u) other at in
        let running = running-is (st u) (sym (step.live_is u) ∙ lives) in
        let script_u = step.ours.scripts u other at in
        let other_is = step.ours.command u other at in
        let apart : t ≢ u = λ e. true≢false (sym lives ∙ ap (live world) (sym e) ∙ idle) in (
          ap (λ c. takes c.outs path) other_is ∙ ap (λ o. takes o path) (outs-is plan u) ∙ valid.apart.outs t u apart script script_u path own_t,
          ap (λ c. may_read c path) other_is ∙ false_from_ne_true (may_read (command_of plan u) path) (λ h. elim (reads-only plan valid law u path (script-below plan u script_u) h) [
            | inl w ↦
                let well = above-well u w.0 (ap is_known running) w.1 in
                let far : t ≢ w.0 = λ e. false≢true (sym (ap (is_well plan.mode) missed) ∙ ap (λ v. is_well plan.mode (st v)) e ∙ well) in
                true≢false (sym w.3 ∙ valid.apart.outs t w.0 far script w.2 path own_t)
            | inr named ↦ true≢false (sym named ∙ valid.apart.inputs t script path own_t)
          ]),
        )

    pub reads-free : (held : Path → Bool) → ((path : Path) → held path ≡ true → IsOwned world path) → ReadsFree command held
    reads-free held by path reads = false_from_ne_true (held path) (λ h.
        let w = holder world step.ours held by path h in
        let running = running-is (st w.place) (sym (step.live_is w.place) ∙ w.lives) in
        elim (reads-only plan valid law t path below (ap (λ c. may_read c path) (sym is) ∙ reads)) [
          | inl a ↦
              let well = above-well t a.0 (ap is_known missed) a.1 in
              let far : w.place ≢ a.0 = λ e. false≢true (sym (ap (is_well plan.mode) running) ∙ ap (λ v. is_well plan.mode (st v)) e ∙ well) in
              true≢false (sym a.3 ∙ valid.apart.outs w.place a.0 far w.script a.2 path w.owns_it)
          | inr named ↦ true≢false (sym named ∙ valid.apart.inputs w.place w.script path w.owns_it)
        ])

    pub owns-nothing : (files now : FileMap) → now ≡ cleared (part_at plan.listing t).outs files → OwnsNothing command now
    owns-nothing files now e path own = ap (λ f. f path) e ∙ (rw (ap (λ o. takes o path) (sym outs) ∙ own) refl)
