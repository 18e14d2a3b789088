-- The steps of a run keep what its files hold.
use Rattle.std.proofs.Common.{◌≡◌, ◌≢◌, ℕ, zero, suc, ◌<◌, ◌==◌, ◌&&◌, not, cond, Bool, true, false, List, [], ◌∷◌, length, slice_get, refl, sym, ap, ◌∙◌, subst, inl, inr, Option, Some, None, arith}
use Rattle.std.specs.List.{list_any, AllByRecursion}
use Rattle.std.proofs.lemmas.Bool.{cases_Bool, cases_eq, and_right, false≢true, true≢false, eq-eqb, ne_eqb, false_from_ne_true}
use Rattle.rel_path.specs.Paths.{Path}
use Rattle.rel_path.specs.Files.{FileMap, file_at, over}
use Rattle.rel_path.proofs.PathLaws.{path_self, path_other}
use Rattle.globs.specs.Outputs.{takes}
use Rattle.listing.specs.declared.part.Listing.{Listing}
use Rattle.run_core.specs.declared.states.Mode.{Mode}
use Rattle.spawn_dev.specs.declared.effect.Effect.{Effect}
use Rattle.run_laws.specs.declared.outcome.Outcome.{Outcome}
use Rattle.run_laws.specs.declared.outcome.Outcome.TheVariants.{Skipped, Passed, Done}
use Rattle.run_laws.specs.Ancestors.{part_at, is_nil, has_script, is_above, IsLower}
use Rattle.run_laws.specs.Closures.{names}
use Rattle.run_laws.specs.Effects.{Book}
use Rattle.spawn_dev.specs.Effects.{IsWellBehaved}
use Rattle.run_laws.specs.Clean.{skips, is_bad, written, seen, outcome, clean, outcome_in}
use Rattle.run_laws.specs.Plans.{log_path, AreApart}
use Rattle.run_laws.specs.Worlds.{seen_in, logged, Stage, Stages, is_finished, is_touched, is_well, put_at, status_in, log_in, IsOther, Holds, Shows}
use Rattle.globs.specs.OwnedFiles.{cleared, restored}
use Rattle.run_laws.specs.WorldLaws.{IsReadyFor, StepsLaw, ShowsLaw, LeavesLaw}
use Rattle.run_laws.specs.Worlds.Stage.{Untouched, Running, Finished}
use Rattle.run_core.proofs.Any.{any_none, all_members}
use Rattle.run_laws.proofs.AncestorFacts.{dep-above}
use Rattle.run_laws.proofs.ClosedParts.{length-clean_upto}
use Rattle.run_laws.proofs.EachFacts.{each_law_lem}
use Rattle.run_laws.proofs.ReadyFacts.{start_law_lem, clean-tame, get_or-some, own-names, outcome-passed, first_of_two}

-- ---- one stage changes

put-here : (stages : Stages) (t : ℕ) (s : Stage) → put_at stages t s t ≡ s
put-here stages t s = rw (eq-eqb t t refl) refl

put-other : (stages : Stages) (t : ℕ) (s : Stage) (u : ℕ) → u ≢ t → put_at stages t s u ≡ stages u
put-other stages t s u d = rw (ne_eqb u t d) refl

pub at-put : (P : ℕ → Stage → Type 0) (stages : Stages) (t : ℕ) (s : Stage) → P t s → ((u : ℕ) → u ≢ t → P u (stages u)) → (u : ℕ) → P u (put_at stages t s u)
at-put P stages t s here other u =
    elim (cases_eq u t) [
      | inl e ↦ rw (eq-eqb u t e) (subst (λ v. P v s) (sym e) here)
      | inr d ↦ rw (ne_eqb u t d) (other u d)
    ]

-- what the file map of one task's change has to be
record Changes (mode : Mode) (book : Book) (l : Listing) (world new : FileMap) (t : ℕ) (s : Stage) : Type 0 where
  touched : is_touched s ≡ true
  same : (path : Path) → takes (part_at l t).outs path ≡ false → (is_finished s ≡ true → path ≢ log_path (part_at l t)) → new path ≡ world path
  done : is_finished s ≡ true → (path : Path) → takes (part_at l t).outs path ≡ true → new path ≡ file_at (written (outcome_in (clean mode book l) t)) path
  log : is_finished s ≡ true → new (log_path (part_at l t)) ≡ Some (log_in (outcome_in (clean mode book l) t))
  clear : s ≡ Running → (path : Path) → takes (part_at l t).outs path ≡ true → new path ≡ None
  told : (status : ℕ) → s ≡ Finished status → status_in (slice_get (clean mode book l) t) ≡ Some status

module _ (mode : Mode) (book : Book) (l : Listing) (opening world : FileMap) (stages : Stages) (t : ℕ) where
  abbrev outs : List Outcome
  outs = clean mode book l

  untaken : AreApart l → has_script (part_at l t) ≡ true → (path : Path) → names l.parts path ≡ true → takes (part_at l t).outs path ≡ false
  untaken apart script path named = false_from_ne_true _ (λ h. true≢false (sym named ∙ apart.inputs t script path h))

  no-input-log : AreApart l → has_script (part_at l t) ≡ true → (path : Path) → names l.parts path ≡ true → path ≢ log_path (part_at l t)
  no-input-log apart script path named e = true≢false (sym named ∙ ap (names l.parts) e ∙ apart.log_inputs t script)

  no-owned-log : AreApart l → has_script (part_at l t) ≡ true → (u : ℕ) → has_script (part_at l u) ≡ true → (path : Path) → takes (part_at l u).outs path ≡ true → path ≢ log_path (part_at l t)
  no-owned-log apart script u runs path own e = true≢false (sym own ∙ ap (takes (part_at l u).outs) e ∙ apart.log_outs u t runs script)

  -- before the change a path was an other one too
  was-other : (s : Stage) → is_touched s ≡ true → is_finished (stages t) ≡ false → (path : Path) → IsOther l (put_at stages t s) path → IsOther l stages path
  was-other s touched fresh path other = record {
    unowned = λ j script h. elim (cases_eq j t) [
      | inl e ↦ other.unowned j script (ap (λ u. is_touched (put_at stages t s u)) e ∙ ap is_touched (put-here stages t s) ∙ touched)
      | inr d ↦ other.unowned j script (ap is_touched (put-other stages t s j d) ∙ h)
    ];
    no_log = λ j script h. elim (cases_eq j t) [
      | inl e ↦ absurd (false≢true (sym fresh ∙ ap (λ u. is_finished (stages u)) (sym e) ∙ h))
      | inr d ↦ other.no_log j script (ap is_finished (put-other stages t s j d) ∙ h)
    ];
  }

  change : (new : FileMap) (s : Stage) → AreApart l → has_script (part_at l t) ≡ true → is_finished (stages t) ≡ false → Holds mode book l opening stages world → Changes mode book l world new t s → Holds mode book l opening (put_at stages t s) new
  change new s apart script fresh holds is = record {
    inputs = λ path named. is.same path (untaken apart script path named) (λ _. no-input-log apart script path named) ∙ holds.inputs path named;
    owned = λ j h. at-put (λ u x. has_script (part_at l u) ≡ true → is_finished x ≡ true → (path : Path) → takes (part_at l u).outs path ≡ true → new path ≡ file_at (written (outcome_in outs u)) path) stages t s
        (λ _. is.done)
        (λ u d runs fin path own. is.same path (apart.outs u t d runs script path own) (λ _. no-owned-log apart script u runs path own) ∙ holds.owned u runs fin path own) j h;
    logs = λ j h. at-put (λ u x. has_script (part_at l u) ≡ true → is_finished x ≡ true → new (log_path (part_at l u)) ≡ Some (log_in (outcome_in outs u))) stages t s
        (λ _. is.log)
        (λ u d runs fin. is.same (log_path (part_at l u)) (apart.log_outs t u script runs) (λ _. apart.logs u t d runs script) ∙ holds.logs u runs fin) j h;
    clear = at-put (λ u x. x ≡ Running → (path : Path) → takes (part_at l u).outs path ≡ true → new path ≡ None) stages t s
        is.clear
        (λ u d now path own. is.same path (apart.outs u t d (holds.scripts u now) script path own) (λ _. no-owned-log apart script u (holds.scripts u now) path own) ∙ holds.clear u now path own);
    scripts = at-put (λ u x. x ≡ Running → has_script (part_at l u) ≡ true) stages t s (λ _. script) (λ u _. holds.scripts u);
    others = λ path other.
        is.same path (other.unowned t script (ap is_touched (put-here stages t s) ∙ is.touched)) (λ fin. other.no_log t script (ap is_finished (put-here stages t s) ∙ fin))
        ∙ holds.others path (was-other s is.touched fresh path other);
    told = at-put (λ u x. (status : ℕ) → x ≡ Finished status → status_in (slice_get outs u) ≡ Some status) stages t s is.told (λ u _. holds.told u);
  }

  -- ---- what stands well is not bad

  well-calm : (s : Stage) (o : Option Outcome) → skips mode ≡ true → ((status : ℕ) → s ≡ Finished status → status_in o ≡ Some status) → is_well mode s ≡ true → is_bad o ≡ false
  well-calm Untouched o k told h = absurd (false≢true h)
  well-calm Running o k told h = absurd (false≢true h)
  well-calm (Finished status) o k told h = by o (told status refl)
    where
      ok : (status == 0) ≡ true
      ok = rw k at h

      by : (x : Option Outcome) → status_in x ≡ Some status → is_bad x ≡ false
      by None e = refl
      by (Some Skipped) e = absurd (cc)
      by (Some Passed) e = refl
      by (Some (Done effect)) e = let same : effect.status ≡ status = cc in ap (λ x. not (x == 0)) same ∙ ap not ok

  calm : Holds mode book l opening stages world → AllByRecursion (λ d. is_well mode (stages d) ≡ true) (part_at l t).deps → (skips mode && list_any (λ d. is_bad (slice_get outs d)) (part_at l t).deps) ≡ false
  calm holds well =
      elim (cases_Bool (skips mode)) [
        | inl k ↦ rw k (any_none (λ d. is_well mode (stages d) ≡ true) _ (λ d w. well-calm (stages d) (slice_get outs d) k (holds.told d) w) (part_at l t).deps well)
        | inr k ↦ rw k refl
      ]

  well-finished : (s : Stage) → is_well mode s ≡ true → is_finished s ≡ true
  well-finished Untouched h = h
  well-finished Running h = h
  well-finished (Finished status) h = refl

  -- ---- a task without a script

  pass-one : IsLower l → t < length l.parts → Holds mode book l opening stages world → has_script (part_at l t) ≡ false → AllByRecursion (λ d. is_well mode (stages d) ≡ true) (part_at l t).deps → Holds mode book l opening (put_at stages t (Finished 0)) world
  pass-one low lt holds plain well = record {
    inputs = holds.inputs;
    owned = λ j h. at-put (λ u x. has_script (part_at l u) ≡ true → is_finished x ≡ true → (path : Path) → takes (part_at l u).outs path ≡ true → world path ≡ file_at (written (outcome_in outs u)) path) stages t (Finished 0)
        (λ k. absurd (false≢true (sym plain ∙ k)))
        (λ u _. holds.owned u) j h;
    logs = λ j h. at-put (λ u x. has_script (part_at l u) ≡ true → is_finished x ≡ true → world (log_path (part_at l u)) ≡ Some (log_in (outcome_in outs u))) stages t (Finished 0)
        (λ k. absurd (false≢true (sym plain ∙ k)))
        (λ u _. holds.logs u) j h;
    clear = at-put (λ u x. x ≡ Running → (path : Path) → takes (part_at l u).outs path ≡ true → world path ≡ None) stages t (Finished 0) (λ h. absurd (true≢false (ap is_finished h))) (λ u _. holds.clear u);
    scripts = at-put (λ u x. x ≡ Running → has_script (part_at l u) ≡ true) stages t (Finished 0) (λ h. absurd (true≢false (ap is_finished h))) (λ u _. holds.scripts u);
    others = λ path other. holds.others path (record {
      unowned = λ j script h. other.unowned j script (ap is_touched (put-other stages t (Finished 0) j (not-this j script)) ∙ h);
      no_log = λ j script h. other.no_log j script (ap is_finished (put-other stages t (Finished 0) j (not-this j script)) ∙ h);
    });
    told = at-put (λ u x. (status : ℕ) → x ≡ Finished status → status_in (slice_get outs u) ≡ Some status) stages t (Finished 0)
        (λ status e. let none : 0 ≡ status = cc in ap status_in (each_law_lem mode book l t low lt ∙ ap Some (outcome-passed mode book l t outs (calm holds well) plain)) ∙ ap Some none)
        (λ u _. holds.told u);
  }
    where
      not-this : (j : ℕ) → has_script (part_at l j) ≡ true → j ≢ t
      not-this j script e = false≢true (sym plain ∙ ap (λ u. has_script (part_at l u)) (sym e) ∙ script)

  -- ---- a start

  start-one : AreApart l → IsWellBehaved book → IsLower l → t < length l.parts → Holds mode book l opening stages world → has_script (part_at l t) ≡ true → is_finished (stages t) ≡ false
      → ((a : ℕ) → is_above l t a ≡ true → is_well mode (stages a) ≡ true)
      → Holds mode book l opening (put_at stages t Running) (cleared (part_at l t).outs world) × (slice_get outs t ≡ Some (Done (book (seen_in l t (cleared (part_at l t).outs world)))))
  start-one apart tame low lt holds script fresh well = (
    change (cleared (part_at l t).outs world) Running apart script fresh holds (record {
      touched = refl;
      same = λ path free _. rw free refl;
      done = λ h. absurd (false≢true h);
      log = λ h. absurd (false≢true h);
      clear = λ _ path own. rw own refl;
      told = λ status e. absurd (false≢true (ap is_finished e));
    }),
    start_law_lem mode book l t (cleared (part_at l t).outs world) tame low lt script (calm holds deps) ready,
  )
    where
      deps : AllByRecursion (λ d. is_well mode (stages d) ≡ true) (part_at l t).deps
      deps = all_members (λ d. is_well mode (stages d) ≡ true) (part_at l t).deps (λ d member. well d (dep-above l t d low member))

      ready : IsReadyFor l outs t (cleared (part_at l t).outs world)
      ready = record {
        inputs = λ path named.
            let all = own-names l t path named in
            (rw (untaken apart script path all) (holds.inputs path all));
        owned = λ j a k path own.
            (elim (cases_eq j t) [
              | inl e ↦ absurd (false≢true (sym fresh ∙ ap (λ x. is_finished (stages x)) (sym e) ∙ well-finished (stages j) (well j a)))
              | inr d ↦ rw (apart.outs j t d k script path own) (holds.owned j k (well-finished (stages j) (well j a)) path own)
            ]);
      }

  -- ---- an end and a hit

  outcome-at : (effect : Effect) → slice_get outs t ≡ Some (Done effect) → outcome_in outs t ≡ Done effect
  outcome-at effect e = get_or-some outs t (Done effect) Skipped e

  log-told : (effect : Effect) → slice_get outs t ≡ Some (Done effect) → Some effect.log ≡ Some (log_in (outcome_in outs t))
  log-told effect e = ap (λ o. Some (log_in o)) (sym (outcome-at effect e))

  files-told : (effect : Effect) → slice_get outs t ≡ Some (Done effect) → (path : Path) → file_at effect.files path ≡ file_at (written (outcome_in outs t)) path
  files-told effect e path = ap (λ o. file_at (written o) path) (sym (outcome-at effect e))

  status-told : (effect : Effect) → slice_get outs t ≡ Some (Done effect) → (status : ℕ) → Finished effect.status ≡ Finished status → status_in (slice_get outs t) ≡ Some status
  status-told effect e status same = let eq : effect.status ≡ status = cc in ap status_in e ∙ ap Some eq

  -- at the log's path stands the log, and elsewhere what stood there
  log-here : (log : List ℕ) (below : FileMap) → logged (part_at l t) log below (log_path (part_at l t)) ≡ Some log
  log-here log below = rw (path_self (log_path (part_at l t))) refl

  log-other : (log : List ℕ) (below : FileMap) (path : Path) → path ≢ log_path (part_at l t) → logged (part_at l t) log below path ≡ below path
  log-other log below path ne = rw (path_other path (log_path (part_at l t)) ne) refl

  hit-one : (effect : Effect) → AreApart l → Holds mode book l opening stages world → has_script (part_at l t) ≡ true → is_finished (stages t) ≡ false → slice_get outs t ≡ Some (Done effect)
      → Holds mode book l opening (put_at stages t (Finished effect.status)) (logged (part_at l t) effect.log (restored (part_at l t).outs effect.files world))
  hit-one effect apart holds script fresh e =
      let below = restored (part_at l t).outs effect.files world in
      change (logged (part_at l t) effect.log below) (Finished effect.status) apart script fresh holds (record {
        touched = refl;
        same = λ path free ne. log-other effect.log below path (ne refl) ∙ rw free refl;
        done = λ _ path own. log-other effect.log below path (no-owned-log apart script t script path own) ∙ rw own (files-told effect e path);
        log = λ _. log-here effect.log below ∙ log-told effect e;
        clear = λ h. absurd (true≢false (ap is_finished h));
        told = status-told effect e;
      })

  end-one : (effect : Effect) → AreApart l → IsWellBehaved book → IsLower l → t < length l.parts → Holds mode book l opening stages world → stages t ≡ Running → slice_get outs t ≡ Some (Done effect)
      → Holds mode book l opening (put_at stages t (Finished effect.status)) (logged (part_at l t) effect.log (over world (file_at effect.files)))
  end-one effect apart tame low lt holds now e =
      let below = over world (file_at effect.files) in
      let script = holds.scripts t now in
      change (logged (part_at l t) effect.log below) (Finished effect.status) apart script (ap is_finished now) holds (record {
        touched = refl;
        same = λ path free ne. log-other effect.log below path (ne refl) ∙ ap (λ x. first_of_two x (world path)) (silent path free);
        done = λ _ path own.
            log-other effect.log below path (no-owned-log apart script t script path own)
            ∙ ap (first_of_two (file_at effect.files path)) (holds.clear t now path own) ∙ or-none (file_at effect.files path) ∙ files-told effect e path;
        log = λ _. log-here effect.log below ∙ log-told effect e;
        clear = λ h. absurd (true≢false (ap is_finished h));
        told = status-told effect e;
      })
    where
      or-none : (x : Option (List ℕ)) → first_of_two x None ≡ x
      or-none None = refl
      or-none (Some b) = refl

      silent : (path : Path) → takes (part_at l t).outs path ≡ false → file_at effect.files path ≡ None
      silent path free = files-told effect e path ∙ clean-tame mode book l tame low t lt path (and_right (has_script (part_at l t)) (takes (part_at l t).outs path) free)

pub steps_law_lem : StepsLaw
steps_law_lem = record {
  first = λ mode book l opening inputs. record {
    inputs = inputs;
    owned = λ j _ h. absurd (false≢true h);
    logs = λ j _ h. absurd (false≢true h);
    clear = λ j h. absurd (false≢true (ap is_touched h));
    scripts = λ j h. absurd (false≢true (ap is_touched h));
    others = λ path _. refl;
    told = λ j status h. absurd (false≢true (ap is_touched h));
  };
  pass = λ mode book l opening world stages t low lt holds plain well. pass-one mode book l opening world stages t low lt holds plain well;
  hit = λ mode book l opening world stages t effect apart holds script fresh e. hit-one mode book l opening world stages t effect apart holds script fresh e;
  start = λ mode book l opening world stages t apart tame low lt holds script fresh well. start-one mode book l opening world stages t apart tame low lt holds script fresh well;
  end = λ mode book l opening world stages t effect apart tame low lt holds now e. end-one mode book l opening world stages t effect apart tame low lt holds now e;
}

-- ---- at the end

passed-plain : (mode : Mode) (book : Book) (l : Listing) (i : ℕ) (outs : List Outcome) → outcome mode book l i outs ≡ Passed → has_script (part_at l i) ≡ false
unfolding outcome
passed-plain mode book l i outs e = by (skips mode && list_any (λ d. is_bad (slice_get outs d)) (part_at l i).deps) (is_nil (part_at l i).scripts) e
  where
    by : (b n : Bool) → cond b Skipped (cond n Passed (Done (book (seen l i outs)))) ≡ Passed → not n ≡ false
    by true n h = absurd (cc)
    by false true h = refl
    by false false h = absurd (cc)

pub get-below : {X : Type 0} (xs : List X) (i : ℕ) (x : X) → slice_get xs i ≡ Some x → i < length xs
get-below [] i x e = absurd (cc)
get-below (y ∷ xs) zero x e = omega arith
get-below (y ∷ xs) (suc i) x e = let k = get-below xs i x e in omega arith

pub shows_law_lem : ShowsLaw
shows_law_lem mode book l opening world stages t low holds script fin = by-stage (stages t) refl fin
  where
    by-outcome : is_finished (stages t) ≡ true → (status : ℕ) (o : Option Outcome) → slice_get (clean mode book l) t ≡ o → status_in o ≡ Some status → Shows mode book l t world
    by-outcome fin status None e told = absurd (cc)
    by-outcome fin status (Some Skipped) e told = absurd (cc)
    by-outcome fin status (Some Passed) e told =
        let same = sym (each_law_lem mode book l t low (subst (λ n. t < n) (length-clean_upto mode book l (length l.parts)) (get-below (clean mode book l) t Passed e))) ∙ e in
        let is : outcome mode book l t (clean mode book l) ≡ Passed = cc in
        absurd (true≢false (sym script ∙ passed-plain mode book l t (clean mode book l) is))
    by-outcome fin status (Some (Done effect)) e told =
        let here = get_or-some (clean mode book l) t (Done effect) Skipped e in
        record {
          effect = effect;
          ended = e;
          files = λ path own. holds.owned t script fin path own ∙ ap (λ o. file_at (written o) path) here;
          log = holds.logs t script fin ∙ ap (λ o. Some (log_in o)) here;
        }

    by-stage : (s : Stage) → stages t ≡ s → is_finished (stages t) ≡ true → Shows mode book l t world
    by-stage Untouched e fin = absurd (false≢true (sym (ap is_finished e) ∙ fin))
    by-stage Running e fin = absurd (false≢true (sym (ap is_finished e) ∙ fin))
    by-stage (Finished status) e fin = by-outcome fin status (slice_get (clean mode book l) t) refl (holds.told t status e)

pub leaves_law_lem : LeavesLaw
leaves_law_lem mode book l opening world stages low holds idle = record {
  effects = λ t script fin. shows_law_lem mode book l opening world stages t low holds script fin;
  others = λ path other. holds.others path (record {
    unowned = λ j script touched. (other j script (over-touched (stages j) (idle j) touched)).0;
    no_log = λ j script fin. (other j script fin).1;
  });
}
  where
    over-touched : (s : Stage) → s ≢ Running → is_touched s ≡ true → is_finished s ≡ true
    over-touched Untouched ne h = h
    over-touched Running ne h = absurd (ne refl)
    over-touched (Finished status) ne h = refl
