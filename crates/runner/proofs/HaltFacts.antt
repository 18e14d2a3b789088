-- How a run stops that came this far.
use Rattle.std.proofs.Common.{◌≡◌, ◌≢◌, ◌⊎◌, ℕ, ◌≤◌, Bool, true, false, List, [], ◌∷◌, ◌++◌, length, refl, sym, ap, ◌∙◌, subst, arith, inl, inr, None}
use Rattle.std.specs.Prelude.{is_some, Result, Ok, Err, IfOk, OnErr}
use Rattle.std.proofs.lemmas.Bool.{cases_eq, eq-eqb, ne_eqb, true≢false}
use Rattle.rel_path.specs.Files.{FileMap}
use Rattle.tree_dev.specs.Tree.{TreeState}
use Rattle.cache_api.specs.Cache.{CacheState}
use Rattle.cache_api.specs.Pairs.{Pair, AreFirst}
use Rattle.spawn_dev.specs.declared.command.Ended.{Ended}
use Rattle.spawn_dev.specs.declared.command.Step.TheVariants as told
use Rattle.spawn_dev.specs.declared.effect.Effect.{Effect}
use Rattle.spawn_dev.specs.Effects.{Seen}
use Rattle.spawn_dev.specs.Spawn.{Runs, live, put_at, KeepsWill, IsOver, EndsAs}
use Rattle.run_core.specs.declared.states.Step.TheVariants.{End}
use Rattle.run_core.specs.Core.{states}
use Rattle.run_core.specs.Greedy.{is_end}
use Rattle.run_core.specs.Machine.{is_done, IsCalm}
use Rattle.run_core.proofs.Any.{any-push_none}
use Rattle.run_plan.specs.declared.plan.Plan.{Plan}
use Rattle.run_plan.specs.Answers.{OnlyUndone}
use Rattle.run_plan.specs.Halts.{HaltLaw, HaltsWith, MayBePut}
use Rattle.run_plan.specs.Openings.{Opening, rules_of}
use Rattle.run_plan.specs.Stories.{Now}
use Rattle.run_plan.specs.StoryLaws.{Stands, EndsNow}
use Rattle.task_devices.proofs.KeepFacts.{same_first}
use Rattle.run_board.specs.declared.board.Board.{Board}
use Rattle.runner.specs.Halting.{HaltsAt, HaltsFrom, HaltsNow}
use Rattle.run_board.specs.Progress.{StaysOn, now_at, now_of}
use Rattle.runner.specs.Running.{AreOurs, InStep}
use Rattle.runner.proofs.FileFacts.{undone-over}
use Rattle.runner.proofs.WorldFacts.{running-is, there-is}

-- ---- what runs after an end

pub gone : {B : Type 0} (old new : Runs B) (place : ℕ) → new.at ≡ put_at old.at place None → (t : ℕ)
    → live new t ≡ true → (t ≢ place) × (live old t ≡ true)
gone old new place at t lives = elim (cases_eq t place) [
  | inl e ↦ absurd (true≢false (sym (rw (eq-eqb t place e) at (ap (λ f. is_some (f t)) (sym at) ∙ lives))))
  | inr d ↦ (d, rw (ne_eqb t place d) at (ap (λ f. is_some (f t)) (sym at) ∙ lives))
]

pub lived : {B : Type 0} (old new : Runs B) (place : ℕ) → new.at ≡ put_at old.at place None
    → (t : ℕ) → live new t ≡ true → live old t ≡ true
lived old new place at t lives = (gone old new place at t lives).1

other-end : (t place status : ℕ) → t ≢ place
    → is_end (λ s. true) t (End place status) ≡ false
other-end t place status d = rw (ne_eqb place t (λ e. d (sym e))) refl

-- ---- a turn that fails

module _ {B R : Type 0} (plan : Plan) (law : HaltLaw) (board : Board)
    (effect : B → Seen → Effect) (old : Runs B) (tree : TreeState R) (pairs : List Pair)
    (lasting room : ℕ) (step : InStep plan (states board.core) old) where
  abbrev Stood : Now
  Stood = now_at board effect old tree pairs lasting room

  -- before an end was told, with so many of the pairs
  halts-least : (new : Runs B) (files : FileMap) (after : List Pair) (least later less : ℕ)
      (Kept : Type 0)
      → ((t : ℕ) → live new t ≡ true → live old t ≡ true) → new.steps ≡ old.steps
      → KeepsWill old new → OnlyUndone plan (states board.core) tree.files files
      → lasting ≤ least → least ≤ length pairs → AreFirst least pairs after → lasting ≤ later
      → (Kept → length pairs ≤ least) → less ≤ room
      → HaltsFrom plan Stood new files after later less Kept
  halts-least new files after least later less Kept fewer steps keeps undone from within first more
      all le o stands = record {
        least = least;
        halts = record {
          late = [];
          halts = subst (λ list. HaltsWith plan o Stood least files after less list []) (sym steps)
              (law.before_end plan o Stood least files after less stands undone from within first le);
          runs = λ t lives. let was = fewer t lives in record {
            running = running-is (states board.core t) (sym (step.live_is t) ∙ was);
            unended = refl;
            will = keeps t was lives;
          };
        };
        all = all;
        lasts = more;
      }

  -- before an end was told
  pub halts-early : (new : Runs B) (files : FileMap) (after : List Pair) (later less : ℕ)
      (Kept : Type 0)
      → ((t : ℕ) → live new t ≡ true → live old t ≡ true) → new.steps ≡ old.steps
      → KeepsWill old new → OnlyUndone plan (states board.core) tree.files files → after ≡ pairs
      → lasting ≤ later → less ≤ room → HaltsFrom plan Stood new files after later less Kept
  halts-early new files after later less Kept fewer steps keeps undone same more le o stands =
      halts-least new files after (length pairs) later less Kept fewer steps keeps undone
      stands.story.within (omega arith) (same_first (length pairs) pairs after same) more
      (λ kept. omega arith) le o stands

  -- where nothing runs that did not run before
  pub halts-here : (new : Runs B) (files : FileMap) (after : List Pair) (later less : ℕ)
      (Kept : Type 0) → new ≡ old → OnlyUndone plan (states board.core) tree.files files
      → after ≡ pairs → lasting ≤ later → less ≤ room
      → HaltsFrom plan Stood new files after later less Kept
  halts-here new files after later less Kept same undone pairs_same more le =
      halts-early new files after later less Kept (λ t lives. ap (λ w. live w t) (sym same) ∙ lives)
      (ap (λ w. w.steps) same) (λ t was lives. ap (λ w. w.will t) same) undone pairs_same more le

  -- where what was due was to be put
  pub halts-due : (after : List Pair) (later less : ℕ) (Kept Failed : Type 0)
      → AreFirst lasting pairs after → Failed ⊎ (after ≡ pairs) → (Kept → Failed → ⊥)
      → lasting ≤ later → less ≤ room
      → HaltsFrom plan Stood old tree.files after later less Kept
  halts-due after later less Kept Failed first (inl failed) calm more le o stands =
      halts-least old tree.files after lasting later less Kept (λ t lives. lives) refl
      (λ t was lives. refl) (λ path free. refl) (omega arith) stands.story.within first more
      (λ kept. absurd (calm kept failed)) le o stands
  halts-due after later less Kept Failed first (inr same) calm more le o stands =
      halts-here old tree.files after later less Kept refl (λ path free. refl) same more le o stands

  -- behind the end of a command
  pub halts-ended : (new : Runs B) (files : FileMap) (added after : List Pair)
      (least later less : ℕ) (Kept : Type 0) (end : Ended) (sound : Bool)
      → IsCalm (rules_of plan) (states board.core) → EndsNow plan Stood end sound
      → new.at ≡ put_at old.at end.place None → new.steps ≡ old.steps ++ told.End end ∷ []
      → KeepsWill old new → OnlyUndone plan (states board.core) tree.files files
      → MayBePut plan Stood end sound added → lasting ≤ least → least ≤ length pairs
      → AreFirst least added after → lasting ≤ later → (Kept → length pairs ≤ least) → less ≤ room
      → HaltsFrom plan Stood new files after later less Kept
  halts-ended new files added after least later less Kept end sound calm ends at steps keeps undone
      put from within first more all le o stands = record {
        least = least;
        halts = record {
          late = End end.place end.status ∷ [];
          halts = subst (λ list. HaltsWith plan o Stood least files after less list
              (End end.place end.status ∷ [])) (sym steps)
              (law.at_end plan o Stood end sound least files added after less stands calm ends undone
              put from within first le);
          runs = λ t lives. let was = gone old new end.place at t lives in record {
            running = running-is (states board.core t) (sym (step.live_is t) ∙ was.1);
            unended = rw (other-end t end.place end.status was.0) refl;
            will = keeps t was.1 lives;
          };
        };
        all = all;
        lasts = more;
      }

-- ---- by other names

-- where it is known by less that none was lost
pub halts-when : {B : Type 0} (plan : Plan) (o : Opening) (now : Now) (world : Runs B)
    (files : FileMap) (pairs : List Pair) (lasting room : ℕ) (Known Kept : Type 0)
    → (Kept → Known) → HaltsNow plan o now world files pairs lasting room Known
    → HaltsNow plan o now world files pairs lasting room Kept
halts-when plan o now world files pairs lasting room Known Kept known is = record {
  least = is.least;
  halts = is.halts;
  all = λ kept. is.all (known kept);
  lasts = is.lasts;
}

-- where fewer of the pairs lasted, and there was more room
pub halts-back : {B : Type 0} (plan : Plan) (o : Opening) (now : Now) (world : Runs B)
    (files : FileMap) (pairs : List Pair) (fewer more lasting room : ℕ) (Kept : Type 0)
    → fewer ≤ now.lasting → now.room ≤ more
    → HaltsNow plan o now world files pairs lasting room Kept
    → HaltsNow plan o (record now { lasting = fewer; room = more }) world files pairs lasting room
    Kept
halts-back plan o now world files pairs fewer more lasting room Kept le less is =
    let at = is.halts in
    let halts = at.halts.halts in
    record {
      least = is.least;
      halts = record {
        late = at.late;
        halts = record {
          halts = record {
            late = halts.late;
            late_are = halts.late_are;
            steps_are = halts.steps_are;
            ends = halts.ends;
            undone = halts.undone;
            less = omega (arith, halts.less, less);
            least_is = omega (arith, halts.least_is, le);
            within = halts.within;
            pairs_are = halts.pairs_are;
          };
          late_is = at.halts.late_is;
        };
        runs = λ t lives. let on = at.runs t lives in record {
          running = on.running;
          unended = on.unended;
          will = on.will;
        };
      };
      all = is.all;
      lasts = omega (arith, is.lasts, le);
    }

-- what halts behind what was due halts before it
pub halts-behind-due : {B R D : Type 0} (plan : Plan) (board : Board) (effect : B → Seen → Effect)
    (world : Runs B) (tree : TreeState R) (old mid : CacheState D)
    → StaysOn plan (now_of board effect world tree old) (now_of board effect world tree mid)
    → mid.pairs ≡ old.pairs → old.lasting ≤ mid.lasting → mid.room ≤ old.room
    → (new : Runs B) (files : FileMap) (pairs : List Pair) (lasting room : ℕ) (Known Kept : Type 0)
    → (Kept → Known)
    → HaltsFrom plan (now_of board effect world tree mid) new files pairs lasting room Known
    → HaltsFrom plan (now_of board effect world tree old) new files pairs lasting room Kept
halts-behind-due plan board effect world tree old mid stays same more less new files pairs lasting
    room Known Kept known halts o stands =
    let last = now_of board effect world tree mid in
    let back = halts-back plan o last new files pairs old.lasting old.room lasting room Known more
    less (halts o (stays o stands)) in
    halts-when plan o (now_of board effect world tree old) new files pairs lasting room Known Kept
    known (subst (λ ps. HaltsNow plan o (now_at board effect world tree ps old.lasting old.room) new
    files pairs lasting room Known) same back)

-- ---- waiting for what still runs

module _ {B : Type 0} (plan : Plan) (law : HaltLaw) (o : Opening) (now : Now)
    (stands : Stands plan o now) (least : ℕ) (old new : Runs B) (files later : FileMap)
    (pairs : List Pair) (room : ℕ) (ours : AreOurs plan old) (keeps : KeepsWill old new)
    (is : HaltsAt plan o now least old files pairs room) where
  undone : (place : ℕ) → IsOver place old new files later
      → OnlyUndone plan now.states files later
  undone place over =
      let runs_it = is.runs place (there-is (old.at place) over.command over.ran) in
      undone-over plan now.states old new place files later ours (ap is_done runs_it.running) over

  halts-behind : (end : Ended) → IsOver end.place old new files later
      → EndsAs end old new files later → HaltsAt plan o now least new later pairs room
  halts-behind end over ends =
      let it = is.runs end.place (there-is (old.at end.place) over.command over.ran) in
      record {
        late = is.late ++ End end.place end.status ∷ [];
        halts = subst (λ list. HaltsWith plan o now least later pairs room list
            (is.late ++ End end.place end.status ∷ [])) (sym ends.steps)
            (law.behind plan o now least files later pairs room old.steps is.late end stands is.halts
            it.running it.unended (ends.status ∙ ap (λ (e : Effect). e.status) it.will)
            (ends.log ∙ ap (λ (e : Effect). e.log) it.will) (undone end.place over));
        runs = λ t lives.
            let was = gone old new end.place over.at t lives in
            let runs_on = is.runs t was.1 in
            record {
              running = runs_on.running;
              unended = any-push_none (is_end (λ s. true) t) is.late (End end.place end.status)
                  (other-end t end.place end.status was.0) ∙ runs_on.unended;
              will = keeps t was.1 lives ∙ runs_on.will;
            };
      }

  halts-unsaid : (place : ℕ) → IsOver place old new files later → new.steps ≡ old.steps
      → HaltsAt plan o now least new later pairs room
  halts-unsaid place over steps = record {
    late = is.late;
    halts = subst (λ list. HaltsWith plan o now least later pairs room list is.late) (sym steps)
        (law.unsaid plan o now least files later pairs room old.steps is.late is.halts
        (undone place over));
    runs = λ t lives.
        let was = gone old new place over.at t lives in
        let runs_on = is.runs t was.1 in
        record {
          running = runs_on.running;
          unended = runs_on.unended;
          will = keeps t was.1 lives ∙ runs_on.will;
        };
  }

  pub halts-waited : {E : Type 0} (result : Result Ended E)
      → IfOk result (λ end. IsOver end.place old new files later)
      → IfOk result (λ end. EndsAs end old new files later)
      → OnErr result ((place : ℕ) × IsOver place old new files later)
      → OnErr result (new.steps ≡ old.steps) → HaltsAt plan o now least new later pairs room
  halts-waited (Ok end) over ends failed unsaid = halts-behind end over ends
  halts-waited (Err e) over ends failed unsaid = halts-unsaid failed.0 failed.1 unsaid
