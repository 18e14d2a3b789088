-- The page as it comes.
use Rattle.std.proofs.Common.{◌≡◌, ◌≢◌, ℕ, ◌+◌, ◌<◌, ◌≤◌, Bool, List, [], ◌++◌, cond, length, take, refl, sym, ap, ◌∙◌, subst, arith, inl, inr, Option, Some, None, append_assoc, append-nil, add-one}
use Rattle.std.specs.Prelude.{Err}
use Rattle.std.proofs.lemmas.Bool.{ne_eqb, lt-ltb, le-ltb}
use Rattle.std.proofs.lemmas.List.{append_cancel_left}
use Rattle.page.specs.declared.blocks.Note.{Note}
use Rattle.spawn_dev.specs.Spawn.{put_at}
use Rattle.run_core.specs.declared.states.State.TheVariants.{Waiting}
use Rattle.run_core.specs.Core.{states}
use Rattle.run_core.specs.Machine.{States, is_done}
use Rattle.run_plan.specs.declared.plan.Plan.{Plan}
use Rattle.run_plan.specs.declared.report.Report.{Report}
use Rattle.run_plan.specs.Answers.{Cause, is_output, IfDevice, IsInTurn, IsPrompt, IsTornPage}
use Rattle.run_plan.specs.Answers.Cause.{Device, Output, Memory}
use Rattle.run_plan.specs.Openings.{Opening, setting_of}
use Rattle.run_plan.specs.Pages.{shows, block_at, blocks, text_behind, IsCut}
use Rattle.run_plan.specs.Reports.{report_in, summary_by}
use Rattle.run_plan.specs.Stories.{Now, notes_in}
use Rattle.run_plan.specs.StoryLaws.{Stands, StoryLaw, blocks_upto}
use Rattle.task_devices.specs.declared.error.RunErr.{RunErr}
use Rattle.task_devices.specs.declared.error.RunErr.TheVariants.{TreeFault, StoreFault, StartFault, SinkFault, OutOfMemory}
use Rattle.task_devices.specs.Stops.{faults_of, StopsBy, is_sink_fault}
use Rattle.run_board.specs.declared.board.Board.{Board}
use Rattle.run_board.specs.Causes.{cause_of}
use Rattle.run_board.specs.Progress.{PageIs, PageGoesOn, StaysOn, TearsAt, with_board, next_text, text_of}
use Rattle.run_board.specs.Tables.{log_in}
use Rattle.run_board.proofs.StoryFacts.{become}

-- ---- causes

output-is : (e : RunErr) → is_output (cause_of e) ≡ is_sink_fault e
output-is TreeFault = refl
output-is StoreFault = refl
output-is StartFault = refl
output-is SinkFault = refl
output-is OutOfMemory = refl

pub if-device : (cause : Cause) (P : Type 0) → P → IfDevice cause P
if-device Device P p = p
if-device Output P p = tt
if-device Memory P p = tt

-- where only the output can fail, no other device did
pub no-device : (a b : ℕ) (e : RunErr)
    → StopsBy {T = Unit {0}} (faults_of 0 0 0 a) (faults_of 0 0 0 b) (Err e) → (P : Type 0)
    → IfDevice (cause_of e) P
no-device a b TreeFault h P = let rose = h.0 in absurd (omega (arith, rose))
no-device a b StoreFault h P = let rose = h.0 in absurd (omega (arith, rose))
no-device a b StartFault h P = let rose = h.0 in absurd (omega (arith, rose))
no-device a b SinkFault h P = tt
no-device a b OutOfMemory h P = tt

-- ---- first parts

-- nothing was put
pub not-cut : (failed : Bool) (text before after : List ℕ) → after ≡ before
    → IsCut failed text before after
not-cut failed text before after same =
    record { count = 0; none = λ _. refl; put = same ∙ sym (append-nil before) }

-- what was cut, by other names
pub cut-as : (failed other_failed : Bool) (text other before first after : List ℕ)
    → other_failed ≡ failed → text ≡ other → before ≡ first → IsCut failed text before after
    → IsCut other_failed other first after
cut-as failed other_failed text other before first after fails same begins cut = record {
  count = cut.count;
  none = λ h. cut.none (sym fails ∙ h);
  put = cut.put ∙ (λ i. begins i ++ take cut.count (same i));
}

-- ---- torn pages

-- nothing was put at all
pub torn-none : (plan : Plan) (o : Opening) (notes : ℕ → Note) (cause : Cause) (written : List ℕ)
    → IsTornPage plan o (λ t. Waiting) notes cause written written
torn-none plan o notes cause written =
    let text = text_behind plan (setting_of plan o) notes (λ t. is_done Waiting) 0 in
    record {
      shown = 0;
      within = omega arith;
      in_turn = inl (λ u h. absurd (omega (arith, h)));
      prompt = if-device cause (IsPrompt plan (λ t. Waiting) 0) (inl refl);
      cut = cut-as (is_output cause) (is_output cause) text text written (written ++ []) written refl
          refl (sym (append-nil written)) (not-cut (is_output cause) text written written refl);
    }

pub torn-as : (plan : Plan) (o : Opening) (first later : States) (notes more : ℕ → Note)
    (cause : Cause) (before after : List ℕ) → first ≡ later → notes ≡ more
    → IsTornPage plan o first notes cause before after
    → IsTornPage plan o later more cause before after
torn-as plan o first later notes more cause before after st ns torn =
    subst (λ x. IsTornPage plan o later x cause before after) ns
    (subst (λ x. IsTornPage plan o x notes cause before after) st torn)

module _ (plan : Plan) (law : StoryLaw) (board : Board) (o : Opening) (now : Now) (stands : Stands plan o (with_board now board)) where
  abbrev notes : ℕ → Note
  notes = notes_in (report_in board.reports)

  abbrev done : ℕ → Bool
  done = λ t. is_done (states board.core t)

  one-more : (r : Option Report) → report_in board.reports board.shown ≡ r
      → blocks_upto plan o (with_board now board) (board.shown + 1)
      ≡ blocks_upto plan o (with_board now board) board.shown
      ++ text_of plan board.shown (log_in board.logs board.shown) r
  one-more None e = law.hide plan o (with_board now board) stands e
      ∙ sym (append-nil (blocks_upto plan o (with_board now board) board.shown))
  one-more (Some report) e = law.show plan o (with_board now board) report stands e

  pub next-is : blocks_upto plan o (with_board now board) (board.shown + 1)
      ≡ blocks_upto plan o (with_board now board) board.shown ++ next_text plan board
  next-is = one-more (report_in board.reports board.shown) refl

  behind-next : board.shown < length plan.listing.parts
      → next_text plan board ≡ text_behind plan (setting_of plan o) notes done board.shown
  behind-next h =
      let before = blocks_upto plan o (with_board now board) board.shown in
      let block : List ℕ =
      cond (shows plan done board.shown) (block_at plan (setting_of plan o) notes board.shown) [] in
      let next : blocks_upto plan o (with_board now board) (board.shown + 1) ≡ before ++ block =
      rw add-one refl in
      let same : next_text plan board ≡ block =
      append_cancel_left before (next_text plan board) block (sym next-is ∙ next) in
      rw (lt-ltb board.shown (length plan.listing.parts) h) same

  behind-last : board.shown ≡ length plan.listing.parts
      → summary_by plan (report_in board.reports)
      ≡ text_behind plan (setting_of plan o) notes done board.shown
  behind-last e = rw (le-ltb board.shown (length plan.listing.parts) (omega (arith, e)))
      (law.summary plan o (with_board now board) stands)

  -- a text was cut that stands behind the page
  torn : (text : List ℕ) → text ≡ text_behind plan (setting_of plan o) notes done board.shown
      → IsInTurn plan (states board.core) board.shown
      → board.shown ≤ length plan.listing.parts → (cause : Cause) (failed : Bool)
      → is_output cause ≡ failed → IfDevice cause (IsPrompt plan (states board.core) board.shown)
      → (before written after : List ℕ) → PageIs plan o (with_board now board) before written
      → IsCut failed text written after
      → IsTornPage plan o (states board.core) notes cause before after
  torn text is in_turn within cause failed fails prompt before written after page cut = record {
    shown = board.shown;
    within = within;
    in_turn = in_turn;
    prompt = prompt;
    cut = cut-as failed (is_output cause) text _ written _ after fails is page cut;
  }

module _ (plan : Plan) (law : StoryLaw) (board : Board) (now : Now) where
  -- the output failed within the block of the next task
  pub tears-next : board.shown < length plan.listing.parts → (e : RunErr)
      → IfDevice (cause_of e) (IsPrompt plan (states board.core) board.shown)
      → (written after : List ℕ) → IsCut (is_sink_fault e) (next_text plan board) written after
      → TearsAt plan (with_board now board) (cause_of e) written after
  tears-next h e prompt written after cut o before stands page in_turn =
      torn plan law board o now stands (next_text plan board)
      (behind-next plan law board o now stands h) in_turn (omega (arith, h)) (cause_of e)
      (is_sink_fault e) (output-is e) prompt before written after page cut

  -- the output failed within the summary
  pub tears-last : board.shown ≡ length plan.listing.parts → (e : RunErr)
      → (written after : List ℕ)
      → IsCut (is_sink_fault e) (summary_by plan (report_in board.reports)) written after
      → TearsAt plan (with_board now board) (cause_of e) written after
  tears-last n e written after cut o before stands page in_turn =
      torn plan law board o now stands (summary_by plan (report_in board.reports))
      (behind-last plan law board o now stands n) in_turn (omega (arith, n)) (cause_of e)
      (is_sink_fault e) (output-is e)
      (if-device (cause_of e) (IsPrompt plan (states board.core) board.shown) (inr n))
      before written after page cut

  -- nothing more was put
  pub tears-here : board.shown ≤ length plan.listing.parts → (cause : Cause)
      → IfDevice cause (IsPrompt plan (states board.core) board.shown)
      → (written after : List ℕ) → after ≡ written
      → TearsAt plan (with_board now board) cause written after
  tears-here le cause prompt written after same o before stands page in_turn =
      let text = text_behind plan (setting_of plan o) (notes plan law board o now stands)
      (done plan law board o now stands) board.shown in
      torn plan law board o now stands text refl in_turn le cause (is_output cause) refl prompt
      before written after page (not-cut (is_output cause) text written after same)

-- where it stops behind blocks that were put since
pub tears-back : (plan : Plan) (now : Now) (first later : Board) → later.core ≡ first.core
    → later.reports ≡ first.reports → (cause : Cause) (written more after : List ℕ)
    → StaysOn plan (with_board now first) (with_board now later)
    → PageGoesOn plan (with_board now first) (with_board now later) written more
    → IsInTurn plan (states later.core) later.shown
    → TearsAt plan (with_board now later) cause more after
    → TearsAt plan (with_board now first) cause written after
tears-back plan now first later core reports cause written more after on goes in_turn tears
    o before stands page turned =
    torn-as plan o (states later.core) (states first.core) (notes_in (report_in later.reports))
    (notes_in (report_in first.reports)) cause before after (ap states core)
    (ap (λ r. notes_in (report_in r)) reports)
    (tears o before (on o stands) (goes o before stands page) in_turn)

module _ (plan : Plan) (law : StoryLaw) (old new : Board) (core : new.core ≡ old.core)
    (reports : new.reports ≡ old.reports)
    (logs : log_in new.logs ≡ put_at (log_in old.logs) old.shown [])
    (shown : new.shown ≡ old.shown + 1) (now : Now) where
  pub stands-on : StaysOn plan (with_board now old) (with_board now new)
  stands-on o stands =
      let other : (u : ℕ) → u ≢ old.shown → log_in new.logs u ≡ log_in old.logs u =
      λ u d. ap (λ f. f u) logs ∙ (rw (ne_eqb u old.shown d) refl) in
      become plan o (with_board now old)
      (record (with_board now old) { logs = log_in new.logs; shown = old.shown + 1 })
      (with_board now new) stands (ap states (sym core)) refl refl refl refl refl refl refl
      (ap report_in (sym reports)) refl (sym shown)
      (law.shown plan o (with_board now old) (log_in new.logs) stands other)

  pub page-on : (written more : List ℕ) → more ≡ written ++ next_text plan old
      → PageGoesOn plan (with_board now old) (with_board now new) written more
  page-on written more put o before stands page =
      let same : blocks_upto plan o (with_board now old) (old.shown + 1)
      ≡ blocks_upto plan o (with_board now new) new.shown =
      λ i. blocks plan (setting_of plan o) (notes_in (report_in (sym reports i)))
      (λ t. is_done (states (sym core i) t)) (sym shown i) in
      put ∙ ap (λ x. x ++ next_text plan old) page
      ∙ append_assoc before (blocks_upto plan o (with_board now old) old.shown)
      (next_text plan old)
      ∙ ap (λ x. before ++ x) (sym (next-is plan law old o now stands) ∙ same)
