-- Turns and rounds, one after another, and how a run begins.
use Rattle.std.proofs.Common.{◌≡◌, ℕ, ◌<◌, Bool, true, false, List, [], ◌∷◌, ◌++◌, length, refl, sym, ap, ◌∙◌, subst, arith, inl, append_assoc, append-nil, None}
use Rattle.std.proofs.lemmas.Bool.{true≢false, false≢true}
use Rattle.std.proofs.lemmas.List.{append_cancel_left}
use Rattle.tree_dev.specs.Tree.{TreeState}
use Rattle.cache_api.specs.Cache.{CacheState, AllLast}
use Rattle.spawn_dev.specs.declared.effect.Effect.{Effect}
use Rattle.spawn_dev.specs.Effects.{Seen}
use Rattle.spawn_dev.specs.Spawn.{Runs, IsIdle}
use Rattle.run_core.specs.declared.states.State.TheVariants.{Waiting}
use Rattle.run_core.specs.declared.states.Next.TheVariants.{Finished}
use Rattle.run_core.specs.Core.{states}
use Rattle.run_core.specs.Machine.{next}
use Rattle.run_laws.specs.Runs.{IsReady}
use Rattle.run_plan.specs.declared.plan.Plan.{Plan}
use Rattle.run_plan.specs.Halts.{HaltLaw}
use Rattle.run_plan.specs.Openings.{Opening, setting_of, rules_of}
use Rattle.run_plan.specs.Plans.{IsValidPlan}
use Rattle.run_plan.specs.Reports.{report_in}
use Rattle.run_plan.specs.Stories.{Now, is_settled}
use Rattle.run_plan.specs.StoryLaws.{Stands, StoryLaw, blocks_upto}
use Rattle.task_devices.proofs.KeepFacts.{same_first}
use Rattle.run_board.specs.declared.board.Board.{Board}
use Rattle.runner.specs.Answers.{Grows, opening_of}
use Rattle.run_board.specs.Boards.{IsBoard, IsRound, IsTurn, IsUpToDate, KeepsSettled, ShowsSettled}
use Rattle.runner.specs.Halting.{HaltsNow}
use Rattle.run_board.specs.Progress.{PageIs, now_of, with_board}
use Rattle.runner.specs.Running.{AreOurs}
use Rattle.run_board.specs.Tables.{log_in}
use Rattle.runner.proofs.FileFacts.{undone-same}
use Rattle.run_board.proofs.StoryFacts.{become}
use Rattle.runner.proofs.WorldFacts.{there-is}

-- ---- steps

nothing : {X : Type 0} (xs ys : List X) → xs ++ ys ≡ [] → (xs ≡ []) × (ys ≡ [])
nothing [] ys e = (refl, e)
nothing (x ∷ xs) ys e = absurd (cc)

-- what grew twice and is as before was as before between
pub grows-still : {X : Type 0} (xs ys zs : List X) → Grows xs ys → Grows ys zs → zs ≡ xs
    → (ys ≡ xs) × (zs ≡ ys)
grows-still xs ys zs first last same =
    let whole : zs ≡ xs ++ (first.0 ++ last.0) =
    last.1 ∙ ap (λ list. list ++ last.0) first.1 ∙ append_assoc xs first.0 last.0 in
    let none = nothing first.0 last.0
    (append_cancel_left xs (first.0 ++ last.0) [] (sym whole ∙ same ∙ sym (append-nil xs))) in
    let mid : ys ≡ xs = first.1 ∙ ap (λ list. xs ++ list) none.0 ∙ append-nil xs in
    (mid, same ∙ sym mid)

-- ---- turns

pub turn-keeps : (plan : Plan) (old new : Board) (more : Bool) → IsTurn plan old new more
    → KeepsSettled old new
turn-keeps plan old new true is = is.settled
turn-keeps plan old new false is = subst (KeepsSettled old) (sym is.0) (record {
  shown = refl;
  states_are = λ u h. refl;
  reports_are = λ u h. refl;
})

pub turn-board : (plan : Plan) (old new : Board) (more : Bool) → IsBoard plan old
    → IsTurn plan old new more → IsBoard plan new
turn-board plan old new true board is = is.is_board
turn-board plan old new false board is = subst (IsBoard plan) (sym is.0) board

pub turn-settled : (plan : Plan) (old new : Board) (more : Bool) → ShowsSettled old
    → IsTurn plan old new more → ShowsSettled new
turn-settled plan old new more settled is u below =
    let keeps = turn-keeps plan old new more is in
    let before : u < old.shown = omega (arith, below, keeps.shown) in
    ap is_settled (keeps.states_are u (settled u before)) ∙ settled u before

-- a turn, and then what can be shown
pub round-is : (plan : Plan) (old mid new : Board) (more : Bool) → IsTurn plan old mid more
    → new.core ≡ mid.core → IsUpToDate plan new → IsRound plan old new more
round-is plan old mid new true is core current = record {
  current = current;
  turns = λ h. rw core is.turns;
  kept = λ h. absurd (true≢false h);
  over = λ h. absurd (true≢false h);
}
round-is plan old mid new false is core current = record {
  current = current;
  turns = λ h. absurd (false≢true h);
  kept = λ h. ap states core ∙ ap (λ (b : Board). states b.core) is.0;
  over = λ h. subst (λ st. next (rules_of plan) st ≡ Finished)
      (sym (ap states core ∙ ap (λ (b : Board). states b.core) is.0)) is.1;
}

-- what is settled was printed as it is
pub page-kept : (plan : Plan) (law : StoryLaw) (o : Opening) (old new : Board) (x y : Now)
    → KeepsSettled old new → ShowsSettled old → (before written : List ℕ)
    → PageIs plan o (with_board x old) before written
    → PageIs plan o (with_board y new) before written
page-kept plan law o old new x y keeps settled before written page =
    let first = with_board x old in
    let mid = with_board y new in
    let kept = law.kept plan o first mid old.shown (λ u h. (
      keeps.states_are u (settled u h),
      keeps.reports_are u (settled u h),
    )) in
    let same : blocks_upto plan o first old.shown ≡ blocks_upto plan o mid new.shown =
    sym kept ∙ ap (blocks_upto plan o mid) (sym keeps.shown) in
    page ∙ ap (λ text. before ++ text) same

-- ---- beginnings

pub ours-idle : {B : Type 0} (plan : Plan) (world : Runs B) → IsIdle world → AreOurs plan world
ours-idle plan world idle = record {
  command = λ t command at. absurd (true≢false (sym (there-is (world.at t) command at) ∙ idle t));
  scripts = λ t command at. absurd (true≢false (sym (there-is (world.at t) command at) ∙ idle t));
}

pub current-first : (plan : Plan) (board : Board) → IsBoard plan board
    → states board.core ≡ (λ t. Waiting) → board.shown ≡ 0 → IsUpToDate plan board
current-first plan board is waits shown = record {
  is_board = is;
  settled = λ u h. absurd (omega (arith, h, shown));
  prompt = inl (ap (λ st. is_settled (st board.shown)) waits);
}

module _ {B R D : Type 0} (plan : Plan) (law : StoryLaw) (valid : IsValidPlan plan)
    (effect : B → Seen → Effect) (world : Runs B) (tree : TreeState R) (cache : CacheState D)
    (ready : IsReady (setting_of plan (opening_of effect world tree cache))) where
  abbrev o : Opening
  o = opening_of effect world tree cache

  -- all tasks wait, and nothing was shown
  abbrev pub zero : Now
  zero = record {
    states = λ t. Waiting;
    book = o.book;
    steps = o.steps;
    will = world.will;
    files = o.files;
    pairs = o.pairs;
    lasting = length o.pairs;
    room = cache.room;
    reports = λ t. None;
    logs = λ t. [];
    shown = 0;
  }

  pub stands-zero : Stands plan o zero
  stands-zero = record {
    valid = valid;
    ready = ready;
    story = law.first plan o world.will cache.room (λ t. []);
  }

  pub halts-zero : HaltLaw → IsIdle world → AllLast cache → (Kept : Type 0)
      → HaltsNow plan o zero world tree.files cache.pairs cache.lasting cache.room Kept
  halts-zero halts idle last Kept = record {
    least = length cache.pairs;
    halts = record {
      late = [];
      halts = halts.before_end plan o zero (length cache.pairs) tree.files cache.pairs cache.room
          stands-zero (undone-same plan zero.states tree.files tree.files refl) (omega arith)
          (omega arith) (same_first (length cache.pairs) cache.pairs cache.pairs refl)
          (omega arith);
      runs = λ t lives. absurd (true≢false (sym lives ∙ idle t));
    };
    all = λ kept. omega arith;
    lasts = omega (arith, last);
  }

  module _ (last : AllLast cache) (board : Board) (waits : states board.core ≡ (λ t. Waiting))
      (none : report_in board.reports ≡ (λ t. None)) (shown : board.shown ≡ 0) where
    pub stands-first : Stands plan o (now_of board effect world tree cache)
    stands-first =
        become plan o zero (record zero { logs = log_in board.logs })
        (now_of board effect world tree cache) stands-zero (sym waits) refl refl refl refl refl
        (sym last) refl (sym none) refl (sym shown) (law.first plan o world.will cache.room (log_in board.logs))

    pub page-first : (before : List ℕ)
        → PageIs plan o (now_of board effect world tree cache) before before
    page-first before =
        sym (append-nil before)
        ∙ ap (λ k. before ++ blocks_upto plan o (now_of board effect world tree cache) k) (sym shown)
