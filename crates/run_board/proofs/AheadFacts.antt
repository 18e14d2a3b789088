-- Keys that are hashed ahead, and the board that keeps their fingerprints.
use Rattle.std.proofs.Common.{◌≡◌, ◌≢◌, ℕ, ◌+◌, ◌<◌, ◌==◌, Bool, true, false, cond, List, [], ◌∷◌, ◌++◌, length, take, get_or, Option, Some, refl, sym, ap, ◌∙◌, subst, arith, length-append, append_assoc, inl, inr}
use Rattle.std.specs.Prelude.{is_none}
use Rattle.std.specs.List.{Contains}
use Rattle.std.proofs.lemmas.Bool.{cases_eq, eq-eqb, true≢false}
use Rattle.std.proofs.lemmas.List.Elements.{All-push, All-more, All-weaker, Contains-push, Contains-append_left}
use Rattle.spawn_dev.specs.Spawn.{put_at}
use Rattle.sha2.specs.Sha256.{sha256}
use Rattle.run_core.specs.Core.{states}
use Rattle.run_core.specs.Moves.{turns_left}
use Rattle.run_laws.specs.Keys.{key_of}
use Rattle.run_plan.specs.declared.plan.Plan.{Plan}
use Rattle.run_plan.specs.Openings.{rules_of}
use Rattle.run_plan.specs.Reports.{report_in}
use Rattle.run_plan.specs.Stories.{is_settled}
use Rattle.run_board.specs.declared.ahead.TheConstants.{KEYS_AHEAD}
use Rattle.run_board.specs.declared.board.Board.{Board}
use Rattle.run_board.specs.Ahead.{is_due, AddsDue, HashesAhead, Learns}
use Rattle.run_board.specs.Boards.{IsBoard, IsKnown, IsMove}
use Rattle.run_board.specs.Tables.{fingerprint_in}
use Rattle.run_board.proofs.TurnFacts.{known-set}

-- ---- the places

module _ (plan : Plan) (known : ℕ → Option (List ℕ)) (from next : ℕ) (old new : List ℕ)
    (adds : AddsDue plan known from next old new) (below : next < length plan.listing.parts) where
  pub adds-due : is_due plan known next ≡ true → length new ≢ KEYS_AHEAD
      → AddsDue plan known from (next + 1) old (new ++ next ∷ [])
  adds-due due few = record {
    others = adds.others ++ next ∷ [];
    places_are = ap (λ ps. ps ++ next ∷ []) adds.places_are
        ∙ append_assoc old adds.others (next ∷ []);
    due = All-push (λ t. is_due plan known t ≡ true) adds.others next adds.due due;
    within = All-push (λ t. t < length plan.listing.parts) adds.others next adds.within below;
    all = λ t low high is. elim (cases_eq t next) [
      | inl e ↦ subst (λ u. Contains (adds.others ++ next ∷ []) u) (sym e)
          (Contains-push adds.others next)
      | inr d ↦ Contains-append_left adds.others (next ∷ []) t
          (adds.all t low (omega (arith, high, d)) is)
    ];
    few = omega (arith, length-append new (next ∷ []), adds.few, few);
    behind = omega (arith, adds.behind);
    ends = omega (arith, below);
  }

  pub adds-other : is_due plan known next ≡ false → AddsDue plan known from (next + 1) old new
  adds-other bare = record {
    others = adds.others;
    places_are = adds.places_are;
    due = adds.due;
    within = adds.within;
    all = λ t low high is. elim (cases_eq t next) [
      | inl e ↦ absurd (true≢false (sym is ∙ ap (is_due plan known) e ∙ bare))
      | inr d ↦ adds.all t low (omega (arith, high, d)) is
    ];
    few = adds.few;
    behind = omega (arith, adds.behind);
    ends = omega (arith, below);
  }

-- ---- the fingerprints

one-known : (b : Bool) (print : List ℕ) (other : Option (List ℕ))
    → (b ≡ false → is_none other ≡ false) → is_none (cond b (Some print) other) ≡ false
one-known true print other h = refl
one-known false print other h = h refl

pub learns-more : (old mid new : ℕ → Option (List ℕ)) (places : List ℕ) (i : ℕ) (print : List ℕ)
    → Learns old mid (take i places) → i < length places
    → new ≡ put_at mid (get_or places i 0) (Some print) → Learns old new (take (i + 1) places)
learns-more old mid new places i print learns below set = record {
  these = All-more (λ t. is_none (new t) ≡ false) places i 0 below
      (All-weaker (λ t. is_none (mid t) ≡ false) (λ t. is_none (new t) ≡ false) still
      (take i places) learns.these) here;
  kept = λ t h. still t (learns.kept t h);
}
  where
    at : ℕ
    at = get_or places i 0

    still : (t : ℕ) → is_none (mid t) ≡ false → is_none (new t) ≡ false
    still t h = subst (λ f. is_none (f t) ≡ false) (sym set)
        (one-known (t == at) print (mid t) (λ other. h))

    here : is_none (new at) ≡ false
    here = subst (λ f. is_none (f at) ≡ false) (sym set)
        (one-known (at == at) print (mid at)
        (λ other. absurd (true≢false (sym (eq-eqb at at refl) ∙ other))))

-- ---- the board

pub learned : (plan : Plan) (board : Board) (t : ℕ) (print : List ℕ)
    (table : List (Option (List ℕ))) → IsBoard plan board
    → length table ≡ length board.fingerprints
    → fingerprint_in table ≡ put_at (fingerprint_in board.fingerprints) t (Some print)
    → print ≡ sha256 (key_of plan.listing t)
    → IsBoard plan (record board { fingerprints = table })
learned plan board t print table is size set right = record {
  rules_are = is.rules_are;
  commands = is.commands;
  reports = is.reports;
  logs = is.logs;
  good = is.good;
  fingerprints = size ∙ is.fingerprints;
  shown = is.shown;
  ahead = is.ahead;
  flags = is.flags;
  known = known-set plan t (fingerprint_in board.fingerprints) (fingerprint_in table) (Some print)
      set here is.known;
}
  where
    here : IsKnown plan t (Some print)
    here other e = cc

-- ---- across the call

-- a move from there is one from before
pub move-ahead : (plan : Plan) (old mid new : Board) → HashesAhead old mid → IsMove plan mid new
    → IsMove plan old new
move-ahead plan old mid new ahead move = record {
  is_board = move.is_board;
  settled = record {
    shown = move.settled.shown ∙ ahead.shown;
    states_are = λ u h. move.settled.states_are u (was u h) ∙ ap (λ core. states core u) ahead.core;
    reports_are = λ u h. move.settled.reports_are u (was u h)
        ∙ ap (λ table. report_in table u) ahead.reports;
  };
  turns = subst (λ core. turns_left (rules_of plan) (states new.core)
      < turns_left (rules_of plan) (states core)) ahead.core move.turns;
}
  where
    was : (u : ℕ) → is_settled (states old.core u) ≡ true → is_settled (states mid.core u) ≡ true
    was u h = ap (λ core. is_settled (states core u)) ahead.core ∙ h
