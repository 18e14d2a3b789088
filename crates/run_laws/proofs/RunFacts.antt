-- A whole run keeps where it stands.
use Rattle.std.proofs.Common.{◌≡◌, ◌≢◌, ℕ, not, ◌<◌, ◌==◌, ◌++◌, cond, true, false, List, [], ◌∷◌, length, slice_get, refl, sym, ap, ◌∙◌, subst, Some, append-nil, append_assoc}
use Rattle.std.specs.List.{AllByRecursion}
use Rattle.std.specs.Prelude.{map}
use Rattle.std.proofs.lemmas.Bool.{false≢true, true≢false, eq-eqb, ne_eqb, eqb-true, or_left, and_parts}
use Rattle.rel_path.specs.Files.{file_at, over}
use Rattle.run_laws.specs.declared.outcome.Outcome.{Outcome}
use Rattle.run_laws.specs.declared.outcome.Outcome.TheVariants.{Skipped, Done}
use Rattle.run_laws.specs.Ancestors.{part_at, has_script, is_above}
use Rattle.run_laws.specs.Marks.{is_hit}
use Rattle.run_laws.specs.Clean.{clean}
use Rattle.cache_api.specs.Artifacts.{Artifact}
use Rattle.cache_api.specs.Reading.{ReadsOnly, artifact_in}
use Rattle.run_laws.specs.Pairs.{IsGood, due_pair, IsDue}
use Rattle.run_laws.specs.Worlds.{Stage, seen_in, logged, is_finished, is_touched, put_at, status_in, Holds}
use Rattle.globs.specs.OwnedFiles.{cleared, restored}
use Rattle.run_laws.specs.Runs.{Setting, Progress, Move, Allows, after, opening, Leads, IsReady, mark_at, puts_of, effect_in, clean_pair, RunLaw}
use Rattle.run_laws.specs.Worlds.Stage.{Running, Finished}
use Rattle.run_laws.specs.Runs.Move.{Pass, Replay, Start, End}
use Rattle.run_laws.proofs.ClosedParts.{length-clean_upto}
use Rattle.run_laws.proofs.EndFacts.{ends_law_lem}
use Rattle.run_laws.proofs.GoodFacts.{all-push, due_law_lem}
use Rattle.run_laws.proofs.ReadyFacts.{get_or-some}
use Rattle.run_laws.proofs.HitFacts.{hit_law_lem}
use Rattle.run_laws.proofs.StepFacts.{steps_law_lem, leaves_law_lem, at-put, get-below}

-- What is kept from move to move, with the places that were put so far.
record Keeps (s : Setting) (puts : List ℕ) (now : Progress) : Type 0 where
  holds : Holds s.mode s.book s.listing s.files now.stages now.files
  will : (t : ℕ) → now.stages t ≡ Running → slice_get (clean s.mode s.book s.listing) t ≡ Some (Done (now.will t))
  pairs : now.pairs ≡ s.pairs ++ map (clean_pair s) puts
  due : AllByRecursion (IsDue s.book) (map (clean_pair s) puts)
  good : IsGood s.book now.pairs

map-push : {X Y : Type 0} (f : X → Y) (xs : List X) (x : X) → map f (xs ++ x ∷ []) ≡ map f xs ++ f x ∷ []
map-push f [] x = refl
map-push f (y ∷ xs) x = ap (λ ys. f y ∷ ys) (map-push f xs x)

module _ (only : ReadsOnly artifact_in) (s : Setting) (ready : IsReady s) (puts : List ℕ) (now : Progress) (keeps : Keeps s puts now) (t : ℕ) where
  abbrev outs : List Outcome
  outs = clean s.mode s.book s.listing

  -- no other command starts or ends
  other-will : (stage : Stage) → stage ≢ Running → (u : ℕ) → put_at now.stages t stage u ≡ Running → slice_get outs u ≡ Some (Done (now.will u))
  other-will stage ne = at-put (λ u x. x ≡ Running → slice_get outs u ≡ Some (Done (now.will u))) now.stages t stage (λ e. absurd (ne e)) (λ u _. keeps.will u)

  not-running : (status : ℕ) → Finished status ≢ Running
  not-running status e = true≢false (ap is_finished e)

  pass-keeps : Allows s now (Pass t) → Keeps s puts (after s now (Pass t))
  pass-keeps (fresh, plain, deps) = record {
    holds = steps_law_lem.pass s.mode s.book s.listing s.files now.files now.stages t ready.valid.ordered.lower fresh.below keeps.holds plain deps;
    will = other-will (Finished 0) (not-running 0);
    pairs = keeps.pairs;
    due = keeps.due;
    good = keeps.good;
  }

  replay-keeps : (a : Artifact) → Allows s now (Replay t a) → Keeps s puts (after s now (Replay t a))
  replay-keeps a (fresh, script, hit, found) =
      let w = (hit_law_lem only).found s.book s.mode s.pairs a s.listing t ready.storable ready.good ready.valid fresh.below found in
      let ok : w.0.status ≡ 0 = eqb-true w.0.status 0 (w.1.good t (Done w.0) (or_left (t == t) (is_above s.listing t t) (eq-eqb t t refl)) w.1.ended) in
      let step = steps_law_lem.hit s.mode s.book s.listing s.files now.files now.stages t w.0 ready.apart keeps.holds script (ap is_finished fresh.stage) w.1.ended in
      let named = subst (λ x. Holds s.mode s.book s.listing s.files (put_at now.stages t (Finished x)) (logged (part_at s.listing t) w.0.log (restored (part_at s.listing t).outs w.0.files now.files))) ok step in
      record {
        holds = subst (λ (x : Artifact). Holds s.mode s.book s.listing s.files (put_at now.stages t (Finished 0)) (logged (part_at s.listing t) x.0 (restored (part_at s.listing t).outs x.1 now.files))) (sym w.2) named;
        will = other-will (Finished 0) (not-running 0);
        pairs = keeps.pairs;
        due = keeps.due;
        good = keeps.good;
      }

  start-keeps : Allows s now (Start t) → Keeps s puts (after s now (Start t))
  start-keeps (fresh, run, well) =
      let script = (and_parts (has_script (part_at s.listing t)) (not (is_hit (mark_at s t))) run).0 in
      let step = steps_law_lem.start s.mode s.book s.listing s.files now.files now.stages t ready.apart ready.behaved ready.valid.ordered.lower fresh.below keeps.holds script (ap is_finished fresh.stage) well in
      let effect = s.book (seen_in s.listing t (cleared (part_at s.listing t).outs now.files)) in
      record {
        holds = step.0;
        will = at-put (λ u x. x ≡ Running → slice_get outs u ≡ Some (Done (cond (u == t) effect (now.will u)))) now.stages t Running
            (λ _. rw (eq-eqb t t refl) step.1)
            (λ u d e. rw (ne_eqb u t d) (keeps.will u e));
        pairs = keeps.pairs;
        due = keeps.due;
        good = keeps.good;
      }

  below-of : now.stages t ≡ Running → t < length s.listing.parts
  below-of e = subst (λ n. t < n) (length-clean_upto s.mode s.book s.listing (length s.listing.parts)) (get-below outs t (Done (now.will t)) (keeps.will t e))

  end-holds : now.stages t ≡ Running → Holds s.mode s.book s.listing s.files (put_at now.stages t (Finished (now.will t).status)) (logged (part_at s.listing t) (now.will t).log (over now.files (file_at (now.will t).files)))
  end-holds e = steps_law_lem.end s.mode s.book s.listing s.files now.files now.stages t (now.will t) ready.apart ready.behaved ready.valid.ordered.lower (below-of e) keeps.holds e (keeps.will t e)

  -- the pair that the end adds is due
  is-due : now.stages t ≡ Running → (now.will t).status ≡ 0 → ((a : ℕ) → is_above s.listing t a ≡ true → now.stages a ≡ Finished 0) → IsDue s.book (due_pair s.listing t (now.will t))
  is-due e ok well = record {
    mode = s.mode;
    listing = s.listing;
    place = t;
    effect = now.will t;
    valid = ready.valid;
    below = below-of e;
    well = ends_law_lem.any s.mode s.book s.listing t (now.will t) ready.valid.ordered.lower (below-of e) (keeps.will t e) ok
        (λ j other above ended. let same : Some other.status ≡ Some 0 = sym (ap status_in ended) ∙ keeps.holds.told j 0 (well j above) in cc);
    is = refl;
  }

  clean-is : now.stages t ≡ Running → due_pair s.listing t (now.will t) ≡ clean_pair s t
  clean-is e = ap (λ o. due_pair s.listing t (effect_in o)) (sym (get_or-some outs t (Done (now.will t)) Skipped (keeps.will t e)))

  kept-keeps : Allows s now (End t true) → Keeps s (puts ++ t ∷ []) (after s now (End t true))
  kept-keeps (e, stored) =
      let p = stored refl in
      record {
        holds = end-holds e;
        will = other-will (Finished (now.will t).status) (not-running (now.will t).status);
        pairs =
            (λ i. keeps.pairs i ++ clean-is e i ∷ [])
            ∙ append_assoc s.pairs (map (clean_pair s) puts) (clean_pair s t ∷ [])
            ∙ ap (λ x. s.pairs ++ x) (sym (map-push (clean_pair s) puts t));
        due = subst (AllByRecursion (IsDue s.book)) (sym (map-push (clean_pair s) puts t))
            (all-push (IsDue s.book) (map (clean_pair s) puts) (clean_pair s t) keeps.due (subst (IsDue s.book) (clean-is e) (is-due e p.0 p.1)));
        good = due_law_lem s.book now.pairs (due_pair s.listing t (now.will t)) keeps.good (is-due e p.0 p.1);
      }

  left-keeps : Allows s now (End t false) → Keeps s puts (after s now (End t false))
  left-keeps (e, stored) = record {
    holds = end-holds e;
    will = other-will (Finished (now.will t).status) (not-running (now.will t).status);
    pairs = keeps.pairs;
    due = keeps.due;
    good = keeps.good;
  }

leads-keeps : ReadsOnly artifact_in → (s : Setting) → IsReady s → (moves : List Move) (puts : List ℕ) (now last : Progress) → Keeps s puts now → Leads s now moves last → Keeps s (puts ++ puts_of moves) last
leads-keeps only s ready [] puts now last keeps is = subst (λ ps. Keeps s ps last) (sym (append-nil puts)) (subst (Keeps s puts) is keeps)
leads-keeps only s ready (Pass t ∷ moves) puts now last keeps (may, more) = leads-keeps only s ready moves puts _ last (pass-keeps only s ready puts now keeps t may) more
leads-keeps only s ready (Replay t a ∷ moves) puts now last keeps (may, more) = leads-keeps only s ready moves puts _ last (replay-keeps only s ready puts now keeps t a may) more
leads-keeps only s ready (Start t ∷ moves) puts now last keeps (may, more) = leads-keeps only s ready moves puts _ last (start-keeps only s ready puts now keeps t may) more
leads-keeps only s ready (End t true ∷ moves) puts now last keeps (may, more) =
    subst (λ ps. Keeps s ps last) (append_assoc puts (t ∷ []) (puts_of moves)) (leads-keeps only s ready moves (puts ++ t ∷ []) _ last (kept-keeps only s ready puts now keeps t may) more)
leads-keeps only s ready (End t false ∷ moves) puts now last keeps (may, more) = leads-keeps only s ready moves puts _ last (left-keeps only s ready puts now keeps t may) more

first-keeps : (s : Setting) → IsReady s → Keeps s [] (opening s)
first-keeps s ready = record {
  holds = steps_law_lem.first s.mode s.book s.listing s.files ready.inputs;
  will = λ t e. absurd (false≢true (ap is_touched e));
  pairs = sym (append-nil s.pairs);
  due = tt;
  good = ready.good;
}

pub run_law_lem : ReadsOnly artifact_in → RunLaw
run_law_lem only s moves last ready leads =
    let k = leads-keeps only s ready moves [] (opening s) last (first-keeps s ready) leads in
    record {
      holds = k.holds;
      will = k.will;
      pairs = k.pairs;
      adds = record { added = map (clean_pair s) (puts_of moves); is = k.pairs; due = k.due };
      good = k.good;
      leaves = λ idle. leaves_law_lem s.mode s.book s.listing s.files last.files last.stages ready.valid.ordered.lower k.holds idle;
    }
