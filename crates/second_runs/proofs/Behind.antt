-- What stands behind the first pairs of a store, by what the images of a relay say.
use Rattle.std.proofs.Common.{◌≡◌, ℕ, Bool, true, false, List, [], ◌++◌, Option, Some, refl, sym}
use Rattle.std.proofs.Common.{◌∙◌, ap, append-nil}
use Rattle.std.specs.Prelude.{◌||◌, IsTrue}
use Rattle.std.proofs.lemmas.List.{append_cancel_left}
use Rattle.cache_api.specs.Pairs.{Pair}
use Rattle.relay_store.specs.Laws.{GoesOn}
use Rattle.relay_store.specs.Parts.{into}
use Rattle.run_plan.specs.declared.plan.Plan.{Plan}
use Rattle.run_plan.specs.Answers.{IsSafe}
use Rattle.run_plan.specs.Openings.{Opening}
use Rattle.spawn_dev.specs.declared.command.Step.{Step}
use Rattle.second_runs.specs.Images.{IsBehind, IsLeftBehind}

-- these and nothing more
alone : (first more : List Pair) → more ≡ [] → Some (first ++ more) ≡ Some first
alone first more none =
    ap (λ (l : List Pair). Some (first ++ l)) none
    ∙ ap (λ (l : List Pair). Some l) (append-nil first)

pub goes_behind : (puts : Bool) (all first : List Pair) (P : List Pair → Type 0)
    (told : Option (List Pair)) → GoesOn puts all first P told → IsBehind puts first told
goes_behind true all first P told goes = (goes.more, goes.stands)
goes_behind false all first P told goes =
    ([], goes.stands ∙ ap (λ (l : List Pair). Some (first ++ l)) (goes.none refl))

pub goes_left : (puts : Bool) (plan : Plan) (o : Opening) (room : ℕ) (steps : List Step)
    (first : List Pair) (told : Option (List Pair))
    → GoesOn puts o.pairs first (λ pairs. IsSafe plan o room steps pairs) told
    → IsLeftBehind puts plan o steps first told
goes_left true plan o room steps first told goes =
    (goes.more, goes.stands, (room, goes.relay refl))
goes_left false plan o room steps first told goes =
    goes.stands ∙ alone first goes.more (goes.none refl)

-- nothing was put
pub goes_same : (puts : Bool) (all first : List Pair) (told : Option (List Pair))
    → GoesOn puts all first (λ pairs. pairs ≡ all) told → told ≡ Some first
goes_same true all first told goes =
    goes.stands ∙ alone first goes.more
    (append_cancel_left all goes.more [] (goes.relay refl ∙ sym (append-nil all)))
goes_same false all first told goes = goes.stands ∙ alone first goes.more (goes.none refl)

-- What was put stands behind the pairs of each store that is put into. Now are the pairs of the
-- cache, and all, local and second those at first.
pub record Added (local_puts second_puts : Bool) (all local second now local_now second_now : List Pair)
    : Type 0 where
  pub added : List Pair
  pub now_is : now ≡ all ++ added
  pub local_is : Some local_now ≡ Some (local ++ into local_puts added)
  pub second_is : Some second_now ≡ Some (second ++ into second_puts added)

pub both_added : (local_puts second_puts : Bool)
    (all local second now local_now second_now : List Pair)
    → IsTrue (local_puts || second_puts)
    → GoesOn local_puts all local (λ pairs. pairs ≡ now) (Some local_now)
    → GoesOn second_puts all second (λ pairs. pairs ≡ now) (Some second_now)
    → Added local_puts second_puts all local second now local_now second_now
both_added true true all local second now local_now second_now puts x y = record {
  added = x.more;
  now_is = sym (x.relay refl);
  local_is = x.stands;
  second_is = y.stands ∙ ap (λ (l : List Pair). Some (second ++ l))
      (append_cancel_left all y.more x.more (y.relay refl ∙ sym (x.relay refl)));
}
both_added true false all local second now local_now second_now puts x y = record {
  added = x.more;
  now_is = sym (x.relay refl);
  local_is = x.stands;
  second_is = y.stands ∙ ap (λ (l : List Pair). Some (second ++ l)) (y.none refl);
}
both_added false true all local second now local_now second_now puts x y = record {
  added = y.more;
  now_is = sym (y.relay refl);
  local_is = x.stands ∙ ap (λ (l : List Pair). Some (local ++ l)) (x.none refl);
  second_is = y.stands;
}
both_added false false all local second now local_now second_now puts x y =
    let no : false ≡ true = puts in absurd (cc)
