-- The first of pairs, and the pairs that ends add.
use Rattle.std.proofs.Common.{◌≡◌, ℕ, zero, suc, ◌+◌, ◌-◌, ◌≤◌, List, [], ◌∷◌, ◌++◌, length, take, refl, sym, ap, ◌∙◌, subst, arith, inl, inr}
use Rattle.std.specs.Prelude.{filter, map}
use Rattle.std.proofs.Math.Seq.{take-append-add}
use Rattle.std.proofs.lemmas.Bool.{cases_lt}
use Rattle.std.proofs.lemmas.List.{length-append, length-take, map-append, take_all, take-take}
use Rattle.std.proofs.lemmas.List.Elements.{filter-append}
use Rattle.cache_api.specs.Pairs.{Pair, AreFirst}
use Rattle.cache_api.proofs.Firsts.{first_more}
use Rattle.page.specs.declared.blocks.Note.{Note}
use Rattle.run_core.specs.declared.states.Step.{Step}
use Rattle.run_core.specs.declared.states.Step.TheVariants.{Start, End}
use Rattle.run_laws.specs.Effects.{Book}
use Rattle.run_laws.specs.Pairs.{IsGood}
use Rattle.run_laws.specs.Runs.{Setting, clean_pair}
use Rattle.run_plan.specs.declared.plan.Plan.{Plan}
use Rattle.run_plan.specs.Results.{stores, ends_of, due_pairs}

-- ---- first parts

-- the first of what is first
pub first-again : (least fewest : ℕ) (all pairs later : List Pair) → fewest ≤ least
    → AreFirst least all pairs → AreFirst fewest pairs later → AreFirst fewest all later
first-again least fewest all pairs later fewer (n, at, is) (m, from, part) =
    elim (cases_lt m n) [
      | inl less ↦
          (m, from, part ∙ ap (λ ps. take m ps) is ∙ take-take m n all (omega (arith, less)))
      | inr past ↦
          let long : length pairs ≤ m =
          let long = ap length is ∙ length-take n all in omega (arith, long, past) in
          (n, omega (arith, at, fewer), part ∙ take_all m pairs long ∙ is)
    ]

-- more pairs behind those of which so many are there
pub first-behind : (least : ℕ) (all more behind pairs : List Pair) → least ≤ length all
    → AreFirst least (all ++ more) pairs → AreFirst least ((all ++ more) ++ behind) pairs
first-behind least all more behind pairs within first =
    let size = length-append all more in
    first_more least (all ++ more) behind pairs (omega (arith, within, size)) first

-- what is first of these pairs and more behind them
pub first-split : (least : ℕ) (before added pairs : List Pair) → length before ≤ least
    → AreFirst least (before ++ added) pairs → (n : ℕ) × (pairs ≡ before ++ take n added)
first-split least before added pairs within (n, at, is) =
    let more = n - length before in
    let parts : n ≡ length before + more = omega (arith, within, at) in
    (more, is ∙ ap (λ k. take k (before ++ added)) parts ∙ take-append-add before added more)

-- the first of good pairs are good
first-good : (book : Book) (n : ℕ) (pairs : List Pair) → IsGood book pairs
    → IsGood book (take n pairs)
first-good book zero pairs good = tt
first-good book (suc n) [] good = tt
first-good book (suc n) (pair ∷ pairs) good = (good.0, first-good book n pairs good.1)

pub good-first : (book : Book) (least : ℕ) (all pairs : List Pair) → AreFirst least all pairs
    → IsGood book all → IsGood book pairs
good-first book least all pairs (n, at, is) good =
    subst (IsGood book) (sym is) (first-good book n all good)

-- ---- pairs of ends

pub ends-more : (steps more : List Step) → ends_of (steps ++ more) ≡ ends_of steps ++ ends_of more
ends-more [] more = refl
ends-more (Start t ∷ steps) more = ends-more steps more
ends-more (End t x ∷ steps) more = ap (λ es. t ∷ es) (ends-more steps more)

pub due-more : (plan : Plan) (s : Setting) (notes : ℕ → Note) (ends more : List ℕ)
    → due_pairs plan s notes (ends ++ more)
    ≡ due_pairs plan s notes ends ++ due_pairs plan s notes more
due-more plan s notes ends more =
    let p = stores plan s notes in
    ap (map (clean_pair s)) (filter-append p ends more)
    ∙ map-append (clean_pair s) (filter p ends) (filter p more)
