-- Good pairs.
use Rattle.std.proofs.Common.{◌≡◌, ℕ, zero, suc, ◌<◌, ◌++◌, Bool, true, false, cond, List, [], ◌∷◌, length, slice_get, Some, refl, sym, ap, ◌∙◌, subst, inl, inr, Contains}
use Rattle.std.specs.List.{list_any, AllByRecursion}
use Rattle.std.proofs.lemmas.Bool.{cases_Bool, false≢true, and_right}
use Rattle.std.proofs.lemmas.List.Elements.{All-contains, All-from_recursion}
use Rattle.run_laws.proofs.PickFacts.{shift}
use Rattle.run_laws.proofs.AncestorFacts.{closure-closed}
use Rattle.run_laws.proofs.ClosedParts.{clean-sub, closure_law_lem}
use Rattle.run_laws.proofs.ValidParts.{closure_is_valid_lem}
use Rattle.run_laws.proofs.KeyFacts.{closures_lem}
use Rattle.run_laws.specs.Valid.{IsValid}
use Rattle.run_laws.specs.Ancestors.{part_at, is_nil}
use Rattle.run_laws.specs.Picks.{pick, last}
use Rattle.run_laws.specs.Closures.{in_closure, closure}
use Rattle.run_laws.specs.Effects.{Book}
use Rattle.run_laws.specs.Clean.{is_bad, skips, seen, outcome, clean_upto, clean}
use Rattle.cache_api.specs.Artifacts.{artifact_text}
use Rattle.cache_api.specs.Pairs.{Pair}
use Rattle.run_laws.specs.Keys.{artifact_of, key_of}
use Rattle.run_laws.specs.Pairs.{is_good, AreGood, IsResult, IsGoodPair, IsGood, EndsWell, due_pair, IsDue, Adds, IsHistory}
use Rattle.run_core.specs.declared.states.Mode.TheVariants.{Never}
use Rattle.listing.specs.declared.part.Listing.{Listing}
use Rattle.run_core.specs.declared.states.Mode.{Mode}
use Rattle.run_laws.specs.declared.outcome.Outcome.{Outcome}
use Rattle.spawn_dev.specs.declared.effect.Effect.{Effect}
use Rattle.run_laws.specs.declared.outcome.Outcome.TheVariants.{Skipped, Passed, Done}

-- no dependency is bad among good outcomes
no_bad : (outs : List Outcome) (d : ℕ) → AreGood outs → is_bad (slice_get outs d) ≡ false
no_bad [] d a = refl
no_bad (o ∷ outs) zero a = elim o as (λ x. is_good x ≡ true → is_bad (Some x) ≡ false) [ Skipped ↦ λ h. absurd (false≢true h) | Passed ↦ λ h. refl | Done e ↦ λ h. rw h refl ] a.0
no_bad (o ∷ outs) (suc d) a = no_bad outs d a.1

any_never : (t : ℕ → Bool) → ((d : ℕ) → t d ≡ false) → (xs : List ℕ) → list_any t xs ≡ false
any_never t never [] = refl
any_never t never (x ∷ xs) = rw (never x) (any_never t never xs)

outcome-modes : (one other : Mode) (book : Book) (l : Listing) (i : ℕ) (outs : List Outcome) → AreGood outs → outcome other book l i outs ≡ outcome one book l i outs
unfolding outcome
outcome-modes one other book l i outs good =
    let calm = any_never (λ d. is_bad (slice_get outs d)) (λ d. no_bad outs d good) (part_at l i).deps in
    let same = and_right (skips other) _ calm ∙ sym (and_right (skips one) _ calm) in
    λ j. cond (same j) Skipped (cond (is_nil (part_at l i).scripts) Passed (Done (book (seen l i outs))))

all-front : {X : Type 0} (P : X → Type 0) (xs ys : List X) → AllByRecursion P (xs ++ ys) → AllByRecursion P xs
all-front P [] ys a = tt
all-front P (x ∷ xs) ys a = (a.0, all-front P xs ys a.1)

pub all-push : {X : Type 0} (P : X → Type 0) (xs : List X) (y : X) → AllByRecursion P xs → P y → AllByRecursion P (xs ++ y ∷ [])
all-push P [] y a h = (h, tt)
all-push P (x ∷ xs) y a h = (a.0, all-push P xs y a.1 h)

clean_upto-modes : (one other : Mode) (book : Book) (l : Listing) (n : ℕ) → AreGood (clean_upto one book l n) → clean_upto other book l n ≡ clean_upto one book l n
clean_upto-modes one other book l zero good = refl
clean_upto-modes one other book l (suc n) good =
    let outs = clean_upto one book l n in
    let before = all-front _ outs (outcome one book l n outs ∷ []) good in
    let same = clean_upto-modes one other book l n before in
    (λ j. same j ++ outcome other book l n (same j) ∷ []) ∙ ap (λ x. outs ++ x ∷ []) (outcome-modes one other book l n outs before)

pub modes_law_lem : (one other : Mode) (book : Book) (l : Listing) → AreGood (clean one book l) → clean other book l ≡ clean one book l
modes_law_lem one other book l good = clean_upto-modes one other book l (length l.parts) good

all-pick_in : {X : Type 0} (P : X → Type 0) (keep : ℕ → Bool) (xs : List X) → ((j : ℕ) (x : X) → keep j ≡ true → slice_get xs j ≡ Some x → P x) → AllByRecursion P (pick keep xs)
all-pick_in P keep [] each = tt
all-pick_in P keep (x ∷ xs) each =
    let rest = all-pick_in P (shift keep) xs (λ j y k e. each (suc j) y k e) in
    elim (cases_Bool (keep zero)) [ inl k ↦ rw k (each zero x k refl, rest) | inr k ↦ rw k rest ]

all-pick_out : {X : Type 0} (P : X → Type 0) (keep : ℕ → Bool) (xs : List X) → AllByRecursion P (pick keep xs) → (j : ℕ) (y : X) → keep j ≡ true → slice_get xs j ≡ Some y → P y
all-pick_out P keep [] a j y k e = absurd (cc)
all-pick_out P keep (x ∷ xs) a zero y k e = let q : x ≡ y = cc in subst P q ((rw k at a).0)
all-pick_out P keep (x ∷ xs) a (suc j) y k e =
    elim (cases_Bool (keep zero)) [
      | inl u ↦ all-pick_out P (shift keep) xs (rw u at a).1 j y k e
      | inr u ↦ all-pick_out P (shift keep) xs (rw u at a) j y k e
    ]

-- the closure of a place that came to a good end tells the truth
closure-true : (book : Book) (mode : Mode) (l : Listing) (i : ℕ) (effect : Effect) → IsValid l → i < length l.parts → EndsWell mode book l i effect → IsResult book (closure l i) (due_pair l i effect).1
closure-true book mode l i effect v h done =
    let low = v.ordered.lower in
    let good : AreGood (clean mode book (closure l i)) = rw (clean-sub mode book l (in_closure l i) low (closure-closed l i low)) (all-pick_in _ (in_closure l i) (clean mode book l) done.good) in
    let same = modes_law_lem mode Never book (closure l i) good in
    (rw same good, (effect, ap last same ∙ closure_law_lem mode book l i low h ∙ done.ended, refl))

-- the pair of such an end is good
good_due : (book : Book) (pair : Pair) → IsDue book pair → IsGoodPair book pair
good_due book pair d m w e =
    let same : m ≡ closure d.listing d.place = closures_lem m (closure d.listing d.place) w (closure_is_valid_lem d.listing d.place d.valid) (e ∙ ap (λ p. p.0) d.is) in
    subst (λ x. IsResult book x pair.1) (sym same)
    (subst (λ v. IsResult book (closure d.listing d.place) v) (sym (ap (λ p. p.1) d.is)) (closure-true book d.mode d.listing d.place d.effect d.valid d.below d.well))

pub due_law_lem : (book : Book) (pairs : List Pair) (pair : Pair) → IsGood book pairs → IsDue book pair → IsGood book (pairs ++ pair ∷ [])
due_law_lem book pairs pair good due = all-push _ pairs pair good (good_due book pair due)

all-append : {X : Type 0} (P : X → Type 0) (xs ys : List X) → AllByRecursion P xs → AllByRecursion P ys → AllByRecursion P (xs ++ ys)
all-append P [] ys a b = b
all-append P (x ∷ xs) ys a b = (a.0, all-append P xs ys a.1 b)

all-of : {X : Type 0} (P Q : X → Type 0) → ((x : X) → P x → Q x) → (xs : List X) → AllByRecursion P xs → AllByRecursion Q xs
all-of P Q gives [] a = tt
all-of P Q gives (x ∷ xs) a = (gives x a.0, all-of P Q gives xs a.1)

good-adds : (book : Book) (before after : List Pair) → IsGood book before → Adds book before after → IsGood book after
good-adds book before after good adds =
    subst (IsGood book) (sym adds.is) (all-append (IsGoodPair book) before adds.added good (all-of (IsDue book) (IsGoodPair book) (good_due book) adds.added adds.due))

good-history : (book : Book) (before : List Pair) (stores : List (List Pair)) → IsGood book before → IsHistory book before stores → AllByRecursion (IsGood book) stores
good-history book before [] good history = tt
good-history book before (pairs ∷ later) good history =
    let now = good-adds book before pairs good history.0 in
    (now, good-history book pairs later now history.1)

pub history_law_lem : (book : Book) (stores : List (List Pair)) → IsHistory book [] stores → AllByRecursion (IsGood book) stores
history_law_lem book stores history = good-history book [] stores tt history

pub value_law_lem : (book : Book) (mode : Mode) (pairs : List Pair) (value : List ℕ) (l : Listing) (i : ℕ) → IsGood book pairs → IsValid l → i < length l.parts
    → Contains pairs (key_of l i, value) → (effect : Effect) × EndsWell mode book l i effect × (value ≡ artifact_text (artifact_of effect))
value_law_lem book mode pairs value l i good v h stands =
    let low = v.ordered.lower in
    let pair = All-contains (IsGoodPair book) pairs (key_of l i, value) (All-from_recursion (IsGoodPair book) pairs good) stands in
    let t = pair (closure l i) (closure_is_valid_lem l i v) refl in
    let same = modes_law_lem Never mode book (closure l i) t.0 in
    let parts : AreGood (pick (in_closure l i) (clean mode book l)) = rw (← clean-sub mode book l (in_closure l i) low (closure-closed l i low), same) t.0 in
    let well : EndsWell mode book l i t.1.0 = record {
      ended = sym (closure_law_lem mode book l i low h) ∙ ap last same ∙ t.1.1;
      good = λ j o k e. all-pick_out _ (in_closure l i) (clean mode book l) parts j o k e;
    } in
    (t.1.0, well, t.1.2)
