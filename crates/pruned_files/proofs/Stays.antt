-- Files that stay.
use Rattle.std.proofs.Common.{◌≡◌, ◌⊎◌, inl, inr, ◌||◌, ℕ, Bool, true, false, List, filter, refl, sym, ap, ◌∙◌, subst}
use Rattle.std.proofs.lemmas.Bool.{false≢true}
use Rattle.rel_path.specs.Paths.{Path, path_eq}
use Rattle.workspaces.specs.Space.{owners}
use Rattle.task_inputs.specs.Rooted.{IsRooted, ArePicked}
use Rattle.repository.specs.Reading.{Contents}
use Rattle.pruned_files.specs.Calls.{owners_at, stays, ArePruned}
use Rattle.pruned_files.specs.Cut.{kept_owners}
use Rattle.pruned_files.specs.Pruned.{lock_path, is_settled}
use Rattle.pruned_files.proofs.Members.{kept_at}

-- ---- one after another

or_cases : (a b : Bool) → (a || b) ≡ true → (a ≡ true) ⊎ (b ≡ true)
or_cases true b e = inl refl
or_cases false b e = inr e

first_or : (a b : Bool) → a ≡ true → (a || b) ≡ true
first_or true b e = refl
first_or false b e = absurd (false≢true e)

second_or : (a b : Bool) → b ≡ true → (a || b) ≡ true
second_or true b e = refl
second_or false b e = e

-- the files that are picked are those that stay
pub picked_are : (contents : Contents) (numbers : List ℕ) (rooted paths : List Path) → ArePicked (IsRooted contents.setup (owners contents.space) numbers) contents.walk rooted
    → ((test : Path → Bool) → rooted ≡ filter test contents.walk → paths ≡ filter (stays contents (owners_at contents.space numbers) test) contents.walk) → ArePruned contents numbers paths
picked_are contents numbers rooted paths r is set are =
    let kept : owners_at contents.space numbers ≡ kept_owners contents.space set = ap (owners_at contents.space) are ∙ kept_at contents set in
    record {
      test = stays contents (kept_owners contents.space set) r.test;
      sound = λ path e. elim (or_cases (path_eq path lock_path) (is_settled contents set path || r.test path) e) [
        | inl lock ↦ inl lock
        | inr more ↦ inr (elim (or_cases (is_settled contents set path) (r.test path) more) [
          | inl settled ↦ inl settled
          | inr far ↦ inr (subst (λ ns. IsRooted contents.setup (owners contents.space) ns path) are (r.sound path far))
        ])
      ];
      whole = λ path p. elim p [
        | inl lock ↦ first_or (path_eq path lock_path) (is_settled contents set path || r.test path) lock
        | inr more ↦ second_or (path_eq path lock_path) (is_settled contents set path || r.test path) (elim more [
          | inl settled ↦ first_or (is_settled contents set path) (r.test path) settled
          | inr far ↦ second_or (is_settled contents set path) (r.test path) (r.whole path (subst (λ ns. IsRooted contents.setup (owners contents.space) ns path) (sym are) far))
        ])
      ];
      are = is r.test r.are ∙ ap (λ ps. filter (stays contents ps r.test) contents.walk) kept;
    }
