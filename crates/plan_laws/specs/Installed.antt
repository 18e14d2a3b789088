-- What starts reach in a lockfile, and what is missing there.
use Rattle.std.proofs.Common.{◌≡◌, Bool, false, List, ℕ, refl, sym, ap, ◌∙◌, subst}
use Rattle.std.specs.Prelude.{Ok, Err}
use Rattle.std.specs.declared.cmp.Ordering.{Ordering}
use Rattle.std.specs.declared.cmp.Ordering.TheVariants.{Less, Equal, Greater}
use Rattle.std.specs.Ordering.{is_gt, ordering_reverse}
use Rattle.std.proofs.lemmas.Bool.{false≢true}
use Rattle.serde_json.specs.Data.{Data}
use Rattle.lock_entries.specs.Lockfile.{entries_in}
use Rattle.npm_lock.specs.declared.start.Start.{Start}
use Rattle.npm_lock.specs.declared.error.ExtErr.TheVariants.{Missing}
use Rattle.npm_lock.specs.Lacks.{lack_cmp}
use Rattle.npm_lock.specs.Externals.{Externals, IsClosed, IsExternals, IsMissing, IsLeastMissing, lack_of, members_in}
use Rattle.plan_laws.specs.Least.{one_least, by_two_total, firsts_tied, seconds_tied}

module _ (d : Data) (starts : List Start) where
  one_set : (one other : List ℕ → Bool) → IsExternals (entries_in d) starts one → IsExternals (entries_in d) starts other → one ≡ other
  one_set one other a b = one_least (IsClosed (entries_in d) starts) one other a b

  pub one_uses : (pairs more : List (List ℕ × List ℕ)) → Externals d starts (Ok pairs) → Externals d starts (Ok more) → pairs ≡ more
  one_uses pairs more a b = a.3 ∙ ap (members_in d) (one_set a.0 b.0 a.1 b.1) ∙ sym b.3

  pub found_or_missing : (pairs : List (List ℕ × List ℕ)) (from name : List ℕ) → Externals d starts (Ok pairs) → Externals d starts (Err (Missing from name)) → ⊥
  found_or_missing pairs from name a b = a.2 b.2.start (subst (λ set. IsMissing (entries_in d) starts set b.2.start) (sym (one_set a.0 b.0 a.1 b.1)) b.2.missing)

  abbrev from_of : Start → List ℕ
  from_of s = s.from

  abbrev name_of : Start → List ℕ
  name_of s = s.name

  tied : (one other : Start) → is_gt (lack_cmp (lack_of one) (lack_of other)) ≡ false → is_gt (lack_cmp (lack_of other) (lack_of one)) ≡ false → lack_cmp (lack_of one) (lack_of other) ≡ Equal
  tied one other a b = by (lack_cmp (lack_of one) (lack_of other)) (lack_cmp (lack_of other) (lack_of one)) a b ((by_two_total from_of name_of).antisymm other one) where
    by : (r s : Ordering) → is_gt r ≡ false → is_gt s ≡ false → s ≡ ordering_reverse r → r ≡ Equal
    by Less s a b e = absurd (false≢true (sym b ∙ ap is_gt e))
    by Equal s a b e = refl
    by Greater s a b e = absurd (false≢true (sym a))

  pub one_missing : (from name from2 name2 : List ℕ) → Externals d starts (Err (Missing from name)) → Externals d starts (Err (Missing from2 name2)) → (from ≡ from2) × (name ≡ name2)
  one_missing from name from2 name2 a b =
      let least : IsLeastMissing (entries_in d) starts a.0 from2 name2 = subst (λ set. IsLeastMissing (entries_in d) starts set from2 name2) (sym (one_set a.0 b.0 a.1 b.1)) b.2 in
      let equal : lack_cmp (lack_of a.2.start) (lack_of least.start) ≡ Equal = tied a.2.start least.start (a.2.least least.start least.missing) (least.least a.2.start a.2.missing) in
      let from_a : a.2.start.from ≡ from = λ j. (a.2.same j).from in
      let from_b : least.start.from ≡ from2 = λ j. (least.same j).from in
      let name_a : a.2.start.name ≡ name = λ j. (a.2.same j).name in
      let name_b : least.start.name ≡ name2 = λ j. (least.same j).name in
      (sym from_a ∙ firsts_tied from_of name_of a.2.start least.start equal ∙ from_b, sym name_a ∙ seconds_tied from_of name_of a.2.start least.start equal ∙ name_b)
