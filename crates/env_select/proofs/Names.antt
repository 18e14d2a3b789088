-- Names, their order and their equality.
use Rattle.std.proofs.Common.{◌≡◌, ◌≢◌, ◌∙◌, ◌⊎◌, ℕ, Bool, true, false, List, refl, sym, inl, inr}
use Rattle.std.proofs.lemmas.Bool.{false≢true}
use Rattle.std.specs.Ordering.{is_eq}
use Rattle.std.specs.Cmp.Lexicographic.{texts_ties}
use Rattle.rel_path.specs.Paths.{name_eq, name_cmp}
use Rattle.rel_path.proofs.PathLaws.{name_same, name_self}

-- the order has two names equal where they are
pub ties : (a b : List ℕ) → name_eq a b ≡ is_eq (name_cmp a b)
ties = texts_ties

pub apart : (a b : List ℕ) → a ≢ b → name_eq a b ≡ false
apart a b ne = by (name_eq a b) refl
  where
    by : (t : Bool) → name_eq a b ≡ t → t ≡ false
    by true e = absurd (ne (name_same a b e))
    by false e = refl

pub order_apart : (a b : List ℕ) → a ≢ b → is_eq (name_cmp a b) ≡ false
order_apart a b ne = sym (ties a b) ∙ apart a b ne

-- two names are one, or differ
pub cases_name : (a b : List ℕ) → (a ≡ b) ⊎ (a ≢ b)
cases_name a b = by (name_eq a b) refl
  where
    by : (t : Bool) → name_eq a b ≡ t → (a ≡ b) ⊎ (a ≢ b)
    by true e = inl (name_same a b e)
    by false e = inr (λ same. false≢true (sym e ∙ rw same (name_self b)))

pub flipped : (a b : List ℕ) → a ≢ b → b ≢ a
flipped a b ne same = ne (sym same)
