-- A text compared with two texts joined.
use Rattle.std.proofs.Common.{◌≡◌, ◌≢◌, ◌<◌, ℕ, List, [], ◌∷◌, ◌++◌, Ordering, Less, Equal, Greater, nat_cmp, refl, ap, ◌∙◌}
use Rattle.std.specs.Ordering.{ordering_then}
use Rattle.std.proofs.lemmas.Cmp.{tied_itself, nat_cmp_total, ranked}
use Rattle.std.specs.Ordering.{MatchOrdering}
use Rattle.rel_path.specs.Paths.{name_cmp}

either : (o a b : Ordering) → (o ≡ Equal → a ≡ b) → ordering_then o a ≡ ordering_then o b
either Less a b same = refl
either Equal a b same = same refl
either Greater a b same = refl

tied : (x y : ℕ) → nat_cmp x y ≡ Equal → x ≡ y
tied x y e = by (nat_cmp x y) e (ranked x y (nat_cmp x y) refl) where
  by : (o : Ordering) → o ≡ Equal → MatchOrdering o (x < y) (x ≡ y) (y < x) → x ≡ y
  by Less h m = absurd (cc)
  by Equal h m = m
  by Greater h m = absurd (cc)

-- where the front is none of the text's, the rest does not count
pub cmp_front : (text front back : List ℕ) → ((rest : List ℕ) → text ≢ front ++ rest) → name_cmp text front ≡ name_cmp text (front ++ back)
cmp_front text [] back none = absurd (none text refl)
cmp_front [] (f ∷ front) back none = refl
cmp_front (t ∷ text) (f ∷ front) back none =
    either (nat_cmp t f) _ _ (λ e. cmp_front text front back (λ rest h. none rest (ap (λ x. x ∷ text) (tied t f e) ∙ ap (λ xs. f ∷ xs) h)))

-- else the rests are compared
pub cmp_rest : (front rest back : List ℕ) → name_cmp rest back ≡ name_cmp (front ++ rest) (front ++ back)
cmp_rest [] rest back = refl
cmp_rest (f ∷ front) rest back = rw (tied_itself nat_cmp_total f) (cmp_rest front rest back)
