-- The tests of matching decide its relations.
use Rattle.std.proofs.Common.{◌≡◌, ◌<◌, ◌↔◌, ◌∙◌, ◌&&◌, ◌||◌, ◌⊎◌, ℕ, Bool, true, false, List, [], ◌∷◌, length, take, refl, IsTrue, inl, inr, arith}
use Rattle.std.specs.Prelude.{Any, nat_lt}
use Rattle.std.specs.List.{list_any, list_all}
use Rattle.std.proofs.lemmas.List.{length-take-le}
use Rattle.std.proofs.lemmas.List.Folds.{Any-from_list_any, list_any-from_Any}
use Rattle.std.proofs.lemmas.Bool.Decides.{nat_tests}
use Rattle.rel_path.specs.Paths.{Path}
use Rattle.glob_syntax.specs.Atoms.{is_char}
use Rattle.glob_syntax.specs.Match.{SpellsPath, spells_path}
use Rattle.glob_syntax.proofs.Matching.{spells_path_decides}
use Rattle.glob_syntax.specs.declared.part.Part.{Part}
use Rattle.glob_syntax.specs.declared.part.Part.TheVariants.{Span, Named}
use Rattle.globs.specs.Match.{are_plain, IsAbovePath, AlternativeMatches, Matches, MatchesWhole, is_above, alternative_matches, matches, matches_whole}

both_true : (a b : Bool) → (a && b) ≡ true → (a ≡ true) × (b ≡ true)
both_true true b e = (refl, e)
both_true false b e = cc

or_decides : {P Q : Type 0} (a b : Bool) → IsTrue a ↔ P → IsTrue b ↔ Q → IsTrue (a || b) ↔ (P ⊎ Q)
or_decides true b f g = (λ t. inl (f.0 refl), λ p. refl)
or_decides false b f g = (λ t. inr (g.0 t), λ p. elim p [ inl x ↦ absurd (let t = f.1 x in cc) | inr y ↦ g.1 y ])

pub any_decides : {X : Type 0} (p : X → Bool) (P : X → Type 0) → ((x : X) → IsTrue (p x) ↔ P x) → (xs : List X) → IsTrue (list_any p xs) ↔ Any P xs
any_decides p P h xs = (
  λ t. let a = Any-from_list_any p xs t in (a.0, a.1, a.2, a.3, (h a.1).0 a.4),
  λ a. list_any-from_Any p xs (a.0, a.1, a.2, a.3, (h a.1).1 a.4),
)

-- ---- parts without wildcards take as many components as they are
plain_length : (parts : List Part) (path : Path) → are_plain parts ≡ true → SpellsPath parts path → length parts ≡ length path
plain_length [] path e s = rw s refl
plain_length (Span ∷ parts) path e s = cc
plain_length (Named atoms ∷ parts) [] e s = absurd s
plain_length (Named atoms ∷ parts) (component ∷ path) e s =
    omega (arith, plain_length parts path (both_true (list_all is_char atoms) (are_plain parts) e).1 s.1)

above_length : (parts : List Part) (path : Path) → are_plain parts ≡ true → IsAbovePath parts path → (length parts < length path) × SpellsPath parts (take (length parts) path)
above_length parts path e (n, lt, s) =
    let same : length parts ≡ n = plain_length parts (take n path) e s ∙ length-take-le n path (omega arith) in
    (omega arith, rw same s)

less_in : (n m : ℕ) → nat_lt n m ≡ true → n < m
less_in n m e = grind (arith, nat_tests, e)

less_out : (n m : ℕ) → n < m → nat_lt n m ≡ true
less_out n m h = grind (arith, nat_tests, h)

plain_above_decides : (parts : List Part) (path : Path) → IsTrue (are_plain parts && is_above parts path) ↔ (IsTrue (are_plain parts) × IsAbovePath parts path)
plain_above_decides parts path = by (are_plain parts) refl
  where
    by : (plain : Bool) → are_plain parts ≡ plain → IsTrue (plain && is_above parts path) ↔ (IsTrue plain × IsAbovePath parts path)
    by false e = (λ t. cc, λ p. p.0)
    by true e = (λ t. (refl, above_in (nat_lt (length parts) (length path)) (less_in (length parts) (length path)) t), λ p. above_out (nat_lt (length parts) (length path)) (less_out (length parts) (length path)) (above_length parts path e p.1))
      where
        above_in : (shorter : Bool) → (shorter ≡ true → length parts < length path) → (shorter && spells_path parts (take (length parts) path)) ≡ true → IsAbovePath parts path
        above_in true lt t = (length parts, lt refl, (spells_path_decides parts (take (length parts) path)).0 t)
        above_in false lt t = cc

        above_out : (shorter : Bool) → (length parts < length path → shorter ≡ true) → (length parts < length path) × SpellsPath parts (take (length parts) path) → (shorter && spells_path parts (take (length parts) path)) ≡ true
        above_out true lt p = (spells_path_decides parts (take (length parts) path)).1 p.1
        above_out false lt p = cc (lt p.0)

alternative_decides : (parts : List Part) (path : Path) → IsTrue (alternative_matches parts path) ↔ AlternativeMatches parts path
alternative_decides parts path = or_decides (spells_path parts path) (are_plain parts && is_above parts path) (spells_path_decides parts path) (plain_above_decides parts path)

pub matches_decides : (glob : List (List Part)) (path : Path) → IsTrue (matches glob path) ↔ Matches glob path
unfolding matches Matches
matches_decides glob path = any_decides (λ parts. alternative_matches parts path) (λ parts. AlternativeMatches parts path) (λ parts. alternative_decides parts path) glob

pub matches_whole_decides : (glob : List (List Part)) (path : Path) → IsTrue (matches_whole glob path) ↔ MatchesWhole glob path
unfolding matches_whole MatchesWhole
matches_whole_decides glob path = any_decides (λ parts. spells_path parts path) (λ parts. SpellsPath parts path) (λ parts. spells_path_decides parts path) glob
