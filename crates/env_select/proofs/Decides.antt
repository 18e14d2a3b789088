-- The test of a list decides its relation.
use Rattle.std.proofs.Common.{◌≡◌, ◌↔◌, ◌&&◌, ℕ, Bool, true, false, not, List, refl, IsTrue}
use Rattle.std.specs.Prelude.{Any}
use Rattle.std.specs.List.{list_any}
use Rattle.std.proofs.lemmas.List.Folds.{Any-from_list_any, list_any-from_Any}
use Rattle.std.proofs.lemmas.Bool.{eqb-true, eq-eqb}
use Rattle.wildcards.proofs.Decides.{and_decides, spells_decides}
use Rattle.env_select.specs.declared.pattern.Sign.{Sign}
use Rattle.env_select.specs.declared.pattern.Sign.TheVariants.{Star, Byte}
use Rattle.env_select.specs.Patterns.{is_star, TakesByte, SpellsName, takes_byte, spells_name}
use Rattle.env_select.specs.Lists.{is_excluded, pattern_in, AnyMatches, Selects, is_kind, any_matches, selects}

pub takes_byte_decides : (sign : Sign) (b : ℕ) → IsTrue (takes_byte sign b) ↔ TakesByte sign b
takes_byte_decides Star b = (λ t. cc, λ t. absurd t)
takes_byte_decides (Byte c) b = (eqb-true b c, eq-eqb b c)

pub spells_name_decides : (signs : List Sign) (name : List ℕ) → IsTrue (spells_name signs name) ↔ SpellsName signs name
spells_name_decides = spells_decides is_star takes_byte TakesByte takes_byte_decides

any_decides : {X : Type 0} (p : X → Bool) (P : X → Type 0) → ((x : X) → IsTrue (p x) ↔ P x) → (xs : List X) → IsTrue (list_any p xs) ↔ Any P xs
any_decides p P h xs = (
  λ t. let a = Any-from_list_any p xs t in (a.0, a.1, a.2, a.3, (h a.1).0 a.4),
  λ a. list_any-from_Any p xs (a.0, a.1, a.2, a.3, (h a.1).1 a.4),
)

kind_decides : (b excluded : Bool) → IsTrue (is_kind b excluded) ↔ (b ≡ excluded)
kind_decides b true = (λ t. t, λ e. e)
kind_decides true false = (λ t. cc, λ e. cc)
kind_decides false false = (λ t. refl, λ e. refl)

not_decides : {P : Type 0} (a : Bool) → IsTrue a ↔ P → IsTrue (not a) ↔ (¬ P)
not_decides true f = (λ t. cc, λ never. absurd (never (f.0 refl)))
not_decides false f = (λ t p. absurd (let e = f.1 p in cc), λ never. refl)

any_matches_decides : (excluded : Bool) (texts : List (List ℕ)) (name : List ℕ) → IsTrue (any_matches excluded texts name) ↔ AnyMatches excluded texts name
unfolding any_matches AnyMatches
any_matches_decides excluded texts name =
    any_decides (λ text. is_kind (is_excluded text) excluded && spells_name (pattern_in text) name) (λ text. (is_excluded text ≡ excluded) × SpellsName (pattern_in text) name)
    (λ text. and_decides (is_kind (is_excluded text) excluded) (spells_name (pattern_in text) name) (kind_decides (is_excluded text) excluded) (spells_name_decides (pattern_in text) name)) texts

pub selects_decides : (texts : List (List ℕ)) (name : List ℕ) → IsTrue (selects texts name) ↔ Selects texts name
unfolding selects Selects
selects_decides texts name =
    and_decides (any_matches false texts name) (not (any_matches true texts name)) (any_matches_decides false texts name)
    (not_decides (any_matches true texts name) (any_matches_decides true texts name))
