-- A pattern without `*` and `\` matches the one name that it writes.
use Rattle.std.proofs.Common.{◌≡◌, ◌∙◌, ◌==◌, ◌&&◌, ◌||◌, ℕ, Bool, true, false, cond, List, [], ◌∷◌, ◌++◌, refl, sym, ap, nat_eq}
use Rattle.std.specs.List.{list_any}
use Rattle.std.proofs.lemmas.List.Folds.{list_any-append}
use Rattle.rel_path.specs.Paths.{name_eq}
use Rattle.env_select.specs.declared.pattern.Sign.{Sign}
use Rattle.env_select.specs.declared.pattern.Sign.TheVariants.{Byte}
use Rattle.wildcards.specs.Bytes.{is_star as is_star_byte}
use Rattle.env_select.specs.Patterns.{backslash, is_wild, sign_of, signs_of, spells_name}

either_false : (a b : Bool) → (a || b) ≡ false → (a ≡ false) × (b ≡ false)
either_false true b e = cc
either_false false b e = (refl, e)

plain_sign : (b : ℕ) → is_wild b ≡ false → sign_of b ≡ Byte b
plain_sign b e = rw (either_false (is_star_byte b) (b == backslash) e).0 refl

signs_of-plain : (b : ℕ) (bs : List ℕ) → is_wild b ≡ false → signs_of (b ∷ bs) ≡ Byte b ∷ signs_of bs
signs_of-plain b [] e = rw (plain_sign b e) refl
signs_of-plain b (c ∷ bs) e = rw ((either_false (is_star_byte b) (b == backslash) e).1, plain_sign b e) refl

pub plain_spells : (text name : List ℕ) → list_any is_wild text ≡ false → spells_name (signs_of text) name ≡ name_eq name text
plain_spells [] [] e = refl
plain_spells [] (x ∷ xs) e = refl
plain_spells (b ∷ bs) [] e = rw (signs_of-plain b bs (either_false (is_wild b) (list_any is_wild bs) e).0) refl
plain_spells (b ∷ bs) (x ∷ xs) e =
    let both = either_false (is_wild b) (list_any is_wild bs) e in
    rw (signs_of-plain b bs both.0) (ap (λ rest. nat_eq x b && rest) (plain_spells bs xs both.1))

pub or_assoc : (a b c : Bool) → ((a || b) || c) ≡ (a || (b || c))
or_assoc true b c = refl
or_assoc false b c = refl

pub or_none : (a : Bool) → (a || false) ≡ a
or_none true = refl
or_none false = refl

pub or_true : (a : Bool) → (a || true) ≡ true
or_true true = refl
or_true false = refl

-- a pattern more
pub wild_added : (named : Bool) (signs : List Sign) (wild : List (List Sign)) (name : List ℕ) → (named || list_any (λ signs. spells_name signs name) (wild ++ signs ∷ [])) ≡ ((named || list_any (λ signs. spells_name signs name) wild) || spells_name signs name)
wild_added named signs wild name =
    ap (λ any. named || any) (list_any-append (λ signs. spells_name signs name) wild (signs ∷ []) ∙ ap (λ last. list_any (λ signs. spells_name signs name) wild || last) (or_none (spells_name signs name)))
    ∙ sym (or_assoc named (list_any (λ signs. spells_name signs name) wild) (spells_name signs name))

-- a name more
pub name_added : (equal named matched : Bool) → (cond equal true named || matched) ≡ ((named || matched) || equal)
name_added true named matched = sym (or_true (named || matched))
name_added false named matched = sym (or_none (named || matched))
