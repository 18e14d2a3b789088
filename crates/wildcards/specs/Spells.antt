-- What a pattern with runs takes. An item of a pattern either is a run (`*` in a name, `**` among the components of a path), which takes any number of elements, or takes exactly one element.
-- The meaning of `*` and `?` is that of POSIX pattern matching notation (Shell Command Language, section 2.13).
use Rattle.std.specs.Prelude.{◌≡◌, ◌≤◌, ℕ, Bool, true, false, ◌&&◌, ◌||◌, List, [], ◌∷◌, length, drop, MatchBool, if◌then◌else◌}

-- ---- as a relation

-- what is left behind some number of elements is as said
abbrev pub AfterSome : {E : Type 0} → (List E → Type 0) → List E → Type 0
AfterSome Rest es = (n : ℕ) × (n ≤ length es) × Rest (drop n es)

-- the first element is as said, and what is left behind it too
abbrev pub AfterOne : {E : Type 0} → (E → Type 0) → (List E → Type 0) → List E → Type 0
AfterOne Takes Rest [] = ⊥
AfterOne Takes Rest (e ∷ es) = Takes e × Rest es

-- the pattern takes the whole list: each run some number of elements, each other item one element that it takes, and nothing is left
abbrev pub Spells : {I E : Type 0} → (I → Bool) → (I → E → Type 0) → List I → List E → Type 0
Spells is_run Takes [] es = es ≡ []
Spells is_run Takes (i ∷ is) es = MatchBool (is_run i) (AfterSome (Spells is_run Takes is) es) (AfterOne (Takes i) (Spells is_run Takes is) es)

-- ---- as a test

abbrev pub is_empty : {E : Type 0} → List E → Bool
is_empty [] = true
is_empty (e ∷ es) = false

-- the test holds of what is left behind some number of elements
abbrev pub after_some : {E : Type 0} → (List E → Bool) → List E → Bool
after_some rest [] = rest []
after_some rest (e ∷ es) = rest (e ∷ es) || after_some rest es

-- the first element passes, and what is left behind it too
abbrev pub after_one : {E : Type 0} → (E → Bool) → (List E → Bool) → List E → Bool
after_one takes rest [] = false
after_one takes rest (e ∷ es) = takes e && rest es

-- whether the pattern takes the whole list
abbrev pub spells : {I E : Type 0} → (I → Bool) → (I → E → Bool) → List I → List E → Bool
spells is_run takes [] es = is_empty es
spells is_run takes (i ∷ is) es = if is_run i then after_some (spells is_run takes is) es else after_one (takes i) (spells is_run takes is) es
