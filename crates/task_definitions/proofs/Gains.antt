-- Names that a set gains, one after another.
use Rattle.std.proofs.Common.{◌≡◌, ◌∙◌, ◌&&◌, ◌||◌, ℕ, Bool, true, false, cond, List, [], ◌∷◌, ◌++◌, refl, sym, ap, map, ⊎_elim}
use Rattle.std.specs.List.{list_any}
use Rattle.std.specs.Ordering.{is_eq}
use Rattle.std.specs.Cmp.Lexicographic.{nat_list_eq_equiv}
use Rattle.rel_path.specs.Paths.{name_cmp}
use Rattle.env_select.proofs.Names.{ties, order_apart, cases_name, flipped}
use Rattle.task_definitions.specs.Setup.{is_among}

-- equal names are so both ways
pub same_both : (a b : List ℕ) → is_eq (name_cmp a b) ≡ is_eq (name_cmp b a)
same_both a b = sym (ties a b) ∙ nat_list_eq_equiv.symm a b ∙ ties b a

or_test : (t old : Bool) → cond t true old ≡ (old || (t || false))
or_test true true = refl
or_test true false = refl
or_test false true = refl
or_test false false = refl

-- one name is put in
pub gains_one : (key name : List ℕ) (old new : Bool) → new ≡ cond (is_eq (name_cmp key name)) true old → new ≡ (old || is_among (key ∷ []) name)
gains_one key name old new e = e ∙ or_test (is_eq (name_cmp key name)) old ∙ ap (λ t. old || (t || false)) (same_both key name)

or_nothing : (old : Bool) → (old || false) ≡ old
or_nothing true = refl
or_nothing false = refl

or_none : (good old : Bool) → (old || (good && false)) ≡ old
or_none true true = refl
or_none true false = refl
or_none false true = refl
or_none false false = refl

-- a name is put in that passes a test
pub gains_good : (good : List ℕ → Bool) (key name : List ℕ) (old new : Bool) → good key ≡ true → new ≡ cond (is_eq (name_cmp key name)) true old → new ≡ (old || (good name && is_among (key ∷ []) name))
gains_good good key name old new g e =
    ⊎_elim (λ (same : name ≡ key). let here : good name ≡ true = ap good same ∙ g in rw here (gains_one key name old new e))
    (λ ne. rw (order_apart name key ne) (e ∙ rw (order_apart key name (flipped name key ne)) (sym (or_none (good name) old))))
    (cases_name name key)

-- and none where it does not
pub gains_bad : (good : List ℕ → Bool) (key name : List ℕ) (old : Bool) → good key ≡ false → old ≡ (old || (good name && is_among (key ∷ []) name))
gains_bad good key name old b =
    ⊎_elim (λ (same : name ≡ key). let here : good name ≡ false = ap good same ∙ b in rw here (sym (or_nothing old))) (λ ne. rw (order_apart name key ne) (sym (or_none (good name) old))) (cases_name name key)

-- ---- one turn of a loop

three : (old good one rest : Bool) → ((old || (good && (one || false))) || (good && rest)) ≡ (old || (good && (one || rest)))
three true good one rest = refl
three false true true rest = refl
three false true false rest = refl
three false false one rest = refl

-- the name that comes next is put in
pub turn_good : (good : Bool) (key name : List ℕ) (rest : List (List ℕ)) (old new all : Bool) → new ≡ (old || (good && is_among (key ∷ []) name)) → (old || (good && is_among (key ∷ rest) name)) ≡ all → (new || (good && is_among rest name)) ≡ all
turn_good good key name rest old new all e before = rw e (three old good (is_eq (name_cmp name key)) (is_among rest name)) ∙ before

-- those of the next list are
more : (old good one rest : Bool) → ((old || (good && one)) || (good && rest)) ≡ (old || (good && (one || rest)))
more true good one rest = refl
more false true true rest = refl
more false true false rest = refl
more false false one rest = refl

pub turn_more : (good one rest old new all : Bool) → new ≡ (old || (good && one)) → (old || (good && (one || rest))) ≡ all → (new || (good && rest)) ≡ all
turn_more good one rest old new all e before = rw e (more old good one rest) ∙ before

-- nothing is left
pub at_end : (good old all : Bool) → (old || (good && false)) ≡ all → old ≡ all
at_end good old all e = sym (or_none good old) ∙ e

-- ---- tails

or_assoc : (a b c : Bool) → ((a || b) || c) ≡ (a || (b || c))
or_assoc true b c = refl
or_assoc false b c = refl

pub among-append : (xs ys : List (List ℕ)) (name : List ℕ) → is_among (xs ++ ys) name ≡ (is_among xs name || is_among ys name)
among-append [] ys name = refl
among-append (x ∷ xs) ys name = ap (λ t. is_eq (name_cmp name x) || t) (among-append xs ys name) ∙ sym (or_assoc (is_eq (name_cmp name x)) (is_among xs name) (is_among ys name))

pub turn_tail : (tail rest : List (List ℕ)) (name : List ℕ) (old new all : Bool) → new ≡ (old || is_among tail name) → (old || is_among (tail ++ rest) name) ≡ all → (new || is_among rest name) ≡ all
turn_tail tail rest name old new all e before =
    rw e (or_assoc old (is_among tail name) (is_among rest name)) ∙ ap (λ t. old || t) (sym (among-append tail rest name)) ∙ before

pub tails_end : (old all : Bool) → (old || false) ≡ all → old ≡ all
tails_end old all e = sym (or_nothing old) ∙ e

-- ---- all three kinds of names

pub three_kinds : (good keys tails own first second third : Bool) → first ≡ (false || (good && keys)) → second ≡ (first || (good && tails)) → third ≡ (second || (good && own)) → third ≡ (good && (keys || tails || own))
three_kinds true keys tails own first second third a b c = rw (c, b, a) refl
three_kinds false keys tails own first second third a b c = rw (c, b, a) refl

pub any_map : {X Y : Type 0} (p : Y → Bool) (f : X → Y) (xs : List X) → list_any p (map f xs) ≡ list_any (λ x. p (f x)) xs
any_map p f [] = refl
any_map p f (x ∷ xs) = ap (λ rest. p (f x) || rest) (any_map p f xs)
