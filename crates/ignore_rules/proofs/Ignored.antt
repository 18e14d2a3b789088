-- The tests of what is ignored decide the relations.
use Rattle.std.proofs.Common.{◌≡◌, ◌<◌, ◌≤◌, ◌↔◌, ◌∙◌, ◌||◌, ℕ, suc, zero, Bool, true, false, not, cond, List, [], ◌∷◌, ◌++◌, length, take, map, refl, sym, ap, append_assoc, arith, IsTrue, ⊎_elim}
use Rattle.std.specs.Prelude.{Any, Option, Some, None, unwrap_or, nat_lt}
use Rattle.std.specs.List.{list_any}
use Rattle.std.proofs.lemmas.Bool.{false≢true, not-true, or_cases, or_left, or_right, or_parts, false_from_ne_true}
use Rattle.std.proofs.lemmas.Bool.Decides.{nat_tests}
use Rattle.std.proofs.lemmas.List.Folds.{Any-from_list_any, list_any-from_Any}
use Rattle.rel_path.specs.Paths.{Path}
use Rattle.wildcards.specs.Spells.{is_empty}
use Rattle.wildcards.proofs.Decides.{and_decides}
use Rattle.ignore_rules.specs.declared.rule.Rule.{Rule}
use Rattle.glob_syntax.specs.Match.{spells_path}
use Rattle.std.specs.Option.{option_or}
use Rattle.ignore_rules.specs.Ignored.{reached, takes, rule_says, says, verdict, leaves_out, left_out_below, is_ignored, Takes, rules_above, LeftOut, Ignored}
use Rattle.glob_syntax.proofs.Matching.{spells_path_decides}
use Rattle.ignore_rules.proofs.Says.{option_or_none, option_or_assoc, more_behind}

-- ---- one rule

unless : (only is_folder : Bool) → IsTrue (not only || is_folder) ↔ (only ≡ true → is_folder ≡ true)
unless true is_folder = (λ t e. t, λ h. h refl)
unless false is_folder = (λ t e. absurd (false≢true e), λ h. refl)

takes_decides : (is_folder : Bool) (below : Path) (rule : Rule) → IsTrue (takes is_folder below rule) ↔ Takes is_folder below rule
takes_decides is_folder below rule = and_decides (not rule.folders_only || is_folder) (spells_path rule.parts (reached rule.anchored below)) (unless rule.folders_only is_folder) (spells_path_decides rule.parts (reached rule.anchored below))

-- ---- rules one after another

abbrev Entry : Type 0
Entry = Rule × Path

abbrev takes_entry : Bool → Entry → Bool
takes_entry is_folder entry = takes is_folder entry.1 entry.0

abbrev some_takes : Bool → List Entry → Bool
some_takes is_folder entries = list_any (takes_entry is_folder) entries

some_takes_decides : (is_folder : Bool) (entries : List Entry) → IsTrue (some_takes is_folder entries) ↔ Any (λ entry. Takes is_folder entry.1 entry.0) entries
some_takes_decides is_folder entries = (
  λ t. let a = Any-from_list_any (takes_entry is_folder) entries t in (a.0, a.1, a.2, a.3, (takes_decides is_folder a.1.1 a.1.0).0 a.4),
  λ a. list_any-from_Any (takes_entry is_folder) entries (a.0, a.1, a.2, a.3, (takes_decides is_folder a.1.1 a.1.0).1 a.4),
)

-- what the last of the rules says that takes the path
abbrev entries_say : Bool → List Entry → Option Bool
entries_say is_folder [] = None
entries_say is_folder (entry ∷ entries) = option_or (entries_say is_folder entries) (rule_says is_folder entry.1 entry.0)

say_append : (is_folder : Bool) (xs ys : List Entry) → entries_say is_folder (xs ++ ys) ≡ option_or (entries_say is_folder ys) (entries_say is_folder xs)
say_append is_folder [] ys = sym (option_or_none (entries_say is_folder ys))
say_append is_folder (x ∷ xs) ys =
    ap (λ o. option_or o (rule_says is_folder x.1 x.0)) (say_append is_folder xs ys)
    ∙ sym (option_or_assoc (entries_say is_folder ys) (entries_say is_folder xs) (rule_says is_folder x.1 x.0))

say_map : (is_folder : Bool) (below : Path) (rules : List Rule) → entries_say is_folder (map (λ rule. (rule, below)) rules) ≡ says is_folder below rules
say_map is_folder below [] = refl
say_map is_folder below (rule ∷ rules) = ap (λ o. option_or o (rule_says is_folder below rule)) (say_map is_folder below rules)

verdict_says : (rules : Path → List Rule) (is_folder : Bool) (above below : Path) → verdict rules is_folder above below ≡ entries_say is_folder (rules_above rules above below)
unfolding verdict rules_above
verdict_says rules is_folder above [] = refl
verdict_says rules is_folder above (name ∷ below) =
    rw (say_append is_folder (map (λ rule. (rule, name ∷ below)) (rules above)) (rules_above rules (above ++ name ∷ []) below), say_map is_folder (name ∷ below) (rules above), verdict_says rules is_folder (above ++ name ∷ []) below) refl

nothing_said : (o : Option Bool) (t out : Bool) → option_or o (cond t (Some out) None) ≡ None → (o ≡ None) × (t ≡ false)
nothing_said None true out e = cc
nothing_said None false out e = (refl, refl)
nothing_said (Some other) t out e = cc

say_none : (is_folder : Bool) (entries : List Entry) → entries_say is_folder entries ≡ None → some_takes is_folder entries ≡ false
say_none is_folder [] e = refl
say_none is_folder (x ∷ xs) e =
    let both = nothing_said (entries_say is_folder xs) (takes is_folder x.1 x.0) (not x.0.again) e in
    rw (both.1, say_none is_folder xs both.0) refl

none_say : (is_folder : Bool) (entries : List Entry) → some_takes is_folder entries ≡ false → entries_say is_folder entries ≡ None
none_say is_folder [] e = refl
none_say is_folder (x ∷ xs) e =
    let both = or_parts (takes is_folder x.1 x.0) (some_takes is_folder xs) e in
    rw (none_say is_folder xs both.1, both.0) refl

-- ---- the last that takes the path

out_only : (t again : Bool) → unwrap_or (cond t (Some (not again)) None) false ≡ true → (t ≡ true) × (again ≡ false)
out_only true again e = (refl, not-true again e)
out_only false again e = absurd (false≢true e)

left_out_in : (is_folder : Bool) (entries : List Entry) → unwrap_or (entries_say is_folder entries) false ≡ true → LeftOut is_folder entries
left_out_in is_folder [] e = absurd (false≢true e)
left_out_in is_folder (x ∷ xs) e = by (entries_say is_folder xs) refl e (left_out_in is_folder xs)
  where
    by : (o : Option Bool) → entries_say is_folder xs ≡ o → unwrap_or (option_or o (rule_says is_folder x.1 x.0)) false ≡ true → (unwrap_or (entries_say is_folder xs) false ≡ true → LeftOut is_folder xs) → LeftOut is_folder (x ∷ xs)
    by (Some out) h e later =
        let rest = later (rw h e) in
        record { before = x ∷ rest.before; rule = rest.rule; below = rest.below; after = rest.after; stands = ap (λ (entries : List Entry). x ∷ entries) rest.stands; taken = rest.taken; out = rest.out; last = rest.last }
    by None h e later =
        let only = out_only (takes is_folder x.1 x.0) x.0.again e in
        record { before = []; rule = x.0; below = x.1; after = xs; stands = refl; taken = (takes_decides is_folder x.1 x.0).0 only.0; out = only.1; last = λ any. false≢true (sym (say_none is_folder xs h) ∙ (some_takes_decides is_folder xs).1 any) }

left_out_back : (is_folder : Bool) (entries : List Entry) → LeftOut is_folder entries → unwrap_or (entries_say is_folder entries) false ≡ true
left_out_back is_folder entries h =
    let none = none_say is_folder h.after (false_from_ne_true (some_takes is_folder h.after) (λ t. h.last ((some_takes_decides is_folder h.after).0 t))) in
    let taken = (takes_decides is_folder h.below h.rule).1 h.taken in
    let here : entries_say is_folder ((h.rule, h.below) ∷ h.after) ≡ Some true = rw (none, taken, h.out) refl in
    rw (h.stands, say_append is_folder h.before ((h.rule, h.below) ∷ h.after), here) refl

leaves_out_decides : (rules : Path → List Rule) (is_folder : Bool) (path : Path) → IsTrue (leaves_out rules is_folder path) ↔ LeftOut is_folder (rules_above rules [] path)
unfolding leaves_out
leaves_out_decides rules is_folder path = rw (verdict_says rules is_folder [] path) (left_out_in is_folder (rules_above rules [] path), left_out_back is_folder (rules_above rules [] path))

-- ---- the folders on the way

abbrev SomeFront : (Path → List Rule) → Path → Path → Type 0
SomeFront rules above below = (n : ℕ) × (0 < n) × (n ≤ length below) × IsTrue (leaves_out rules (nat_lt n (length below)) (above ++ take n below))

shorter : (n m : ℕ) → nat_lt (suc n) (suc m) ≡ nat_lt n m
shorter n m = grind (arith, nat_tests)

first_front : (rules : Path → List Rule) (above : Path) (name : List ℕ) (below : Path) → leaves_out rules (nat_lt 1 (length (name ∷ below))) (above ++ take 1 (name ∷ below)) ≡ leaves_out rules (not (is_empty below)) (above ++ name ∷ [])
first_front rules above name below = ap (λ folder. leaves_out rules folder (above ++ name ∷ [])) (more_behind (name ∷ below) 1)

later_front : (rules : Path → List Rule) (above : Path) (name : List ℕ) (below : Path) (n : ℕ) → leaves_out rules (nat_lt (suc n) (length (name ∷ below))) (above ++ take (suc n) (name ∷ below)) ≡ leaves_out rules (nat_lt n (length below)) ((above ++ name ∷ []) ++ take n below)
later_front rules above name below n = rw (shorter n (length below), append_assoc above (name ∷ []) (take n below)) refl

way_in : (rules : Path → List Rule) (above below : Path) → left_out_below rules above below ≡ true → SomeFront rules above below
unfolding left_out_below
way_in rules above [] e = absurd (false≢true e)
way_in rules above (name ∷ below) e =
    ⊎_elim
    (λ here. (1, omega arith, omega arith, first_front rules above name below ∙ here))
    (λ later. let rest = way_in rules (above ++ name ∷ []) below later in (suc rest.0, omega arith, omega (arith, rest.2), later_front rules above name below rest.0 ∙ rest.3))
    (or_cases (leaves_out rules (not (is_empty below)) (above ++ name ∷ [])) (left_out_below rules (above ++ name ∷ []) below) e)

way_back : (rules : Path → List Rule) (above below : Path) → (n : ℕ) → 0 < n → n ≤ length below → leaves_out rules (nat_lt n (length below)) (above ++ take n below) ≡ true → left_out_below rules above below ≡ true
unfolding left_out_below
way_back rules above [] n some le e = absurd (omega arith)
way_back rules above (name ∷ below) zero some le e = absurd (omega arith)
way_back rules above (name ∷ below) (suc zero) some le e = or_left (leaves_out rules (not (is_empty below)) (above ++ name ∷ [])) (left_out_below rules (above ++ name ∷ []) below) (sym (first_front rules above name below) ∙ e)
way_back rules above (name ∷ below) (suc (suc n)) some le e = or_right (leaves_out rules (not (is_empty below)) (above ++ name ∷ [])) (left_out_below rules (above ++ name ∷ []) below) (way_back rules (above ++ name ∷ []) below (suc n) (omega arith) (omega arith) (sym (later_front rules above name below (suc n)) ∙ e))

pub ignored_decides : (rules : Path → List Rule) (path : Path) → IsTrue (is_ignored rules path) ↔ Ignored rules path
unfolding is_ignored Ignored
ignored_decides rules path = (
  λ t. let front = way_in rules [] path t in (front.0, front.1, front.2, (leaves_out_decides rules (nat_lt front.0 (length path)) (take front.0 path)).0 front.3),
  λ h. way_back rules [] path h.0 h.1 h.2 ((leaves_out_decides rules (nat_lt h.0 (length path)) (take h.0 path)).1 h.3),
)
