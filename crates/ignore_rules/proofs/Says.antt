-- What rules say, from the last of them on, and what the files of a way say, from the deepest on.
use Rattle.std.proofs.Common.{◌≡◌, ◌<◌, ◌+◌, ◌∙◌, ℕ, Bool, true, false, not, List, [], ◌∷◌, ◌++◌, length, take, drop, get_or, ◌==◌, ◌||◌, refl, sym, ap, append_assoc, arith}
use Rattle.std.proofs.lemmas.Bool.Decides.{nat_tests}
use Rattle.std.proofs.lemmas.List.{append-nil, take_more, drop_more, take-append-drop, length-drop}
use Rattle.std.proofs.Math.Seq.{drop-length}
use Rattle.wildcards.specs.Spells.{is_empty}
use Rattle.std.specs.Prelude.{Option, Some, None, nat_lt}
use Rattle.rel_path.specs.Paths.{Path}
use Rattle.ignore_rules.specs.declared.rule.Rule.{Rule}
use Rattle.std.specs.Option.{option_or}
use Rattle.ignore_rules.specs.Ignored.{takes, rule_says, says, verdict, leaves_out, left_out_below}

pub option_or_none : (o : Option Bool) → option_or o None ≡ o
option_or_none None = refl
option_or_none (Some out) = refl

pub option_or_assoc : (a b c : Option Bool) → option_or a (option_or b c) ≡ option_or (option_or a b) c
option_or_assoc None b c = refl
option_or_assoc (Some out) b c = refl

pub says-last : (is_folder : Bool) (below : Path) (rules : List Rule) (rule : Rule) → says is_folder below (rules ++ rule ∷ []) ≡ option_or (rule_says is_folder below rule) (says is_folder below rules)
says-last is_folder below [] rule = sym (option_or_none (rule_says is_folder below rule))
says-last is_folder below (first ∷ rules) rule =
    ap (λ o. option_or o (rule_says is_folder below first)) (says-last is_folder below rules rule)
    ∙ sym (option_or_assoc (rule_says is_folder below rule) (says is_folder below rules) (rule_says is_folder below first))

pub says_taken : (is_folder : Bool) (below : Path) (rules : List Rule) (rule : Rule) → takes is_folder below rule ≡ true → says is_folder below (rules ++ rule ∷ []) ≡ Some (not rule.again)
says_taken is_folder below rules rule e = says-last is_folder below rules rule ∙ rw e refl

pub says_passed : (is_folder : Bool) (below : Path) (rules : List Rule) (rule : Rule) → takes is_folder below rule ≡ false → says is_folder below (rules ++ rule ∷ []) ≡ says is_folder below rules
says_passed is_folder below rules rule e = says-last is_folder below rules rule ∙ rw e refl

-- one file more, above those that say nothing
pub verdict_here : (rules : Path → List Rule) (is_folder : Bool) (above : Path) (name : List ℕ) (below : Path) → verdict rules is_folder (above ++ name ∷ []) below ≡ None → verdict rules is_folder above (name ∷ below) ≡ says is_folder (name ∷ below) (rules above)
unfolding verdict
verdict_here rules is_folder above name below e = rw e refl

-- what the files of a deeper part of the way say, the whole way says
pub verdict_deeper : (rules : Path → List Rule) (is_folder : Bool) (out : Bool) (above front below : Path) → verdict rules is_folder (above ++ front) below ≡ Some out → verdict rules is_folder above (front ++ below) ≡ Some out
unfolding verdict
verdict_deeper rules is_folder out above [] below e = rw append-nil at e
verdict_deeper rules is_folder out above (name ∷ front) below e =
    let deeper = verdict_deeper rules is_folder out (above ++ name ∷ []) front below (rw (append_assoc above (name ∷ []) front) e) in
    rw deeper refl

-- the file at one depth of the way, where those below it say nothing
pub verdict_at : (rules : Path → List Rule) (is_folder : Bool) (path : Path) (depth : ℕ) → depth < length path → verdict rules is_folder (take (depth + 1) path) (drop (depth + 1) path) ≡ None → verdict rules is_folder (take depth path) (drop depth path) ≡ says is_folder (drop depth path) (rules (take depth path))
verdict_at rules is_folder path depth lt e =
    let name = get_or path depth [] in
    let here = verdict_here rules is_folder (take depth path) name (drop (depth + 1) path) (rw (take_more path depth [] lt) at e) in
    rw (drop_more path depth [] lt) here

-- the whole way, where the files of a part of it say something
pub verdict_whole : (rules : Path → List Rule) (is_folder : Bool) (out : Bool) (path : Path) (depth : ℕ) → verdict rules is_folder (take depth path) (drop depth path) ≡ Some out → leaves_out rules is_folder path ≡ out
unfolding leaves_out
verdict_whole rules is_folder out path depth e =
    let whole = rw (take-append-drop depth path) at (verdict_deeper rules is_folder out [] (take depth path) (drop depth path) e) in
    rw whole refl

pub verdict_end : (rules : Path → List Rule) (is_folder : Bool) (path : Path) → verdict rules is_folder (take (length path) path) (drop (length path) path) ≡ None
unfolding verdict
verdict_end rules is_folder path = rw (drop-length path) refl

pub verdict_none : (rules : Path → List Rule) (is_folder : Bool) (path : Path) (depth : ℕ) → depth ≡ 0 → verdict rules is_folder (take depth path) (drop depth path) ≡ None → leaves_out rules is_folder path ≡ false
unfolding leaves_out
verdict_none rules is_folder path depth z e = let none : verdict rules is_folder [] path ≡ None = rw z at e in rw none refl

-- ---- the folders on the way

is_empty_length : (xs : Path) → is_empty xs ≡ (length xs == 0)
is_empty_length [] = refl
is_empty_length (x ∷ xs) = grind (arith, nat_tests)

pub more_behind : (path : Path) (end : ℕ) → nat_lt end (length path) ≡ not (is_empty (drop end path))
more_behind path end = rw (is_empty_length (drop end path), length-drop end path) (grind (arith, nat_tests))

pub left_out_at : (rules : Path → List Rule) (path : Path) (end : ℕ) → end < length path → left_out_below rules (take end path) (drop end path) ≡ (leaves_out rules (nat_lt (end + 1) (length path)) (take (end + 1) path) || left_out_below rules (take (end + 1) path) (drop (end + 1) path))
unfolding left_out_below
left_out_at rules path end lt = rw (more_behind path (end + 1), take_more path end [] lt, drop_more path end [] lt) refl
