-- The parts of a text, the text of the parts, and what lies below a folder.
use Rattle.std.proofs.Common.{◌≡◌, ◌≢◌, ◌==◌, ◌<◌, ◌+◌, ◌||◌, ◌&&◌, ℕ, Bool, true, false, cond, List, [], ◌∷◌, ◌++◌, length, get_or, take, drop, Option, Some, None, refl, sym, ◌∙◌, ap, arith, length-append, append_assoc, nat_eq}
use Rattle.std.specs.Prelude.{⊤, is_none}
use Rattle.std.specs.List.{onto_first, list_any, list_all, join_with_byte, starts_with}
use Rattle.std.specs.Cmp.Lexicographic.{pointwise}
use Rattle.std.proofs.lemmas.Slice.Eq.{starts_is, bytes_eq-Decides}
use Rattle.std.proofs.lemmas.Bool.Decides.{nat_tests}
use Rattle.std.proofs.lemmas.List.{take_more, drop_more, length-take}
use Rattle.rel_path.specs.declared.error.PathErr.{PathErr}
use Rattle.rel_path.specs.declared.error.PathErr.TheVariants.{Empty, DotPart, Slash}
use Rattle.rel_path.specs.Paths.{is_slash, is_dots, part_fault, or_later, first_fault, parts_of, text_fault, name_fault, MayRefuse, AreNames, IsBelow, is_component}

-- the test of a list of names, taken apart and put together
none_so : (o : Option PathErr) → is_none o ≡ true → o ≡ None
none_so None e = refl
none_so (Some fault) e = cc

both_so : (a b : Bool) → (a && b) ≡ true → (a ≡ true) × (b ≡ true)
both_so true b e = (refl, e)
both_so false b e = cc

pub names-apart : (name : List ℕ) (names : List (List ℕ)) → AreNames (name ∷ names) → (name_fault name ≡ None) × AreNames names
names-apart name names h =
    let both = both_so (is_component name) (list_all is_component names) h in
    (none_so (name_fault name) both.0, both.1)

pub names-together : (name : List ℕ) (names : List (List ℕ)) → name_fault name ≡ None → AreNames names → AreNames (name ∷ names)
names-together name names e h = rw (e, h) refl

-- no part has a slash
abbrev pub NoSlashes : List (List ℕ) → Type 0
NoSlashes [] = ⊤
NoSlashes (part ∷ parts) = (list_any is_slash part ≡ false) × NoSlashes parts

onto_first-NoSlashes : (b : ℕ) (parts : List (List ℕ)) → is_slash b ≡ false → NoSlashes parts → NoSlashes (onto_first b parts)
onto_first-NoSlashes b [] e h = (rw e refl, tt)
onto_first-NoSlashes b (part ∷ parts) e h = (rw e h.0, h.1)

split_step : (b : ℕ) (parts : List (List ℕ)) (s : Bool) → is_slash b ≡ s → NoSlashes parts → NoSlashes (cond s ([] ∷ parts) (onto_first b parts))
split_step b parts true e h = (refl, h)
split_step b parts false e h = onto_first-NoSlashes b parts e h

pub parts_of-NoSlashes : (text : List ℕ) → NoSlashes (parts_of text)
parts_of-NoSlashes [] = (refl, tt)
parts_of-NoSlashes (b ∷ bs) = split_step b (parts_of bs) (is_slash b) refl (parts_of-NoSlashes bs)

or_later-None : (first later : Option PathErr) → or_later first later ≡ None → (first ≡ None) × (later ≡ None)
or_later-None None later e = (refl, e)
or_later-None (Some fault) later e = cc

-- the tests of a part and of a name agree, but for the slash
name_from_part : (dots empty slash : Bool) → cond dots (Some DotPart) (cond empty (Some Slash) None) ≡ None → slash ≡ false → cond empty (Some Empty) (cond dots (Some DotPart) (cond slash (Some Slash) None)) ≡ None
name_from_part true empty slash e h = cc
name_from_part false true slash e h = cc
name_from_part false false slash e h = rw h refl

part_from_name : (dots empty slash : Bool) → cond empty (Some Empty) (cond dots (Some DotPart) (cond slash (Some Slash) None)) ≡ None → (cond dots (Some DotPart) (cond empty (Some Slash) None) ≡ None) × (slash ≡ false)
part_from_name dots true slash e = cc
part_from_name true false slash e = cc
part_from_name false false true e = cc
part_from_name false false false e = (refl, refl)

-- parts with no slash and no fault are names
pub AreNames-from_parts : (parts : List (List ℕ)) → NoSlashes parts → first_fault parts ≡ None → AreNames parts
AreNames-from_parts [] h e = refl
AreNames-from_parts (part ∷ parts) h e =
    let both = or_later-None (part_fault part) (first_fault parts) e in
    names-together part parts (name_from_part (is_dots part) (length part == 0) (list_any is_slash part) both.0 h.0) (AreNames-from_parts parts h.1 both.1)

-- names have no fault as parts, and no slash
pub names-first_fault : (names : List (List ℕ)) → AreNames names → first_fault names ≡ None
names-first_fault [] h = refl
names-first_fault (name ∷ names) h =
    let apart = names-apart name names h in
    let p = part_from_name (is_dots name) (length name == 0) (list_any is_slash name) apart.0 in
    rw p.0 (names-first_fault names apart.1)

no_slash : (name : List ℕ) → name_fault name ≡ None → list_any is_slash name ≡ false
no_slash name e = (part_from_name (is_dots name) (length name == 0) (list_any is_slash name) e).1

either_false : (a b : Bool) → (a || b) ≡ false → (a ≡ false) × (b ≡ false)
either_false true b e = cc
either_false false b e = (refl, e)

-- the first part ends at the first slash
split_at_slash : (part rest : List ℕ) → list_any is_slash part ≡ false → parts_of (part ++ 47 ∷ rest) ≡ part ∷ parts_of rest
split_at_slash [] rest e = refl
split_at_slash (b ∷ bs) rest e =
    let both = either_false (is_slash b) (list_any is_slash bs) e in
    rw (both.0, split_at_slash bs rest both.1) refl

split_none : (part : List ℕ) → list_any is_slash part ≡ false → parts_of part ≡ part ∷ []
split_none [] e = refl
split_none (b ∷ bs) e =
    let both = either_false (is_slash b) (list_any is_slash bs) e in
    rw (both.0, split_none bs both.1) refl

pub parts_of-join : (name : List ℕ) (names : List (List ℕ)) → AreNames (name ∷ names) → parts_of (join_with_byte 47 (name ∷ names)) ≡ name ∷ names
parts_of-join name [] h = split_none name (no_slash name (names-apart name [] h).0)
parts_of-join name (next ∷ names) h =
    let apart = names-apart name (next ∷ names) h in
    split_at_slash name _ (no_slash name apart.0) ∙ ap (λ ps. name ∷ ps) (parts_of-join next names apart.1)

not_empty : (empty : Bool) (later : Option PathErr) → cond empty (Some Empty) later ≡ None → empty ≡ false
not_empty true later e = cc
not_empty false later e = refl

joined_some : (name : List ℕ) (names : List (List ℕ)) → AreNames (name ∷ names) → (length (join_with_byte 47 (name ∷ names)) == 0) ≡ false
joined_some name [] h = not_empty (length name == 0) _ (names-apart name [] h).0
joined_some name (next ∷ names) h = grind (arith, nat_tests, length-append)

-- the text of a path is not refused
pub text_fault-join : (name : List ℕ) (names : List (List ℕ)) → AreNames (name ∷ names) → text_fault (join_with_byte 47 (name ∷ names)) ≡ None
text_fault-join name names h = rw (joined_some name names h, parts_of-join name names h) (names-first_fault (name ∷ names) h)

pub join-push : (names : List (List ℕ)) (name : List ℕ) → names ≢ [] → join_with_byte 47 (names ++ name ∷ []) ≡ join_with_byte 47 names ++ 47 ∷ name
join-push [] name n = absurd (n refl)
join-push (x ∷ []) name n = refl
join-push (x ∷ y ∷ names) name n = rw (join-push (y ∷ names) name (λ e. cc)) (sym (append_assoc x _ _))

pub AreNames-push : (names : List (List ℕ)) (name : List ℕ) → AreNames names → name_fault name ≡ None → AreNames (names ++ name ∷ [])
AreNames-push [] name h e = names-together name [] e refl
AreNames-push (x ∷ names) name h e =
    let apart = names-apart x names h in
    names-together x (names ++ name ∷ []) apart.0 (AreNames-push names name apart.1 e)

pub AreNames-child : (names : List (List ℕ)) (name : List ℕ) → AreNames names → is_component name ≡ true → AreNames (names ++ name ∷ [])
AreNames-child names name h e = AreNames-push names name h (none_so (name_fault name) e)

IsBelow-from_rest : (path folder rest : List (List ℕ)) → length folder < length path → path ≡ folder ++ rest → IsBelow path folder
IsBelow-from_rest path folder [] lt e = absurd (omega (arith, ap length e, length-append folder []))
IsBelow-from_rest path folder (name ∷ names) lt e = (name, names, e)

-- what `starts_with` says of two paths
pub below_is : (path folder : List (List ℕ)) (r : Bool) → r ≡ starts_with (pointwise nat_eq) path folder → length folder < length path → (r ≡ true → IsBelow path folder) × (IsBelow path folder → r ≡ true)
below_is path folder r e lt =
    let s = starts_is bytes_eq-Decides path folder r e in
    (λ t. IsBelow-from_rest path folder (drop (length folder) path) lt (s.0 t), λ b. s.1 (b.0 ∷ b.1) b.2)

-- one turn of a loop over the list: the item is the next one
pub turn : {X : Type 0} (all : List X) (n : ℕ) (x : X) → (n < length all) × (x ≡ get_or all n x) → (take (n + 1) all ≡ take n all ++ x ∷ []) × (drop n all ≡ x ∷ drop (n + 1) all)
turn all n x h =
    let e = sym h.1 in
    (take_more all n x h.0 ∙ ap (λ y. take n all ++ y ∷ []) e, drop_more all n x h.0 ∙ ap (λ y. y ∷ drop (n + 1) all) e)

-- the first component, and one more component with the slash in front of it
pub join-first : (all : List (List ℕ)) (n : ℕ) (name : List ℕ) → take (n + 1) all ≡ take n all ++ name ∷ [] → n ≡ 0 → join_with_byte 47 (take (n + 1) all) ≡ name
join-first all n name e z = rw (e, z) refl

pub join-more : (all : List (List ℕ)) (n : ℕ) (name : List ℕ) → take (n + 1) all ≡ take n all ++ name ∷ [] → n < length all → 0 < n → join_with_byte 47 (take (n + 1) all) ≡ join_with_byte 47 (take n all) ++ 47 ∷ name
join-more all n name e lt some = rw e (join-push (take n all) name (λ q. absurd (omega (arith, ap length q, length-take n all))))

-- a path that is not the root reads back from its text
pub text-reads_back : (names : List (List ℕ)) (text : List ℕ) → AreNames names → text ≡ join_with_byte 47 names → names ≢ [] → (text_fault text ≡ None) × (parts_of text ≡ names)
text-reads_back [] text h e n = absurd (n refl)
text-reads_back (name ∷ names) text h e n = rw e (text_fault-join name names h, parts_of-join name names h)

pub read-AreNames : (text : List ℕ) → first_fault (parts_of text) ≡ None → AreNames (parts_of text)
read-AreNames text e = AreNames-from_parts (parts_of text) (parts_of-NoSlashes text) e

-- the fault of a text is that of its parts from n on, which begins with a bad one
pub fault_found : (text part : List ℕ) (fault : PathErr) (later : List (List ℕ)) → (length text == 0) ≡ false → first_fault (parts_of text) ≡ first_fault (part ∷ later) → part_fault part ≡ Some fault → text_fault text ≡ Some fault
fault_found text part fault later some e f = rw (some, e, f) refl

-- a fault is no want of memory
pub MayRefuse-part : (part : List ℕ) (fault : PathErr) (whole : Option PathErr) → part_fault part ≡ Some fault → whole ≡ Some fault → MayRefuse whole fault
MayRefuse-part part fault whole p w = by_tests (is_dots part) (length part == 0) p
  where
    by_tests : (dots empty : Bool) → cond dots (Some DotPart) (cond empty (Some Slash) None) ≡ Some fault → MayRefuse whole fault
    by_tests true empty e = let same : DotPart ≡ fault = cc in rw (← same) (rw w (rw (← same) refl))
    by_tests false true e = let same : Slash ≡ fault = cc in rw (← same) (rw w (rw (← same) refl))
    by_tests false false e = cc
