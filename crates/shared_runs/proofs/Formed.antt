-- The frames of bytes that are a store have their forms.
use Rattle.std.proofs.Common.{◌≡◌, ℕ, zero, suc, ◌+◌, Bool, true, false, cond, List, [], ◌∷◌, ◌++◌}
use Rattle.std.proofs.Common.{length, take, drop, Option, Some, None, Result, Ok, Err, refl, subst}
use Rattle.std.specs.Prelude.{◌==◌, nat_lt}
use Rattle.std.specs.Str.{bytes_eq}
use Rattle.std.proofs.lemmas.Bool.{and_from}
use Rattle.record_log.specs.Kinds.{Entry, has_form, size, width_of, body, key_len, value_len}
use Rattle.record_log.specs.Kinds.{entry_in, frame_in, frame_at}
use Rattle.record_log.specs.Frames.{reading, walk, magic, Fault, all_formed}
use Rattle.record_log.specs.Frames.Fault.{NotAStore, Damaged}
use Rattle.record_log.specs.Texts.{formed_append}

some_by : (short fits : Bool) (before : List Entry) (x e : Entry) → has_form before x ≡ fits
    → cond short None (cond fits (Some x) None) ≡ Some e → has_form before e ≡ true
some_by true fits before x e form is = absurd cc
some_by false true before x e form is =
    let same : x ≡ e = cc in
    subst (λ (y : Entry). has_form before y ≡ true) same form
some_by false false before x e form is = absurd cc

found_formed : (before : List Entry) (bytes : List ℕ) (e : Entry) → frame_at before bytes ≡ Some e
    → has_form before e ≡ true
unfolding frame_at frame_in
found_formed before [] e is = absurd cc
found_formed before (kind ∷ tail) e is =
    let w = width_of kind in
    some_by (nat_lt (length (body w tail)) (1 + (key_len w tail + value_len w tail)))
    (has_form before (entry_in w kind tail)) before (entry_in w kind tail) e refl is

abbrev next : List Entry → ℕ → List ℕ → Option Entry → Result (List Entry) Fault
next before at rest o =
    elim o [
      | Some e ↦ walk (before ++ e ∷ []) (at + 1) (size e) rest
      | None ↦ Err
          (Damaged (at + 1))
    ]

next_formed : (before : List Entry) (at : ℕ) (rest : List ℕ) (o : Option Entry) (es : List Entry)
    → all_formed [] before ≡ true → ((e : Entry) → o ≡ Some e → has_form before e ≡ true)
    → ((e : Entry) → all_formed [] (before ++ e ∷ []) ≡ true
    → walk (before ++ e ∷ []) (at + 1) (size e) rest ≡ Ok es → all_formed [] es ≡ true)
    → next before at rest o ≡ Ok es → all_formed [] es ≡ true
next_formed before at rest None es formed form more is = absurd cc
next_formed before at rest (Some e) es formed form more is =
    let one : all_formed before (e ∷ []) ≡ true = and_from _ _ (form e refl) refl in
    more e (formed_append before [] (e ∷ []) formed one) is

gate_formed : (gate : Bool) (before : List Entry) (other : Result (List Entry) Fault)
    (es : List Entry)
    → all_formed [] before ≡ true → (other ≡ Ok es → all_formed [] es ≡ true)
    → cond gate other (Ok before) ≡ Ok es → all_formed [] es ≡ true
gate_formed true before other es formed more is = more is
gate_formed false before other es formed more is =
    let same : before ≡ es = cc in
    subst (λ (l : List Entry). all_formed [] l ≡ true) same formed

walk_formed : (bytes : List ℕ) (before : List Entry) (at skip : ℕ) (es : List Entry)
    → all_formed [] before ≡ true → walk before at skip bytes ≡ Ok es → all_formed [] es ≡ true
walk_formed [] before at zero es formed is =
    let same : before ≡ es = cc in
    subst (λ (l : List Entry). all_formed [] l ≡ true) same formed
walk_formed [] before at (suc skip) es formed is =
    let same : before ≡ es = cc in
    subst (λ (l : List Entry). all_formed [] l ≡ true) same formed
walk_formed (x ∷ rest) before at (suc skip) es formed is =
    walk_formed rest before (at + 1) skip es formed is
walk_formed (gate ∷ rest) before at zero es formed is =
    gate_formed (gate == 1) before (next before at rest (frame_at before rest)) es formed
    (next_formed before at rest (frame_at before rest) es formed (found_formed before rest)
    (λ e more next. walk_formed rest (before ++ e ∷ []) (at + 1) (size e) es more next))
    is

read_by : (long begins : Bool) (bytes : List ℕ) (es : List Entry)
    → cond long (cond begins (walk [] 8 0 (drop 8 bytes)) (Err NotAStore)) (Ok []) ≡ Ok es
    → all_formed [] es ≡ true
read_by true true bytes es is = walk_formed (drop 8 bytes) [] 8 0 es refl is
read_by true false bytes es is = absurd cc
read_by false begins bytes es is =
    let none : [] ≡ es = cc in
    subst (λ (l : List Entry). all_formed [] l ≡ true) none refl

pub read_formed : (bytes : List ℕ) (es : List Entry) → reading bytes ≡ Ok es → all_formed [] es
    ≡ true
unfolding reading
read_formed bytes es is = read_by (nat_lt 9 (length bytes))
    (bytes_eq (take 8 bytes) magic) bytes es is
