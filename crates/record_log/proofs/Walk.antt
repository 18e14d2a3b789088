-- Going over frames behind open gates.
use Rattle.std.proofs.Common.{◌≡◌, ◌≢◌, ℕ, zero, suc, ◌+◌, ◌≤◌, true, List, [], ◌∷◌, ◌++◌, length, Some, None, Ok, Err, refl, sym, ◌∙◌, ap, arith, append_assoc, length-append}
use Rattle.std.proofs.lemmas.Bool.{and_parts, ne_eqb}
use Rattle.std.proofs.lemmas.List.{append-nil}
use Rattle.record_log.specs.Kinds.{Entry, has_form, size, text, frame_at}
use Rattle.record_log.specs.Frames.{walk, opened, all_formed}
use Rattle.record_log.specs.Frames.Fault.{Damaged}
use Rattle.record_log.specs.Texts.{length-text}
use Rattle.record_log.proofs.Wide.{again}

pub walk_skip : (before : List Entry) (at n : ℕ) (xs rest : List ℕ) → length xs ≡ n
    → walk before at n (xs ++ rest) ≡ walk before (at + n) 0 rest
walk_skip before at zero [] rest e = ap (λ (k : ℕ). walk before k 0 rest) (omega arith)
walk_skip before at (suc n) [] rest e = absurd (omega arith)
walk_skip before at zero (x ∷ xs) rest e = absurd (omega arith)
walk_skip before at (suc n) (x ∷ xs) rest e = walk_skip before (at + 1) n xs rest (omega arith) ∙ ap (λ (k : ℕ). walk before k 0 rest) (omega arith)

-- the steps of a walk: a gate that is not open, a frame behind an open gate, and an open gate with none behind it
pub walk_closed : (before : List Entry) (at gate : ℕ) (rest : List ℕ) → gate ≢ 1
    → walk before at 0 (gate ∷ rest) ≡ Ok before
walk_closed before at gate rest shut = rw (ne_eqb gate 1 shut) refl

pub walk_found : (before : List Entry) (at : ℕ) (rest : List ℕ) (e : Entry)
    → frame_at before rest ≡ Some e
    → walk before at 0 (1 ∷ rest) ≡ walk (before ++ e ∷ []) (at + 1) (size e) rest
walk_found before at rest e found = rw found refl

pub walk_damaged : (before : List Entry) (at : ℕ) (rest : List ℕ) → frame_at before rest ≡ None
    → walk before at 0 (1 ∷ rest) ≡ Err (Damaged (at + 1))
walk_damaged before at rest none = rw none refl

-- frames behind open gates are read, each behind those before it
pub walk_opened : (fs before : List Entry) (at : ℕ) (rest : List ℕ) → all_formed before fs ≡ true
    → 1 ≤ length rest
    → walk before at 0 (opened fs ++ rest) ≡ walk (before ++ fs) (at + length (opened fs)) 0 rest
walk_opened [] before at rest h more = λ i. walk (sym (append-nil before) i) (at_same i) 0 rest
  where
    at_same : at ≡ at + 0
    at_same = omega arith
walk_opened (e ∷ fs) before at rest h more =
    let parts = and_parts (has_form before e) (all_formed (before ++ e ∷ []) fs) h in
    let behind = opened fs ++ rest in
    let long : 1 ≤ length behind = omega (arith, length-append (opened fs) rest, more) in
    ap (λ (l : List ℕ). walk before at 0 (1 ∷ l)) (append_assoc (text e) (opened fs) rest)
    ∙ walk_found before at (text e ++ behind) e (again before e behind parts.0 long)
    ∙ walk_skip (before ++ e ∷ []) (at + 1) (size e) (text e) behind (length-text e)
    ∙ walk_opened fs (before ++ e ∷ []) (at + 1 + size e) rest parts.1 more
    ∙ (λ i. walk (append_assoc before (e ∷ []) fs i) (at_same i) 0 rest)
  where
    at_same : at + 1 + size e + length (opened fs) ≡ at + length (opened (e ∷ fs))
    at_same = omega (arith, length-append (text e) (opened fs), length-text e)
