-- A step of a pointer reaches the member of its name.
use Rattle.std.proofs.Common.{◌≡◌, ◌≢◌, ◌==◌, ◌⊎◌, inl, inr, ℕ, zero, suc, ◌<◌, List, [], ◌∷◌, ◌++◌, get_or, Bool, true, false, Option, Some, None, option_and_then, cond, refl, sym, ap, ◌∙◌, arith, lit<, append-nil, ne_eqb, eqb}
use Rattle.std.proofs.Math.Utf8.{encode}
use Rattle.std.proofs.lemmas.Str.{inside_one}
use Rattle.std.proofs.lemmas.Bool.Decides.{eqb_tells}
use Rattle.serde_json.specs.Data.{Data}
use Rattle.serde_json.specs.Find.{get_member, unescape, step, walk, pointer}
use Rattle.serde_json.proofs.Paths.{Lacks, walk_last}
use Rattle.json_view.specs.Pointer.{escape, escaped, pointer_to, ReachesMember}

-- ---- names as a pointer writes them

escaped_over : (xs rest : List ℕ) → Lacks 126 xs → Lacks 47 xs → escaped (xs ++ rest) ≡ xs ++ escaped rest
escaped_over [] rest no_tilde no_slash = refl
escaped_over (x ∷ xs) rest no_tilde no_slash =
    rw (ne_eqb x 126 (no_tilde 0 (omega arith)), ne_eqb x 47 (no_slash 0 (omega arith)))
    (ap (λ l. x ∷ l) (escaped_over xs rest (λ i less. no_tilde (suc i) (omega arith)) (λ i less. no_slash (suc i) (omega arith))))

-- no byte of a character is another character of ASCII
other_bytes : (c b : ℕ) → b < 128 → c ≢ b → Lacks b (encode c)
other_bytes c b ascii other i less same =
    let low : get_or (encode c) i 0 < 128 = omega arith in
    other (inside_one c [] (encode c) i (sym (append-nil (encode c))) less low ∙ same)

-- a character but `~` and `/` stands as it is
pub escaped_char : (c : ℕ) (rest : List ℕ) → c ≢ 126 → c ≢ 47 → escaped (encode c ++ rest) ≡ encode c ++ escaped rest
escaped_char c rest no_tilde no_slash =
    escaped_over (encode c) rest (other_bytes c 126 (lit< tt) no_tilde) (other_bytes c 47 (lit< tt) no_slash)

-- ---- and back

unescape_plain : (x : ℕ) (rest : List ℕ) → x ≢ 126 → unescape (x ∷ rest) ≡ x ∷ unescape rest
unfolding unescape
unescape_plain x [] no_tilde = refl
unescape_plain x (y ∷ rest) no_tilde = rw (ne_eqb x 126 no_tilde)

lacks_cons : (b x : ℕ) (xs : List ℕ) → x ≢ b → Lacks b xs → Lacks b (x ∷ xs)
lacks_cons b x xs other lacks zero less = other
lacks_cons b x xs other lacks (suc i) less = lacks i (omega arith)

-- of each character of a name
module _ (rest : List ℕ) where
  unescape_one : (x : ℕ) → unescape (escape x ++ rest) ≡ x ∷ unescape rest
  unfolding unescape
  unescape_one x = by_tilde (eqb_tells x 126) where
    by_slash : x ≢ 126 → ((eqb x 47 ≡ true) × (x ≡ 47)) ⊎ ((eqb x 47 ≡ false) × (x ≢ 47)) → unescape (escape x ++ rest) ≡ x ∷ unescape rest
    by_slash other (inl same) = rw same.1 refl
    by_slash other (inr plain) = rw (ne_eqb x 126 other, plain.0) (unescape_plain x rest other)

    by_tilde : ((eqb x 126 ≡ true) × (x ≡ 126)) ⊎ ((eqb x 126 ≡ false) × (x ≢ 126)) → unescape (escape x ++ rest) ≡ x ∷ unescape rest
    by_tilde (inl same) = rw same.1 refl
    by_tilde (inr other) = by_slash other.1 (eqb_tells x 47)

  no_slash_one : (x : ℕ) → Lacks 47 rest → Lacks 47 (escape x ++ rest)
  no_slash_one x lacks = by_tilde (eqb_tells x 126) where
    by_slash : x ≢ 126 → ((eqb x 47 ≡ true) × (x ≡ 47)) ⊎ ((eqb x 47 ≡ false) × (x ≢ 47)) → Lacks 47 (escape x ++ rest)
    by_slash other (inl same) = rw same.1 (lacks_cons 47 126 (49 ∷ rest) (λ e. absurd (omega arith)) (lacks_cons 47 49 rest (λ e. absurd (omega arith)) lacks))
    by_slash other (inr plain) = rw (ne_eqb x 126 other, plain.0) (lacks_cons 47 x rest plain.1 lacks)

    by_tilde : ((eqb x 126 ≡ true) × (x ≡ 126)) ⊎ ((eqb x 126 ≡ false) × (x ≢ 126)) → Lacks 47 (escape x ++ rest)
    by_tilde (inl same) = rw same.1 (lacks_cons 47 126 (48 ∷ rest) (λ e. absurd (omega arith)) (lacks_cons 47 48 rest (λ e. absurd (omega arith)) lacks))
    by_tilde (inr other) = by_slash other.1 (eqb_tells x 47)

pub unescape-escaped : (name : List ℕ) → unescape (escaped name) ≡ name
unfolding unescape
unescape-escaped [] = refl
unescape-escaped (c ∷ name) = unescape_one (escaped name) c ∙ ap (λ l. c ∷ l) (unescape-escaped name)

escaped_lacks_slash : (name : List ℕ) → Lacks 47 (escaped name)
escaped_lacks_slash [] = λ i less. absurd (omega arith)
escaped_lacks_slash (c ∷ name) = no_slash_one (escaped name) c (escaped_lacks_slash name)

-- ---- one more step

module _ (e : List ℕ) (lacks : Lacks 47 e) where
  last_step : (o : Option Data) → option_and_then (walk [] e) o ≡ option_and_then (step e) o
  last_step None = refl
  last_step (Some d) = walk_last e d lacks

  -- after a part, by what the rest finds at each value
  past_part : (rest : List ℕ) → ((d : Data) → walk [] (rest ++ 47 ∷ e) d ≡ option_and_then (step e) (walk [] rest d)) → (o : Option Data)
      → option_and_then (walk [] (rest ++ 47 ∷ e)) o ≡ option_and_then (step e) (option_and_then (walk [] rest) o)
  past_part rest more None = refl
  past_part rest more (Some d) = more d

  either : (slash : Bool) (a b : Option Data) (f g : Option Data) → a ≡ option_and_then (step e) f → b ≡ option_and_then (step e) g → cond slash a b ≡ option_and_then (step e) (cond slash f g)
  either true a b f g p q = p
  either false a b f g p q = q

  walk_more : (rest part : List ℕ) (d : Data) → walk part (rest ++ 47 ∷ e) d ≡ option_and_then (step e) (walk part rest d)
  unfolding walk
  walk_more [] part d = last_step (step part d)
  walk_more (x ∷ rest) part d =
      either (x == 47) _ _ _ _ (past_part rest (walk_more rest []) (step part d)) (walk_more rest (part ++ x ∷ []) d)

  pointer_more : (at : List ℕ) (d : Data) → pointer (at ++ 47 ∷ e) d ≡ option_and_then (step e) (pointer at d)
  pointer_more [] d = walk_last e d lacks
  pointer_more (x ∷ rest) d = either (x == 47) _ _ _ _ (walk_more rest [] d) refl

-- what a longer pointer finds, by what the shorter one does
pub pointer-pointer_to : (at name : List ℕ) (d : Data) → pointer (pointer_to at name) d ≡ option_and_then (step (escaped name)) (pointer at d)
unfolding pointer_to
pointer-pointer_to at name d = pointer_more (escaped name) (escaped_lacks_slash name) at d

pub reaches_member : (at name : List ℕ) → ReachesMember at name (pointer_to at name)
reaches_member at name = record {
  member = λ d members e. pointer-pointer_to at name d ∙ rw e (ap (λ n. get_member n members) (unescape-escaped name));
  nothing = λ d e. pointer-pointer_to at name d ∙ rw e refl;
}
