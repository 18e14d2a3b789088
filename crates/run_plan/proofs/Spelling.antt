-- Names of log files.
use Rattle.std.proofs.Common.{◌≡◌, ◌≢◌, ℕ, suc, ◌<◌, ◌==◌, List, [], ◌∷◌, ◌++◌, get_or, length, Bool, false, refl, sym, ap, ◌∙◌, arith, lit<, append-nil, inl, inr}
use Rattle.std.specs.Prelude.{IsTrue, codes}
use Rattle.std.specs.List.{list_any}
use Rattle.std.proofs.lemmas.Bool.{cases_Bool, ne_eqb}
use Rattle.std.proofs.Math.Utf8.{encode}
use Rattle.std.proofs.lemmas.Str.{inside_one}
use Rattle.rel_path.specs.Paths.{is_slash, is_component}
use Rattle.run_laws.specs.Plans.{spelled, log_name}

-- the byte is none of these
abbrev Lacks : ℕ → List ℕ → Type 0
Lacks b xs = (i : ℕ) → i < length xs → get_or xs i 0 ≢ b

spelled_over : (xs rest : List ℕ) → Lacks 58 xs → Lacks 47 xs → spelled (xs ++ rest) ≡ xs ++ spelled rest
spelled_over [] rest no_colon no_slash = refl
spelled_over (x ∷ xs) rest no_colon no_slash =
    rw (ne_eqb x 58 (no_colon 0 (omega arith)), ne_eqb x 47 (no_slash 0 (omega arith)))
    (ap (λ l. x ∷ l) (spelled_over xs rest (λ i less. no_colon (suc i) (omega arith)) (λ i less. no_slash (suc i) (omega arith))))

-- no byte of a character is another character of ASCII
other_bytes : (c b : ℕ) → b < 128 → c ≢ b → Lacks b (encode c)
other_bytes c b ascii other i less same =
    let low : get_or (encode c) i 0 < 128 = omega arith in
    other (inside_one c [] (encode c) i (sym (append-nil (encode c))) less low ∙ same)

-- a character but `:` and `/` stands as it is
pub spelled_char : (c : ℕ) (rest : List ℕ) → c ≢ 58 → c ≢ 47 → spelled (encode c ++ rest) ≡ encode c ++ spelled rest
spelled_char c rest no_colon no_slash = spelled_over (encode c) rest (other_bytes c 58 (lit< tt) no_colon) (other_bytes c 47 (lit< tt) no_slash)

any-append : (t : ℕ → Bool) (xs ys : List ℕ) → list_any t xs ≡ false → list_any t ys ≡ false → list_any t (xs ++ ys) ≡ false
any-append t [] ys e f = f
any-append t (x ∷ xs) ys e f = elim (cases_Bool (t x)) [ inl h ↦ absurd (grind (arith)) | inr h ↦ rw h (any-append t xs ys (rw h at e) f) ]

no-slash : (task : List ℕ) → list_any is_slash (spelled task) ≡ false
no-slash [] = refl
no-slash (b ∷ bs) =
    elim (cases_Bool (b == 58)) [
      | inl h ↦ rw h (no-slash bs)
      | inr h ↦ rw h (elim (cases_Bool (b == 47)) [ inl k ↦ rw k (no-slash bs) | inr k ↦ rw (k, k) (no-slash bs) ])
    ]

-- the name of a log file is a component
pub log-component : (task : List ℕ) → IsTrue (is_component (log_name task))
log-component task =
    let some : (length (log_name task) == 0) ≡ false = ne_eqb (length (log_name task)) 0 (λ e. absurd (omega arith)) in
    rw (some, any-append is_slash (spelled task) (codes ".log") (no-slash task) refl) refl
