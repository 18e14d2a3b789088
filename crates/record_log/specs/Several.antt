-- Several frames appended one after another, for the crates above.
use Rattle.std.proofs.Common.{◌≡◌, inl, inr, ℕ, zero, suc, ◌+◌, ◌≤◌, List, [], ◌∷◌, ◌++◌, length, take, Ok, refl, sym, ◌∙◌, ap, subst, arith, append_assoc, length-append}
use Rattle.std.proofs.lemmas.List.{append-nil, take-append-le}
use Rattle.store_dev.specs.Device.{LeavesOnly}
use Rattle.store_dev.specs.Moments.{leaves_then}
use Rattle.record_log.specs.Kinds.{Entry}
use Rattle.record_log.specs.Frames.{reading, frames_of, IsBeforeOrAfter}
use Rattle.record_log.specs.declared.mark.LogMark.{LogMark}
use Rattle.record_log.specs.Kept.{Kept}

-- the bytes stand for these frames and some of the new ones, from the front
abbrev pub IsBetween : List Entry → List Entry → List ℕ → Type 0
IsBetween es more c = (n : ℕ) × (n ≤ length more) × (reading c ≡ Ok (es ++ take n more))

pub between_none : (es more : List Entry) (c : List ℕ) → reading c ≡ Ok es → IsBetween es more c
between_none es more c is = (0, omega arith, is ∙ ap (λ (l : List Entry). Ok l) (sym (append-nil es)))

pub between_one : (es : List Entry) (e : Entry) (c : List ℕ) → IsBeforeOrAfter es e c
    → IsBetween es (e ∷ []) c
between_one es e c (inl is) = between_none es (e ∷ []) c is
between_one es e c (inr is) = (1, omega arith, is)

-- those in front, where more follow
pub between_front : (es xs ys : List Entry) (c : List ℕ) → IsBetween es xs c
    → IsBetween es (xs ++ ys) c
between_front es xs ys c (n, le, is) = (n, omega (arith, le, length-append xs ys), is ∙ ap (λ (l : List Entry). Ok (es ++ l)) (sym (take-append-le n xs ys le)))

take_behind : (xs ys : List Entry) (k n : ℕ) → k ≡ length xs + n
    → take k (xs ++ ys) ≡ xs ++ take n ys
take_behind [] ys k n is = ap (λ (j : ℕ). take j ys) (omega (arith, is))
take_behind (x ∷ xs) ys zero n is = absurd (omega arith)
take_behind (x ∷ xs) ys (suc k) n is = ap (λ (l : List Entry). x ∷ l) (take_behind xs ys k n (omega arith))

pub between_back : (es xs ys : List Entry) (c : List ℕ) → IsBetween (es ++ xs) ys c
    → IsBetween es (xs ++ ys) c
between_back es xs ys c (n, le, is) = (length xs + n, omega (arith, le, length-append xs ys), is ∙ ap (λ (l : List Entry). Ok l) (append_assoc es xs (take n ys) ∙ ap (λ (l : List Entry). es ++ l) (sym (take_behind xs ys (length xs + n) n refl))))

module _ {D : Type 0} (moment : D → ℕ) (since : D → ℕ → List ℕ → Type 0) where
  -- some frames, and then more behind them
  pub between_then : (a b d : D) (es mid xs ys : List Entry)
      → LeavesOnly moment since a b (IsBetween es xs) → mid ≡ es ++ xs
      → LeavesOnly moment since b d (IsBetween mid ys)
      → LeavesOnly moment since a d (IsBetween es (xs ++ ys))
  between_then a b d es mid xs ys x is y = leaves_then moment since a b d (IsBetween es xs) (IsBetween mid ys) (IsBetween es (xs ++ ys)) x y (between_front es xs ys) (λ c q. between_back es xs ys c (subst (λ (l : List Entry). IsBetween l ys c) is q))

-- each image of a log that is whole stands for its frames
pub images_read : {bytes : List ℕ} {images : List ℕ → Type 0} {mark : LogMark}
    → Kept bytes images mark → (c : List ℕ) → images c → reading c ≡ Ok (frames_of bytes)
images_read kept c now = ap reading (kept.durable c now) ∙ kept.read
