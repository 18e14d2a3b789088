-- Lists of marks and bytes by their last element.
use Rattle.std.proofs.Common.{◌≡◌, ◌==◌, ◌∙◌, ℕ, Bool, true, false, List, [], ◌∷◌, ◌++◌, refl, ap, cond}
use Rattle.glob_syntax.specs.declared.mark.Mark.{Mark}
use Rattle.glob_syntax.specs.Characters.{space, carriage_return}
use Rattle.glob_syntax.specs.Marks.{is_plain}
use Rattle.ignore_rules.specs.Marks.{ends_in, front_of, trim_onto, trimmed}
use Rattle.ignore_rules.specs.Lines.{without_return}

pub ends_in-last : (test : Mark → Bool) (front : List Mark) (last : Mark) → ends_in test (front ++ last ∷ []) ≡ test last
ends_in-last test [] last = refl
ends_in-last test (m ∷ []) last = refl
ends_in-last test (m ∷ n ∷ ms) last = ends_in-last test (n ∷ ms) last

pub front_of-last : (front : List Mark) (last : Mark) → front_of (front ++ last ∷ []) ≡ front
front_of-last [] last = refl
front_of-last (m ∷ []) last = refl
front_of-last (m ∷ n ∷ ms) last = ap (λ (rest : List Mark). m ∷ rest) (front_of-last (n ∷ ms) last)

pub trimmed-space : (front : List Mark) (last : Mark) → is_plain space last ≡ true → trimmed (front ++ last ∷ []) ≡ trimmed front
trimmed-space [] last e = rw e refl
trimmed-space (m ∷ ms) last e = ap (trim_onto m) (trimmed-space ms last e)

pub trimmed-other : (front : List Mark) (last : Mark) → is_plain space last ≡ false → trimmed (front ++ last ∷ []) ≡ front ++ last ∷ []
trimmed-other [] last e = rw e refl
trimmed-other (m ∷ []) last e = rw e refl
trimmed-other (m ∷ n ∷ ms) last e = ap (trim_onto m) (trimmed-other (n ∷ ms) last e)

pub without_return-last : (front : List ℕ) (last : ℕ) → without_return (front ++ last ∷ []) ≡ cond (last == carriage_return) front (front ++ last ∷ [])
without_return-last [] last = refl
without_return-last (b ∷ []) last = pull (last == carriage_return)
  where
    pull : (r : Bool) → b ∷ cond r [] (last ∷ []) ≡ cond r (b ∷ []) (b ∷ last ∷ [])
    pull true = refl
    pull false = refl
without_return-last (b ∷ c ∷ bs) last = ap (λ (rest : List ℕ). b ∷ rest) (without_return-last (c ∷ bs) last) ∙ pull (last == carriage_return)
  where
    pull : (r : Bool) → b ∷ cond r (c ∷ bs) ((c ∷ bs) ++ last ∷ []) ≡ cond r (b ∷ c ∷ bs) ((b ∷ c ∷ bs) ++ last ∷ [])
    pull true = refl
    pull false = refl
