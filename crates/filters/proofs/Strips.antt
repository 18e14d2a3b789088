-- What a strip at the front or at the end of a text tells.
use Rattle.std.proofs.Common.{◌≡◌, ℕ, Bool, true, false, List, ◌++◌, ◌-◌, length, take, drop, eqb, refl, sym, Option, Some, None, Bor}
use Rattle.std.specs.Option.{MatchOption, option_copied}
use Rattle.std.specs.List.{starts_with, ends_with}
use Rattle.std.specs.Str.Pattern.{FindsTextPrefix, FindsTextSuffix, StripsPrefix, StripsSuffix}
use Rattle.std.proofs.lemmas.Slice.Eq.{starts_is, ends_is}
use Rattle.std.proofs.lemmas.Bool.Decides.{Decides-eqb}
use Rattle.filters.specs.Words.{behind, before}

pub no_front : (text front : List ℕ) → ((rest : List ℕ) → text ≡ front ++ rest → ⊥) → starts_with eqb text front ≡ false
no_front text front never = by (starts_with eqb text front) refl
  where
    by : (b : Bool) → starts_with eqb text front ≡ b → b ≡ false
    by true e = absurd (never (drop (length front) text) ((starts_is Decides-eqb text front true (sym e)).0 refl))
    by false e = refl

pub no_end : (text end : List ℕ) → ((front : List ℕ) → text ≡ front ++ end → ⊥) → ends_with eqb text end ≡ false
no_end text end never = by (ends_with eqb text end) refl
  where
    by : (b : Bool) → ends_with eqb text end ≡ b → b ≡ false
    by true e = absurd (never (take (length text - length end) text) ((ends_is Decides-eqb text end true (sym e)).0 refl))
    by false e = refl

pub behind_is : (mark text : List ℕ) (r : Option (Bor (List ℕ))) → MatchOption r (FindsTextPrefix mark text None) (λ x. StripsPrefix (FindsTextPrefix mark) text x.now) → option_copied r ≡ behind mark text
unfolding behind
behind_is mark text None none = rw (no_front text mark none) refl
behind_is mark text (Some x) found =
    let here : starts_with eqb text mark ≡ true = (starts_is Decides-eqb text mark (starts_with eqb text mark) refl).1 _ found.1.1 in
    rw (here, found.2, found.1.0) refl

pub before_is : (mark text : List ℕ) (r : Option (Bor (List ℕ))) → MatchOption r (FindsTextSuffix mark text None) (λ x. StripsSuffix (FindsTextSuffix mark) text x.now) → option_copied r ≡ before mark text
unfolding before
before_is mark text None none = rw (no_end text mark none) refl
before_is mark text (Some x) found =
    let here : ends_with eqb text mark ≡ true = (ends_is Decides-eqb text mark (ends_with eqb text mark) refl).1 _ found.1.1 in
    rw (here, found.2, found.1.0) refl
