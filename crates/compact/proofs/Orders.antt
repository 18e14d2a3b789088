-- Which store is current, where both were opened again.
use Rattle.std.proofs.Common.{◌≡◌, ℕ, List, ◌∙◌, ap}
use Rattle.record_log.specs.Kinds.{generation_of}
use Rattle.compact.specs.declared.side.Side.{Side}
use Rattle.compact.specs.declared.side.Side.TheVariants.{First, Spare}
use Rattle.compact.specs.Current.{generation_in, newer_of, current_of, IsCurrent, IsCurrentOn}
use Rattle.compact.specs.Left.{ReadsAs}
use Rattle.compact.proofs.Telling.{frames_same}

same_generation : (a x : List ℕ) → ReadsAs a x → generation_in x ≡ generation_in a
same_generation a x same = ap generation_of (frames_same x a same)

-- bytes with the same frames
pub still_current : (side : Side) (a b x y : List ℕ) → ReadsAs a x → ReadsAs b y
    → IsCurrentOn side a b → IsCurrentOn side x y
still_current First a b x y p q is =
    (λ i. newer_of (same_generation a x p i) (same_generation b y q i)) ∙ is
still_current Spare a b x y p q is =
    (λ i. newer_of (same_generation b y q i) (same_generation a x p i)) ∙ is

-- the one that was found current is so
pub found_first : (a b : List ℕ) → current_of a b ≡ First → IsCurrent a b
found_first a b is = (First, is)

pub found_spare : (a b : List ℕ) → current_of a b ≡ Spare → IsCurrent b a
found_spare a b is = (Spare, is)
