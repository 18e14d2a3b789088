-- Each byte of a text stays or becomes a blank.
use Rattle.std.proofs.Common.{◌≡◌, ◌==◌, ◌&&◌, ◌⊎◌, inl, inr, ℕ, zero, suc, List, [], ◌∷◌, length, slice_index, Bool, true, false, not, cond, refl, ap}
use Rattle.json_view.specs.declared.plain.Place.{Place}
use Rattle.json_view.specs.declared.plain.Place.TheVariants.{Outside}
use Rattle.json_view.specs.declared.plain.Part.{Part}
use Rattle.json_view.specs.Plain.{after, part_of, first_byte, marked, is_comment, is_comma, closes, kept_or_blank, shown, plain, KeepsPlaces}

same_or_blank : (blank : Bool) (x b : ℕ) → (x ≡ b) ⊎ (x ≡ 32) → (cond blank 32 x ≡ b) ⊎ (cond blank 32 x ≡ 32)
same_or_blank true x b either = inr refl
same_or_blank false x b either = either

one_kept : (m : ℕ × Part) → (kept_or_blank m ≡ m.0) ⊎ (kept_or_blank m ≡ 32)
one_kept m = same_or_blank (is_comment m.1 && not (m.0 == 10)) m.0 m.0 (inl refl)

length-shown : (place : Place) (bytes : List ℕ) → length (shown (marked place bytes)) ≡ length bytes
length-shown place [] = refl
length-shown place (b ∷ bytes) = ap suc (length-shown (after place b (first_byte bytes)) bytes)

each_kept : (place : Place) (bytes : List ℕ) (k : ℕ) → let text : List ℕ = shown (marked place bytes) in (slice_index text k ≡ slice_index bytes k) ⊎ (slice_index text k ≡ 32)
each_kept place [] k = inl refl
each_kept place (b ∷ bytes) zero =
    let m : ℕ × Part = (b, part_of place b (first_byte bytes)) in
    let behind : List (ℕ × Part) = marked (after place b (first_byte bytes)) bytes in
    same_or_blank (is_comma m && closes behind) (kept_or_blank m) b (one_kept m)
each_kept place (b ∷ bytes) (suc k) = each_kept (after place b (first_byte bytes)) bytes k

pub keeps_places : (bytes : List ℕ) → KeepsPlaces bytes (plain bytes)
unfolding plain
keeps_places bytes = (length-shown Outside bytes, each_kept Outside bytes)
