-- The lanes, before and after a move.
use Rattle.std.proofs.Common.{◌≡◌, ℕ, ◌+◌, ◌-◌, ◌*◌, ◌/◌, ◌<◌, ◌≤◌, List, [], ◌∷◌, length, map, slice_index, slice_index_or, Bor, refl, sym, subst, arith}
use Rattle.std.specs.List.{All}
use Rattle.std.proofs.lemmas.List.{get_or-map, length-map}
use Rattle.sha2.specs.Sha256.{hash_after}
use Rattle.sha_lanes.specs.declared.lane.Lane.{Lane}
use Rattle.sha_lanes.specs.UnderWay.{IsLaneOf, IsNext, IsUnderWay, lefts_of}
use Rattle.sha_lanes.proofs.Four.{below_four}

-- what the code reads where there is no lane
abbrev pub no_lane : Lane
no_lane = record { place = 0; blocks = 0; done = 0; state = []; tail = [] }

-- four elements, one by one
pub all_four : (P : Lane → Type 0) (a b c d : Lane) → P a → P b → P c → P d → All P (a ∷ b ∷ c ∷ d ∷ [])
all_four P a b c d pa pb pc pd k default lt = below_four (λ k. P (slice_index_or (a ∷ b ∷ c ∷ d ∷ []) k default)) pa pb pc pd k lt

pub four_of : (xs : List Lane) (x : Lane) → length xs ≡ 4
    → xs ≡ slice_index_or xs 0 x ∷ slice_index_or xs 1 x ∷ slice_index_or xs 2 x ∷ slice_index_or xs 3 x ∷ []
four_of (a ∷ b ∷ c ∷ d ∷ []) x h = refl
four_of [] x h = absurd (omega arith)
four_of (a ∷ []) x h = absurd (omega arith)
four_of (a ∷ b ∷ []) x h = absurd (omega arith)
four_of (a ∷ b ∷ c ∷ []) x h = absurd (omega arith)
four_of (a ∷ b ∷ c ∷ d ∷ e ∷ xs) x h = absurd (omega arith)

-- what one lane has left
pub left_at : (lanes : List Lane) (j : ℕ) (x : Lane) → j < length lanes
    → slice_index (lefts_of lanes) j ≡ (slice_index_or lanes j x).blocks - (slice_index_or lanes j x).done
left_at lanes j x lt = get_or-map (λ l. l.blocks - l.done) lanes j x 0 lt

-- the text of a lane, as the code reads it
pub text_of : (texts : List (Bor (List ℕ))) (l : Lane) (t : Bor (List ℕ)) → IsLaneOf (map (λ text. text.now) texts) l
    → slice_index_or (map (λ text. text.now) texts) l.place [] ≡ (slice_index_or texts l.place t).now
text_of texts l t held =
    get_or-map (λ text. text.now) texts l.place t [] (omega (arith, held.place, length-map texts (λ (text : Bor (List ℕ)). text.now)))

-- a move fits a lane that is not done
pub move_fits : (texts : List (List ℕ)) (l : Lane) (text rest spare : List ℕ) → IsLaneOf texts l → slice_index_or texts l.place [] ≡ text
    → IsNext text l.done rest → length spare ≤ length rest → l.done + length spare / 64 ≤ l.blocks
move_fits texts l text rest spare held same next least =
    let under : IsUnderWay text l = rw same at held.text in
    omega (arith, under.blocks, next.within)

-- a lane after a move
pub moved_lane : (texts : List (List ℕ)) (old new : Lane) (text rest piece state : List ℕ) (count : ℕ) → IsLaneOf texts old
    → slice_index_or texts old.place [] ≡ text → new.place ≡ old.place
    → ((text bytes : List ℕ) → IsUnderWay text old → (old.done < old.blocks → IsNext text old.done bytes × (count * 64 ≤ length bytes)
    × (state ≡ hash_after old.state bytes count)) → IsUnderWay text new)
    → IsNext text old.done rest → (old.done < old.blocks → 0 < length rest) → (0 < length rest → piece ≡ rest) → count * 64 ≤ length piece
    → state ≡ hash_after old.state piece count → IsLaneOf texts new
moved_lane texts old new text rest piece state count held same place moves next some own enough taken =
    let under : IsUnderWay text old = rw same at held.text in
    let result : IsUnderWay text new = moves text piece under (λ lt. (rw (own (some lt)) next, enough, taken)) in
    record {
      place = subst (λ p. p < length texts) (sym place) held.place;
      text = subst (λ p. IsUnderWay (slice_index_or texts p []) new) (sym place) (subst (λ t. IsUnderWay t new) (sym same) result);
    }

-- one lane is nearer to its end
pub nearer_by : (old new : Lane) (count : ℕ) → (old.done < old.blocks → new.blocks - new.done ≡ old.blocks - (old.done + count)) → (old.done < old.blocks → 0 < count)
    → 0 < old.blocks - old.done → new.blocks - new.done < old.blocks - old.done
nearer_by old new count moved some pos =
    let lt : old.done < old.blocks = omega arith in
    omega (arith, moved lt, some lt)

pub nearer_four : (olds : List Lane) (x a b c d : Lane) → length olds ≡ 4
    → (0 < (slice_index_or olds 0 x).blocks - (slice_index_or olds 0 x).done → a.blocks - a.done < (slice_index_or olds 0 x).blocks - (slice_index_or olds 0 x).done)
    → (0 < (slice_index_or olds 1 x).blocks - (slice_index_or olds 1 x).done → b.blocks - b.done < (slice_index_or olds 1 x).blocks - (slice_index_or olds 1 x).done)
    → (0 < (slice_index_or olds 2 x).blocks - (slice_index_or olds 2 x).done → c.blocks - c.done < (slice_index_or olds 2 x).blocks - (slice_index_or olds 2 x).done)
    → (0 < (slice_index_or olds 3 x).blocks - (slice_index_or olds 3 x).done → d.blocks - d.done < (slice_index_or olds 3 x).blocks - (slice_index_or olds 3 x).done)
    → (j : ℕ) → j < 4 → 0 < slice_index (lefts_of olds) j → slice_index (lefts_of (a ∷ b ∷ c ∷ d ∷ [])) j < slice_index (lefts_of olds) j
nearer_four olds x a b c d long pa pb pc pd =
    below_four (λ j. 0 < slice_index (lefts_of olds) j → slice_index (lefts_of (a ∷ b ∷ c ∷ d ∷ [])) j < slice_index (lefts_of olds) j)
    (λ pos. rw (left_at olds 0 x (omega arith)) (pa (rw (left_at olds 0 x (omega arith)) at pos)))
    (λ pos. rw (left_at olds 1 x (omega arith)) (pb (rw (left_at olds 1 x (omega arith)) at pos)))
    (λ pos. rw (left_at olds 2 x (omega arith)) (pc (rw (left_at olds 2 x (omega arith)) at pos)))
    (λ pos. rw (left_at olds 3 x (omega arith)) (pd (rw (left_at olds 3 x (omega arith)) at pos)))
