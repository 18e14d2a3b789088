-- Lists of commands, when one is taken out.
use Rattle.std.proofs.Common.{◌≡◌, ◌++◌, ◌<◌, ℕ, suc, List, [], ◌∷◌, length, map, take, drop, get_or, arith, IsTrue, refl, sym, ap, ◌∙◌, subst, length-append, drop-cons}
use Rattle.std.specs.List.{remove}
use Rattle.std.proofs.lemmas.List.{take-append-drop, map-append, length-map}
use Rattle.spawn_dev.specs.declared.command.Command.{Command}
use Rattle.spawn_dev.specs.Running.{are_distinct}
use Rattle.spawn_dev.specs.RunningLaws.{distinct_remove}
use Rattle.os_children.specs.Taking.{itself, IsTakenOut}

-- ---- one is taken out

pub remove_seam : {X : Type 0} (front : List X) (x : X) (back : List X) → remove (front ++ x ∷ back) (length front) ≡ front ++ back
remove_seam [] x back = refl
remove_seam (y ∷ front) x back = ap (λ r. y ∷ r) (remove_seam front x back)

pub seam_below : {X : Type 0} (front : List X) (x : X) (back : List X) → length front < length (front ++ x ∷ back)
seam_below front x back = omega (arith, length-append front (x ∷ back))

-- what stands at a place, taken out there
pub taken_at : {X : Type 0} (of : X → Command) (xs ys : List X) (i : ℕ) (x : X) → i < length xs → x ≡ get_or xs i x → ys ≡ remove xs i → IsTakenOut (of x) (map of xs) (map of ys)
taken_at of xs ys i x lt is left =
    let parts : xs ≡ take i xs ++ x ∷ drop (suc i) xs =
    sym (take-append-drop i xs) ∙ ap (λ r. take i xs ++ r) (drop-cons xs i x lt ∙ ap (λ v. v ∷ drop (suc i) xs) (sym is)) in
    record {
      front = map of (take i xs);
      back = map of (drop (suc i) xs);
      was = ap (map of) parts ∙ map-append of (take i xs) (x ∷ drop (suc i) xs);
      left = ap (map of) left ∙ map-append of (take i xs) (drop (suc i) xs);
    }

pub below_of : {X : Type 0} (of : X → Command) (before : List Command) (xs : List X) (i : ℕ) → map of xs ≡ before → i < length before → i < length xs
below_of of before xs i view lt = rw length-map at (subst (λ b. i < length b) (sym view) lt)

-- the same, where the list is known by another name
pub taken_out : {X : Type 0} (of : X → Command) (before : List Command) (xs ys : List X) (i : ℕ) (x : X) (command : Command) → map of xs ≡ before → i < length before → x ≡ get_or xs i x
    → ys ≡ remove xs i → command ≡ of x → IsTakenOut command before (map of ys)
taken_out of before xs ys i x command view lt is left same =
    subst (λ c. IsTakenOut c before (map of ys)) (sym same)
    (subst (λ b. IsTakenOut (of x) b (map of ys)) view (taken_at of xs ys i x (below_of of before xs i view lt) is left))

pub distinct_left : (old new : List Command) (command : Command) → IsTakenOut command old new → IsTrue (are_distinct itself old) → IsTrue (are_distinct itself new)
distinct_left old new command taken all =
    let whole : IsTrue (are_distinct itself (taken.front ++ command ∷ taken.back)) = subst (λ xs. IsTrue (are_distinct itself xs)) taken.was all in
    let left : remove (taken.front ++ command ∷ taken.back) (length taken.front) ≡ new = remove_seam taken.front command taken.back ∙ sym taken.left in
    subst (λ xs. IsTrue (are_distinct itself xs)) left (distinct_remove itself (taken.front ++ command ∷ taken.back) (length taken.front) (seam_below taken.front command taken.back) whole)
