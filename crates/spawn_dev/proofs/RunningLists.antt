-- What runs in a world in memory, when one is added or taken out, and the steps.
use Rattle.std.proofs.Common.{◌≡◌, ℕ, zero, suc, ◌<◌, Bool, true, false, cond, ◌&&◌, List, [], ◌∷◌, ◌++◌, length, get_or, refl, ap, arith}
use Rattle.std.specs.Cmp.{first_so, second_so}
use Rattle.std.specs.List.{remove}
use Rattle.globs.specs.OwnedFiles.{owns_all}
use Rattle.spawn_dev.specs.declared.command.Command.{Command}
use Rattle.spawn_dev.specs.declared.command.Ended.{Ended}
use Rattle.spawn_dev.specs.declared.command.Step.{Step}
use Rattle.spawn_dev.specs.declared.command.Step.TheVariants.{Start, End}
use Rattle.spawn_dev.specs.declared.effect.Running.{Running}
use Rattle.spawn_dev.specs.Progress.{own_files, starts_in}

-- ---- the files that they will write

abbrev owns : Running → Bool
owns run = owns_all run.command.outs run.effect.files

both_so : (a b : Bool) → a ≡ true → b ≡ true → (a && b) ≡ true
both_so true b e f = f
both_so false b e f = e

pub owned_push : (xs : List Running) (x : Running) → own_files xs ≡ true → owns x ≡ true → own_files (xs ++ x ∷ []) ≡ true
owned_push [] x all own = both_so (owns x) true own refl
owned_push (y ∷ ys) x all own = both_so (owns y) (own_files (ys ++ x ∷ [])) (first_so (owns y) (own_files ys) all) (owned_push ys x (second_so (owns y) (own_files ys) all) own)

pub owned_remove : (xs : List Running) (i : ℕ) → i < length xs → own_files xs ≡ true → own_files (remove xs i) ≡ true
owned_remove [] i lt all = absurd (omega (arith, lt))
owned_remove (x ∷ xs) zero lt all = second_so (owns x) (own_files xs) all
owned_remove (x ∷ xs) (suc i) lt all =
    both_so (owns x) (own_files (remove xs i)) (first_so (owns x) (own_files xs) all) (owned_remove xs i (omega (arith, lt)) (second_so (owns x) (own_files xs) all))

pub owned_here : (xs : List Running) (i : ℕ) (d : Running) → i < length xs → own_files xs ≡ true → owns (get_or xs i d) ≡ true
owned_here [] i d lt all = absurd (omega (arith, lt))
owned_here (x ∷ xs) zero d lt all = first_so (owns x) (own_files xs) all
owned_here (x ∷ xs) (suc i) d lt all = owned_here xs i d (omega (arith, lt)) (second_so (owns x) (own_files xs) all)

-- ---- steps

-- a start and an end more
pub starts_push : (steps : List Step) (command : Command) → starts_in (steps ++ Start command ∷ []) ≡ starts_in steps ++ command.place ∷ []
starts_push [] command = refl
starts_push (Start c ∷ steps) command = ap (λ s. c.place ∷ s) (starts_push steps command)
starts_push (End e ∷ steps) command = starts_push steps command

starts_end : (steps : List Step) (ended : Ended) → starts_in (steps ++ End ended ∷ []) ≡ starts_in steps
starts_end [] ended = refl
starts_end (Start c ∷ steps) ended = ap (λ s. c.place ∷ s) (starts_end steps ended)
starts_end (End e ∷ steps) ended = starts_end steps ended

-- with the end of a command, or not
pub starts_end_if : (done : Bool) (steps : List Step) (ended : Ended) → starts_in (cond done (steps ++ End ended ∷ []) steps) ≡ starts_in steps
starts_end_if true steps ended = starts_end steps ended
starts_end_if false steps ended = refl
