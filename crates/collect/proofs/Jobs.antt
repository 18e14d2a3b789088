-- Wanted tasks with what is known of each.
use Rattle.std.proofs.Common.{◌≡◌, ℕ, ◌+◌, ◌<◌, ◌≤◌, List, [], ◌∷◌, ◌++◌, length, get_or, take, sym, ap, ◌∙◌, subst, arith}
use Rattle.std.specs.Prelude.{zip}
use Rattle.std.proofs.lemmas.List.{take_all}
use Rattle.listing.specs.declared.part.Part.{Part}
use Rattle.task_inputs.specs.declared.definitions.DefinedTask.{DefinedTask}
use Rattle.collect.specs.declared.wanted.Wanted.{Wanted}
use Rattle.collect.specs.Listings.{ArePaired}
use Rattle.collect.specs.Steps.{IsMadeOf, AreMade, jobs}
use Rattle.collect.proofs.Lists.{paired_next, get_zip, length_zip}

module _ (R : Wanted → DefinedTask → List ℕ → List (List ℕ × List ℕ) → Part → Type 0) (wanted : List Wanted) (tasks : List DefinedTask) (rows : List (List ℕ)) (uses : List (List (List ℕ × List ℕ))) (ts : length tasks ≡ length wanted) (rs : length rows ≡ length wanted) (us : length uses ≡ length wanted) where
  first_same : length (zip wanted tasks) ≡ length wanted
  first_same = length_zip wanted tasks (sym ts) ∙ ts

  second_same : length (zip rows uses) ≡ length wanted
  second_same = length_zip rows uses (rs ∙ sym us) ∙ us

  pub jobs_same : length (jobs wanted tasks rows uses) ≡ length wanted
  jobs_same = length_zip (zip wanted tasks) (zip rows uses) (first_same ∙ sym second_same) ∙ second_same

  pub made_next : (i : ℕ) (w : Wanted) (t : DefinedTask) (row : List ℕ) (u : List (List ℕ × List ℕ)) (parts : List Part) (part : Part) → i < length wanted → w ≡ get_or wanted i w → t ≡ get_or tasks i t → row ≡ get_or rows i row → u ≡ get_or uses i u
      → ArePaired (IsMadeOf R) (take i (jobs wanted tasks rows uses)) parts → R w t row u part → ArePaired (IsMadeOf R) (take (i + 1) (jobs wanted tasks rows uses)) (parts ++ part ∷ [])
  made_next i w t row u parts part lt ew et er eu so r =
      let job : get_or (jobs wanted tasks rows uses) i ((w, t), (row, u)) ≡ ((w, t), (row, u)) =
      get_zip (zip wanted tasks) (zip rows uses) i (w, t) (row, u) (omega (arith, lt, first_same)) (omega (arith, lt, second_same))
      ∙ ap (λ a. (a, get_or (zip rows uses) i (row, u))) (get_zip wanted tasks i w t lt (omega (arith, lt, ts)) ∙ ap (λ a. (a, get_or tasks i t)) (sym ew) ∙ ap (λ b. (w, b)) (sym et))
      ∙ ap (λ b. ((w, t), b)) (get_zip rows uses i row u (omega (arith, lt, rs)) (omega (arith, lt, us)) ∙ ap (λ a. (a, get_or uses i u)) (sym er) ∙ ap (λ b. (row, b)) (sym eu)) in
      paired_next (IsMadeOf R) (jobs wanted tasks rows uses) i ((w, t), (row, u)) parts part (omega (arith, lt, jobs_same)) so (subst (λ j. IsMadeOf R j part) (sym job) r)

  pub made_whole : (i : ℕ) (parts : List Part) → length wanted ≤ i → ArePaired (IsMadeOf R) (take i (jobs wanted tasks rows uses)) parts → AreMade R wanted tasks rows uses parts
  made_whole i parts le so = subst (λ js. ArePaired (IsMadeOf R) js parts) (take_all i (jobs wanted tasks rows uses) (omega (arith, le, jobs_same))) so
