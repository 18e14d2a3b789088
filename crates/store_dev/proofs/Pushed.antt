-- A record with one step more.
use Rattle.std.proofs.Common.{◌≡◌, inl, inr, ⊎_elim, ◌⊎◌, ℕ, zero, suc, ◌≤◌, List, [], ◌∷◌, ◌++◌, length, refl, sym, ◌∙◌, subst, arith, length-append}
use Rattle.store_dev.specs.declared.step.Step.{Step}
use Rattle.store_dev.specs.Device.{Elapses}
use Rattle.store_dev.specs.Memory.{next, next_images, after, MayLeave, MayLeaveSince, origin, ImagesFrom, SinceFrom}

pub after_push : (steps : List Step) (b : List ℕ) (s : Step) → after b (steps ++ s ∷ []) ≡ next (after b steps) s
after_push [] b s = refl
after_push (t ∷ steps) b s = after_push steps (next b t) s

may_push : (steps : List Step) (b : List ℕ) (images : List ℕ → Type 0) (s : Step) (c : List ℕ) → MayLeave b images (steps ++ s ∷ []) c → next_images (after b steps) (MayLeave b images steps) s c
may_push [] b images s c left = left
may_push (t ∷ steps) b images s c left = may_push steps (next b t) (next_images b images t) s c left

since_push : (steps : List Step) (b : List ℕ) (images : List ℕ → Type 0) (s : Step) (m : ℕ) (c : List ℕ) → m ≤ length steps → MayLeaveSince b images (steps ++ s ∷ []) m c → MayLeaveSince b images steps m c ⊎ MayLeave b images (steps ++ s ∷ []) c
since_push [] b images s zero c le left = left
since_push [] b images s (suc m) c le left = absurd (omega arith)
since_push (t ∷ steps) b images s zero c le (inl now) = inl (inl now)
since_push (t ∷ steps) b images s zero c le (inr later) = ⊎_elim (λ was. inl (inr was)) (λ new. inr new) (since_push steps (next b t) (next_images b images t) s zero c (omega arith) later)
since_push (t ∷ steps) b images s (suc m) c le left = since_push steps (next b t) (next_images b images t) s m c (omega arith) left

since_kept : (steps : List Step) (b : List ℕ) (images : List ℕ → Type 0) (s : Step) (m : ℕ) (c : List ℕ) → m ≤ length steps → MayLeaveSince b images steps m c → MayLeaveSince b images (steps ++ s ∷ []) m c
since_kept [] b images s zero c le left = inl left
since_kept [] b images s (suc m) c le left = absurd (omega arith)
since_kept (t ∷ steps) b images s zero c le (inl now) = inl now
since_kept (t ∷ steps) b images s zero c le (inr later) = inr (since_kept steps (next b t) (next_images b images t) s zero c (omega arith) later)
since_kept (t ∷ steps) b images s (suc m) c le left = since_kept steps (next b t) (next_images b images t) s m c (omega arith) left

-- with a step there is a beginning that was put by
pub origin_some : (bytes first : List ℕ) (steps : List Step) → 1 ≤ length steps → origin bytes first steps ≡ first
origin_some bytes first [] some = absurd (omega arith)
origin_some bytes first (s ∷ steps) some = refl

pub origin_push : (bytes first : List ℕ) (steps : List Step) (s : Step) → origin bytes first (steps ++ s ∷ []) ≡ first
origin_push bytes first [] s = refl
origin_push bytes first (t ∷ steps) s = refl

-- a record with a step more, which begins with the same bytes
pub record IsMore (start : List ℕ) (steps : List Step) (s : Step) (start' : List ℕ) (steps' : List Step) : Type 0 where
  pub same : start' ≡ start
  pub more : steps' ≡ steps ++ s ∷ []

module _ (start : List ℕ) (steps : List Step) (s : Step) (start' : List ℕ) (steps' : List Step) (p : IsMore start steps s start' steps') where
  pub reads_more : after start' steps' ≡ next (after start steps) s
  reads_more = (λ i. after (p.same i) (p.more i)) ∙ after_push steps start s

  pub images_more : (c : List ℕ) → ImagesFrom start' steps' c → next_images (after start steps) (ImagesFrom start steps) s c
  images_more c left =
      let there : ImagesFrom start steps' c = subst (λ (o : List ℕ). ImagesFrom o steps' c) p.same left in
      may_push steps start (λ d. d ≡ start) s c (subst (λ (l : List Step). ImagesFrom start l c) p.more there)

  grown : Elapses (length steps) (length (steps ++ s ∷ [])) (SinceFrom start steps) (SinceFrom start (steps ++ s ∷ [])) (ImagesFrom start (steps ++ s ∷ []))
  grown = record {
    later = omega (arith, length-append steps (s ∷ []));
    nothing_else = λ m c le left. since_push steps start (λ d. d ≡ start) s m c le left;
    keeps = λ m c le left. since_kept steps start (λ d. d ≡ start) s m c le left;
  }

  pub elapses_more : Elapses (length steps) (length steps') (SinceFrom start steps) (SinceFrom start' steps') (ImagesFrom start' steps')
  elapses_more =
      let P : List ℕ → List Step → Type 0 = λ o l. Elapses (length steps) (length l) (SinceFrom start steps) (SinceFrom o l) (ImagesFrom o l) in
      subst (λ (o : List ℕ). P o steps') (sym p.same) (subst (λ (l : List Step). P start l) (sym p.more) grown)
