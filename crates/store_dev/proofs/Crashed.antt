-- The image of a crash is one of those that the record allows.
use Rattle.std.proofs.Common.{◌≡◌, inl, inr, ℕ, suc, ◌+◌, ◌≤◌, Bool, List, [], ◌∷◌, ◌++◌, length, take, drop, refl, sym, ◌∙◌, ap, subst, arith, length-take, take-append-drop}
use Rattle.std.specs.Prelude.{◌==◌, cond, replicate}
use Rattle.std.proofs.lemmas.List.{take-take, length-replicate}
use Rattle.std.proofs.lemmas.Bool.{cases_eq, eq-eqb, ne_eqb}
use Rattle.store_dev.specs.declared.step.Step.{Step}
use Rattle.store_dev.specs.declared.step.Step.TheVariants.{Wrote, Synced}
use Rattle.store_dev.specs.Device.{put_at, Torn}
use Rattle.store_dev.specs.Memory.{next, next_images, after, MayLeave, ImagesFrom, syncs, synced, settled, filled, crash_of}
use Rattle.store_dev.specs.Record.{torn_put, reads_from}

-- steps in two parts
may_append : (xs ys : List Step) (b : List ℕ) (images : List ℕ → Type 0) (c : List ℕ) → MayLeave (after b xs) (MayLeave b images xs) ys c → MayLeave b images (xs ++ ys) c
may_append [] ys b images c left = left
may_append (x ∷ xs) ys b images c left = may_append xs ys (next b x) (next_images b images x) c left

-- a range filled, and a part of what lies past the end
torn_filled : (d : List ℕ) (at n fill most : ℕ) → length d ≤ most → Torn at n d (take most (put_at d at (replicate n fill)))
torn_filled d at n fill most fits =
    let w = replicate n fill in
    let t : Torn at n d (put_at d at w) = subst (λ (k : ℕ). Torn at k d (put_at d at w)) (length-replicate n fill) (torn_put d at w) in
    let same : take (length d) (take most (put_at d at w)) ≡ take (length d) (put_at d at w) = take-take (length d) most (put_at d at w) fits in
    record {
      before = ap (take at) same ∙ t.before;
      after = ap (drop (at + n)) same ∙ t.after;
      no_shorter = omega (arith, length-take most (put_at d at w), t.no_shorter);
      no_longer = omega (arith, length-take most (put_at d at w), t.no_longer);
    }

filled_short : (d : List ℕ) (at n fill most : ℕ) → length (take most (put_at d at (replicate n fill))) ≤ most
filled_short d at n fill most = omega (arith, length-take most (put_at d at (replicate n fill)))

-- there is no sync among them
abbrev pub AreWrites : List Step → Type 0
AreWrites steps = synced steps ≡ 0

no_sync : (s : Step) (steps : List Step) → AreWrites (s ∷ steps) → (syncs s ≡ 0) × AreWrites steps
no_sync s steps none = elim (cases_eq (synced steps) 0) [
  | inl zero_is ↦ (sym (ap (λ (b : Bool). cond b (syncs s) (suc (synced steps))) (eq-eqb _ _ zero_is)) ∙ none, zero_is)
  | inr more ↦ let e = sym (ap (λ (b : Bool). cond b (syncs s) (suc (synced steps))) (ne_eqb _ _ more)) ∙ none in absurd (omega (arith, e))
]

filled_left : (steps : List Step) (fill most : ℕ) (b d : List ℕ) (images : List ℕ → Type 0) → AreWrites steps → length d ≤ most → images d → MayLeave b images steps (filled fill most d steps)
filled_left [] fill most b d images none fits now = now
filled_left (Wrote at w ∷ steps) fill most b d images none fits now =
    filled_left steps fill most (next b (Wrote at w)) (take most (put_at d at (replicate (length w.items) fill))) (next_images b images (Wrote at w)) (no_sync (Wrote at w) steps none).1 (filled_short d at (length w.items) fill most) (d, now, torn_filled d at (length w.items) fill most fits)
filled_left (Synced ∷ steps) fill most b d images none fits now = absurd (omega (arith, (no_sync Synced steps none).0))

behind_sync : (steps : List Step) → AreWrites (drop (synced steps) steps)
behind_sync [] = refl
behind_sync (s ∷ steps) = elim (cases_eq (synced steps) 0) [
  | inl zero_is ↦ first s zero_is
  | inr more ↦ subst (λ (n : ℕ). AreWrites (drop n (s ∷ steps))) (sym (ap (λ (b : Bool). cond b (syncs s) (suc (synced steps))) (ne_eqb _ _ more))) (behind_sync steps)
]
  where
    first : (t : Step) → synced steps ≡ 0 → AreWrites (drop (synced (t ∷ steps)) (t ∷ steps))
    first (Wrote at w) zero_is =
        let none : synced (Wrote at w ∷ steps) ≡ 0 = ap (λ (b : Bool). cond b 0 (suc (synced steps))) (eq-eqb _ _ zero_is) in
        subst (λ (n : ℕ). AreWrites (drop n (Wrote at w ∷ steps))) (sym none) none
    first Synced zero_is =
        let one : synced (Synced ∷ steps) ≡ 1 = ap (λ (b : Bool). cond b 1 (suc (synced steps))) (eq-eqb _ _ zero_is) in
        subst (λ (n : ℕ). AreWrites (drop n (Synced ∷ steps))) (sym one) zero_is

pub crash_left : (fill keep : ℕ) (start : List ℕ) (steps : List Step) → ImagesFrom start steps (crash_of fill keep start steps)
crash_left fill keep start steps =
    let n = synced steps in
    let xs = take n steps in
    let ys = drop n steps in
    let base = settled start steps in
    let image = crash_of fill keep start steps in
    let front : MayLeave start (λ d. d ≡ start) xs base = reads_from xs start (λ d. d ≡ start) refl in
    subst (λ (l : List Step). MayLeave start (λ d. d ≡ start) l image) (take-append-drop n steps) (may_append xs ys start (λ d. d ≡ start) image (filled_left ys fill (length base + keep) base base (MayLeave start (λ d. d ≡ start) xs) (behind_sync steps) (omega arith) front))

-- one step more
pub synced_write : (steps : List Step) (s : Step) → syncs s ≡ 0 → synced (steps ++ s ∷ []) ≡ synced steps
synced_write [] s none = none
synced_write (t ∷ steps) s none = ap (λ (n : ℕ). cond (n == 0) (syncs t) (suc n)) (synced_write steps s none)

pub synced_sync : (steps : List Step) → synced (steps ++ Synced ∷ []) ≡ suc (length steps)
synced_sync [] = refl
synced_sync (t ∷ steps) =
    let more : synced (steps ++ Synced ∷ []) ≡ suc (length steps) = synced_sync steps in
    ap (λ (b : Bool). cond b (syncs t) (suc (synced (steps ++ Synced ∷ [])))) (ne_eqb (synced (steps ++ Synced ∷ [])) 0 (λ none. absurd (omega (arith, more, none)))) ∙ ap (λ (n : ℕ). suc n) more

sync_le : (t : Step) → syncs t ≤ 1
sync_le (Wrote at w) = omega arith
sync_le Synced = omega arith

pub synced_le : (steps : List Step) → synced steps ≤ length steps
synced_le [] = omega arith
synced_le (s ∷ steps) = elim (cases_eq (synced steps) 0) [
  | inl zero_is ↦ omega (arith, ap (λ (b : Bool). cond b (syncs s) (suc (synced steps))) (eq-eqb _ _ zero_is), sync_le s)
  | inr more ↦ omega (arith, ap (λ (b : Bool). cond b (syncs s) (suc (synced steps))) (ne_eqb _ _ more), synced_le steps)
]

-- behind a sync the device leaves what it reads as
only_from : (steps : List Step) (b : List ℕ) (images : List ℕ → Type 0) (c : List ℕ) → synced steps ≡ length steps → (length steps ≡ 0 → (d : List ℕ) → images d → d ≡ b) → MayLeave b images steps c → c ≡ after b steps
only_from [] b images c all here left = here refl c left
only_from (Wrote at w ∷ []) b images c all here left = absurd (omega (arith, all))
only_from (Synced ∷ []) b images c all here left = left
only_from (s ∷ (t ∷ steps)) b images c all here left = elim (cases_eq (synced (t ∷ steps)) 0) [
  | inl zero_is ↦ absurd (omega (arith, ap (λ (b : Bool). cond b (syncs s) (suc (synced (t ∷ steps)))) (eq-eqb _ _ zero_is), sync_le s, all))
  | inr more ↦ only_from (t ∷ steps) (next b s) (next_images b images s) c (omega (arith, ap (λ (b : Bool). cond b (syncs s) (suc (synced (t ∷ steps)))) (ne_eqb _ _ more), all)) (λ none. absurd (omega arith)) left
]

pub only_settled : (start : List ℕ) (steps : List Step) (c : List ℕ) → synced steps ≡ length steps → ImagesFrom start steps c → c ≡ after start steps
only_settled start steps c all left = only_from steps start (λ d. d ≡ start) c all (λ _ d is. is) left
