-- Laws of a record of writes and syncs, which the devices in memory keep.
use Rattle.std.specs.Prelude.{◌≡◌, ◌≤◌, ℕ, zero, suc, ◌+◌, max, List, [], ◌∷◌, ◌++◌, length, take, drop, refl}
use Rattle.std.proofs.Common.{inl, inr, sym, ◌∙◌, ap, subst, arith, append_assoc, length-append, length-take, length-drop}
use Rattle.std.proofs.lemmas.List.{take_at, drop_at, take_all, drop_all, append-nil, take-take}
use Rattle.std.proofs.lemmas.Bool.{cases_lt}
use Rattle.store_dev.specs.declared.step.Step.{Step}
use Rattle.store_dev.specs.declared.step.Step.TheVariants.{Wrote, Synced}
use Rattle.store_dev.specs.Device.{put_at, Torn}
use Rattle.store_dev.specs.Memory.{next, next_images, after, MayLeave, MayLeaveSince, ImagesFrom, SinceFrom}

-- what was written is one of the outcomes of a torn write
pub torn_put : (old : List ℕ) (at : ℕ) (w : List ℕ) → Torn at (length w) old (put_at old at w)
torn_put old at w = elim (cases_lt (length old) at) [
  | inl past ↦
      let front : put_at old at w ≡ old ++ w = (λ i. (take_all at old (omega arith) i ++ w) ++ drop_all (at + length w) old (omega arith) i) ∙ append-nil (old ++ w) in
      let cut : take (length old) (put_at old at w) ≡ old = ap (take (length old)) front ∙ take_at old w (length old) refl in
      record {
        before = ap (take at) cut;
        after = ap (drop (at + length w)) cut;
        no_shorter = omega (arith, ap length front, length-append old w);
        no_longer = omega (arith, ap length front, length-append old w);
      }
  | inr inside ↦
      let len : length (put_at old at w) ≡ max (length old) (at + length w) = omega (arith, length-append (take at old ++ w) (drop (at + length w) old), length-append (take at old) w, length-take at old, length-drop (at + length w) old) in
      let at_len : length (take at old) ≡ at = omega (arith, length-take at old) in
      let mid_len : length (take at old ++ w) ≡ at + length w = omega (arith, length-append (take at old) w, at_len) in
      record {
        before = take-take at (length old) (put_at old at w) inside ∙ ap (take at) (append_assoc (take at old) w (drop (at + length w) old)) ∙ take_at (take at old) (w ++ drop (at + length w) old) at at_len;
        after = elim (cases_lt (length old) (at + length w)) [
          | inl over ↦ drop_all (at + length w) (take (length old) (put_at old at w)) (omega (arith, length-take (length old) (put_at old at w))) ∙ sym (drop_all (at + length w) old (omega arith))
          | inr under ↦ ap (drop (at + length w)) (take_all (length old) (put_at old at w) (omega (arith, len))) ∙ drop_at (take at old ++ w) (drop (at + length w) old) (at + length w) mid_len
        ];
        no_shorter = omega (arith, len);
        no_longer = omega (arith, len);
      }
]

step_reads : (s : Step) (b : List ℕ) (images : List ℕ → Type 0) → images b → next_images b images s (next b s)
step_reads (Wrote at w) b images now = (b, now, torn_put b at w.items)
step_reads Synced b images now = refl

pub reads_from : (steps : List Step) (b : List ℕ) (images : List ℕ → Type 0) → images b → MayLeave b images steps (after b steps)
reads_from [] b images now = now
reads_from (s ∷ steps) b images now = reads_from steps (next b s) (next_images b images s) (step_reads s b images now)

-- the device as it reads is one of its images
pub reads_as_one : (bytes start : List ℕ) (steps : List Step) → bytes ≡ after start steps → ImagesFrom start steps bytes
reads_as_one bytes start steps is = subst (ImagesFrom start steps) (sym is) (reads_from steps start (λ d. d ≡ start) refl)

counts_from : (steps : List Step) (b : List ℕ) (images : List ℕ → Type 0) (m : ℕ) (c : List ℕ) → m ≤ length steps → MayLeave b images steps c → MayLeaveSince b images steps m c
counts_from [] b images m c le now = now
counts_from (s ∷ steps) b images zero c le now = inr (counts_from steps (next b s) (next_images b images s) zero c (omega arith) now)
counts_from (s ∷ steps) b images (suc m) c le now = counts_from steps (next b s) (next_images b images s) m c (omega arith) now

-- what is left now is left since each earlier moment
pub counts : (start : List ℕ) (steps : List Step) (m : ℕ) (c : List ℕ) → m ≤ length steps → ImagesFrom start steps c → SinceFrom start steps m c
counts start steps m c le now = counts_from steps start (λ d. d ≡ start) m c le now

only_from : (steps : List Step) (b : List ℕ) (images : List ℕ → Type 0) (c : List ℕ) → MayLeaveSince b images steps (length steps) c → MayLeave b images steps c
only_from [] b images c left = left
only_from (s ∷ steps) b images c left = only_from steps (next b s) (next_images b images s) c left

-- and since this moment nothing else is
pub only : (start : List ℕ) (steps : List Step) (c : List ℕ) → SinceFrom start steps (length steps) c → ImagesFrom start steps c
only start steps c left = only_from steps start (λ d. d ≡ start) c left
