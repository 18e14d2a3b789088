-- The store with which a turn begins.
use Rattle.std.proofs.Common.{◌≡◌, inl, inr, ⊎_elim, ℕ, ◌≤◌, List, [], length, take, Result, Ok}
use Rattle.std.proofs.Common.{sym, ◌∙◌, ap, subst, arith}
use Rattle.std.proofs.lemmas.List.{append-nil}
use Rattle.std.specs.Prelude.{true}
use Rattle.store_dev.specs.Device.{Only, LeavesOnly}
use Rattle.store_dev.specs.declared.device.StoreDevice.{Ghosts as DeviceGhosts}
use Rattle.record_log.specs.Kinds.{Entry}
use Rattle.record_log.specs.Frames.{reading, frames_of, IsSound, Fault, ReadsAsOneOf}
use Rattle.pair_reader.specs.declared.wanted.Lengths.{Lengths}
use Rattle.artifact_store.specs.declared.store.Store.{Store}
use Rattle.artifact_store.specs.declared.error.OpenErr.{OpenErr}
use Rattle.artifact_store.specs.declared.error.OpenErr.TheVariants.{NotAStore, Damaged, Failed}
use Rattle.artifact_store.specs.declared.error.OpenErr.TheVariants.{OutOfMemory}
use Rattle.artifact_store.specs.Answers.{IsFaultOf}
use Rattle.artifact_store.specs.Opened.{IsOpened}
use Rattle.artifact_store.specs.Store as store
use Rattle.shared_runs.specs.declared.turn.Shared.{Ghosts}
use Rattle.shared_runs.specs.Frames.{StartWith, HoldsFirst, HoldsOneOrMore}
use Rattle.shared_runs.specs.Passing.{IsInTurn, BeginsTurn, LeavesFirst}
use Rattle.shared_runs.specs.Turns.{IsTurnOf, HoldsFile, IsTaken, GoesOn, LeftInTurn}
use Rattle.shared_runs.proofs.Fronts.{first_all, first_or_more, starts_few}
use Rattle.shared_runs.proofs.MemTurns.{frames_is, sound_is}
use Rattle.shared_runs.proofs.Turning.{goes_more, goes_then}

no_fault : (fault : OpenErr) (read : Result (List Entry) Fault) (es : List Entry) → read ≡ Ok es
    → IsFaultOf fault read → (other : Result (List Entry) Fault) → IsFaultOf fault other
no_fault NotAStore read es is not other = absurd cc
no_fault (Damaged at) read es is not other = absurd cc
no_fault Failed read es is not other = tt
no_fault OutOfMemory read es is not other = tt

module _ {H D : Type 0} (G : Ghosts H D) (K : DeviceGhosts D) (old new : H) (device : D)
    (held : (G.turn new).held ≡ true)
    (begun : IsTurnOf K (G.turn new) (G.store_faults new) device)
    (holds : K.tells → HoldsFile K (G.content new) (G.images new) device)
    (taken : K.tells → IsTaken (G.content old) (G.coming old) (G.content new) (G.images new))
    (file : K.tells → HoldsOneOrMore (λ c. c ≡ G.content old) (G.content old) (G.coming old)
    (G.content new)) where
  -- a file that is sound was so before
  pub sound_back : K.tells → IsSound (G.content new) → IsSound (G.content old)
  sound_back told sound = ⊎_elim
      (λ (d, is, same). sound_is (G.content old) (frames_of (G.content new))
      (sym (same ∙ ap reading is) ∙ sound))
      (λ more. more.0)
      (file told)

  -- what a crash leaves of the device once it was opened or not
  pub left_read : (after : D) → K.tells → IsSound (G.content old)
      → LeavesOnly K.moment K.images_since device after (ReadsAsOneOf (K.images device))
      → (c : List ℕ) → K.images_since after (G.turn new).start c → reading c ≡ Ok (G.coming old)
  left_read after told sound x c left =
      let (d, now, same) = x.each c (subst (λ (n : ℕ). K.images_since after n c) begun.start
      left) in
      same ∙ ap reading ((taken told).durable sound d ((holds told).fewer d now))
      ∙ (taken told).frames sound

  pub in_turn : (after : D) → K.store_faults device ≤ K.store_faults after
      → (K.tells → LeavesOnly K.moment K.images_since device after (ReadsAsOneOf (K.images device)))
      → IsInTurn G K new after
  in_turn after later images = record {
    held = held;
    count = omega (arith, begun.count, later);
    counted = begun.counted;
    start = λ told. omega (arith, begun.start, (images told).later);
    kept = λ told sound c left.
        let before = sound_back told sound in
        let is = (taken told).frames before in (
          [],
          left_read after told before (images told) c left
              ∙ ap (λ (l : List Entry). Ok l) (sym (frames_is (G.content new) (G.coming old) is)
              ∙ sym (append-nil (frames_of (G.content new)))),
        );
  }

  pub begins_turn : (lengths : Lengths) (s : Store D K) → IsOpened device lengths s
      → BeginsTurn G K old new s
  begins_turn lengths s opened = record {
    turn = in_turn (store.device_of s) (omega (arith, opened.cause)) opened.images;
    fresh = begun.count ∙ sym opened.cause;
    whole = opened.whole;
    frames = λ told sound.
        sym (frames_is (K.content device) (store.frames_of s) (opened.opened told).frames)
        ∙ frames_is (K.content device) (G.coming old)
        (ap reading (holds told).same ∙ (taken told).frames sound);
    read = λ told sound. (taken told).frames sound;
    durable = λ told sound. (taken told).durable sound;
    left = λ told sound. left_read (store.device_of s) told sound (opened.images told);
  }

  -- ---- a first turn, of a file of which a crash may leave more than it holds

  reads_along : (images : List ℕ → Type 0) (b : List ℕ) (all : List Entry) (c d : List ℕ)
      → reading c ≡ reading d
      → HoldsOneOrMore images b all d → HoldsOneOrMore images b all c
  reads_along images b all c d is (inl (x, now, same)) = inl (x, now, is ∙ same)
  reads_along images b all c d is (inr (sound, (n, least, le, same))) = inr
      (sound, (n, least, le, is ∙ same))

  abbrev Before : List ℕ → Type 0
  Before = HoldsOneOrMore (G.images old) (G.content old) (G.coming old)

  pub first_goes : (end : H) (after : D) → K.tells → GoesOn G.moment G.images_since old new Before
      → LeavesOnly K.moment K.images_since device after (ReadsAsOneOf (K.images device))
      → GoesOn G.moment G.images_since new end
      (LeftInTurn (G.images new) (K.images_since after (G.turn new).start))
      → ((m n : ℕ) (c : List ℕ) → m ≤ n → n ≤ G.moment end → G.images_since end n c
      → G.images_since end m c)
      → ((c : List ℕ) → G.images new c → G.images_since new (G.moment old) c)
      → GoesOn G.moment G.images_since old end Before
  first_goes end after told goes images later earlier now =
      goes_then G.moment G.images_since old new end Before
      (LeftInTurn (G.images new) (K.images_since after (G.turn new).start)) Before earlier goes
      later
      (λ c p. p)
      (λ c. ⊎_elim (λ was. goes.each c (now c was))
      (λ left. let (d, here, same) = images.each c
      (subst (λ (n : ℕ). K.images_since after n c) begun.start left) in
      reads_along (G.images old) (G.content old) (G.coming old) c d same
      (goes.each d (now d ((holds told).fewer d here)))))

  -- the file is no store where its device is none
  pub first_fault : (fault : OpenErr) → K.tells → IsFaultOf fault (reading (K.content device))
      → IsFaultOf fault (reading (G.content old))
  first_fault fault told is = ⊎_elim
      (λ (d, was, same). subst (λ r. IsFaultOf fault r)
      (ap reading (holds told).same ∙ same ∙ ap reading was) is)
      (λ (sound, (n, least, le, same)). no_fault fault (reading (K.content device))
      (take n (G.coming old))
      (ap reading (holds told).same ∙ same) is (reading (G.content old)))
      (file told)

  -- ---- a turn whose device was not opened, and that was given back

  module _ (end : H) (after : D) (told : K.tells) (sound : IsSound (G.content old))
      (only : Only (G.content old) (G.images old))
      (starts : StartWith (frames_of (G.content old)) (G.coming old))
      (goes : GoesOn G.moment G.images_since old new
      (HoldsOneOrMore (G.images old) (G.content old) (G.coming old)))
      (images : LeavesOnly K.moment K.images_since device after (ReadsAsOneOf (K.images device)))
      (reads : K.images_since after (K.moment device) (K.content after))
      (given : G.content end ≡ K.content after)
      (later : GoesOn G.moment G.images_since new end
      (LeftInTurn (G.images new) (K.images_since after (G.turn new).start)))
      (earlier : (m n : ℕ) (c : List ℕ) → m ≤ n → n ≤ G.moment end → G.images_since end n c
      → G.images_since end m c) where
    abbrev least : ℕ
    least = length (frames_of (G.content old))

    all_of : (c : List ℕ) → reading c ≡ Ok (G.coming old) → HoldsFirst least (G.coming old) c
    all_of c is = first_all least (G.coming old) c
        (starts_few (frames_of (G.content old)) (G.coming old) starts) is

    pub left_first : LeavesFirst G old end
    left_first = record {
      file = subst (λ (b : List ℕ). HoldsFirst least (G.coming old) b) (sym given)
          (all_of (K.content after) (left_read after told sound images (K.content after)
          (subst (λ (n : ℕ). K.images_since after n (K.content after)) (sym begun.start) reads)));
      goes = goes_then G.moment G.images_since old new end
          (HoldsOneOrMore (G.images old) (G.content old) (G.coming old))
          (LeftInTurn (G.images new) (K.images_since after (G.turn new).start))
          (HoldsFirst least (G.coming old)) earlier goes later
          (first_or_more (G.content old) (G.coming old) sound starts (G.images old) only)
          (λ c. ⊎_elim
          (λ was. all_of c (ap reading ((taken told).durable sound c was)
          ∙ (taken told).frames sound))
          (λ now. all_of c (left_read after told sound images c now)));
    }

-- a turn that was taken, or not
pub taken_first : {H D : Type 0} (G : Ghosts H D) (old new : H)
    → IsSound (G.content old) → Only (G.content old) (G.images old)
    → StartWith (frames_of (G.content old)) (G.coming old)
    → HoldsOneOrMore (λ c. c ≡ G.content old) (G.content old) (G.coming old) (G.content new)
    → GoesOn G.moment G.images_since old new (HoldsOneOrMore (G.images old) (G.content old)
    (G.coming old))
    → LeavesFirst G old new
taken_first G old new sound only starts file goes = record {
  file = first_or_more (G.content old) (G.coming old) sound starts (λ c. c ≡ G.content old)
      (λ c is. is) (G.content new) file;
  goes = goes_more G.moment G.images_since old new
      (HoldsOneOrMore (G.images old) (G.content old) (G.coming old))
      (HoldsFirst (length (frames_of (G.content old))) (G.coming old)) goes
      (first_or_more (G.content old) (G.coming old) sound starts (G.images old) only);
}
