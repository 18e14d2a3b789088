-- A shared file that was opened.
use Rattle.std.proofs.Common.{◌≡◌, ⊎_elim, ℕ, true, if◌then◌else◌, List, [], ◌∷◌, length, take}
use Rattle.std.proofs.Common.{Some, None, sym, ◌∙◌, ap, subst, append-nil, arith}
use Rattle.std.specs.Prelude.{is_some}
use Rattle.std.proofs.lemmas.List.{take_all}
use Rattle.store_dev.specs.declared.device.StoreDevice.{Ghosts as DeviceGhosts}
use Rattle.record_log.specs.Frames.{frames_of}
use Rattle.pair_frames.specs.Pairs.{pairs_in}
use Rattle.pair_index.specs.declared.seen.SeenPairs.{SeenPairs}
use Rattle.artifact_store.proofs.Looking.{seen_all}
use Rattle.shared_views.specs.Machine.{after}
use Rattle.shared_views.specs.Machine.Event.{Enter}
use Rattle.shared_views.proofs.Coming.{brought-history}
use Rattle.shared_views.proofs.Folded.{file-grows, after-append}
use Rattle.shared_views.proofs.Seen.{entered}
use Rattle.shared_runs.specs.declared.first.FirstTurn.{FirstTurn}
use Rattle.shared_runs.specs.declared.store.SharedStore.{SharedStore}
use Rattle.shared_runs.specs.declared.turn.Shared.{Ghosts}
use Rattle.shared_runs.specs.First.{IsFirstTurn, TellsFile}
use Rattle.shared_runs.specs.Frames.{HoldsOneOrMore}
use Rattle.shared_runs.specs.Opened.{LeavesImages, IsOpened}
use Rattle.shared_runs.specs.Shared.{file_of}
use Rattle.shared_runs.specs.Steps.{Enters}
use Rattle.shared_runs.specs.Turns.{GoesOn}
use Rattle.shared_runs.specs.Views.{pairs_at, view_of}
use Rattle.shared_runs.proofs.MemTurns.{frames_is, sound_is}

pub leaves_images : {H D : Type 0} (G : Ghosts H D) (old new : H)
    → GoesOn G.moment G.images_since old new (HoldsOneOrMore (G.images old) (G.content old)
    (G.coming old))
    → LeavesImages G old new
leaves_images G old new goes = record {
  goes = goes;
  sound = λ each c left. ⊎_elim
      (λ (d, now, same). sound_is c (frames_of d) (same ∙ each d now))
      (λ (sound, (n, least, le, is)). sound_is c (take n (G.coming old)) is)
      (goes.each c left);
}

-- all pairs of its first turn are seen
pub view_first : (seen : SeenPairs) (file : List ℕ) → seen.first ≡ length (pairs_at file)
    → view_of seen file ≡ pairs_at file
view_first seen file is = seen_all seen (pairs_at file) (omega (arith, is))

module _ {H D : Type 0} (G : Ghosts H D) (K : DeviceGhosts D) (old new : H) (turn : FirstTurn)
    (s : SharedStore H D G K) (shared : s.turns.shared ≡ new) (first : s.seen.first ≡ turn.pairs)
    (whole : is_some s.turns.mark ≡ true) (damaged : s.turns.damaged ≡ 0)
    (reads : s.turns.reads ≡ 0)
    (told_first : K.tells → IsFirstTurn (G.content old) (G.coming old) (G.content new)
    × TellsFile turn.mark turn.pairs turn.room (G.content new) (G.images new))
    (goes : K.tells → GoesOn G.moment G.images_since old new
    (HoldsOneOrMore (G.images old) (G.content old) (G.coming old)))
    (cause : G.store_faults new ≡ G.store_faults old) where
  file_is : G.content s.turns.shared ≡ G.content new
  file_is = ap G.content shared

  frames_are : K.tells → frames_of (G.content s.turns.shared) ≡ G.coming old
  frames_are told =
      ap frames_of file_is ∙ frames_is (G.content new) (G.coming old) (told_first told).0.read

  first_is : K.tells → s.seen.first ≡ length (pairs_at (G.content s.turns.shared))
  first_is told = first ∙ (told_first told).1.count
      ∙ ap (λ (b : List ℕ). length (pairs_at b)) (sym file_is)

  -- the run enters behind whatever led to the pairs of the file
  enters : K.tells → Enters (pairs_in (G.coming old)) s
  enters told = record {
    follows = λ run before earlier history apart file.
        let pairs : (after before earlier).file ≡ pairs_at (file_of s) =
        file ∙ ap pairs_in (sym (frames_are told)) in
        record {
          history = brought-history earlier [] run apart history;
          file = ap (λ m. m.file) (after-append before earlier (Enter run ∷ []))
              ∙ file-grows (after before earlier) (Enter run ∷ [])
              ∙ append-nil (after before earlier).file ∙ pairs;
          view = entered before earlier [] run tt
              ∙ ap Some (append-nil (after before earlier).file ∙ pairs
              ∙ sym (view_first s.seen (file_of s) (first_is told)))
              ∙ (λ i. if sym whole i then Some (view_of s.seen (file_of s)) else None);
          base = λ t. take_all s.seen.first (pairs_at (file_of s)) (omega (arith, first_is told))
              ∙ sym pairs;
        };
  }

  pub is_opened : IsOpened G K old s
  is_opened = record {
    sound = λ told. (told_first told).0.sound;
    frames = frames_are;
    pairs = λ told. view_first s.seen (G.content s.turns.shared) (first_is told)
        ∙ ap pairs_in (frames_are told);
    base = λ told. take_all s.seen.first (pairs_at (G.content s.turns.shared))
        (omega (arith, first_is told))
        ∙ ap pairs_in (frames_are told);
    whole = whole;
    probes = reads;
    cause = omega (arith, damaged, cause, ap G.store_faults shared);
    images = λ told. leaves_images G old s.turns.shared
        (subst (λ x. GoesOn G.moment G.images_since old x
        (HoldsOneOrMore (G.images old) (G.content old) (G.coming old))) (sym shared) (goes told));
    steps = enters;
  }
