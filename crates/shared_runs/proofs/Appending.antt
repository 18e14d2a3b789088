-- A store that was opened in a device, and into which pairs were put.
use Rattle.std.proofs.Common.{◌≡◌, inl, inr, ℕ, ◌-◌, ◌≤◌, List, ◌++◌, length, Ok, refl, sym, ◌∙◌}
use Rattle.std.proofs.Common.{ap, arith, length-append}
use Rattle.std.specs.Prelude.{IsTrue}
use Rattle.std.proofs.lemmas.List.{take_all}
use Rattle.rel_path.specs.Limits.{store_limit}
use Rattle.store_dev.specs.Device.{Only, LeavesOnly}
use Rattle.store_dev.specs.Moments.{leaves_then}
use Rattle.store_dev.specs.declared.device.StoreDevice.{Ghosts}
use Rattle.cache_api.specs.Pairs.{Pair}
use Rattle.record_log.specs.Kinds.{Entry}
use Rattle.record_log.specs.Frames.{reading, frames_of, ends, ReadsAsOneOf}
use Rattle.record_log.specs.Batch.{IsBeforeOrAll}
use Rattle.pair_frames.specs.Puts.{added}
use Rattle.pair_reader.specs.declared.wanted.Lengths.{Lengths}
use Rattle.artifact_store.specs.declared.store.Store.{Store}
use Rattle.artifact_store.specs.Opened.{IsOpened}
use Rattle.artifact_store.specs.Store as store
use Rattle.shared_runs.specs.Appended.{HasPairs}
use Rattle.shared_runs.specs.Frames.{HoldsOneOrMore}
use Rattle.shared_runs.specs.MemLaws.{frames_with_is}
use Rattle.shared_runs.specs.Others.{frames_with}
use Rattle.shared_runs.proofs.MemTurns.{frames_is, sound_is}

-- the room of a store that is whole is what its frames leave
pub room_is : {D : Type 0} {G : Ghosts D} (s : Store D G) → IsTrue (store.state_of s).whole
    → G.tells
    → (store.state_of s).room ≡ store_limit - ends (store.frames_of s)
room_is s whole told = omega (arith, (s.log.kept whole told).index.end)

module _ {D : Type 0} (G : Ghosts D) (start : D) (only : Only (G.content start) (G.images start))
    (s new : Store D G) (told : G.tells) (lengths : Lengths) (opened : IsOpened start lengths s)
    (news : List Pair)
    (frames : store.frames_of new ≡ store.frames_of s ++ added (store.state_of s).room
    (store.frames_of s) news)
    (images : LeavesOnly G.moment G.images_since (store.device_of s) (store.device_of new)
    (IsBeforeOrAll (store.frames_of s) (added (store.state_of s).room (store.frames_of s) news)))
    (whole : IsTrue (store.state_of new).whole) where
  abbrev bytes : List ℕ
  bytes = G.content start

  abbrev es : List Entry
  es = store.frames_of s

  abbrev all : List Entry
  all = frames_with bytes news

  read : reading bytes ≡ Ok es
  read = (opened.opened told).frames

  all_is : es ++ added (store.state_of s).room es news ≡ all
  all_is = ap (λ (n : ℕ). es ++ added n es news) (room_is s opened.whole told)
      ∙ sym (frames_with_is bytes es news read)

  abbrev P : List ℕ → Type 0
  P = HoldsOneOrMore (λ b. b ≡ bytes) bytes all

  first : (c : List ℕ) → ReadsAsOneOf (G.images start) c → P c
  first c (d, now, same) = inl (d, only d now, same)

  then : (c : List ℕ) → IsBeforeOrAll es (added (store.state_of s).room es news) c → P c
  then c (inl is) = inl (bytes, refl, is ∙ sym read)
  then c (inr is) =
      let few : length (frames_of bytes) ≤ length all =
      omega (
        arith,
        ap length all_is,
        ap length (frames_is bytes es read),
        length-append es (added (store.state_of s).room es news),
      ) in
      inr (
        sound_is bytes es read,
        (
          length all,
          few,
          omega arith,
          is ∙ ap (λ (l : List Entry). Ok l) (all_is
              ∙ sym (take_all (length all) all (omega arith))),
        ),
      )

  pub has_pairs : HasPairs G start news (store.device_of new)
  has_pairs =
      let kept = new.log.kept whole told in
      record {
        taken = record {
          frames = λ sound. kept.read ∙ ap (λ (l : List Entry). Ok l) (frames ∙ all_is);
          durable = λ sound. kept.durable;
        };
        left = leaves_then G.moment G.images_since start (store.device_of s) (store.device_of new)
            (ReadsAsOneOf (G.images start)) (IsBeforeOrAll es
            (added (store.state_of s).room es news)) P
            (opened.images told) images first then;
      }
