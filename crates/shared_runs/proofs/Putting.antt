-- A turn in which pairs are put.
use Rattle.std.proofs.Common.{◌≡◌, ◌⊎◌, inl, inr, ⊎_elim, ℕ, ◌-◌, ◌≤◌, Bool, List, [], ◌++◌, length}
use Rattle.std.proofs.Common.{take, Result, Ok, Err, sym, ◌∙◌, ap, subst, arith}
use Rattle.std.specs.Prelude.{IfOk, OnOk}
use Rattle.std.proofs.lemmas.List.{append-nil, take_all}
use Rattle.rel_path.specs.Limits.{store_limit}
use Rattle.store_dev.specs.Device.{LeavesOnly}
use Rattle.store_dev.specs.declared.device.StoreDevice.{Ghosts as DeviceGhosts}
use Rattle.cache_api.specs.declared.error.CacheErr.{CacheErr}
use Rattle.cache_api.specs.declared.error.CacheErr.TheVariants.{Full, Failed, OutOfMemory}
use Rattle.cache_api.specs.Cache.{StaysWhole, AllAfter}
use Rattle.cache_api.specs.Pairs.{Pair}
use Rattle.cache_api.proofs.Firsts.{first_added}
use Rattle.record_log.specs.Kinds.{Entry}
use Rattle.record_log.specs.Frames.{reading, frames_of, ends, IsSound}
use Rattle.record_log.specs.Texts.{ends_append}
use Rattle.record_log.specs.Batch.{IsBeforeOrAll}
use Rattle.pair_frames.specs.Puts.{added}
use Rattle.artifact_store.specs.declared.store.Store.{Store}
use Rattle.artifact_store.specs.Pairs.{free_in}
use Rattle.artifact_store.specs.Store as store
use Rattle.shared_runs.specs.declared.turn.Shared.{Ghosts}
use Rattle.shared_runs.specs.Errors.{OrFailed}
use Rattle.shared_runs.specs.Frames.{StartWith, HoldsFirst}
use Rattle.shared_runs.specs.Others.{with_pairs}
use Rattle.shared_runs.specs.Passes.{HoldsFirstOrPut}
use Rattle.shared_runs.specs.Passing.{IsInTurn, BeginsTurn, LeavesFirst}
use Rattle.shared_runs.specs.Turns.{GoesOn, LeftInTurn}
use Rattle.shared_runs.proofs.Appending.{room_is}
use Rattle.shared_runs.proofs.Fronts.{first_all, starts_few}
use Rattle.shared_runs.proofs.MemTurns.{frames_is}
use Rattle.shared_runs.proofs.Turning.{goes_then}

ok_apart : (T : Type 0) (x : T) (r : Result T CacheErr) → r ≡ Err Failed → r ≡ Ok x → ⊥
ok_apart T x (Ok y) is was = absurd cc
ok_apart T x (Err e) is was = absurd cc

pub ok_was : {T : Type 0} (answer result : Result T CacheErr) (x : T) → OrFailed answer result
    → result ≡ Ok x → answer ≡ Ok x
ok_was {T = T} answer result x (inl is) was = sym is ∙ was
ok_was {T = T} answer result x (inr is) was = absurd (ok_apart T x result is was)

-- what was said of an answer that was well
pub ok_holds : {T : Type 0} (answer : Result T CacheErr) (x : T) (P : T → Type 0) → answer ≡ Ok x
    → IfOk answer P → P x
ok_holds {T = T} answer x P is p = subst (λ (r : Result T CacheErr). IfOk r P) is p

pub ok_whole : {T : Type 0} (answer : Result T CacheErr) (x : T) (was now : Bool) → answer ≡ Ok x
    → StaysWhole answer was now → now ≡ was
ok_whole {T = T} answer x was now is p = subst
    (λ (r : Result T CacheErr). StaysWhole r was now) is p

pub ok_after : {T : Type 0} (answer : Result T CacheErr) (x : T) (was more now : List Pair) → answer
    ≡ Ok x
    → AllAfter answer (length was) was more now → now ≡ was ++ more
ok_after {T = T} answer x was more now is p = subst
    (λ (r : Result T CacheErr). AllAfter r (length was) was more now) is p

pub ok_said : {T : Type 0} (answer : Result T CacheErr) (x : T) (P : Type 0) → answer ≡ Ok x
    → OnOk answer P → P
ok_said {T = T} answer x P is p = subst (λ (r : Result T CacheErr). OnOk r P) is p

-- the first of what was to be put, whatever was answered
pub some_put : {T : Type 0} (answer : Result T CacheErr) (was more now : List Pair)
    → AllAfter answer (length was) was more now
    → (count : ℕ) × (count ≤ length more) × (now ≡ was ++ take count more)
some_put (Ok x) was more now is = (
  length more,
  omega arith,
  is ∙ ap (λ (l : List Pair). was ++ l) (sym (take_all (length more) more (omega arith))),
)
some_put (Err Failed) was more now is = first_added was more now is
some_put (Err OutOfMemory) was more now is = (0, omega arith, is ∙ sym (append-nil was))
some_put (Err Full) was more now is = (0, omega arith, is ∙ sym (append-nil was))

module _ {H D : Type 0} (G : Ghosts H D) (K : DeviceGhosts D) (old mid : H) (s n : Store D K)
    (news : List Pair)
    (begins : BeginsTurn G K old mid s) (sound : K.tells → IsSound (G.content old))
    (images : K.tells → LeavesOnly K.moment K.images_since (store.device_of s) (store.device_of n)
    (IsBeforeOrAll (store.frames_of s) (added (store.state_of s).room (store.frames_of s) news)))
    (after : K.tells → (store.frames_of n ≡ store.frames_of s)
    ⊎ (store.frames_of n ≡ store.frames_of s ++ added (store.state_of s).room
    (store.frames_of s) news))
    (later : K.store_faults (store.device_of s) ≤ K.store_faults (store.device_of n)) where
  -- what is added is what is added behind the frames that were to come
  pub with_is : K.tells → store.frames_of s ++ added (store.state_of s).room
      (store.frames_of s) news ≡ with_pairs (G.coming old) news
  with_is told =
      let frames = begins.frames told (sound told) in
      ap (λ (k : ℕ). store.frames_of s ++ added k (store.frames_of s) news)
      (room_is s begins.whole told)
      ∙ ap (λ (l : List Entry). with_pairs l news) frames

  abbrev Whole : List ℕ → Type 0
  Whole c = (reading c ≡ Ok (G.coming old)) ⊎ (reading c ≡ Ok (with_pairs (G.coming old) news))

  whole_of : K.tells → (c : List ℕ) → IsBeforeOrAll (store.frames_of s)
      (added (store.state_of s).room (store.frames_of s) news) c
      → Whole c
  whole_of told c (inl is) = inl (is ∙ ap (λ (l : List Entry). Ok l)
      (begins.frames told (sound told)))
  whole_of told c (inr is) = inr (is ∙ ap (λ (l : List Entry). Ok l) (with_is told))

  left_put : K.tells → (c : List ℕ) → K.images_since (store.device_of n) (G.turn mid).start c
      → Whole c
  left_put told c left = ⊎_elim
      (λ was. inl (begins.left told (sound told) c was))
      (λ now. whole_of told c now)
      ((images told).before (G.turn mid).start c (begins.turn.start told) left)

  pub file_put : K.tells → Whole (K.content (store.device_of n))
  file_put told = ⊎_elim
      (λ is. inl ((n.log.front told).read ∙ ap (λ (l : List Entry). Ok l)
      (is ∙ begins.frames told (sound told))))
      (λ is. inr ((n.log.front told).read ∙ ap (λ (l : List Entry). Ok l) (is ∙ with_is told)))
      (after told)

  pub put_in_turn : IsInTurn G K mid (store.device_of n)
  put_in_turn = record {
    held = begins.turn.held;
    count = omega (arith, begins.turn.count, later);
    counted = begins.turn.counted;
    start = λ told. omega (arith, begins.turn.start told, (images told).later);
    kept = λ told here c left.
        let all = frames_is (G.content mid) (G.coming old) (begins.read told (sound told)) in
        ⊎_elim
        (λ is. (
          [],
          is ∙ ap (λ (l : List Entry). Ok l)
              (sym (ap (λ (l : List Entry). l ++ []) all ∙ append-nil (G.coming old))),
        ))
        (λ is.
        let more = added (store_limit - ends (G.coming old)) (G.coming old) news in
        (more, is ∙ ap (λ (l : List Entry). Ok (l ++ more)) (sym all)))
        (left_put told c left);
  }

  -- and given back
  module _ (end : H) (first : K.tells → LeavesFirst G old mid)
      (starts : K.tells → StartWith (frames_of (G.content old)) (G.coming old))
      (given : K.tells → G.content end ≡ K.content (store.device_of n))
      (goes : K.tells → GoesOn G.moment G.images_since mid end
      (LeftInTurn (G.images mid) (K.images_since (store.device_of n) (G.turn mid).start)))
      (earlier : (m k : ℕ) (c : List ℕ) → m ≤ k → k ≤ G.moment end → G.images_since end k c
      → G.images_since end m c) where
    abbrev least : ℕ
    least = length (frames_of (G.content old))

    abbrev P : List ℕ → Type 0
    P = HoldsFirstOrPut least (G.coming old) news

    of_whole : K.tells → (c : List ℕ) → Whole c → P c
    of_whole told c (inl is) =
        inl (first_all least (G.coming old) c (starts_few (frames_of (G.content old)) (G.coming old)
        (starts told)) is)
    of_whole told c (inr is) = inr is

    pub puts_file : K.tells → P (G.content end)
    puts_file told = subst P (sym (given told))
        (of_whole told (K.content (store.device_of n)) (file_put told))

    pub puts_goes : K.tells → GoesOn G.moment G.images_since old end P
    puts_goes told =
        goes_then G.moment G.images_since old mid end (HoldsFirst least (G.coming old))
        (LeftInTurn (G.images mid) (K.images_since (store.device_of n) (G.turn mid).start)) P
        earlier
        (first told).goes (goes told) (λ c p. inl p)
        (λ c. ⊎_elim
        (λ was. of_whole told c (inl (ap reading (begins.durable told (sound told) c was)
        ∙ begins.read told (sound told))))
        (λ now. of_whole told c (left_put told c now)))

    -- the frames that were put take of the room
    pub puts_free : (told : K.tells) → free_in (G.content end) ≤ free_in (G.content old)
    puts_free told =
        let (more, is) = starts told in
        let less : ends (frames_of (G.content old)) ≤ ends (G.coming old) =
        omega (arith, ap ends is, ends_append (frames_of (G.content old)) more) in
        let all = added (store_limit - ends (G.coming old)) (G.coming old) news in
        ⊎_elim
        (λ read. omega (
          arith,
          less,
          ap ends (frames_is (G.content end) (G.coming old)
              (ap reading (given told) ∙ read)),
        ))
        (λ read. omega (
          arith,
          less,
          ends_append (G.coming old) all,
          ap ends (frames_is (G.content end) (with_pairs (G.coming old) news)
              (ap reading (given told) ∙ read)),
        ))
        (file_put told)

    pub puts_room : (told : K.tells) → free_in (G.content end) ≤ (store.state_of s).room
    puts_room told =
        let all = added (store_limit - ends (G.coming old)) (G.coming old) news in
        let room = room_is s begins.whole told in
        let frames = ap ends (begins.frames told (sound told)) in
        ⊎_elim
        (λ read. omega (
          arith,
          room,
          frames,
          ap ends
              (frames_is (G.content end) (G.coming old) (ap reading (given told) ∙ read)),
        ))
        (λ read. omega (
          arith,
          room,
          frames,
          ends_append (G.coming old) all,
          ap ends (frames_is (G.content end) (with_pairs (G.coming old) news)
              (ap reading (given told) ∙ read)),
        ))
        (file_put told)
