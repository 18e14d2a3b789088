-- A call of a run that puts pairs and sees them.
use Rattle.std.proofs.Common.{◌≡◌, Some, ℕ, ◌+◌, ◌<◌, ◌≤◌, List, ◌++◌, length, length-append, max}
use Rattle.std.proofs.Common.{refl, sym, ◌∙◌, ap, subst, arith}
use Rattle.std.specs.List.{All}
use Rattle.std.proofs.lemmas.List.Elements.{All-weaker, All-append}
use Rattle.store_dev.specs.declared.device.StoreDevice.{Ghosts as DeviceGhosts}
use Rattle.cache_api.specs.declared.puts.Put.{Put}
use Rattle.cache_api.specs.Cache.{Keeps}
use Rattle.cache_api.specs.Moments.{Leaves}
use Rattle.cache_api.specs.Pairs.{Pair, chosen, IsPartSince}
use Rattle.record_log.specs.Kinds.{Entry}
use Rattle.pair_frames.specs.Pairs.{pairs_in}
use Rattle.pair_index.specs.declared.seen.SeenPairs.{SeenPairs}
use Rattle.artifact_store.specs.declared.mark.StoreMark.{StoreMark}
use Rattle.shared_runs.specs.declared.store.SharedStore.{SharedStore}
use Rattle.shared_runs.specs.declared.turn.Shared.{Ghosts}
use Rattle.shared_runs.specs.declared.turns.Turns.{Turns}
use Rattle.shared_runs.specs.Frames.{StartWith}
use Rattle.shared_runs.specs.Others.{with_pairs}
use Rattle.shared_runs.specs.Own.{numbers_on, stored_in}
use Rattle.shared_runs.specs.Passes.{PutsTurn, IsPut}
use Rattle.shared_runs.specs.Shared.{file_of, frames_in, coming_in, state_of, moment_of, left_of}
use Rattle.shared_runs.specs.Shared.{stores}
use Rattle.shared_runs.specs.Views.{pairs_at, view_of}
use Rattle.shared_runs.proofs.MemTurns.{frames_is}
use Rattle.shared_runs.proofs.Owning.{length-chosen, numbers_below}
use Rattle.shared_runs.proofs.Passed.{keeps_start}
use Rattle.shared_runs.proofs.PutCalls.{own_store, put_starts, pairs_put, left_more, next_few}

-- what a turn put, and the numbers that these pairs have
pub record AreNumbered {H D : Type 0} (G : Ghosts H D) (K : DeviceGhosts D)
    (old : SharedStore H D G K) (turns : Turns H) (news : List Pair) (puts : List Put)
    (from next : ℕ) (own : List ℕ) : Type 0 where
  pub done : K.tells → IsPut (coming_in old) news (G.content turns.shared) turns.count puts
  pub even : length puts ≡ length news
  pub from_is : from ≡ max turns.count old.next
  pub own_is : own ≡ old.seen.own ++ numbers_on from (stored_in puts)
  pub next_is : next ≡ from + stored_in puts

module _ {H D : Type 0} {G : Ghosts H D} {K : DeviceGhosts D} (old : SharedStore H D G K)
    (turns : Turns H) (news : List Pair) (mark : StoreMark) (was : old.turns.mark ≡ Some mark)
    (stays : K.tells → StartWith (frames_in old) (coming_in old))
    (turn : PutsTurn G K news old.turns turns) (puts : List Put) (from next : ℕ) (own : List ℕ)
    (x : AreNumbered G K old turns news puts from next own) where
  abbrev pub seen_now : SeenPairs
  seen_now = record { first = old.seen.first; own = own }

  pub below_now : All (λ n. n < next) own
  below_now =
      subst (λ (l : List ℕ). All (λ n. n < next) l) (sym x.own_is)
      (All-append (λ n. n < next) old.seen.own (numbers_on from (stored_in puts))
      (All-weaker (λ n. n < old.next) (λ n. n < next)
      (λ n lt. omega (arith, lt, x.from_is, x.next_is)) old.seen.own old.below)
      (numbers_below from (stored_in puts) next (omega (arith, x.next_is))))

  from_all : K.tells → from ≡ length (pairs_in (coming_in old))
  from_all told =
      omega (arith, x.from_is, (x.done told).count_is, next_few old mark was stays told)

  many : length (chosen news puts) ≡ stored_in puts
  many = length-chosen news puts x.even

  pub few_now : K.tells → next ≤ length (pairs_at (G.content turns.shared))
  few_now told =
      let done = x.done told in
      omega (
        arith,
        x.next_is,
        from_all told,
        many,
        ap (λ (l : List Entry). length (pairs_in l))
            (frames_is (G.content turns.shared) (with_pairs (coming_in old) news) done.frames),
        ap length done.pairs_are,
        length-append (pairs_in (coming_in old)) (chosen news puts),
      )

  abbrev pub store_now : SharedStore H D G K
  store_now = own_store old turns news mark was stays turn seen_now next refl below_now few_now

  own_now : own ≡ old.seen.own ++ numbers_on from (length (chosen news puts))
  own_now = x.own_is ∙ ap (λ (n : ℕ). old.seen.own ++ numbers_on from n) (sym many)

  pub pairs_now : K.tells → view_of seen_now (G.content turns.shared)
      ≡ view_of old.seen (file_of old) ++ chosen news (stores old news)
  pairs_now told =
      let done = x.done told in
      pairs_put old turns news mark was stays turn told done.frames (chosen news puts) from
      done.pairs_are (from_all told) store_now refl refl own_now
      ∙ ap (λ p. view_of old.seen (file_of old) ++ chosen news p) done.puts_are

  pub lasting_now : K.tells → (state_of old).lasting ≤ (state_of store_now).lasting
  lasting_now told = omega (
    arith,
    ap length (pairs_now told),
    length-append (state_of old).pairs (chosen news (stores old news)),
  )

  pub file_now : K.tells → pairs_at (G.content turns.shared)
      ≡ pairs_in (coming_in old) ++ chosen news (stores old news)
  file_now told =
      let done = x.done told in
      ap pairs_in (frames_is (G.content turns.shared) (with_pairs (coming_in old) news) done.frames)
      ∙ done.pairs_are ∙ ap (λ p. pairs_in (coming_in old) ++ chosen news p) done.puts_are

  pub left_now : K.tells → Leaves moment_of left_of old store_now
      (λ i. IsPartSince (state_of old).lasting
      ((state_of old).pairs ++ chosen news (stores old news)) i.pairs)
  left_now told =
      let done = x.done told in
      subst (λ p. Leaves moment_of left_of old store_now
      (λ i. IsPartSince (state_of old).lasting ((state_of old).pairs ++ chosen news p) i.pairs))
      done.puts_are
      (left_more old turns news mark was stays turn told done.frames (chosen news puts) from
      done.pairs_are (from_all told) store_now refl refl own_now refl refl)

  pub keeps_now : turns.room ≤ old.turns.room → Keeps (state_of old) (state_of store_now)
  keeps_now room =
      keeps_start old store_now refl (put_starts old turns news mark was stays turn) room
      turn.grows turn.reads
