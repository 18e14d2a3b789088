-- The device of a store that was opened, used and handed back.
use Rattle.std.proofs.Common.{◌≡◌, ◌⊎◌, ◌∙◌, inl, inr, ℕ, Bool, true, false, List, Option, Some, None, Ok, refl, sym, subst, ap}
use Rattle.std.specs.Prelude.{◌||◌, IsTrue}
use Rattle.store_dev.specs.Device.{LeavesOnly}
use Rattle.store_dev.specs.Moments.{leaves_more, leaves_then}
use Rattle.store_dev.specs.declared.device.StoreDevice.{Ghosts}
use Rattle.record_log.specs.Kinds.{Entry, generation_of}
use Rattle.record_log.specs.Frames.{ReadsAsOneOf, IsSound}
use Rattle.artifact_store.specs.declared.store.Store.{Store}
use Rattle.artifact_store.specs.Laws.{frames_are}
use Rattle.artifact_store.specs.Opened.{IsOpened, IsUnopened}
use Rattle.artifact_store.specs.Pairs.{told_as}
use Rattle.artifact_store.specs.Store.{device_of, state_of}
use Rattle.pair_reader.specs.declared.wanted.Lengths.{Lengths}
use Rattle.record_log.specs.declared.error.Unopened.{Unopened}
use Rattle.artifact_store.specs.declared.error.OpenErr.{OpenErr}
use Rattle.compact.specs.Current.{generation_in}
use Rattle.compact.specs.Left.{IsReread}
use Rattle.compact.proofs.Telling.{opened_reads, frames_same}
use Rattle.relay_store.specs.Access.{IsAccessOf, is_there}
use Rattle.relay_store.specs.Stores.{state_in, moment_in, images_in}
use Rattle.cli_words.specs.declared.order.Access.{Access}
use Rattle.cli_words.specs.Laws.{IsAccess}
use Rattle.second_runs.specs.Images.{IsBehind, AddsTo}
use Rattle.second_runs.specs.Opened.{IsDeviceIn, StaysOr}

-- ---- which stores there are

-- by other stores that are there
pub access_by : {A B C : Type 0} (access : Access) (local : Option A) (b : B) (c : C)
    → IsAccessOf access local (Some b) → IsAccessOf access local (Some c)
access_by access local b c x = record {
  local_there = x.local_there;
  second_there = x.second_there;
  local_puts = x.local_puts;
  second_puts = x.second_puts;
  puts = x.puts;
}

pub access_both : {A B C D : Type 0} (access : Access) (a : A) (b : B) (c : C) (d : D)
    → IsAccessOf access (Some a) (Some b) → IsAccessOf access (Some c) (Some d)
access_both access a b c d x = record {
  local_there = x.local_there;
  second_there = x.second_there;
  local_puts = x.local_puts;
  second_puts = x.second_puts;
  puts = x.puts;
}

or_puts : (a b : Bool) → IsTrue a ⊎ IsTrue b → IsTrue (a || b)
or_puts true b puts = refl
or_puts false b (inl puts) = let no : false ≡ true = puts in absurd (cc)
or_puts false b (inr puts) = puts

-- what `--cache` gives, where the local store is read
pub access_there : {A B : Type 0} (access : Access) (a : A) (b : B) → IsAccess access
    → access.local_reads ≡ true → IsTrue access.second_reads
    → IsAccessOf access (Some a) (Some b)
access_there access a b (local, second, puts) reads read = record {
  local_there = sym reads;
  second_there = sym read;
  local_puts = local;
  second_puts = second;
  puts = or_puts access.local_puts access.second_puts puts;
}

-- and where it is not
pub access_alone : {A B : Type 0} (access : Access) (missing : Option A) (b : B) → missing ≡ None
    → IsAccess access → access.local_reads ≡ false → IsTrue access.second_reads
    → IsAccessOf access missing (Some b)
access_alone access missing b is (local, second, puts) reads read = record {
  local_there = ap is_there is ∙ sym reads;
  second_there = sym read;
  local_puts = local;
  second_puts = second;
  puts = or_puts access.local_puts access.second_puts puts;
}

-- ---- from the store to its device

module _ {S : Type 0} {G : Ghosts S} (old : Store S G) (new : Option (Store S G)) (device : S)
    (is : IsDeviceIn new device) where
  at_store : (s : Store S G) (P : List ℕ → Type 0)
      → LeavesOnly moment_in images_in (Some old) (Some s) P
      → LeavesOnly G.moment G.images_since (device_of old) (device_of s) P
  at_store s P x = record { later = x.later; each = x.each; before = x.before }

  pub handed : (P : List ℕ → Type 0) → LeavesOnly moment_in images_in (Some old) new P
      → LeavesOnly G.moment G.images_since (device_of old) device P
  handed P x =
      let (s, there, at) = is in
      subst (λ (d : S). LeavesOnly G.moment G.images_since (device_of old) d P) (sym at)
      (at_store s P
      (subst (λ (o : Option (Store S G)). LeavesOnly moment_in images_in (Some old) o P) there x))

  -- it stayed as it was
  pub kept : new ≡ Some old → device ≡ device_of old
  kept same =
      let (s, there, at) = is in
      let both : Some old ≡ Some s = sym same ∙ there in
      let one : old ≡ s = cc in
      at ∙ ap device_of (sym one)

pub faults_of : {S : Type 0} {G : Ghosts S} (store : Option (Store S G)) (device : S)
    → IsDeviceIn store device → (state_in store).faults ≡ G.store_faults device
faults_of {S} {G} store device (s, there, at) =
    ap (λ (o : Option (Store S G)). (state_in o).faults) there ∙ ap G.store_faults (sym at)

-- ---- a device that was opened

module _ {S : Type 0} {G : Ghosts S} (device : S) (lengths : Lengths) (store : Store S G)
    (opened : IsOpened device lengths store) (told : G.tells) where
  -- the store has the generation that its device had
  pub opened_generation : (state_of store).base ≡ generation_in (G.content device)
  opened_generation =
      opened.generation told ∙ ap generation_of (frames_same _ _
      (opened_reads (G.content device) (G.content (device_of store)) (opened.opened told)))

  pub opened_sound : IsSound (G.content device)
  opened_sound =
      let frames = (opened.opened told).frames in
      frames ∙ ap (λ (es : List Entry). Ok es) (sym (frames_are (G.content device) _ frames))

  pub opened_reread : IsReread G device (device_of store)
  opened_reread = record {
    images = opened.images told;
    same = (opened.opened told).same;
  }

  -- what was put into it
  module _ (puts : Bool) (now : G.images device (G.content device)) where
    pub further : (c : List ℕ)
        → IsBehind puts (state_of store).pairs (told_as (state_of store).base c)
        → AddsTo puts (G.images device) c
    further c more = (
      G.content device,
      now,
      inr (
        (state_of store).pairs,
        opened.pairs told,
        subst (λ (n : ℕ). IsBehind puts (state_of store).pairs (told_as n c))
            opened_generation more,
      ),
    )

    pub opened_adds : (new : S) → LeavesOnly G.moment G.images_since (device_of store) new (λ c.
        IsBehind puts (state_of store).pairs (told_as (state_of store).base c))
        → LeavesOnly G.moment G.images_since device new (AddsTo puts (G.images device))
    opened_adds new x =
        leaves_then G.moment G.images_since device (device_of store) new
        (ReadsAsOneOf (G.images device)) _ (AddsTo puts (G.images device))
        (opened.images told) x (λ c one. let (d, there, is) = one in (d, there, inl is)) further

-- ---- opened and handed back

module _ {S : Type 0} {G : Ghosts S} (device : S) (lengths : Lengths) (store : Store S G)
    (opened : IsOpened device lengths store) (told : G.tells) (new : Option (Store S G)) (last : S)
    (is : IsDeviceIn new last) where
  -- by what is so of its images since
  pub stays_or : (P Q : List ℕ → Type 0) → StaysOr (Some store) new P
      → ((c : List ℕ) → ReadsAsOneOf (G.images device) c → Q c) → ((c : List ℕ) → P c → Q c)
      → LeavesOnly G.moment G.images_since device last Q
  stays_or P Q (inl same) one left =
      subst (λ (d : S). LeavesOnly G.moment G.images_since device d Q)
      (sym (kept store new last is same))
      (leaves_more G.moment G.images_since device (device_of store) _ Q (opened.images told) one)
  stays_or P Q (inr x) one left =
      leaves_then G.moment G.images_since device (device_of store) last
      (ReadsAsOneOf (G.images device)) P Q (opened.images told) (handed store new last is P x)
      one left

  pub kept_reread : new ≡ Some store → IsReread G device last
  kept_reread same =
      subst (λ (d : S). IsReread G device d) (sym (kept store new last is same))
      (opened_reread device lengths store opened told)

pub unopened_reread : {S : Type 0} {G : Ghosts S} (device : S) (unopened : Unopened S OpenErr)
    → IsUnopened G device unopened → G.tells → IsReread G device unopened.store
unopened_reread device unopened x told = record { images = x.images told; same = x.same told }
