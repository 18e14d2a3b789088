-- A spare store over the three steps.
use Rattle.std.proofs.Common.{◌≡◌, inl, inr, ℕ, List, [], Ok, Err, sym, ◌∙◌, ap, subst}
use Rattle.std.proofs.lemmas.List.{append-nil}
use Rattle.store_dev.specs.Device.{LeavesOnly}
use Rattle.store_dev.specs.Moments.{leaves_then, leaves_more}
use Rattle.cache_api.specs.Pairs.{Pair}
use Rattle.record_log.specs.Kinds.{Entry}
use Rattle.compact.specs.declared.error.CompactErr.{CompactErr}
use Rattle.compact.specs.declared.error.CompactErr.TheVariants.{From, To, NoRoom, LastGeneration, Failed, OutOfMemory}
use Rattle.compact.specs.Answers.{IsNoRoomWhere}
use Rattle.compact.specs.Left.{ReadsAs, IsStoreOf, IsUnsealed, IsRenewing}
use Rattle.compact.specs.Room.{lacking}
use Rattle.compact.specs.Sources.{IsOfGeneration, IsPut, IsSealing, LeavesRefused}
use Rattle.compact.proofs.Telling.{store_tells, tells_same}

-- ---- what lacks room

pub step_lacks : (e : CompactErr) (fs gs : List Entry) (pairs : List Pair)
    → IsPut {T = Unit {0}} (Err e) fs pairs gs → (generation : ℕ)
    → IsNoRoomWhere {T = Unit {0}} (Err e) (lacking generation fs pairs)
step_lacks (From fault) fs gs pairs x generation = tt
step_lacks (To fault) fs gs pairs x generation = tt
step_lacks (NoRoom n f) fs gs pairs x generation =
    ap (lacking generation fs) (sym (append-nil pairs)) ∙ x generation []
step_lacks LastGeneration fs gs pairs x generation = tt
step_lacks Failed fs gs pairs x generation = tt
step_lacks OutOfMemory fs gs pairs x generation = tt

-- it is what lacks room behind them
pub step_put : (fs gs : List Entry) (pairs : List Pair) → IsPut {T = Unit {0}} (Ok tt) fs pairs gs
    → (generation : ℕ) → lacking generation gs [] ≡ lacking generation fs pairs
step_put fs gs pairs x generation =
    sym (ap (lacking generation fs) (sym (append-nil pairs)) ∙ x generation [])

-- ---- what a refusal leaves

pub refused_by : (e : CompactErr) (images P : List ℕ → Type 0) → ((c : List ℕ) → images c → P c)
    → LeavesRefused e images P
refused_by (From fault) images P all = tt
refused_by (To fault) images P all = tt
refused_by (NoRoom n f) images P all = all
refused_by LastGeneration images P all = all
refused_by Failed images P all = tt
refused_by OutOfMemory images P all = tt

pub refused_more : (e : CompactErr) (images P Q : List ℕ → Type 0) → ((c : List ℕ) → P c → Q c)
    → LeavesRefused e images P → LeavesRefused e images Q
refused_more (From fault) images P Q more x = tt
refused_more (To fault) images P Q more x = tt
refused_more (NoRoom n f) images P Q more x = λ c now. more c (x c now)
refused_more LastGeneration images P Q more x = λ c now. more c (x c now)
refused_more Failed images P Q more x = tt
refused_more OutOfMemory images P Q more x = tt

-- ---- what an image is

pub unsealed_zero : (was : ℕ) (c : List ℕ) → IsOfGeneration 0 c → IsUnsealed was c
unsealed_zero was c (pairs, is) =
    let t = store_tells 0 pairs c is in record { sound = t.sound; generation = inr t.generation }

pub unsealed_filled : (was : ℕ) (pairs : List Pair) (bytes c : List ℕ) → IsStoreOf 0 pairs bytes
    → ReadsAs bytes c → IsUnsealed was c
unsealed_filled was pairs bytes c is reads =
    let t = tells_same 0 pairs c bytes reads (store_tells 0 pairs bytes is) in
    record { sound = t.sound; generation = inr t.generation }

pub renewing_sealed : (was generation : ℕ) (pairs : List Pair) (bytes c : List ℕ)
    → IsStoreOf 0 pairs bytes → IsSealing bytes generation c → IsRenewing was generation pairs c
renewing_sealed was generation pairs bytes c is (inl reads) =
    inl (unsealed_filled was pairs bytes c is reads)
renewing_sealed was generation pairs bytes c is (inr sealed) =
    inr (subst (λ (l : List Pair). IsStoreOf generation l c) (store_tells 0 pairs bytes is).pairs sealed)

module _ {D : Type 0} (moment : D → ℕ) (since : D → ℕ → List ℕ → Type 0) (was generation : ℕ)
    (pairs : List Pair) where
  -- over two steps
  pub renewing_two : (a b d : D) → LeavesOnly moment since a b (IsUnsealed was)
      → LeavesOnly moment since b d (IsOfGeneration 0)
      → LeavesOnly moment since a d (IsUnsealed was)
  renewing_two a b d x y =
      leaves_then moment since a b d (IsUnsealed was) (IsOfGeneration 0) (IsUnsealed was) x y
      (λ c p. p) (unsealed_zero was)

  pub renewing_more : (a d : D) → LeavesOnly moment since a d (IsUnsealed was)
      → LeavesOnly moment since a d (IsRenewing was generation pairs)
  renewing_more a d x =
      leaves_more moment since a d (IsUnsealed was) (IsRenewing was generation pairs) x (λ c p. inl p)

  -- and over three
  pub renewing_three : (a b d : D) (bytes : List ℕ) → IsStoreOf 0 pairs bytes
      → LeavesOnly moment since a b (IsUnsealed was)
      → LeavesOnly moment since b d (IsSealing bytes generation)
      → LeavesOnly moment since a d (IsRenewing was generation pairs)
  renewing_three a b d bytes is x y =
      leaves_then moment since a b d (IsUnsealed was) (IsSealing bytes generation)
      (IsRenewing was generation pairs) x y (λ c p. inl p)
      (λ c p. renewing_sealed was generation pairs bytes c is p)
