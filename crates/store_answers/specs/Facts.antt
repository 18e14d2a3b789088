-- What follows of the bytes of stores, and of two of which one is current.
use Rattle.std.proofs.Common.{◌≡◌, ◌≤◌, ◌<◌, inl, inr, ℕ, ◌-◌, Bool, true, false, cond, List, []}
use Rattle.std.proofs.Common.{length, Option, Some, None, Ok, Err, refl, sym, ◌∙◌, ap, arith}
use Rattle.std.specs.Prelude.{Result}
use Rattle.std.proofs.lemmas.Bool.{cases_lt, le-ltb, lt-ltb}
use Rattle.std.proofs.lemmas.Result.{IfErr-at_err}
use Rattle.rel_path.specs.Limits.{store_limit}
use Rattle.cache_api.specs.Pairs.{Pair}
use Rattle.record_log.specs.Kinds.{Entry, generation_of}
use Rattle.record_log.specs.Frames.{Fault, reading, frames_of, ends, IsSound}
use Rattle.artifact_store.specs.Answers.{IsFaultOf}
use Rattle.artifact_store.specs.declared.error.OpenErr.{OpenErr}
use Rattle.artifact_store.specs.declared.error.OpenErr.TheVariants as opening
use Rattle.artifact_store.specs.Pairs.{pairs_in, stands_for, free_in}
use Rattle.compact.specs.declared.error.CurrentErr.{CurrentErr}
use Rattle.compact.specs.declared.error.CurrentErr.TheVariants as two
use Rattle.compact.specs.Answers.{IsFirstFault, IsSpareFault}
use Rattle.compact.specs.declared.side.Side.{Side}
use Rattle.compact.specs.declared.side.Side.TheVariants.{First, Spare}
use Rattle.compact.specs.Current.{generation_in, pairs_held, newer_of, current_of, on_side}
use Rattle.compact.specs.Current.{pairs_of}
use Rattle.compact.proofs.Telling.{frames_same, stands_itself}
use Rattle.refusals.specs.declared.refusal.Refusal.{Refusal}
use Rattle.refusals.specs.declared.refusal.StoreFile.{StoreFile}
use Rattle.refusals.specs.declared.refusal.StoreFile.TheVariants as file
use Rattle.answers.specs.Moments.{Held}
use Rattle.store_answers.specs.Stores.{Stores, stores_of, held_in, held_by, if_both}
use Rattle.store_answers.specs.Refused.{store_refusal, IsNoStore, IsNoStores}
use Rattle.store_answers.specs.Refused.{IsStoreRefusal, IsCurrentRefusal}

-- ---- bytes that are read alike

pub stands_same : (a b : List ℕ) → reading a ≡ reading b → stands_for a ≡ stands_for b
unfolding stands_for
stands_same a b same =
    ap (λ (r : Result (List Entry) Fault). elim r as (λ _. Option (List Pair))
    [ Ok es ↦ Some (pairs_in es) | Err _ ↦ None ]) same

pub generation_same : (a b : List ℕ) → reading a ≡ reading b → generation_in a ≡ generation_in b
generation_same a b same = ap generation_of (frames_same a b same)

free_same : (a b : List ℕ) → reading a ≡ reading b → free_in a ≡ free_in b
free_same a b same = ap (λ (fs : List Entry). store_limit - ends fs) (frames_same a b same)

-- a store holds what one holds that is read alike
pub held_same : (a b : List ℕ) → reading a ≡ reading b → held_by a ≡ held_by b
held_same a b same i = record { pairs = stands_same a b same i; free = free_same a b same i }

-- ---- which of two is current

newer_first : (a b : ℕ) → b ≤ a → newer_of a b ≡ First
newer_first a b le = ap (λ (t : Bool). cond t Spare First) (le-ltb a b le)

newer_spare : (a b : ℕ) → a < b → newer_of a b ≡ Spare
newer_spare a b lt = ap (λ (t : Bool). cond t Spare First) (lt-ltb a b lt)

first_newer : (a b : ℕ) → newer_of a b ≡ First → b ≤ a
first_newer a b is = elim (cases_lt a b) [
  | inl lt ↦ let other = newer_spare a b lt in absurd (cc (is, other))
  | inr le ↦ le
]

spare_newer : (a b : ℕ) → newer_of a b ≡ Spare → a < b
spare_newer a b is = elim (cases_lt a b) [
  | inl lt ↦ lt
  | inr le ↦ let other = newer_first a b le in absurd (cc (is, other))
]

-- by generations alone
pub current_same : (a b x y : List ℕ) → generation_in x ≡ generation_in a
    → generation_in y ≡ generation_in b → current_of x y ≡ current_of a b
current_same a b x y p q i = newer_of (p i) (q i)

on_first : (f s : List ℕ) → generation_in s ≤ generation_in f → pairs_of f s ≡ stands_for f
on_first f s le =
    ap (λ (side : Side). stands_for (on_side side f s))
    (newer_first (generation_in f) (generation_in s) le)

on_spare : (f s : List ℕ) → generation_in f < generation_in s → pairs_of f s ≡ stands_for s
on_spare f s lt =
    ap (λ (side : Side). stands_for (on_side side f s))
    (newer_spare (generation_in f) (generation_in s) lt)

-- ---- what both hold

both_there : {A B C : Type 0} (a : Option A) (b : Option B) (c : Option C) (x : A) (y : B)
    → a ≡ Some x → b ≡ Some y → if_both a b c ≡ c
both_there (Some u) (Some v) c x y p q = refl
both_there None b c x y p q = absurd (cc p)
both_there (Some u) None c x y p q = absurd (cc q)

module _ (a b : List ℕ) (sound : IsSound a) (also : IsSound b) where
  pub both_hold : (held_in (stores_of a b)).pairs ≡ pairs_of a b
  both_hold = both_there (stands_for a) (stands_for b) (pairs_of a b) (pairs_held a) (pairs_held b)
      (stands_itself a sound) (stands_itself b also)

  pub held_first : current_of a b ≡ First → held_in (stores_of a b) ≡ held_by a
  held_first is i = record {
    pairs = (both_hold ∙ ap (λ (side : Side). stands_for (on_side side a b)) is) i;
    free = ap (λ (side : Side). free_in (on_side side a b)) is i;
  }

  pub held_spare : current_of a b ≡ Spare → held_in (stores_of a b) ≡ held_by b
  held_spare is i = record {
    pairs = (both_hold ∙ ap (λ (side : Side). stands_for (on_side side a b)) is) i;
    free = ap (λ (side : Side). free_in (on_side side a b)) is i;
  }

-- ---- files that are no stores

pub no_some : {X : Type 0} {x : X} → None ≡ Some x → ⊥
no_some e = cc

-- bytes that are no store stand for no pairs
stands_none : (stored : List ℕ) (fault : Fault) → reading stored ≡ Err fault
    → stands_for stored ≡ None
unfolding stands_for
stands_none stored fault bad = rw (bad, stands_for) refl

if_first : {A B C : Type 0} (a : Option A) (b : Option B) (c : Option C) → a ≡ None
    → if_both a b c ≡ None
if_first None b c is = refl
if_first (Some x) b c is = absurd (no_some (sym is))

if_second : {A B C : Type 0} (a : Option A) (b : Option B) (c : Option C) → b ≡ None
    → if_both a b c ≡ None
if_second None b c is = refl
if_second (Some x) None c is = refl
if_second (Some x) (Some y) c is = absurd (no_some (sym is))

-- where a store is none, nothing is held
pub held_none : (stores : Stores) (reason : Refusal) → IsNoStores stores reason
    → (held_in stores).pairs ≡ None
held_none stores reason (inl bad) =
    if_first _ _ _ (stands_none stores.store bad.fault bad.reads)
held_none stores reason (inr (sound, bad)) =
    if_second _ _ _ (stands_none stores.spare bad.fault bad.reads)

no_both : {A B : Type 0} {r : Result A B} {x : A} {e : B} → r ≡ Ok x → r ≡ Err e → ⊥
no_both ok err = let e = sym ok ∙ err in cc

-- the reason is one
same_store : (file : StoreFile) (stored : List ℕ) (reason other : Refusal)
    → IsNoStore file stored reason → IsNoStore file stored other → other ≡ reason
same_store file stored reason other a b =
    let same : b.fault ≡ a.fault = IfErr-at_err (λ y. b.fault ≡ y) {r = Err b.fault} {y = a.fault}
    (sym b.reads ∙ a.reads) refl in
    b.is ∙ ap (store_refusal file) same ∙ sym a.is

sound_not : (stored : List ℕ) (fault : Fault) → IsSound stored → reading stored ≡ Err fault → ⊥
sound_not stored fault sound bad = no_both sound bad

pub same_stores : (stores : Stores) (reason other : Refusal) → IsNoStores stores reason
    → IsNoStores stores other → other ≡ reason
same_stores stores reason other (inl a) (inl b) = same_store file.Store stores.store reason other a b
same_stores stores reason other (inl a) (inr b) =
    absurd (sound_not stores.store a.fault b.0 a.reads)
same_stores stores reason other (inr a) (inl b) =
    absurd (sound_not stores.store b.fault a.0 b.reads)
same_stores stores reason other (inr a) (inr b) =
    same_store file.Spare stores.spare reason other a.1 b.1

-- the device was not opened for what its bytes are
pub no_store : (file : StoreFile) (fault : OpenErr) (stored : List ℕ)
    → IsFaultOf fault (reading stored) → (reason : Refusal) → IsStoreRefusal file fault reason
    → IsNoStore file stored reason
no_store file opening.NotAStore stored reads reason is =
    record { fault = Fault.NotAStore; reads = reads; is = is }
no_store file (opening.Damaged at) stored reads reason is =
    record { fault = Fault.Damaged at; reads = reads; is = is }
no_store file opening.Failed stored reads reason is = absurd is
no_store file opening.OutOfMemory stored reads reason is = absurd is

-- one of two devices was not opened
pub no_stores : (fault : CurrentErr) (a b : List ℕ) → IsFirstFault fault a → IsSpareFault fault b
    → (reason : Refusal) → IsCurrentRefusal fault reason → IsNoStores (stores_of a b) reason
no_stores (two.First fault) a b first spare reason is =
    inl (no_store file.Store fault a first reason is)
no_stores (two.Spare fault) a b first spare reason is =
    inr (first, no_store file.Spare fault b spare reason is)
no_stores two.Failed a b first spare reason is = absurd is
no_stores two.OutOfMemory a b first spare reason is = absurd is
