-- Equal pairs that are appended together.
use Rattle.std.proofs.Common.{◌≡◌, ◌<◌, ℕ, zero, suc, ◌^◌, true, List, [], ◌∷◌, ◌++◌, length, refl, subst, sym}
use Rattle.std.specs.Prelude.{replicate}
use Rattle.std.proofs.lemmas.Bool.{and_from, lt-ltb}
use Rattle.record_log.specs.declared.kind.TheConstants.{PAIR}
use Rattle.record_log.specs.declared.frame.NewFrame.{NewFrame}
use Rattle.record_log.specs.Kinds.{Entry, has_form, limit_of, blobs}
use Rattle.record_log.specs.Frames.{all_formed}
use Rattle.record_log.specs.Batch.{new_entry, new_entries, AllKnown, EachWithin}
use Rattle.record_log.specs.Forms.{known_1, form_1}

-- a pair whose lengths have four bytes
pub record IsPair (f : NewFrame) : Type 0 where
  pub kind : f.kind ≡ PAIR
  pub key : length f.key.now < 2 ^ 32
  pub value : length f.value.now < 2 ^ 32

-- their entry is short enough for its kind
key_short : (f : NewFrame) → IsPair f → length f.key.now < limit_of f.kind
key_short f x = subst (λ (kind : ℕ). length f.key.now < limit_of kind) (sym x.kind) x.key

value_short : (f : NewFrame) → IsPair f → length f.value.now < limit_of f.kind
value_short f x = subst (λ (kind : ℕ). length f.value.now < limit_of kind) (sym x.kind) x.value

pub pairs_known : (n : ℕ) (f : NewFrame) → IsPair f → AllKnown (new_entries (replicate n f))
pairs_known zero f x = tt
pairs_known (suc n) f x = (known_1 f.kind x.kind, pairs_known n f x)

pub pairs_within : (n : ℕ) (f : NewFrame) → IsPair f → EachWithin (new_entries (replicate n f))
pairs_within zero f x = tt
pairs_within (suc n) f x = (key_short f x, value_short f x, pairs_within n f x)

pair_formed : (before : List Entry) (f : NewFrame) → IsPair f → has_form before (new_entry f) ≡ true
unfolding has_form
pair_formed before f x =
    and_from _ _ (form_1 (blobs before) (new_entry f) x.kind)
    (and_from _ _ (lt-ltb _ _ (key_short f x)) (lt-ltb _ _ (value_short f x)))

pub pairs_formed : (n : ℕ) (before : List Entry) (f : NewFrame) → IsPair f
    → all_formed before (new_entries (replicate n f)) ≡ true
pairs_formed zero before f x = refl
pairs_formed (suc n) before f x =
    and_from _ _ (pair_formed before f x) (pairs_formed n (before ++ new_entry f ∷ []) f x)
