-- The forms of the kinds, one by one, for those who append.
use Rattle.std.proofs.Common.{◌≡◌, ◌≢◌, ℕ, ◌+◌, ◌<◌, ◌^◌, Bool, true, length, ◌∙◌, ap, arith}
use Rattle.std.specs.Prelude.{cond, ◌&&◌}
use Rattle.std.specs.Int.{w32, w64}
use Rattle.std.proofs.lemmas.Bool.{ne_eqb}
use Rattle.record_log.specs.declared.kind.TheConstants.{PAIR, CONTENT, RECORD, LONG_RECORD, GENERATION, DIGEST_BYTES, GENERATION_BYTES}
use Rattle.record_log.specs.Pieces.{both_below, record_of}
use Rattle.record_log.specs.Kinds.{Entry, limit_of, is_known, lens_fit, value_fits, form, size, size_in, room_for}

pub known_1 : (kind : ℕ) → kind ≡ PAIR → is_known kind ≡ true
known_1 kind is = ap is_known is

pub form_1 : (contents : ℕ) (e : Entry) → e.kind ≡ PAIR → form contents e ≡ true
unfolding form
form_1 contents e is = ap (λ (k : ℕ). lens_fit k (length e.key) (length e.value) && value_fits contents k e.value) is

pub form_2 : (contents : ℕ) (e : Entry) → e.kind ≡ CONTENT → length e.key ≡ DIGEST_BYTES
    → form contents e ≡ true
unfolding form
form_2 contents e is len = (λ i. lens_fit (is i) (len i) (length e.value) && value_fits contents (is i) e.value)

pub form_3 : (contents : ℕ) (e : Entry) → e.kind ≡ RECORD → length e.key ≡ DIGEST_BYTES
    → both_below contents (record_of w32 e.value) ≡ true → form contents e ≡ true
unfolding form
form_3 contents e is len reads = (λ i. lens_fit (is i) (len i) (length e.value) && value_fits contents (is i) e.value) ∙ reads

pub form_4 : (contents : ℕ) (e : Entry) → e.kind ≡ LONG_RECORD → length e.key ≡ DIGEST_BYTES
    → both_below contents (record_of w64 e.value) ≡ true → form contents e ≡ true
unfolding form
form_4 contents e is len reads = (λ i. lens_fit (is i) (len i) (length e.value) && value_fits contents (is i) e.value) ∙ reads

pub form_5 : (contents : ℕ) (e : Entry) → e.kind ≡ GENERATION → length e.key ≡ GENERATION_BYTES
    → length e.value ≡ 0 → form contents e ≡ true
unfolding form
form_5 contents e is len none = (λ i. lens_fit (is i) (len i) (none i) && value_fits contents (is i) e.value)

pub limit_short : (kind : ℕ) → kind ≢ LONG_RECORD → limit_of kind ≡ 2 ^ 32
limit_short kind other = ap (λ (b : Bool). cond b (2 ^ 64) (2 ^ 32)) (ne_eqb kind LONG_RECORD other)

pub size_short : (e : Entry) → e.kind ≢ LONG_RECORD → size e ≡ 9 + (length e.key + length e.value)
unfolding size
size_short e other = ap (λ (b : Bool). size_in (cond b w64 w32) e) (ne_eqb e.kind LONG_RECORD other) ∙ omega arith

-- what a frame takes whose lengths have four bytes
pub room_short : (e : Entry) → e.kind ≢ LONG_RECORD → length e.key < 2 ^ 32
    → length e.value < 2 ^ 32 → room_for e ≡ 10 + (length e.key + length e.value)
room_short e other key value = omega (arith, size_short e other)
