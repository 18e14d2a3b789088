-- What semver's readers of tags say, in the words of the grammar.
use Rattle.std.proofs.Common.{◌≡◌, ◌≢◌, ◌<◌, ◌&&◌, ◌⊎◌, ◌==◌, ℕ, Bool, true, false, List, [], ◌∷◌, length, Result, Ok, Err, Some, inl, inr, refl, sym, arith, nat_lt}
use Rattle.std.proofs.lemmas.Bool.Decides.{nat_tests}
use Rattle.semver.specs.declared.error.Error.{Error}
use Rattle.semver.specs.declared.error.Position.TheVariants as place
use Rattle.semver.specs.Grammar.{is_build, is_pre_release}
use Rattle.semver.specs.Parse.{only_identifier}
use Rattle.semver.proofs.Grammar.{only_identifier-pre, is_pre_release-only, only_identifier-build, is_build-only}
use Rattle.semver.specs.Parse.{memory_error}
use Rattle.npm_range.specs.declared.error.RangeErr.{RangeErr}
use Rattle.npm_range.specs.declared.error.RangeErr.TheVariants.{NotARange, OutOfMemory}
use Rattle.npm_range.specs.Grammar.{is_tag}

-- a tag that is not empty and has the form
pub good_tag : (has_form : List ℕ → Bool) (text : List ℕ) → (length text == 0) ≡ false → has_form text ≡ true → is_tag has_form true (Some text) ≡ true
good_tag has_form text some good = let t : nat_lt 0 (length text) ≡ true = grind (arith, nat_tests, some) in rw (t, good) refl

-- what the reader of pre-releases refuses
formless-pre : (text : List ℕ) (e : Error) (s : Bool) → is_pre_release text ≡ s → only_identifier place.Pre text ≡ Err e → s ≡ false
formless-pre text e true good refused = absurd (let t = is_pre_release-only text good in cc)
formless-pre text e false good refused = refl

formless-build : (text : List ℕ) (e : Error) (s : Bool) → is_build text ≡ s → only_identifier place.Build text ≡ Err e → s ≡ false
formless-build text e true good refused = absurd (let t = is_build-only text good in cc)
formless-build text e false good refused = refl

bad_tag_step : (some form : Bool) → form ≡ false → (some && form) ≡ false
bad_tag_step true form h = h
bad_tag_step false form h = refl

pub bad-pre : (text : List ℕ) (e : Error) → only_identifier place.Pre text ≡ Err e → is_tag is_pre_release true (Some text) ≡ false
bad-pre text e refused = bad_tag_step (nat_lt 0 (length text)) (is_pre_release text) (formless-pre text e (is_pre_release text) refl refused)

pub bad-build : (text : List ℕ) (e : Error) → only_identifier place.Build text ≡ Err e → is_tag is_build true (Some text) ≡ false
bad-build text e refused = bad_tag_step (nat_lt 0 (length text)) (is_build text) (formless-build text e (is_build text) refl refused)

pub good-pre : (text v : List ℕ) → only_identifier place.Pre text ≡ Ok v → (length text == 0) ≡ false → (v ≡ text) × (is_tag is_pre_release true (Some text) ≡ true)
good-pre text v read some = let t = only_identifier-pre text v read in (sym t.0, good_tag is_pre_release text some t.1)

pub good-build : (text v : List ℕ) → only_identifier place.Build text ≡ Ok v → (length text == 0) ≡ false → is_tag is_build true (Some text) ≡ true
good-build text v read some = let t = only_identifier-build text v read in good_tag is_build text some t.1

-- an error that is no want of memory says that the text has no such form
pub refuses : (e : Error) (given : RangeErr) (test : Bool) {Refused : Type 0} → ((given ≡ OutOfMemory) ⊎ ((given ≡ NotARange) × (e ≢ memory_error))) → ((e ≡ memory_error) ⊎ Refused)
    → (Refused → test ≡ false) → (given ≡ OutOfMemory) ⊎ ((given ≡ NotARange) × (test ≡ false))
refuses e given test (inl memory) why bad = inl memory
refuses e given test (inr other) (inl memory) bad = absurd (other.1 memory)
refuses e given test (inr other) (inr refused) bad = inr (other.0, bad refused)
