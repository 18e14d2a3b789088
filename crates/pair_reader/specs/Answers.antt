-- What the calls answer.
use Rattle.std.specs.Prelude.{◌≡◌, ◌≢◌, ◌≤◌, ◌<◌, ℕ, ◌+◌, ◌++◌, Bool, true, if◌then◌else◌, List, length, Option, Some, None, get_or, nat_eq}
use Rattle.std.specs.Borrow.{Bor}
use Rattle.std.specs.List.{list_any}
use Rattle.sha2.specs.Sha256.{sha256}
use Rattle.codes.specs.Codes.{Each}
use Rattle.rel_path.specs.declared.span.Span.{Span}
use Rattle.store_dev.specs.declared.device.StoreDevice.{Ghosts}
use Rattle.cache_api.specs.declared.hit.Hit.{Hit}
use Rattle.cache_api.specs.Hits.{span_count}
use Rattle.record_log.specs.declared.log.Log.{Log}
use Rattle.record_log.specs.Log.{probes_of}
use Rattle.record_log.specs.Seats.{IsWithin}
use Rattle.pair_reader.specs.declared.wanted.Lengths.{Lengths}
use Rattle.pair_reader.specs.declared.wanted.Lengths.TheVariants.{All, Only}

-- ---- lengths

-- whether a length is among others
abbrev pub is_among : List ℕ → ℕ → Bool
is_among lens len = list_any (λ other. nat_eq other len) lens

-- whether it is one of those that are wanted
abbrev pub is_one_of : Lengths → ℕ → Bool
is_one_of All len = true
is_one_of (Only lens) len = is_among lens.items len

-- none stands behind a greater one
abbrev pub Rise : List ℕ → Type 0
Rise lens = (i j : ℕ) → i ≤ j → j < length lens → get_or lens i 0 ≤ get_or lens j 0

-- the lengths that are wanted ascend
abbrev pub Ascend : Lengths → Type 0
Ascend All = Unit {0}
Ascend (Only lens) = Rise lens.items

-- the text of a key, where it is wanted
abbrev pub text_where : Bool → List ℕ → Option (List ℕ)
text_where wanted key = if wanted then Some key else None

-- its fingerprint, where that is wanted
abbrev pub print_where : Bool → List ℕ → Option (List ℕ)
print_where wanted key = if wanted then Some (sha256 key) else None

-- ---- hits

-- each of these places is a range of the text
abbrev pub AllWithin : List ℕ → List Span → Type 0
AllWithin text spans = Each (λ span. IsWithin text span.at span.len) spans

-- all places of a hit are
pub record HitIsWithin (text : List ℕ) (hit : Hit) : Type 0 where
  pub log : AllWithin text hit.log
  pub files : Each (λ file. AllWithin text file.spans) hit.files

-- how many places there are, and none where nothing was found
abbrev pub places_of : Option Hit → ℕ
places_of None = 0
places_of (Some hit) = span_count hit

-- ---- reads

-- so many frames and ranges were read, or fewer
abbrev pub ReadsAtMost : {S : Type 0} {G : Ghosts S} → ℕ → Log S G → Log S G → Type 0
ReadsAtMost n old new = probes_of new ≤ probes_of old + n

-- what follows a front of bytes, where they begin with it
abbrev pub IsRest : List ℕ → List ℕ → Option (Bor (List ℕ)) → Type 0
IsRest front bytes None = (rest : List ℕ) → bytes ≢ front ++ rest
IsRest front bytes (Some rest) = bytes ≡ front ++ rest.now
