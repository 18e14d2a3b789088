-- Tables by place.
use Rattle.std.specs.Prelude.{ℕ, Bool, false, List, [], slice_get, unwrap_or, Option, None}

-- the log at a place, and none past the end
abbrev pub log_in : List (List ℕ) → ℕ → List ℕ
log_in logs t = unwrap_or (slice_get logs t) []

-- the flag at a place, and false past the end
abbrev pub flag_in : List Bool → ℕ → Bool
flag_in flags t = unwrap_or (slice_get flags t) false

-- the fingerprint at a place, where it is known
abbrev pub fingerprint_in : List (Option (List ℕ)) → ℕ → Option (List ℕ)
fingerprint_in fingerprints t = unwrap_or (slice_get fingerprints t) None
