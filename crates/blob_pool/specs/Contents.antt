-- The contents of frames, and where they stand.
use Rattle.std.specs.Prelude.{ℕ, ◌+◌, ◌==◌, if◌then◌else◌, List, [], ◌∷◌, map, get_or}
use Rattle.record_log.specs.declared.kind.TheConstants.{CONTENT}
use Rattle.record_log.specs.Kinds.{Entry, blobs_in}

-- the values of the frames of kind 2, in order
abbrev pub contents_of : List Entry → List (List ℕ)
contents_of fs = map (λ e. e.value) (blobs_in fs)

-- the content with that number, and no bytes where there is none
abbrev pub content_at : List Entry → ℕ → List ℕ
content_at fs n = get_or (contents_of fs) n []

-- the numbers of the frames of kind 2, where the first frame has that number
abbrev pub places_from : ℕ → List Entry → List ℕ
places_from n [] = []
places_from n (e ∷ es) =
    if e.kind == CONTENT then n ∷ places_from (n + 1) es else places_from (n + 1) es
