-- Which content keeps bytes, where frames that are staged stand behind those of a log.
use Rattle.std.proofs.Common.{◌≡◌, ℕ, ◌+◌, List, [], ◌∷◌, ◌++◌, length, Some, None, sym, ◌∙◌, ap, arith, append_assoc, length-append}
use Rattle.record_log.specs.Kinds.{Entry}
use Rattle.blob_pool.specs.Contents.{contents_of}
use Rattle.blob_pool.specs.Pool.{first_of, blob, missing, found_in_parts}
use Rattle.blob_pool.specs.Blobs.{contents_of-append}
use Rattle.blob_pool.specs.First.{first_split, first_stays, missing_some, missing_none, first_push}

-- the number of the first content that keeps the bytes, and what is missing
pub record IsKeptAs (all now : List Entry) (bytes : List ℕ) (n : ℕ) (more : List Entry)
    : Type 0 where
  pub number : first_of now bytes ≡ Some n
  pub new : more ≡ missing all bytes

pub kept_before : (fs es : List Entry) (bytes : List ℕ) (k : ℕ) → first_of fs bytes ≡ Some k
    → IsKeptAs (fs ++ es) (fs ++ es) bytes k []
kept_before fs es bytes k found =
    let there = first_stays fs es bytes k found in
    record { number = there; new = sym (missing_some (fs ++ es) bytes k there) }

pub kept_among : (fs es : List Entry) (bytes : List ℕ) (k n : ℕ) → first_of fs bytes ≡ None
    → first_of es bytes ≡ Some k → n ≡ length (contents_of fs) + k
    → IsKeptAs (fs ++ es) (fs ++ es) bytes n []
kept_among fs es bytes k n none found is =
    let there : first_of (fs ++ es) bytes ≡ Some n =
    first_split fs es bytes
    ∙ (λ i. found_in_parts (none i) (length (contents_of fs)) (found i))
    ∙ ap (λ (m : ℕ). Some m) (sym is) in
    record { number = there; new = sym (missing_some (fs ++ es) bytes n there) }

pub kept_new : (fs es : List Entry) (bytes : List ℕ) (n : ℕ) → first_of fs bytes ≡ None
    → first_of es bytes ≡ None → n ≡ length (contents_of fs) + length (contents_of es)
    → IsKeptAs (fs ++ es) (fs ++ (es ++ blob bytes ∷ [])) bytes n (blob bytes ∷ [])
kept_new fs es bytes n none nowhere is =
    let nothing : first_of (fs ++ es) bytes ≡ None =
    first_split fs es bytes
    ∙ (λ i. found_in_parts (none i) (length (contents_of fs)) (nowhere i)) in
    let one = missing_none (fs ++ es) bytes nothing in
    let count : length (contents_of (fs ++ es)) ≡ n =
    omega (
      arith,
      ap length (contents_of-append fs es),
      length-append (contents_of fs) (contents_of es),
      is,
    ) in
    record {
      number =
          ap (λ (l : List Entry). first_of l bytes)
          (sym (append_assoc fs es (blob bytes ∷ [])) ∙ ap (λ (l : List Entry). (fs ++ es) ++ l) (sym one))
          ∙ first_push (fs ++ es) bytes nothing
          ∙ ap (λ (m : ℕ). Some m) count;
      new = sym one;
    }
