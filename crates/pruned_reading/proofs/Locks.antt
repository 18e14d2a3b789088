-- Where there is a lockfile its cut form has a text, and nowhere else.
use Rattle.std.proofs.Common.{◌≡◌, ℕ, ◌≤◌, Bool, true, false, cond, List, length, nat_lt, refl, ap, subst, arith}
use Rattle.std.specs.Prelude.{Option, Some, None, Result, Ok, Err}
use Rattle.std.proofs.lemmas.Bool.{false_from_ne_true}
use Rattle.std.proofs.lemmas.Bool.Decides.{Decides-ltb}
use Rattle.serde_json.specs.Data.{Data}
use Rattle.rel_path.specs.Paths.{Path}
use Rattle.rel_path.specs.Limits.{file_limit}
use Rattle.tree_dev.specs.declared.tree.Found.TheVariants.{TooLong, Here}
use Rattle.tree_dev.specs.Tree.{within}
use Rattle.lock_entries.specs.declared.error.LockErr.{LockErr}
use Rattle.npm_lock.specs.Reading.{lock_of}
use Rattle.repository.specs.Reading.{Contents, data_from, lock_from}
use Rattle.pruned_files.specs.Cut.{IsCutLock}

-- ---- what is found at the lockfile's path

pub none_read : (lock : Option Data) → lock_from (within file_limit None) ≡ Ok lock → lock ≡ None
none_read lock e = cc

pub some_read : (bytes : List ℕ) (lock : Option Data) → lock_from (within file_limit (Some bytes)) ≡ Ok lock → (value : Data) × (lock ≡ Some value)
some_read bytes lock e = by (nat_lt file_limit (length bytes)) e where
  from : (result : Result Data LockErr) → data_from result ≡ Ok lock → (value : Data) × (lock ≡ Some value)
  from (Ok value) r = (value, cc)
  from (Err fault) r = absurd (cc)

  by : (long : Bool) → lock_from (cond long TooLong (Here bytes)) ≡ Ok lock → (value : Data) × (lock ≡ Some value)
  by true r = absurd (cc)
  by false r = from (lock_of bytes) r

-- a text within the limit is found whole
pub whole_text : (text : List ℕ) → length text ≤ file_limit → within file_limit (Some text) ≡ Here text
whole_text text short = ap (λ long. cond long TooLong (Here text)) (false_from_ne_true (nat_lt file_limit (length text)) (λ e. absurd (let more = (Decides-ltb file_limit (length text)).0 e in omega (arith, more, short))))

-- ---- its cut form

pub record IsWritten (lock : Option Data) (text : Option (List ℕ)) : Type 0 where
  pub value : Data
  pub bytes : List ℕ
  pub its_value : lock ≡ Some value
  pub its_text : text ≡ Some bytes
  pub back : lock_of bytes ≡ Ok value

module _ (contents : Contents) (set : Path → Bool) where
  pub cut_none : (whole lock : Option Data) (text : Option (List ℕ)) → whole ≡ None → IsCutLock contents set whole lock text → lock ≡ None
  cut_none whole lock text none cut = by lock text (subst (λ w. IsCutLock contents set w lock text) none cut) where
    by : (l : Option Data) (t : Option (List ℕ)) → IsCutLock contents set None l t → l ≡ None
    by None t c = refl
    by (Some value) None c = absurd c
    by (Some value) (Some bytes) c = absurd c

  pub cut_some : (whole lock : Option Data) (text : Option (List ℕ)) (value : Data) → whole ≡ Some value → IsCutLock contents set whole lock text → IsWritten lock text
  cut_some whole lock text value some cut = by lock text (subst (λ w. IsCutLock contents set w lock text) some cut) where
    by : (l : Option Data) (t : Option (List ℕ)) → IsCutLock contents set (Some value) l t → IsWritten l t
    by None None c = absurd c
    by None (Some bytes) c = absurd c
    by (Some cut) None c = absurd c
    by (Some cut) (Some bytes) c = record { value = cut; bytes = bytes; its_value = refl; its_text = refl; back = c.1.back }
