-- The first of pairs, where more stand behind them.
use Rattle.std.proofs.Common.{◌≡◌, ℕ, ◌+◌, ◌-◌, ◌≤◌, List, [], ◌∷◌, ◌++◌, length, take, min, Option, Some, Err, refl, sym, ap, ◌∙◌, arith}
use Rattle.std.proofs.Math.Seq.{take-append-add, take-length}
use Rattle.std.proofs.lemmas.List.{append-nil, take-append-le, take_all, take_min}
use Rattle.cache_api.specs.declared.error.CacheErr.{CacheErr}
use Rattle.cache_api.specs.declared.error.CacheErr.TheVariants.{Full, Failed, OutOfMemory}
use Rattle.cache_api.specs.declared.puts.Put.{Put}
use Rattle.cache_api.specs.declared.puts.Put.TheVariants as put
use Rattle.cache_api.specs.Pairs.{Pair, chosen, due_of, AreFirst, IsPartSince, IsFirstPart}
use Rattle.cache_api.specs.Cache.{AllAfter}

take_more : (n : ℕ) (pairs more : List Pair) → take (min n (length pairs)) (pairs ++ more) ≡ take n pairs
take_more n pairs more = take-append-le (min n (length pairs)) pairs more (omega arith) ∙ take_min n pairs

-- what lasts of the pairs lasts of these and more
pub first_more : (lasting : ℕ) (pairs more now : List Pair) → lasting ≤ length pairs
    → AreFirst lasting pairs now → AreFirst lasting (pairs ++ more) now
first_more lasting pairs more now within (n, at, is) =
    (min n (length pairs), omega (arith, within, at), is ∙ sym (take_more n pairs more))

pub part_more : (lasting : ℕ) (pairs more : List Pair) (left : Option (List Pair)) → lasting ≤ length pairs
    → IsPartSince lasting pairs left → IsPartSince lasting (pairs ++ more) left
part_more lasting pairs more left within (n, at, is) =
    (min n (length pairs), omega (arith, within, at), is ∙ ap (λ (ps : List Pair). Some ps) (sym (take_more n pairs more)))

-- ---- one pair that is put or not

first_of_one : (lasting : ℕ) (before : List Pair) (pair : Pair) (puts : List Put) (now : List Pair) → lasting ≤ length before
    → AreFirst lasting (before ++ chosen (pair ∷ []) puts) now → AreFirst lasting (before ++ pair ∷ []) now
first_of_one lasting before pair [] now within first = first_more lasting before (pair ∷ []) now within (rw append-nil at first)
first_of_one lasting before pair (put.Stored ∷ puts) now within first = first
first_of_one lasting before pair (put.Full ∷ puts) now within first = first_more lasting before (pair ∷ []) now within (rw append-nil at first)

pub part_of_one : (lasting : ℕ) (before : List Pair) (pair : Pair) (puts : List Put) (left : Option (List Pair))
    → lasting ≤ length before
    → IsPartSince lasting (before ++ chosen (pair ∷ []) puts) left → IsPartSince lasting (before ++ pair ∷ []) left
part_of_one lasting before pair [] left within part = part_more lasting before (pair ∷ []) left within (rw append-nil at part)
part_of_one lasting before pair (put.Stored ∷ puts) left within part = part
part_of_one lasting before pair (put.Full ∷ puts) left within part = part_more lasting before (pair ∷ []) left within (rw append-nil at part)

-- a call that answered an error put the first of what it was to put, or nothing
pub failed_one : (e : CacheErr) (lasting : ℕ) (before : List Pair) (pair : Pair) (puts : List Put) (now : List Pair)
    → lasting ≤ length before → AllAfter {T = List Put} (Err e) lasting before (chosen (pair ∷ []) puts) now
    → AllAfter {T = Unit {0}} (Err e) lasting before (pair ∷ []) now
failed_one Full lasting before pair puts now within after = after
failed_one Failed lasting before pair puts now within after = first_of_one lasting before pair puts now within after
failed_one OutOfMemory lasting before pair puts now within after = after

-- ---- where all pairs last

pub none_due : (pairs : List Pair) → due_of pairs (length pairs) ≡ []
none_due [] = refl
none_due (pair ∷ pairs) = none_due pairs

-- a crash leaves them all
pub all_left : (pairs : List Pair) (left : Option (List Pair)) → IsPartSince (length pairs) pairs left → left ≡ Some pairs
all_left pairs left (n, at, is) = is ∙ ap (λ (ps : List Pair). Some ps) (take_all n pairs at)

pub all_part : (pairs : List Pair) (left : Option (List Pair)) → left ≡ Some pairs → IsPartSince (length pairs) pairs left
all_part pairs left is = (length pairs, omega arith, is ∙ ap (λ (ps : List Pair). Some ps) (sym (take-length pairs)))

-- and of those that are added behind them the first
pub added_part : (before added : List Pair) (left : Option (List Pair)) → IsFirstPart before added left
    → IsPartSince (length before) (before ++ added) left
added_part before added left (n, within, is) =
    (length before + n, omega arith, is ∙ ap (λ (ps : List Pair). Some ps) (sym (take-append-add before added n)))

take_behind : (n : ℕ) (before added : List Pair) → length before ≤ n
    → take n (before ++ added) ≡ before ++ take (min (n - length before) (length added)) added
take_behind n before added within =
    let more = n - length before in
    let parts : n ≡ length before + more = omega (arith, within) in
    ap (λ k. take k (before ++ added)) parts ∙ take-append-add before added more
    ∙ ap (λ (ps : List Pair). before ++ ps) (sym (take_min more added))

-- and where all lasted before, these are all of those and the first of the new ones
pub first_added : (before added now : List Pair) → AreFirst (length before) (before ++ added) now
    → (n : ℕ) × (n ≤ length added) × (now ≡ before ++ take n added)
first_added before added now (n, within, is) =
    (min (n - length before) (length added), omega arith, is ∙ take_behind n before added within)

pub part_added : (before added : List Pair) (left : Option (List Pair))
    → IsPartSince (length before) (before ++ added) left → IsFirstPart before added left
part_added before added left (n, within, is) = (
  min (n - length before) (length added),
  omega arith,
  is ∙ ap (λ (ps : List Pair). Some ps) (take_behind n before added within),
)
