-- What a read with a limit gives of a source whose bytes are known.
use Rattle.std.proofs.Common.{◌≡◌, ℕ, ◌<◌, ◌≤◌, List, ◌++◌, length, take, sym, ap, ◌∙◌, arith, false}
use Rattle.std.specs.Prelude.{Option, Some, None, IfSome, nat_lt}
use Rattle.std.specs.Option.{option_map}
use Rattle.std.specs.Io.KnownBytes.{Consumes}
use Rattle.std.proofs.lemmas.List.{length-take, take_all}
use Rattle.std.proofs.lemmas.Bool.{le-ltb}
use Rattle.tree_dev.specs.declared.tree.Found.TheVariants.{Here}
use Rattle.tree_dev.specs.Tree.{within}

-- fewer bytes than were asked for are all
pub take-short : (n : ℕ) (bytes : List ℕ) → length (take n bytes) < n → take n bytes ≡ bytes
take-short n bytes short =
    let few : length bytes ≤ n = omega (arith, length-take n bytes) in
    take_all n bytes few

pub whole_read : (known : Option (List ℕ)) (n : ℕ) (read : List ℕ) → IfSome (option_map (take n) known) (λ xs. read ≡ xs) → length read < n → IfSome known (λ bytes. read ≡ bytes)
whole_read None n read is short = tt
whole_read (Some bytes) n read is short = is ∙ take-short n bytes (rw is at short)

pub whole_found : (known : Option (List ℕ)) (limit n : ℕ) (read : List ℕ) → IfSome (option_map (take n) known) (λ xs. read ≡ xs) → length read ≤ limit → length read < n
    → IfSome known (λ bytes. Here read ≡ within limit (Some bytes))
whole_found None limit n read is within_limit short = tt
whole_found (Some bytes) limit n read is within_limit short =
    let whole : read ≡ bytes = whole_read (Some bytes) n read is short in
    let few : length bytes ≤ limit = rw (← whole) within_limit in
    let no : nat_lt limit (length bytes) ≡ false = le-ltb limit (length bytes) few in
    rw no (ap Here whole)

-- what two reads gave, one after the other
pub read_on : (known left : Option (List ℕ)) (first all : List ℕ) → Consumes known left first → IfSome left (λ xs. all ≡ first ++ xs) → IfSome known (λ bytes. all ≡ bytes)
read_on None left first all consumed rest = tt
read_on (Some bytes) None first all consumed rest = absurd consumed
read_on (Some bytes) (Some xs) first all consumed rest = rest ∙ sym consumed
