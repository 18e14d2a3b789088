-- Every order is within its limits.
use Rattle.std.proofs.Common.{◌≡◌, ◌⊎◌, inl, inr, ◌&&◌, ◌||◌, ◌<◌, ◌≤◌, ℕ, Bool, true, false, cond, List, [], ◌∷◌, refl, arith, nat_le, subst}
use Rattle.std.specs.Prelude.{Option, Some, None, Result, Ok, Err, IfSome, unwrap_or, option_and_then, if◌then◌else◌, bytes_eq, codes}
use Rattle.std.specs.Option.{option_map, option_or, option_zip}
use Rattle.std.specs.Str.Parse.{digits_value}
use Rattle.std.proofs.lemmas.Bool.Decides.{nat_tests}
use Rattle.cli_words.specs.declared.access.Rights.{Rights}
use Rattle.cli_words.specs.declared.order.Access.{Access}
use Rattle.cli_words.specs.declared.order.Order.{Order}
use Rattle.cli_words.specs.declared.order.Order.TheVariants.{Help}
use Rattle.cli_words.specs.declared.error.WordsErr.{WordsErr}
use Rattle.cli_words.specs.declared.options.Command.{Command}
use Rattle.cli_words.specs.declared.options.Command.TheVariants as command
use Rattle.cli_words.specs.declared.options.TheConstants.{WIDTH, CACHE, KEEP}
use Rattle.cli_words.specs.declared.commands.TheConstants.{DEFAULT_WIDTH}
use Rattle.rel_path.specs.Limits.{width_limit}
use Rattle.cli_words.specs.declared.values.TheConstants.{MIN_WIDTH, MIN_SAMPLE, MAX_SAMPLE, MIN_KEEP, MAX_KEEP}
use Rattle.cli_words.specs.Values.{is_numeral, number, width_in, keep_in, access_in, sample_size, rights, no_rights, local_rights, second_rights, access_of, one_store, two_stores, stores, if_puts, access}
use Rattle.cli_words.specs.Cuts.{before, behind, comma}
use Rattle.cli_words.specs.Grammar.{Item, items}
use Rattle.cli_words.specs.Orders.{first_use, local_alone, run_order, order_in, fault_in, unless, command_order, sample_of, sample_order, is_help, order_of}
use Rattle.cli_words.specs.Laws.{IsAccess, IsWithin}

-- ---- numbers

abbrev Within : ℕ → ℕ → Option ℕ → Type 0
Within least most None = Unit {0}
Within least most (Some n) = (least ≤ n) × (n ≤ most)

number_by : (least most n : ℕ) (numeral low high : Bool) → (low ≡ true → least ≤ n) → (high ≡ true → n ≤ most) → Within least most (if numeral && (low && high) then Some n else None)
number_by least most n true true true above below = (above refl, below refl)
number_by least most n true true false above below = tt
number_by least most n true false high above below = tt
number_by least most n false low high above below = tt

number_within : (least most : ℕ) (text : List ℕ) → Within least most (number least most text)
unfolding number
number_within least most text =
    number_by least most (digits_value 10 text) (is_numeral text) (nat_le least (digits_value 10 text)) (nat_le (digits_value 10 text) most) (λ e. grind (arith, nat_tests, e)) (λ e. grind (arith, nat_tests, e))

width_within : (given : Option (Option (List ℕ))) → Within MIN_WIDTH width_limit (option_and_then width_in given)
width_within None = tt
width_within (Some None) = tt
width_within (Some (Some text)) = number_within MIN_WIDTH width_limit text

keep_within : (given : Option (Option (List ℕ))) → Within MIN_KEEP MAX_KEEP (option_and_then keep_in given)
keep_within None = tt
keep_within (Some None) = tt
keep_within (Some (Some text)) = number_within MIN_KEEP MAX_KEEP text

or_default : (o : Option ℕ) → Within MIN_WIDTH width_limit o → (0 < unwrap_or o DEFAULT_WIDTH) × (unwrap_or o DEFAULT_WIDTH ≤ width_limit)
or_default None within = (omega arith, omega arith)
or_default (Some n) within = (omega (arith, within.0), within.1)

if_kept : (o : Option ℕ) → Within MIN_KEEP MAX_KEEP o → IfSome o (λ n. n ≤ MAX_KEEP)
if_kept None within = tt
if_kept (Some n) within = within.1

-- ---- stores

-- a store that results are put into is read too
abbrev Fine : Option Rights → Type 0
Fine None = Unit {0}
Fine (Some r) = r.puts ≡ true → r.reads ≡ true

rights_fine : (a b c : Bool) → Fine (if a then Some (rights true true) else (if b then Some (rights true false) else (if c then Some no_rights else None)))
rights_fine true b c = λ h. refl
rights_fine false true c = λ h. refl
rights_fine false false true = λ h. h
rights_fine false false false = tt

local_fine : (part : List ℕ) → Fine (local_rights part)
local_fine part = rights_fine (bytes_eq part (codes "local:rw")) (bytes_eq part (codes "local:r")) (bytes_eq part (codes "local:"))

second_fine : (part : List ℕ) → Fine (second_rights part)
second_fine part = rights_fine (bytes_eq part (codes "remote:rw")) (bytes_eq part (codes "remote:r")) (bytes_eq part (codes "remote:"))

abbrev BothFine : Option Access → Type 0
BothFine None = Unit {0}
BothFine (Some a) = (a.local_puts ≡ true → a.local_reads ≡ true) × (a.second_puts ≡ true → a.second_reads ≡ true)

either_fine : (a b : Option Access) → BothFine a → BothFine b → BothFine (option_or a b)
either_fine None b f g = g
either_fine (Some a) b f g = f

local_only : (o : Option Rights) → Fine o → BothFine (option_map (λ local. access_of local no_rights) o)
local_only None f = tt
local_only (Some r) f = (f, λ h. h)

second_only : (o : Option Rights) → Fine o → BothFine (option_map (λ second. access_of no_rights second) o)
second_only None f = tt
second_only (Some r) f = (λ h. h, f)

both_fine : (l s : Option Rights) → Fine l → Fine s → BothFine (option_map (λ both. access_of both.0 both.1) (option_zip l s))
both_fine None s f g = tt
both_fine (Some l) None f g = tt
both_fine (Some l) (Some s) f g = (f, g)

stores_fine : (part : List ℕ) (other : Option (List ℕ)) → BothFine (stores part other)
stores_fine part None = either_fine _ _ (local_only (local_rights part) (local_fine part)) (second_only (second_rights part) (second_fine part))
stores_fine part (Some other) = either_fine _ _ (both_fine (local_rights part) (second_rights other) (local_fine part) (second_fine other)) (both_fine (local_rights other) (second_rights part) (local_fine other) (second_fine part))

abbrev FineAccess : Option Access → Type 0
FineAccess None = Unit {0}
FineAccess (Some a) = IsAccess a

puts_fine : (a : Access) (l s : Bool) → a.local_puts ≡ l → a.second_puts ≡ s → BothFine (Some a) → FineAccess (cond (l || s) (Some a) None)
puts_fine a true s l_is s_is f = (f.0, f.1, inl l_is)
puts_fine a false true l_is s_is f = (f.0, f.1, inr s_is)
puts_fine a false false l_is s_is f = tt

if_puts_fine : (o : Option Access) → BothFine o → FineAccess (option_and_then if_puts o)
if_puts_fine None f = tt
if_puts_fine (Some a) f = puts_fine a a.local_puts a.second_puts refl refl f

access_fine : (text : List ℕ) → FineAccess (access text)
unfolding access
access_fine text = if_puts_fine (stores (before comma text) (behind comma text)) (stores_fine (before comma text) (behind comma text))

use_fine : (given : Option (Option (List ℕ))) → FineAccess (option_and_then access_in given)
use_fine None = tt
use_fine (Some None) = tt
use_fine (Some (Some text)) = access_fine text

or_local : (o : Option Access) → FineAccess o → IsAccess (unwrap_or o local_alone)
or_local None f = (λ h. h, λ h. h, inl refl)
or_local (Some a) f = f

-- ---- orders

-- what an answer holds, if it is one
abbrev FineOrder : Result Order WordsErr → Type 0
FineOrder (Ok order) = IsWithin order
FineOrder (Err fault) = Unit {0}

in_fine : (c : Command) (all : List (ℕ × Item)) → IsWithin (order_in c all)
unfolding run_order
in_fine command.Run all =
    let wide = or_default (option_and_then width_in (first_use WIDTH all)) (width_within (first_use WIDTH all)) in
    (wide.0, wide.1, or_local (option_and_then access_in (first_use CACHE all)) (use_fine (first_use CACHE all)))
in_fine command.Prune all = tt
in_fine command.Compact all = if_kept (option_and_then keep_in (first_use KEEP all)) (keep_within (first_use KEEP all))

unless_fine : (fault : Option WordsErr) (order : Order) → IsWithin order → FineOrder (unless fault order)
unless_fine None order within = within
unless_fine (Some fault) order within = tt

command_fine : (c : Command) (at : ℕ) (words : List (List ℕ)) → FineOrder (command_order c at words)
unfolding command_order
command_fine c at words = unless_fine (fault_in c (items c at words)) (order_in c (items c at words)) (in_fine c (items c at words))

size_fine : (o : Option ℕ) (more : List (List ℕ)) → Within MIN_SAMPLE MAX_SAMPLE o → FineOrder (sample_of o more)
size_fine None more within = tt
size_fine (Some size) [] within = (omega (arith, within.0), within.1)
size_fine (Some size) (word ∷ more) within = tt

sample_fine : (words : List (List ℕ)) → FineOrder (sample_order words)
sample_fine [] = tt
sample_fine (size ∷ more) = size_fine (sample_size size) more (number_within MIN_SAMPLE MAX_SAMPLE size)

word_fine : (word : List ℕ) (words : List (List ℕ)) (help run prune sample compact : Bool)
    → FineOrder (if help then Ok Help
    else (if run then command_order command.Run 1 words
    else (if prune then command_order command.Prune 1 words
    else (if sample then sample_order words
    else (if compact then command_order command.Compact 1 words
    else command_order command.Run 0 (word ∷ words))))))
word_fine word words true run prune sample compact = tt
word_fine word words false true prune sample compact = command_fine command.Run 1 words
word_fine word words false false true sample compact = command_fine command.Prune 1 words
word_fine word words false false false true compact = sample_fine words
word_fine word words false false false false true = command_fine command.Compact 1 words
word_fine word words false false false false false = command_fine command.Run 0 (word ∷ words)

order_fine : (words : List (List ℕ)) → FineOrder (order_of words)
unfolding order_of
order_fine [] = tt
order_fine (word ∷ words) = word_fine word words (is_help word) (bytes_eq word (codes "run")) (bytes_eq word (codes "prune")) (bytes_eq word (codes "sample")) (bytes_eq word (codes "compact"))

pub order_within : (words : List (List ℕ)) (order : Order) → order_of words ≡ Ok order → IsWithin order
order_within words order e = let P : Result Order WordsErr → Type 0 = FineOrder in subst P e (order_fine words)
