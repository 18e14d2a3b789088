-- The items of words, one after another.
use Rattle.std.proofs.Common.{◌≡◌, ◌∙◌, ◌≤◌, ◌+◌, ◌-◌, ℕ, zero, suc, List, [], ◌∷◌, ◌++◌, map, length, take, drop, refl, sym, ap, append_assoc, arith}
use Rattle.std.proofs.lemmas.List.{map-append, take_all, length-drop}
use Rattle.cli_words.specs.declared.options.Command.{Command}
use Rattle.cli_words.specs.declared.items.Item as code
use Rattle.cli_words.specs.declared.items.Placed.{Placed}
use Rattle.cli_words.specs.Grammar.{Item, first_item, items, items_behind}
use Rattle.cli_words.specs.Seen.{item_seen, placed_seen, all_seen}

-- words that belong to an item before are passed over
pub passed : (command : Command) (taken at : ℕ) (words : List (List ℕ)) → taken ≤ length words → items_behind command taken at words ≡ items command (at + taken) (drop taken words)
unfolding items_behind
passed command zero at words fits = let e : at + 0 ≡ at = omega arith in rw e refl
passed command (suc taken) at [] fits = absurd (omega (arith, fits))
passed command (suc taken) at (word ∷ words) fits =
    let e : at + suc taken ≡ at + 1 + taken = omega arith in
    rw e (passed command taken (at + 1) words (omega (arith, fits)))

pub item_step : (command : Command) (before : List Placed) (item : code.Item) (at taken : ℕ) (word : List ℕ) (more : List (List ℕ))
    → item_seen item ≡ (first_item command word more).0 → taken ≡ (first_item command word more).1 → taken ≤ length more
    → all_seen (before ++ record { at = at; item = item } ∷ []) ++ items command (at + (1 + taken)) (take (length more - taken) (drop taken more)) ≡ all_seen before ++ items command at (word ∷ more)
unfolding items_behind
item_step command before item at taken word more is taken_is fits =
    let all : take (length more - taken) (drop taken more) ≡ drop taken more = take_all (length more - taken) (drop taken more) (let n = length-drop taken more in omega (arith, n)) in
    let e : at + (1 + taken) ≡ at + 1 + taken = omega arith in
    let later : items_behind command (first_item command word more).1 (at + 1) more ≡ items command (at + (1 + taken)) (drop taken more) =
    ap (λ n. items_behind command n (at + 1) more) (sym taken_is) ∙ passed command taken (at + 1) more fits ∙ ap (λ n. items command n (drop taken more)) (sym e) in
    rw (all, map-append placed_seen before (record { at = at; item = item } ∷ []), append_assoc (all_seen before) ((at, item_seen item) ∷ []) (items command (at + (1 + taken)) (drop taken more)), is, later) refl

pub none_left : (command : Command) (at : ℕ) (words : List (List ℕ)) → length words ≡ 0 → items command at words ≡ []
unfolding items_behind
none_left command at [] none = refl
none_left command at (word ∷ words) none = absurd (omega (arith, none))
