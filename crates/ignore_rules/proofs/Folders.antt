-- The entries of a stack, found by the names of their folders.
use Rattle.std.proofs.Common.{◌≡◌, ◌∙◌, ℕ, Bool, true, false, cond, List, [], ◌∷◌, ◌++◌, map, refl, sym, ap}
use Rattle.std.proofs.lemmas.Bool.{false≢true}
use Rattle.std.proofs.lemmas.List.{append-nil}
use Rattle.std.specs.Prelude.{Option, Some, unwrap_or, Vec}
use Rattle.std.specs.declared.alloc.Global.{Global}
use Rattle.std.specs.declared.cmp.Ordering.{Ordering}
use Rattle.std.specs.declared.cmp.Ordering.TheVariants.{Less, Equal, Greater}
use Rattle.std.specs.Option.{option_map}
use Rattle.std.specs.Ordering.{is_eq, match_ordering}
use Rattle.std.specs.Map.{lookup, remove_entry}
use Rattle.std.specs.BTreeMap.{insert_entry}
use Rattle.rel_path.specs.Paths.{Path, path_eq, path_cmp}
use Rattle.rel_path.proofs.PathLaws.{path_ties, path_same, path_self}
use Rattle.ignore_rules.specs.declared.rule.Rule.{Rule}
use Rattle.ignore_rules.specs.Stacks.{rules_in}

abbrev pub Key : Type 0
Key = Vec (List ℕ) Global

abbrev pub Rules : Type 0
Rules = Vec Rule Global

abbrev pub Entry : Type 0
Entry = Key × Rules

-- the key has these names
abbrev pub at : Path → Key → Bool
at folder key = path_eq folder key.items

-- the same, by the order
abbrev pub ordered_at : Path → Key → Bool
ordered_at folder key = is_eq (path_cmp folder key.items)

abbrev pub key_cmp : Key → Key → Ordering
key_cmp a b = path_cmp a.items b.items

abbrev pub rules_of_found : Option Rules → List Rule
rules_of_found found = unwrap_or (option_map (λ rules. rules.items) found) []

abbrev pub seen : List Entry → List (Path × List Rule)
seen entries = map (λ entry. (entry.0.items, entry.1.items)) entries

pub found_is : (entries : List Entry) (folder : Path) → lookup (path_eq folder) (seen entries) ≡ option_map (λ rules. rules.items) (lookup (ordered_at folder) entries)
found_is [] folder = refl
found_is (e ∷ es) folder =
    rw (← path_ties folder e.0.items)
    (elim (path_eq folder e.0.items) as (λ b. cond b (Some e.1.items) (lookup (path_eq folder) (seen es)) ≡ option_map (λ rules. rules.items) (cond b (Some e.1) (lookup (ordered_at folder) es))) [
      | true ↦ refl
      | false ↦ found_is es folder
    ])

-- the order finds a folder where it is that folder
found_same : (folder : Path) (key : Key) → ordered_at folder key ≡ true → folder ≡ key.items
found_same folder key e = path_same folder key.items (path_ties folder key.items ∙ e)

order_same : (a b : Path) → path_cmp a b ≡ Equal → a ≡ b
order_same a b e = path_same a b (path_ties a b ∙ ap is_eq e)

order_self : (a : Path) → is_eq (path_cmp a a) ≡ true
order_self a = sym (path_ties a a) ∙ path_self a

-- no folder is found at two keys of which one is greater
not_both : (folder : Path) (key other : Key) → key_cmp key other ≡ Greater → ordered_at folder other ≡ true → ordered_at folder key ≡ true → ⊥
not_both folder key other g a b =
    let equal : is_eq (key_cmp key other) ≡ true = rw (← found_same folder key b, ← found_same folder other a) (order_self folder) in
    false≢true (sym (ap is_eq g) ∙ equal)

twice : (t : Bool) (a b last : Option Rules) → cond t a last ≡ cond t a (cond t b last)
twice true a b last = refl
twice false a b last = refl

swapped : (s t : Bool) (a b last : Option Rules) → (s ≡ true → t ≡ true → ⊥) → cond s a (cond t b last) ≡ cond t b (cond s a last)
swapped true true a b last never = absurd (never refl refl)
swapped true false a b last never = refl
swapped false t a b last never = refl

-- an entry more
match_cases : (folder : Path) (e : Entry) (es : List Entry) (key : Key) (rules : Rules) (o : Ordering) → key_cmp key e.0 ≡ o → lookup (ordered_at folder) (insert_entry key_cmp es key rules) ≡ cond (ordered_at folder key) (Some rules) (lookup (ordered_at folder) es) → lookup (ordered_at folder) (match_ordering o ((key, rules) ∷ e ∷ es) ((e.0, rules) ∷ es) (e ∷ insert_entry key_cmp es key rules)) ≡ cond (ordered_at folder key) (Some rules) (lookup (ordered_at folder) (e ∷ es))
match_cases folder e es key rules Less is h = refl
match_cases folder e es key rules Equal is h =
    let same : ordered_at folder key ≡ ordered_at folder e.0 = ap (λ names. is_eq (path_cmp folder names)) (order_same key.items e.0.items is) in
    rw same (twice (ordered_at folder e.0) (Some rules) (Some e.1) (lookup (ordered_at folder) es))
match_cases folder e es key rules Greater is h =
    rw h (swapped (ordered_at folder e.0) (ordered_at folder key) (Some e.1) (Some rules) (lookup (ordered_at folder) es) (not_both folder key e.0 is))

pub lookup_inserted : (folder : Path) (entries : List Entry) (key : Key) (rules : Rules) → lookup (ordered_at folder) (insert_entry key_cmp entries key rules) ≡ cond (ordered_at folder key) (Some rules) (lookup (ordered_at folder) entries)
lookup_inserted folder [] key rules = refl
lookup_inserted folder (e ∷ es) key rules = match_cases folder e es key rules (key_cmp key e.0) refl (lookup_inserted folder es key rules)

-- an entry of another folder less
pub lookup_removed : (folder other : Path) (entries : List Entry) → path_eq folder other ≡ false → lookup (ordered_at folder) (remove_entry (ordered_at other) entries) ≡ lookup (ordered_at folder) entries
lookup_removed folder other [] apart = refl
lookup_removed folder other (e ∷ es) apart =
    elim (ordered_at other e.0) as (λ b. ordered_at other e.0 ≡ b → lookup (ordered_at folder) (cond b es (e ∷ remove_entry (ordered_at other) es)) ≡ cond (ordered_at folder e.0) (Some e.1) (lookup (ordered_at folder) es)) [
      | true ↦ λ t. let none : ordered_at folder e.0 ≡ false = sym (path_ties folder e.0.items) ∙ ap (path_eq folder) (sym (found_same other e.0 t)) ∙ apart in rw none refl
      | false ↦ λ t. ap (cond (ordered_at folder e.0) (Some e.1)) (lookup_removed folder other es apart)
    ] refl

-- the rules that the entries have for a folder
abbrev pub entry_rules : List Entry → Path → List Rule
entry_rules entries folder = rules_in (seen entries) folder

pub entry_rules_is : (entries : List Entry) (folder : Path) → entry_rules entries folder ≡ rules_of_found (lookup (ordered_at folder) entries)
entry_rules_is entries folder = ap (λ found. unwrap_or found []) (found_is entries folder)

-- the rules of a file behind those of its folder
pub rules_added : (folder own : Path) (old rest new : List Entry) (key : Key) (all : Rules) (more : List Rule) → key.items ≡ own → rest ≡ remove_entry (ordered_at own) old → new ≡ insert_entry key_cmp rest key all → all.items ≡ rules_of_found (lookup (ordered_at own) old) ++ more → entry_rules new folder ≡ entry_rules old folder ++ cond (path_eq folder own) more []
rules_added folder own old rest new key all more k r n a =
    elim (path_eq folder own) as (λ b. path_eq folder own ≡ b → entry_rules new folder ≡ entry_rules old folder ++ cond b more []) [
      | true ↦ λ t.
          let same = path_same folder own t in
          let here : ordered_at folder key ≡ true = rw (k, same) (order_self own) in
          entry_rules_is new folder ∙ rw (n, lookup_inserted folder rest key all, here) (a ∙ sym (rw (entry_rules_is old folder, same) refl))
      | false ↦ λ t.
          let apart : ordered_at folder key ≡ false = sym (path_ties folder key.items) ∙ rw k t in
          entry_rules_is new folder ∙ rw (n, lookup_inserted folder rest key all, apart, r, lookup_removed folder own old t) (sym (append-nil (entry_rules old folder) ∙ entry_rules_is old folder))
    ] refl
