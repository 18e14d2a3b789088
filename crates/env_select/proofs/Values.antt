-- First values of names, as a loop gathers them.
use Rattle.std.proofs.Common.{◌≡◌, ◌≢◌, ◌∙◌, ◌&&◌, ℕ, Bool, true, false, not, cond, List, [], ◌∷◌, ◌++◌, Option, Some, None, refl, sym, ap, ⊎_elim}
use Rattle.std.specs.Prelude.{is_some}
use Rattle.std.proofs.lemmas.Bool.{false≢true}
use Rattle.std.specs.Map.{lookup}
use Rattle.std.specs.Ordering.{is_eq}
use Rattle.std.specs.BTreeMap.{BTreeMap, get, IsOrdered}
use Rattle.rel_path.specs.Paths.{name_eq, name_cmp}
use Rattle.rel_path.proofs.PathLaws.{name_self}
use Rattle.std.specs.Option.{option_or}
use Rattle.env_select.specs.declared.choose.EnvMode.{EnvMode}
use Rattle.env_select.specs.declared.choose.EnvMode.TheVariants.{Strict, Loose}
use Rattle.env_select.specs.Choice.{first_value, has, chosen, is_passed, IsChosen}
use Rattle.env_select.specs.Reach.{reach_of, is_wanted}
use Rattle.env_select.proofs.Names.{ties, apart, order_apart, cases_name, flipped}

lookup_same : {K X : Type 0} (p q : K → Bool) → ((k : K) → p k ≡ q k) → (es : List (K × X)) → lookup p es ≡ lookup q es
lookup_same p q same [] = refl
lookup_same p q same (e ∷ es) = rw (same e.0, lookup_same p q same es) refl

-- the first value is found by the order too
pub found_by_order : (pairs : List (List ℕ × List ℕ)) (name : List ℕ) → first_value pairs name ≡ lookup (λ k. is_eq (name_cmp name k)) pairs
found_by_order pairs name = lookup_same (name_eq name) (λ k. is_eq (name_cmp name k)) (ties name) pairs

-- what a map has at a name is the first value among its entries
pub get_is : (values : BTreeMap (List ℕ) (List ℕ)) (name : List ℕ) → first_value values.entries name ≡ get name_cmp values name
get_is values name = found_by_order values.entries name

option_or_none : (o : Option (List ℕ)) → o ≡ option_or o None
option_or_none None = refl
option_or_none (Some v) = refl

option_or_new : (o : Option (List ℕ)) (v : List ℕ) → is_some o ≡ false → Some v ≡ option_or o (Some v)
option_or_new None v e = refl
option_or_new (Some w) v e = cc

option_or_known : (o second : Option (List ℕ)) → is_some o ≡ true → o ≡ option_or o second
option_or_known None second e = cc
option_or_known (Some w) second e = refl

one_here : (name key value : List ℕ) → name ≡ key → first_value ((key, value) ∷ []) name ≡ Some value
one_here name key value same = rw (same, name_self key) refl

one_apart : (name key value : List ℕ) → name ≢ key → first_value ((key, value) ∷ []) name ≡ None
one_apart name key value ne = rw (apart name key ne) refl

-- a pair more, of a name that was not there
pub added : (name key value : List ℕ) (old new : List ℕ → Option (List ℕ)) → is_some (old key) ≡ false → new key ≡ Some value → ((q : List ℕ) → is_eq (name_cmp key q) ≡ false → new q ≡ old q) → new name ≡ option_or (old name) (first_value ((key, value) ∷ []) name)
added name key value old new none here others =
    ⊎_elim (λ same. rw (one_here name key value same, same) (here ∙ option_or_new (old key) value none))
    (λ ne. rw (one_apart name key value ne) (others name (order_apart key name (flipped name key ne)) ∙ option_or_none (old name)))
    (cases_name name key)

-- of a name that was there
pub kept : (name key value : List ℕ) (old : List ℕ → Option (List ℕ)) → is_some (old key) ≡ true → old name ≡ option_or (old name) (first_value ((key, value) ∷ []) name)
kept name key value old known =
    ⊎_elim (λ same. option_or_known (old name) (first_value ((key, value) ∷ []) name) (rw same known))
    (λ ne. rw (one_apart name key value ne) (option_or_none (old name)))
    (cases_name name key)

pub first_value-append : (xs ys : List (List ℕ × List ℕ)) (name : List ℕ) → first_value (xs ++ ys) name ≡ option_or (first_value xs name) (first_value ys name)
first_value-append [] ys name = refl
first_value-append (x ∷ xs) ys name =
    elim (name_eq name x.0) as (λ b. cond b (Some x.1) (first_value (xs ++ ys) name) ≡ option_or (cond b (Some x.1) (first_value xs name)) (first_value ys name)) [
      | true ↦ refl
      | false ↦ first_value-append xs ys name
    ]

-- a pair more of the environment, whose name is wanted or not
pub chosen_wanted : (wanted : List ℕ → Bool) (xs : List (List ℕ × List ℕ)) (key value name : List ℕ) → wanted key ≡ true → option_or (chosen wanted xs name) (first_value ((key, value) ∷ []) name) ≡ chosen wanted (xs ++ (key, value) ∷ []) name
chosen_wanted wanted xs key value name w = by (wanted name) refl
  where
    by : (b : Bool) → wanted name ≡ b → option_or (cond b (first_value xs name) None) (first_value ((key, value) ∷ []) name) ≡ cond b (first_value (xs ++ (key, value) ∷ []) name) None
    by true e = sym (first_value-append xs ((key, value) ∷ []) name)
    by false e = one_apart name key value (λ same. false≢true (sym e ∙ ap wanted same ∙ w))

pub chosen_unwanted : (wanted : List ℕ → Bool) (xs : List (List ℕ × List ℕ)) (key value name : List ℕ) → wanted key ≡ false → chosen wanted xs name ≡ chosen wanted (xs ++ (key, value) ∷ []) name
chosen_unwanted wanted xs key value name w = by (wanted name) refl
  where
    by : (b : Bool) → wanted name ≡ b → cond b (first_value xs name) None ≡ cond b (first_value (xs ++ (key, value) ∷ []) name) None
    by true e =
        let none = one_apart name key value (λ same. false≢true (sym w ∙ sym (ap wanted same) ∙ e)) in
        rw (first_value-append xs ((key, value) ∷ []) name, none) (option_or_none (first_value xs name))
    by false e = refl

-- a name more is taken out
pub removed : (xs : List (List ℕ × List ℕ)) (key value name : List ℕ) (before old new : List ℕ → Option (List ℕ)) → old name ≡ cond (has xs name) None (before name) → new key ≡ None → ((q : List ℕ) → is_eq (name_cmp key q) ≡ false → new q ≡ old q) → new name ≡ cond (has (xs ++ (key, value) ∷ []) name) None (before name)
removed xs key value name before old new so_far here others =
    ⊎_elim (λ same. rw (first_value-append xs ((key, value) ∷ []) name, one_here name key value same) (rw same here ∙ gone (first_value xs name)))
    (λ ne. rw (first_value-append xs ((key, value) ∷ []) name, one_apart name key value ne, ← option_or_none (first_value xs name)) (others name (order_apart key name (flipped name key ne)) ∙ so_far))
    (cases_name name key)
  where
    gone : (o : Option (List ℕ)) → None ≡ cond (is_some (option_or o (Some value))) None (before name)
    gone None = refl
    gone (Some v) = refl

-- what is passed on and not taken
pub left_over : (passed taken : Bool) (value : Option (List ℕ)) → cond taken None (cond passed value None) ≡ cond (passed && not taken) value None
left_over true true value = refl
left_over true false value = refl
left_over false true value = refl
left_over false false value = refl

-- the entries of a map that has the chosen values
pub is_chosen : (wanted : List ℕ → Bool) (env pairs : List (List ℕ × List ℕ)) (values : BTreeMap (List ℕ) (List ℕ)) → pairs ≡ values.entries → IsOrdered name_cmp values → ((name : List ℕ) → get name_cmp values name ≡ chosen wanted env name) → IsChosen wanted env pairs
is_chosen wanted env pairs values e ordered gets = record { ascending = rw e ordered; values = λ name. rw e (get_is values name ∙ gets name) }

pub wanted_is : (mode : EnvMode) (task global : List (List ℕ)) (name : List ℕ) → is_wanted (reach_of mode) task global name ≡ is_passed mode task global name
wanted_is Strict task global name = refl
wanted_is Loose task global name = refl
