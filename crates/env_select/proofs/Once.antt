-- Pairs whose names ascend are known by what they have at each name.
use Rattle.std.proofs.Common.{◌≡◌, ◌≢◌, ◌∙◌, ℕ, true, List, [], ◌∷◌, refl, sym, ap, ⊎_elim}
use Rattle.std.specs.Prelude.{Option, Some, None, unwrap_or}
use Rattle.std.specs.declared.cmp.Ordering.{Ordering}
use Rattle.std.specs.declared.cmp.Ordering.TheVariants.{Less, Equal, Greater}
use Rattle.std.specs.Ordering.{is_eq, eq_by_cmp, ordering_reverse}
use Rattle.std.specs.BTreeMap.{is_at}
use Rattle.std.specs.Map.{lookup, keys_of}
use Rattle.std.specs.List.Sorted.{IsStrictlySortedBy}
use Rattle.std.specs.Cmp.Lexicographic.{nat_list_cmp_total}
use Rattle.std.proofs.lemmas.Bool.{cases_Bool}
use Rattle.std.proofs.lemmas.Cmp.{tied_itself, eq_by_cmp_equiv}
use Rattle.std.proofs.lemmas.Map.{lookup-none}
use Rattle.std.proofs.lemmas.Map.Keys.{sorted_tail, IsDistinct-from_sorted}
use Rattle.std.proofs.lemmas.Map.Entries.{lookup_head, lookup_tail, none_past_head, none_below_head}
use Rattle.std.proofs.lemmas.Map.Lookups.{exact_bytes}
use Rattle.rel_path.specs.Paths.{name_cmp}
use Rattle.env_select.specs.Choice.{ChosenOnce}
use Rattle.env_select.proofs.Values.{found_by_order}

abbrev Pair : Type 0
Pair = List ℕ × List ℕ

abbrev find : List Pair → List ℕ → Option (List ℕ)
find pairs name = lookup (is_at (name_cmp name)) pairs

not_none : (v : List ℕ) → Some v ≢ None
not_none v e = cc

at_head : (x : Pair) (xs : List Pair) → find (x ∷ xs) x.0 ≡ Some x.1
at_head x xs = lookup_head (is_at (name_cmp x.0)) x xs (ap is_eq (tied_itself nat_list_cmp_total x.0))

past_head : (q : List ℕ) (x : Pair) (xs : List Pair) → IsStrictlySortedBy name_cmp (keys_of (x ∷ xs)) → eq_by_cmp name_cmp q x.0 ≡ true → find xs q ≡ None
past_head q x xs s t = lookup-none (is_at (name_cmp q)) xs (none_past_head (eq_by_cmp_equiv nat_list_cmp_total) q x xs (IsDistinct-from_sorted name_cmp _ s) t)

module _ (x y : Pair) (xs ys : List Pair) (s : IsStrictlySortedBy name_cmp (keys_of (x ∷ xs))) (t : IsStrictlySortedBy name_cmp (keys_of (y ∷ ys))) (h : (q : List ℕ) → find (x ∷ xs) q ≡ find (y ∷ ys) q) where
  by_heads : (r : Ordering) → name_cmp x.0 y.0 ≡ r → name_cmp x.0 y.0 ≡ Equal
  by_heads Less p = absurd (not_none x.1 (sym (at_head x xs) ∙ h x.0 ∙ lookup-none _ (y ∷ ys) (none_below_head nat_list_cmp_total x.0 y ys t p)))
  by_heads Equal p = p
  by_heads Greater p = absurd (not_none y.1 (sym (at_head y ys) ∙ sym (h y.0) ∙ lookup-none _ (x ∷ xs) (none_below_head nat_list_cmp_total y.0 x xs s (nat_list_cmp_total.antisymm y.0 x.0 ∙ ap ordering_reverse p))))

  heads : x.0 ≡ y.0
  heads = exact_bytes x.0 y.0 (by_heads (name_cmp x.0 y.0) refl)

  firsts : x.1 ≡ y.1
  firsts = ap (λ u. unwrap_or u x.1) (sym (at_head x xs) ∙ h x.0 ∙ ap (find (y ∷ ys)) heads ∙ at_head y ys)

  tails : (q : List ℕ) → find xs q ≡ find ys q
  tails q =
      let e = ap (λ k. eq_by_cmp name_cmp q k) (sym heads) in
      ⊎_elim
      (λ b. past_head q x xs s b ∙ sym (past_head q y ys t (e ∙ b)))
      (λ b. sym (lookup_tail (is_at (name_cmp q)) x xs b) ∙ h q ∙ lookup_tail (is_at (name_cmp q)) y ys (e ∙ b))
      (cases_Bool (eq_by_cmp name_cmp q x.0))

same_pairs : (xs ys : List Pair) → IsStrictlySortedBy name_cmp (keys_of xs) → IsStrictlySortedBy name_cmp (keys_of ys) → ((q : List ℕ) → find xs q ≡ find ys q) → xs ≡ ys
same_pairs [] [] s t h = refl
same_pairs [] (y ∷ ys) s t h = absurd (not_none y.1 (sym (h y.0 ∙ at_head y ys)))
same_pairs (x ∷ xs) [] s t h = absurd (not_none x.1 (sym (at_head x xs) ∙ h x.0))
same_pairs (x ∷ xs) (y ∷ ys) s t h =
    let rest = same_pairs xs ys (sorted_tail name_cmp x.0 (keys_of xs) s) (sorted_tail name_cmp y.0 (keys_of ys) t) (tails x y xs ys s t h) in
    λ i. (heads x y xs ys s t h i, firsts x y xs ys s t h i) ∷ rest i

pub chosen_once : ChosenOnce
chosen_once wanted env first second a b = same_pairs first second a.ascending b.ascending (λ name. sym (found_by_order first name) ∙ a.values name ∙ sym (b.values name) ∙ found_by_order second name)
