-- The number of a location among entries that ascend.
use Rattle.std.proofs.Common.{◌≡◌, ◌⊎◌, inl, inr, ◌<◌, ◌≤◌, ℕ, zero, suc, Bool, true, false, cond, List, [], ◌∷◌, length, get_or, Option, Some, None, option_map, Ordering, Less, Equal, Greater, is_eq, refl, sym, ap, ◌∙◌, arith}
use Rattle.std.specs.Ordering.{ordering_index}
use Rattle.std.specs.List.Sorted.{IsNonDecreasingBy, IsPartitionPoint}
use Rattle.std.proofs.lemmas.Bool.{cases_lt}
use Rattle.std.proofs.lemmas.Cmp.{nat_list_cmp_total, alike_right}
use Rattle.std.proofs.lemmas.Map.Keys.{Less-from_sorted, sorted_tail}
use Rattle.std.proofs.lemmas.Map.Text.{is_eq-slice_cmp}
use Rattle.std.proofs.lemmas.List.{length-map}
use Rattle.std.proofs.lemmas.List as lists
use Rattle.rel_path.specs.Paths.{name_eq, name_cmp}
use Rattle.rel_path.proofs.PathLaws.{name_same, name_self}
use Rattle.lock_entries.specs.declared.entry.Entry.{Entry}
use Rattle.lock_entries.specs.Lockfile.{locations, Ascend}
use Rattle.npm_lock.specs.Lookup.{number_of}

-- entries stand in the order of their locations
pub in_order : (es : List Entry) → Ascend es → (i j : ℕ) (d : Entry) → i < j → j < length es → name_cmp (get_or es i d).location (get_or es j d).location ≡ Less
in_order es up i j d lt within =
    let at : (k : ℕ) → k < length es → get_or (locations es) k d.location ≡ (get_or es k d).location = λ k h. lists.get_or-map (λ e. e.location) es k d d.location h in
    let within' : j < length (locations es) = omega (arith, within, length-map es (λ e. e.location)) in
    rw (← at i (omega (arith, lt, within)), ← at j within) (Less-from_sorted name_cmp (locations es) i j d.location up lt within')

apart : (a b : List ℕ) → name_cmp a b ≡ Less → name_eq a b ≡ false
apart a b e = sym (is_eq-slice_cmp a b) ∙ ap is_eq e

tail : (e : Entry) (es : List Entry) → Ascend (e ∷ es) → Ascend es
tail e es up = sorted_tail name_cmp e.location (locations es) up

pub number_here : (es : List Entry) (i : ℕ) (location : List ℕ) → Ascend es → i < length es → ((d : Entry) → (get_or es i d).location ≡ location) → number_of es location ≡ Some i
number_here [] i location up lt is = absurd (omega (arith, lt))
number_here (e ∷ es) zero location up lt is = rw (is e) (rw (name_self location) refl)
number_here (e ∷ es) (suc i) location up lt is =
    let less : name_cmp e.location location ≡ Less = ap (name_cmp e.location) (sym (is e)) ∙ in_order (e ∷ es) up zero (suc i) e (omega arith) lt in
    rw (apart e.location location less) (ap (option_map suc) (number_here es i location (tail e es up) (omega (arith, lt)) is))

-- no entry ties with the location
pub number_none : (es : List Entry) (location : List ℕ) → ((k : ℕ) (d : Entry) → k < length es → is_eq (name_cmp (get_or es k d).location location) ≡ false) → number_of es location ≡ None
number_none [] location none = refl
number_none (e ∷ es) location none =
    let here : name_eq e.location location ≡ false = sym (is_eq-slice_cmp e.location location) ∙ none zero e (omega arith) in
    rw here (ap (option_map suc) (number_none es location (λ k d lt. none (suc k) d (omega (arith, lt)))))

-- what a number says
some_suc : (o : Option ℕ) (n : ℕ) → option_map suc o ≡ Some n → (m : ℕ) × (o ≡ Some m) × (n ≡ suc m)
some_suc None n e = absurd (cc)
some_suc (Some m) n e = (m, refl, cc)

pub number_is : (es : List Entry) (location : List ℕ) (n : ℕ) → number_of es location ≡ Some n → (n < length es) × ((d : Entry) → (get_or es n d).location ≡ location)
number_is [] location n e = absurd (cc)
number_is (x ∷ es) location n e = by (name_eq x.location location) refl e (number_is es location) where
  by : (b : Bool) → name_eq x.location location ≡ b → cond b (Some 0) (option_map suc (number_of es location)) ≡ Some n
      → ((m : ℕ) → number_of es location ≡ Some m → (m < length es) × ((d : Entry) → (get_or es m d).location ≡ location))
      → (n < length (x ∷ es)) × ((d : Entry) → (get_or (x ∷ es) n d).location ≡ location)
  by true same is more = let z : 0 ≡ n = cc in rw (← z) (omega arith, λ d. name_same x.location location same)
  by false other is more =
      let s = some_suc (number_of es location) n is in
      let later = more s.0 s.1 in
      rw s.2 (omega (arith, later.0), later.1)

-- the search may go by the order of the locations
index_from_Less : (o : Ordering) (n : ℕ) → o ≡ Less → ordering_index o ≤ n
index_from_Less o n e = rw e (omega arith)

index_most : (o : Ordering) → ordering_index o ≤ 2
index_most Less = omega arith
index_most Equal = omega arith
index_most Greater = omega arith

rises : (a b l : List ℕ) → name_cmp a b ≡ Less → (o : Ordering) → name_cmp b l ≡ o → ordering_index (name_cmp a l) ≤ ordering_index o
rises a b l less Less e = index_from_Less (name_cmp a l) 0 (nat_list_cmp_total.trans a b l less e)
rises a b l less Equal e = index_from_Less (name_cmp a l) 1 (sym (alike_right nat_list_cmp_total b l a e) ∙ less)
rises a b l less Greater e = index_most (name_cmp a l)

pub searchable : (es : List Entry) (location : List ℕ) → Ascend es → IsNonDecreasingBy (λ e. ordering_index (name_cmp e.location location)) es
searchable es location up i j d le within = by (cases_lt i j) where
  by : (i < j) ⊎ (j ≤ i) → ordering_index (name_cmp (get_or es i d).location location) ≤ ordering_index (name_cmp (get_or es j d).location location)
  by (inl lt) = rises _ _ location (in_order es up i j d lt within) _ refl
  by (inr ge) = let same : i ≡ j = omega (arith, le, ge) in rw same (omega arith)

-- what the search says
pub tied_same : (a b : List ℕ) → name_cmp a b ≡ Equal → a ≡ b
tied_same a b e = name_same a b (sym (is_eq-slice_cmp a b) ∙ ap is_eq e)

pub none_here : (es : List Entry) (location : List ℕ) (i : ℕ) → IsPartitionPoint (λ e. name_cmp e.location location ≡ Less) (λ e. name_cmp e.location location ≡ Greater) es i
    → (k : ℕ) (d : Entry) → k < length es → is_eq (name_cmp (get_or es k d).location location) ≡ false
none_here es location i parts k d lt = by (cases_lt k i) where
  by : (k < i) ⊎ (i ≤ k) → is_eq (name_cmp (get_or es k d).location location) ≡ false
  by (inl below) = ap is_eq (parts.0 k d (omega arith) below)
  by (inr past) = ap is_eq (parts.1 k d past lt)
