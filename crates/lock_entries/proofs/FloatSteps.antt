-- One turn of a loop that looks for the least float.
use Rattle.std.proofs.Common.{◌≡◌, ◌<◌, ◌+◌, ℕ, false, List, [], ◌∷◌, ◌++◌, length, get_or, drop, Option, sym, ap, ◌∙◌, String, Global, string_bytes, decimal}
use Rattle.serde_json.specs.View.{view, items_view, members_view}
use Rattle.serde_json.specs.Written.{has_float}
use Rattle.serde_json.specs.declared.value.Value.{Value}
use Rattle.json_view.specs.Pointer.{pointer_to}
use Rattle.rel_path.proofs.Parts.{turn}
use Rattle.lock_entries.specs.Least.{lesser_by, least_by}
use Rattle.lock_entries.specs.Floats.{floats, item_floats, member_floats}
use Rattle.lock_entries.proofs.Least.{lesser_lesser, least-append}
use Rattle.lock_entries.proofs.NoFloats.{no_floats}

abbrev least : List (List ℕ) → Option (List ℕ)
least = least_by (λ p. p)

abbrev lesser : Option (List ℕ) → Option (List ℕ) → Option (List ℕ)
lesser = lesser_by (λ p. p)

found_more : (so_far found now : Option (List ℕ)) (here rest : List (List ℕ)) → found ≡ least here → now ≡ lesser so_far found → lesser now (least rest) ≡ lesser so_far (least (here ++ rest))
found_more so_far found now here rest f n =
    ap (λ o. lesser o (least rest)) (n ∙ ap (lesser so_far) f) ∙ sym (lesser_lesser (λ p. p) so_far (least here) (least rest)) ∙ ap (lesser so_far) (sym (least-append (λ p. p) here rest))

none_here : (so_far : Option (List ℕ)) (here rest : List (List ℕ)) → here ≡ [] → lesser so_far (least rest) ≡ lesser so_far (least (here ++ rest))
none_here so_far here rest e = ap (λ h. lesser so_far (least (h ++ rest))) (sym e)

pub member_with : (at : List ℕ) (es rest : List (String Global × Value)) (k : String Global) (v : Value) (so_far found now all : Option (List ℕ)) → es ≡ (k, v) ∷ rest
    → found ≡ least (floats (pointer_to at (string_bytes k)) (view v)) → now ≡ lesser so_far found
    → lesser so_far (least (member_floats at (members_view es))) ≡ all → lesser now (least (member_floats at (members_view rest))) ≡ all
member_with at es rest k v so_far found now all e f n h =
    found_more so_far found now (floats (pointer_to at (string_bytes k)) (view v)) (member_floats at (members_view rest)) f n
    ∙ ap (λ s. lesser so_far (least (member_floats at (members_view s)))) (sym e) ∙ h

pub member_without : (at : List ℕ) (es rest : List (String Global × Value)) (k : String Global) (v : Value) (so_far all : Option (List ℕ)) → es ≡ (k, v) ∷ rest
    → has_float (view v) ≡ false
    → lesser so_far (least (member_floats at (members_view es))) ≡ all → lesser so_far (least (member_floats at (members_view rest))) ≡ all
member_without at es rest k v so_far all e f h =
    none_here so_far (floats (pointer_to at (string_bytes k)) (view v)) (member_floats at (members_view rest)) (no_floats _ (view v) f)
    ∙ ap (λ s. lesser so_far (least (member_floats at (members_view s)))) (sym e) ∙ h

pub item_with : (at : List ℕ) (vs : List Value) (i : ℕ) (v : Value) (so_far found now all : Option (List ℕ)) → (i < length vs) × (v ≡ get_or vs i v)
    → found ≡ least (floats (pointer_to at (decimal i)) (view v)) → now ≡ lesser so_far found
    → lesser so_far (least (item_floats at i (items_view (drop i vs)))) ≡ all → lesser now (least (item_floats at (i + 1) (items_view (drop (i + 1) vs)))) ≡ all
item_with at vs i v so_far found now all is f n h =
    found_more so_far found now (floats (pointer_to at (decimal i)) (view v)) (item_floats at (i + 1) (items_view (drop (i + 1) vs))) f n
    ∙ ap (λ s. lesser so_far (least (item_floats at i (items_view s)))) (sym (turn vs i v is).1) ∙ h

pub item_without : (at : List ℕ) (vs : List Value) (i : ℕ) (v : Value) (so_far all : Option (List ℕ)) → (i < length vs) × (v ≡ get_or vs i v)
    → has_float (view v) ≡ false
    → lesser so_far (least (item_floats at i (items_view (drop i vs)))) ≡ all → lesser so_far (least (item_floats at (i + 1) (items_view (drop (i + 1) vs)))) ≡ all
item_without at vs i v so_far all is f h =
    none_here so_far (floats (pointer_to at (decimal i)) (view v)) (item_floats at (i + 1) (items_view (drop (i + 1) vs))) (no_floats _ (view v) f)
    ∙ ap (λ s. lesser so_far (least (item_floats at i (items_view s)))) (sym (turn vs i v is).1) ∙ h
