-- The names of an object's members, and that they ascend.
use Rattle.std.proofs.Common.{◌≡◌, ℕ, List, [], ◌∷◌, Option, Some, None, refl, ap, map, Ordering, Less, nat_cmp}
use Rattle.std.specs.Prelude.{String, string_bytes}
use Rattle.std.specs.declared.alloc.Global.{Global}
use Rattle.std.specs.List.{AllByRecursion}
use Rattle.std.specs.List.Sorted.{IsStrictlySortedBy}
use Rattle.serde_json.specs.declared.value.Value.{Value}
use Rattle.std.specs.Cmp.Lexicographic.{slice_cmp}
use Rattle.serde_json.specs.View.{view, members_view}
use Rattle.serde_json.specs.Find.{as_str}
use Rattle.json_view.specs.Pairs.{with_text, text_members}
use Rattle.json_view.specs.Look.{names_of}

pub names_of-members_view : (ms : List (String Global × Value)) → names_of (members_view ms) ≡ map string_bytes (map (λ m. m.0) ms)
names_of-members_view [] = refl
names_of-members_view (m ∷ ms) = ap (λ names. string_bytes m.0 ∷ names) (names_of-members_view ms)

all-map : {A B : Type 0} (f : A → B) (P : B → Type 0) (xs : List A) → AllByRecursion (λ x. P (f x)) xs → AllByRecursion P (map f xs)
all-map f P [] all = tt
all-map f P (x ∷ xs) all = (all.0, all-map f P xs all.1)

pub sorted-map : {A B : Type 0} (f : A → B) (cmp : B → B → Ordering) (xs : List A) → IsStrictlySortedBy (λ x y. cmp (f x) (f y)) xs → IsStrictlySortedBy cmp (map f xs)
unfolding IsStrictlySortedBy
sorted-map f cmp [] sorted = tt
sorted-map f cmp (x ∷ xs) sorted = (all-map f (λ y. cmp (f x) y ≡ Less) xs sorted.0, sorted-map f cmp xs sorted.1)

-- the names of those members that are texts
text_all : (P : List ℕ → Type 0) (name : List ℕ) (o : Option (List ℕ)) (pairs : List (List ℕ × List ℕ)) → P name → AllByRecursion P (map (λ p. p.0) pairs) → AllByRecursion P (map (λ p. p.0) (with_text name o pairs))
text_all P name None pairs here all = all
text_all P name (Some text) pairs here all = (here, all)

texts_all : (P : List ℕ → Type 0) (ms : List (String Global × Value)) → AllByRecursion P (map string_bytes (map (λ m. m.0) ms)) → AllByRecursion P (map (λ p. p.0) (text_members (members_view ms)))
texts_all P [] all = tt
texts_all P (m ∷ ms) all = text_all P (string_bytes m.0) (as_str (view m.1)) (text_members (members_view ms)) all.0 (texts_all P ms all.1)

text_sorted : (name : List ℕ) (o : Option (List ℕ)) (pairs : List (List ℕ × List ℕ)) → AllByRecursion (λ y. slice_cmp nat_cmp name y ≡ Less) (map (λ p. p.0) pairs) → IsStrictlySortedBy (slice_cmp nat_cmp) (map (λ p. p.0) pairs) → IsStrictlySortedBy (slice_cmp nat_cmp) (map (λ p. p.0) (with_text name o pairs))
unfolding IsStrictlySortedBy
text_sorted name None pairs all sorted = sorted
text_sorted name (Some text) pairs all sorted = (all, sorted)

pub texts_sorted : (ms : List (String Global × Value)) → IsStrictlySortedBy (slice_cmp nat_cmp) (map string_bytes (map (λ m. m.0) ms)) → IsStrictlySortedBy (slice_cmp nat_cmp) (map (λ p. p.0) (text_members (members_view ms)))
unfolding IsStrictlySortedBy
texts_sorted [] sorted = tt
texts_sorted (m ∷ ms) sorted = text_sorted (string_bytes m.0) (as_str (view m.1)) (text_members (members_view ms)) (texts_all (λ y. slice_cmp nat_cmp (string_bytes m.0) y ≡ Less) ms sorted.0) (texts_sorted ms sorted.1)
