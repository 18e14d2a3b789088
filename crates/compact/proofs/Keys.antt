-- Whether a pair that was picked has a key, found by digests.
use Rattle.std.proofs.Common.{◌≡◌, ◌≢◌, ◌≤◌, ◌<◌, inl, inr, ℕ, ◌+◌, Bool, true, false, not, List, [], ◌∷◌, ◌++◌, length, get_or, Option, Some, None, refl, sym, ◌∙◌, ap, arith, length-append}
use Rattle.std.specs.Prelude.{◌||◌, reverse, slice_get, bytes_eq, is_some, IfSome, IfNone}
use Rattle.std.specs.Option.{option_map_or}
use Rattle.std.specs.List.{list_any}
use Rattle.std.proofs.lemmas.Bool.{cases_lt, cases_eq}
use Rattle.std.proofs.lemmas.List.{reverse-append, length-map, get_or-map, get_or_append_left}
use Rattle.std.proofs.lemmas.List.Folds.{list_any-append, list_any_at, list_any_none}
use Rattle.std.proofs.lemmas.Grind.{get_or_default_zero}
use Rattle.std.proofs.lemmas.Option.{slice_get-get_or, slice_get_within, get_or_from_slice_get}
use Rattle.std.proofs.lemmas.Slice.Eq.{bytes_eq-Decides}
use Rattle.sha2.specs.Sha256.{sha256}
use Rattle.print_index.specs.Digests.{IsLastBelow, NoneBelow}
use Rattle.cache_api.specs.Pairs.{Pair}
use Rattle.compact.specs.Chosen.{has_key}
use Rattle.compact.specs.Quick.{quick_print}
use Rattle.compact.specs.Picks.{pair_of, pairs_at, picked, key_at, Stands, IsDigestOf, IsApartAt}

-- ---- in any order

or_swap : (a b : Bool) → (a || (b || false)) ≡ (b || a)
or_swap true true = refl
or_swap true false = refl
or_swap false true = refl
or_swap false false = refl

any_reverse : {A : Type 0} (p : A → Bool) (xs : List A)
    → list_any p (reverse xs) ≡ list_any p xs
any_reverse p [] = refl
any_reverse p (x ∷ xs) =
    ap (list_any p) (reverse-append (x ∷ []) xs)
    ∙ list_any-append p (reverse xs) (x ∷ [])
    ∙ or_swap (list_any p (reverse xs)) (p x)
    ∙ ap (λ (b : Bool). p x || b) (any_reverse p xs)

-- ---- the key of the pair with one of these numbers

at_place : (pairs : List Pair) (numbers : List ℕ) (i : ℕ) (d : Pair) → i < length numbers
    → get_or (pairs_at pairs numbers) i d ≡ pair_of pairs (get_or numbers i 0)
at_place pairs numbers i d lt = get_or-map (pair_of pairs) numbers i 0 d lt

same_bytes : (a b : List ℕ) → a ≡ b → bytes_eq a b ≡ true
same_bytes a b is = (bytes_eq-Decides a b).1 is

other_bytes : (a b : List ℕ) → a ≢ b → bytes_eq a b ≡ false
other_bytes a b other = by (bytes_eq a b) refl
  where
    by : (t : Bool) → bytes_eq a b ≡ t → t ≡ false
    by true is = absurd (other ((bytes_eq-Decides a b).0 is))
    by false is = refl

pub key_found : (pairs : List Pair) (numbers : List ℕ) (i : ℕ) (key : List ℕ)
    → i < length numbers → key_at pairs numbers i ≡ key
    → has_key key (picked pairs numbers) ≡ true
key_found pairs numbers i key lt is =
    let test = λ (p : Pair). bytes_eq p.0 key in
    let d : Pair = ([], []) in
    let here : get_or (pairs_at pairs numbers) i d ≡ pair_of pairs (get_or numbers i 0) = at_place pairs numbers i d lt in
    any_reverse test (pairs_at pairs numbers)
    ∙ list_any_at test (pairs_at pairs numbers) i d (omega (arith, lt, length-map numbers (pair_of pairs)))
    (ap (λ (p : Pair). bytes_eq p.0 key) here ∙ same_bytes (key_at pairs numbers i) key is)

-- none of them has the key
abbrev pub IsApart : List Pair → List ℕ → List ℕ → Type 0
IsApart pairs numbers key = (i : ℕ) → i < length numbers → key_at pairs numbers i ≢ key

pub key_missing : (pairs : List Pair) (numbers : List ℕ) (key : List ℕ)
    → IsApart pairs numbers key → has_key key (picked pairs numbers) ≡ false
key_missing pairs numbers key apart =
    let test = λ (p : Pair). bytes_eq p.0 key in
    any_reverse test (pairs_at pairs numbers)
    ∙ list_any_none test (pairs_at pairs numbers) (λ k d lt.
    let inside : k < length numbers = omega (arith, lt, length-map numbers (pair_of pairs)) in
    ap (λ (p : Pair). bytes_eq p.0 key) (at_place pairs numbers k d inside)
    ∙ other_bytes (key_at pairs numbers k) key (apart k inside))

-- ---- by digests

-- the place of a digest is not passed, and behind it none with the digest has the key
pub record IsLeftAt (pairs : List Pair) (numbers : List ℕ) (digests : List (List ℕ))
    (digest key : List ℕ) (place : ℕ) : Type 0 where
  pub same : slice_get digests place ≡ Some digest
  pub behind : (i : ℕ) → place < i → i < length numbers → slice_get digests i ≡ Some digest
      → key_at pairs numbers i ≢ key

-- from that place down
abbrev pub IsLeft : List Pair → List ℕ → List (List ℕ) → List ℕ → List ℕ → Option ℕ → Type 0
IsLeft pairs numbers digests digest key None = IsApartAt pairs numbers digests digest key
IsLeft pairs numbers digests digest key (Some place) =
    IsLeftAt pairs numbers digests digest key place

-- what is known below a place
abbrev pub IsNextBelow : List (List ℕ) → ℕ → List ℕ → Option ℕ → Type 0
IsNextBelow digests limit digest None = NoneBelow digests limit digest
IsNextBelow digests limit digest (Some place) = IsLastBelow digests limit digest place

module _ (pairs : List Pair) (numbers : List ℕ) (digests : List (List ℕ)) (digest key : List ℕ)
  where
    -- at first
    pub left_first : (next : Option ℕ) (limit : ℕ) → limit ≡ length numbers
        → IsNextBelow digests limit digest next → IsLeft pairs numbers digests digest key next
    left_first None limit is none =
        λ i lt at same. none i (omega (arith, lt, is)) at
    left_first (Some place) limit is last = record {
      same = last.same;
      behind = λ i behind lt at same. last.later i behind (omega (arith, lt, is)) at;
    }

    -- and once the key of a place was compared
    pub left_next : (next : Option ℕ) (place : ℕ)
        → IsLeftAt pairs numbers digests digest key place → key_at pairs numbers place ≢ key
        → IsNextBelow digests place digest next → IsLeft pairs numbers digests digest key next
    left_next None place x other none = λ i lt at is. elim (cases_lt i place) [
      | inl below ↦ none i below at
      | inr le ↦ elim (cases_eq i place) [
        | inl here ↦ other (ap (key_at pairs numbers) (sym here) ∙ is)
        | inr apart ↦
            let lt' : place < i = omega (arith, le, apart) in
            x.behind i lt' lt at is
      ]
    ]
    left_next (Some p) place x other last = record {
      same = last.same;
      behind = λ i behind lt at is. elim (cases_lt i place) [
        | inl below ↦ last.later i behind below at
        | inr le ↦ elim (cases_eq i place) [
          | inl here ↦ other (ap (key_at pairs numbers) (sym here) ∙ is)
          | inr apart ↦
              let lt' : place < i = omega (arith, le, apart) in
              x.behind i lt' lt at is
        ]
      ];
    }

-- ---- each has a digest of its key

-- this digest stands at no place
abbrev pub IsMissing : List (List ℕ) → List ℕ → Type 0
IsMissing digests digest = NoneBelow digests (length digests) digest

module _ (pairs : List Pair) (numbers : List ℕ) (digests : List (List ℕ)) (key : List ℕ)
    (even : length digests ≡ length numbers)
    (are : (place : ℕ) → place < length numbers → IsDigestOf digests (key_at pairs numbers place) (get_or digests place []))
  where
    stands_at : (i : ℕ) (digest : List ℕ) → i < length numbers → get_or digests i [] ≡ digest
        → slice_get digests i ≡ Some digest
    stands_at i digest lt is =
        slice_get-get_or digests i [] (omega (arith, lt, even)) ∙ ap (λ (l : List ℕ). Some l) is

    -- none has the key where none has its quick print
    pub apart_missing : IsMissing digests (quick_print key) → IsApart pairs numbers key
    apart_missing none i lt is = elim (are i lt) [
      | inl quick ↦
          none i (omega (arith, lt, even)) (stands_at i (quick_print key) lt (quick ∙ ap quick_print is))
      | inr rest ↦
          let place = rest.1.0 in
          let at : slice_get digests place ≡ Some (quick_print key) = rest.1.1 ∙ ap (λ (k : List ℕ). Some (quick_print k)) is in
          none place (slice_get_within digests place (quick_print key) at) at
    ]

    -- or where none with its quick print or its SHA-256 has it
    pub apart_both : IsApartAt pairs numbers digests (quick_print key) key
        → IsApartAt pairs numbers digests (sha256 key) key → IsApart pairs numbers key
    apart_both quick hashed i lt is = elim (are i lt) [
      | inl same ↦ quick i lt (stands_at i (quick_print key) lt (same ∙ ap quick_print is)) is
      | inr rest ↦ hashed i lt (stands_at i (sha256 key) lt (rest.0 ∙ ap sha256 is)) is
    ]

-- where an index has no place of it
pub none_of : (next : Option ℕ) (b : Bool) (A : Type 0) → is_some next ≡ not b → b ≡ true
    → IfNone next A → A
none_of None b A is none x = x
none_of (Some place) b A is none x =
    let other = is ∙ ap not none in
    absurd (cc other)

-- ---- one more digest

stands_grown : (digests more : List (List ℕ)) (digest : List ℕ) → Stands digests digest
    → Stands (digests ++ more) digest
stands_grown digests more digest (place, at) =
    let lt = slice_get_within digests place digest at in (
      place,
      slice_get-get_or (digests ++ more) place [] (omega (arith, lt, length-append digests more))
          ∙ ap (λ (l : List ℕ). Some l) (get_or_append_left digests more [] place lt ∙ get_or_from_slice_get digests place digest [] at),
    )

pub digest_grown : (digests more : List (List ℕ)) (key digest : List ℕ)
    → IsDigestOf digests key digest → IsDigestOf (digests ++ more) key digest
digest_grown digests more key digest (inl quick) = inl quick
digest_grown digests more key digest (inr (hashed, stands)) =
    inr (hashed, stands_grown digests more (quick_print key) stands)

-- ---- answers of the index

pub next_below : (digests : List (List ℕ)) (limit : ℕ) (print : List ℕ) (next : Option ℕ)
    → IfSome next (IsLastBelow digests limit print) → IfNone next (NoneBelow digests limit print)
    → IsNextBelow digests limit print next
next_below digests limit print None some none = none
next_below digests limit print (Some place) some none = some

pub next_inside : (digests : List (List ℕ)) (limit : ℕ) (print : List ℕ) (next : Option ℕ)
    → IsNextBelow digests limit print next → limit ≤ length digests
    → IfSome next (λ place. place < length digests)
next_inside digests limit print None below le = tt
next_inside digests limit print (Some place) last le = omega (arith, last.below, le)

-- the walk goes down
pub next_falls : (digests : List (List ℕ)) (limit : ℕ) (print : List ℕ) (next : Option ℕ)
    → IsNextBelow digests limit print next
    → option_map_or (λ (place : ℕ). place + 1) next 0 < limit + 1
next_falls digests limit print None below = omega arith
next_falls digests limit print (Some place) last = omega (arith, last.below)

pub there : (digests : List (List ℕ)) (place : ℕ) → place < length digests
    → slice_get digests place ≡ Some (get_or digests place [])
there digests place lt = slice_get-get_or digests place [] lt

-- ---- comparing whole keys

pub same_key : (a b : List ℕ) → bytes_eq a b ≡ true → a ≡ b
same_key a b is = (bytes_eq-Decides a b).0 is

pub other_key : (a b : List ℕ) → bytes_eq a b ≡ false → a ≢ b
other_key a b is same =
    let yes : bytes_eq a b ≡ true = same_bytes a b same in
    absurd (cc (is, yes))

-- ---- the place that was compared

pub number_at : (xs : List ℕ) (i n : ℕ) → i < length xs → n ≡ get_or xs i n → n ≡ get_or xs i 0
number_at xs i n lt is = is ∙ get_or_default_zero xs i n lt

-- the pairs are those at first, and the number is that at the place
pub compared : (pairs now : List Pair) (numbers : List ℕ) (place n : ℕ) (key : List ℕ) (b : Bool)
    → now ≡ pairs → place < length numbers → n ≡ get_or numbers place n
    → b ≡ bytes_eq (pair_of now n).0 key → bytes_eq (key_at pairs numbers place) key ≡ b
compared pairs now numbers place n key b same lt at is =
    (λ i. bytes_eq (pair_of (sym same i) (sym (number_at numbers place n lt at) i)).0 key) ∙ sym is
