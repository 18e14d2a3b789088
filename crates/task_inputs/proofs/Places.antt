-- Places of what passes a test, and ascending lists of them.
use Rattle.std.proofs.Common.{◌≡◌, ◌≢◌, inl, inr, ◌==◌, ◌||◌, ℕ, zero, suc, ◌+◌, ◌<◌, ◌≤◌, Bool, true, false, cond, List, [], ◌∷◌, ◌++◌, length, map, get_or, take, set, get_or-set_same, get_or-set_other, refl, sym, ap, ◌∙◌, subst, arith, append-nil, append_assoc}
use Rattle.std.specs.Prelude.{Option, Some, None, IfSome, nat_lt}
use Rattle.std.proofs.lemmas.List.{take_more, get_or_default}
use Rattle.std.specs.List.{AllByRecursion}
use Rattle.std.proofs.Math.ListN.{length-take, length-set}
use Rattle.std.proofs.lemmas.Bool.{false≢true, cases_eq, eqb-true, eq-eqb, lt-ltb, le-ltb, ltb-true, ltb-false}
use Rattle.workspaces.specs.Lists.{places}
use Rattle.task_inputs.specs.declared.files.FileFacts.{FileFacts}
use Rattle.task_inputs.specs.Facts.{is_at, merged, AreNear, Adds}

places-suc : {X : Type 0} (test : X → Bool) (xs : List X) (x : X) → places test (xs ++ x ∷ []) ≡ places test xs ++ cond (test x) (length xs ∷ []) []
unfolding places
places-suc test [] x = by (test x) where
  by : (t : Bool) → cond t (zero ∷ []) [] ≡ [] ++ cond t (0 ∷ []) []
  by true = refl
  by false = refl
places-suc test (y ∷ xs) x = by (test y) (ap (map suc) (places-suc test xs x) ∙ (map-two (places test xs) (cond (test x) (length xs ∷ []) []) ∙ ap (λ zs. map suc (places test xs) ++ zs) (one (test x)))) where
  map-two : (ms ns : List ℕ) → map suc (ms ++ ns) ≡ map suc ms ++ map suc ns
  map-two [] ns = refl
  map-two (m ∷ ms) ns = ap (λ zs. suc m ∷ zs) (map-two ms ns)

  one : (t : Bool) → map suc (cond t (length xs ∷ []) []) ≡ cond t (suc (length xs) ∷ []) []
  one true = refl
  one false = refl

  by : (t : Bool) → map suc (places test (xs ++ x ∷ [])) ≡ map suc (places test xs) ++ cond (test x) (suc (length xs) ∷ []) [] → cond t (zero ∷ map suc (places test (xs ++ x ∷ []))) (map suc (places test (xs ++ x ∷ []))) ≡ cond t (zero ∷ map suc (places test xs)) (map suc (places test xs)) ++ cond (test x) (suc (length xs) ∷ []) []
  by true e = ap (λ zs. 0 ∷ zs) e
  by false e = e

pub no_places : {X : Type 0} (test : X → Bool) → places test [] ≡ []
unfolding places
no_places test = refl

-- one more, at this place
pub places_more : {X : Type 0} (test : X → Bool) (xs : List X) (i : ℕ) (x : X) → i < length xs → x ≡ get_or xs i x → places test (take (i + 1) xs) ≡ places test (take i xs) ++ cond (test x) (i ∷ []) []
places_more test xs i x less is =
    ap (places test) (take_more xs i x less ∙ ap (λ y. take i xs ++ y ∷ []) (sym is)) ∙ places-suc test (take i xs) x
    ∙ ap (λ n. places test (take i xs) ++ cond (test x) (n ∷ []) []) (omega (arith, length-take i xs, less))

pub places-map : {X Y : Type 0} (f : X → Y) (test : Y → Bool) (xs : List X) → places test (map f xs) ≡ places (λ x. test (f x)) xs
unfolding places
places-map f test [] = refl
places-map f test (x ∷ xs) = ap (λ zs. cond (test (f x)) (zero ∷ map suc zs) (map suc zs)) (places-map f test xs)

pub places-same : {X : Type 0} (p r : X → Bool) → ((x : X) → p x ≡ r x) → (xs : List X) → places p xs ≡ places r xs
unfolding places
places-same p r same [] = refl
places-same p r same (x ∷ xs) = rw (same x, places-same p r same xs) refl

-- ---- rows of places

nothing : (q : ℕ) → is_at None q ≡ false
nothing q = refl

self : (n : ℕ) → (n == n) ≡ true
self n = eq-eqb n n refl

other : (m n : ℕ) → m ≢ n → (m == n) ≡ false
other m n ne = by (m == n) refl where
  by : (b : Bool) → (m == n) ≡ b → b ≡ false
  by true e = absurd (ne (eqb-true m n e))
  by false e = refl

module _ (files : List FileFacts) (f : FileFacts) where
  -- its row, with one more place or none
  row_more : (q : ℕ) (b : Bool) → is_at f.home q ≡ b → places (λ (g : FileFacts). is_at g.home q) (files ++ f ∷ []) ≡ places (λ (g : FileFacts). is_at g.home q) files ++ cond b (length files ∷ []) []
  row_more q b e = places-suc (λ (g : FileFacts). is_at g.home q) files f ∙ ap (λ t. places (λ (g : FileFacts). is_at g.home q) files ++ cond t (length files ∷ []) []) e

  -- a file in the folder of this home
  pub near_put : (rows : List (List ℕ)) (home : ℕ) → AreNear files rows → f.home ≡ Some home → home < length rows → AreNear (files ++ f ∷ []) (set rows home (get_or rows home [] ++ length files ∷ []))
  near_put rows home near at less q below =
      let row = get_or rows home [] ++ length files ∷ [] in
      let within : q < length rows = omega (arith, below, length-set rows home row) in
      elim (cases_eq q home) [
        | inl e ↦ let at_q : is_at f.home q ≡ true = ap (λ o. is_at o q) at ∙ ap (λ n. home == n) e ∙ self home in
            ap (λ n. get_or (set rows home row) n []) e ∙ get_or-set_same rows home row [] less ∙ ap (λ r. r ++ length files ∷ []) (near home less) ∙ ap (λ n. places (λ (g : FileFacts). is_at g.home n) files ++ length files ∷ []) (sym e) ∙ sym (row_more q true at_q)
        | inr ne ↦ let off_q : is_at f.home q ≡ false = ap (λ o. is_at o q) at ∙ other home q (λ h. ne (sym h)) in
            get_or-set_other rows home q row [] ne ∙ near q within ∙ sym (append-nil (places (λ (g : FileFacts). is_at g.home q) files)) ∙ sym (row_more q false off_q)
      ]

  -- a file in none
  pub near_skip : (rows : List (List ℕ)) → AreNear files rows → f.home ≡ None → AreNear (files ++ f ∷ []) rows
  near_skip rows near at q below = near q below ∙ sym (append-nil (places (λ (g : FileFacts). is_at g.home q) files)) ∙ sym (row_more q false (ap (λ o. is_at o q) at))

pub near_row : (rows : List (List ℕ)) → AreNear [] rows → AreNear [] (rows ++ [] ∷ [])
near_row [] near zero less = sym (no_places (λ (g : FileFacts). is_at g.home 0))
near_row [] near (suc q) less = absurd (omega (arith, less))
near_row (r ∷ rows) near zero less = near zero (omega arith)
near_row (r ∷ rows) near (suc q) less = near_row rows (λ n l. near (suc n) (omega (arith, l)) ∙ no_places (λ (g : FileFacts). is_at g.home (suc n)) ∙ sym (no_places (λ (g : FileFacts). is_at g.home n))) q (omega (arith, less)) ∙ no_places (λ (g : FileFacts). is_at g.home q) ∙ sym (no_places (λ (g : FileFacts). is_at g.home (suc q)))

-- ---- two lists in one

-- so much is enough
pub merged_enough : (n m : ℕ) (xs ys : List ℕ) → length xs + length ys ≤ n → length xs + length ys ≤ m → merged n xs ys ≡ merged m xs ys
unfolding merged
merged_enough zero zero xs ys a b = refl
merged_enough zero (suc m) [] [] a b = refl
merged_enough zero (suc m) [] (y ∷ ys) a b = absurd (omega (arith, a))
merged_enough zero (suc m) (x ∷ xs) ys a b = absurd (omega (arith, a))
merged_enough (suc n) zero [] [] a b = refl
merged_enough (suc n) zero [] (y ∷ ys) a b = absurd (omega (arith, b))
merged_enough (suc n) zero (x ∷ xs) ys a b = absurd (omega (arith, b))
merged_enough (suc n) (suc m) [] ys a b = refl
merged_enough (suc n) (suc m) (x ∷ xs) [] a b = refl
merged_enough (suc n) (suc m) (x ∷ xs) (y ∷ ys) a b =
    rw (merged_enough n m xs (y ∷ ys) (omega (arith, a)) (omega (arith, b)), merged_enough n m xs ys (omega (arith, a)) (omega (arith, b)), merged_enough n m (x ∷ xs) ys (omega (arith, a)) (omega (arith, b))) refl

module _ (x y : ℕ) (xs ys : List ℕ) where
  unfolded : merged (length (x ∷ xs) + length (y ∷ ys)) (x ∷ xs) (y ∷ ys) ≡ cond (nat_lt x y) (x ∷ merged (length xs + length (y ∷ ys)) xs (y ∷ ys)) (cond (x == y) (x ∷ merged (length xs + length (y ∷ ys)) xs ys) (y ∷ merged (length xs + length (y ∷ ys)) (x ∷ xs) ys))
  unfolding merged
  unfolded =
      let e : length (x ∷ xs) + length (y ∷ ys) ≡ suc (length xs + length (y ∷ ys)) = omega arith in
      ap (λ n. merged n (x ∷ xs) (y ∷ ys)) e

  pub merged_less : x < y → merged (length (x ∷ xs) + length (y ∷ ys)) (x ∷ xs) (y ∷ ys) ≡ x ∷ merged (length xs + length (y ∷ ys)) xs (y ∷ ys)
  merged_less less = unfolded ∙ ap (λ b. cond b (x ∷ merged (length xs + length (y ∷ ys)) xs (y ∷ ys)) (cond (x == y) (x ∷ merged (length xs + length (y ∷ ys)) xs ys) (y ∷ merged (length xs + length (y ∷ ys)) (x ∷ xs) ys))) (lt-ltb x y less)

  pub merged_equal : x ≡ y → merged (length (x ∷ xs) + length (y ∷ ys)) (x ∷ xs) (y ∷ ys) ≡ x ∷ merged (length xs + length ys) xs ys
  merged_equal same =
      unfolded ∙ ap (λ b. cond b (x ∷ merged (length xs + length (y ∷ ys)) xs (y ∷ ys)) (cond (x == y) (x ∷ merged (length xs + length (y ∷ ys)) xs ys) (y ∷ merged (length xs + length (y ∷ ys)) (x ∷ xs) ys))) (le-ltb x y (omega (arith, same)))
      ∙ ap (λ b. cond b (x ∷ merged (length xs + length (y ∷ ys)) xs ys) (y ∷ merged (length xs + length (y ∷ ys)) (x ∷ xs) ys)) (eq-eqb x y same)
      ∙ ap (λ ns. x ∷ ns) (merged_enough (length xs + length (y ∷ ys)) (length xs + length ys) xs ys (omega arith) (omega arith))

  pub merged_more : y < x → merged (length (x ∷ xs) + length (y ∷ ys)) (x ∷ xs) (y ∷ ys) ≡ y ∷ merged (length (x ∷ xs) + length ys) (x ∷ xs) ys
  merged_more more =
      unfolded ∙ ap (λ b. cond b (x ∷ merged (length xs + length (y ∷ ys)) xs (y ∷ ys)) (cond (x == y) (x ∷ merged (length xs + length (y ∷ ys)) xs ys) (y ∷ merged (length xs + length (y ∷ ys)) (x ∷ xs) ys))) (le-ltb x y (omega (arith, more)))
      ∙ ap (λ b. cond b (x ∷ merged (length xs + length (y ∷ ys)) xs ys) (y ∷ merged (length xs + length (y ∷ ys)) (x ∷ xs) ys)) (other x y (λ e. absurd (omega (arith, e, more))))
      ∙ ap (λ ns. y ∷ ns) (merged_enough (length xs + length (y ∷ ys)) (length (x ∷ xs) + length ys) (x ∷ xs) ys (omega arith) (omega arith))

pub merged_left : (n : ℕ) (xs : List ℕ) → length xs ≤ n → merged n xs [] ≡ xs
unfolding merged
merged_left zero [] le = refl
merged_left zero (x ∷ xs) le = absurd (omega (arith, le))
merged_left (suc n) [] le = refl
merged_left (suc n) (x ∷ xs) le = refl

pub merged_right : (n : ℕ) (ys : List ℕ) → length ys ≤ n → merged n [] ys ≡ ys
unfolding merged
merged_right zero [] le = refl
merged_right zero (y ∷ ys) le = absurd (omega (arith, le))
merged_right (suc n) ys le = refl

-- ---- the union of the places of two tests

merged_suc : (n : ℕ) (xs ys : List ℕ) → merged n (map suc xs) (map suc ys) ≡ map suc (merged n xs ys)
unfolding merged
merged_suc zero xs ys = refl
merged_suc (suc n) [] ys = refl
merged_suc (suc n) (x ∷ xs) [] = refl
merged_suc (suc n) (x ∷ xs) (y ∷ ys) = rw (lt_suc x y, eq_suc x y, merged_suc n xs (y ∷ ys), merged_suc n xs ys, merged_suc n (x ∷ xs) ys) (by (nat_lt x y) (x == y)) where
  lt_suc : (a b : ℕ) → nat_lt (suc a) (suc b) ≡ nat_lt a b
  lt_suc a b = less (nat_lt a b) refl where
    less : (t : Bool) → nat_lt a b ≡ t → nat_lt (suc a) (suc b) ≡ t
    less true e = lt-ltb (suc a) (suc b) (omega (arith, ltb-true a b e))
    less false e = le-ltb (suc a) (suc b) (omega (arith, ltb-false a b e))

  eq_suc : (a b : ℕ) → (suc a == suc b) ≡ (a == b)
  eq_suc a b = same (a == b) refl where
    same : (t : Bool) → (a == b) ≡ t → (suc a == suc b) ≡ t
    same true e = eq-eqb (suc a) (suc b) (ap suc (eqb-true a b e))
    same false e = other (suc a) (suc b) (λ h. absurd (false≢true (sym e ∙ eq-eqb a b (omega (arith, h)))))

  by : (s t : Bool) → cond s (suc x ∷ map suc (merged n xs (y ∷ ys))) (cond t (suc x ∷ map suc (merged n xs ys)) (suc y ∷ map suc (merged n (x ∷ xs) ys))) ≡ map suc (cond s (x ∷ merged n xs (y ∷ ys)) (cond t (x ∷ merged n xs ys) (y ∷ merged n (x ∷ xs) ys)))
  by true t = refl
  by false true = refl
  by false false = refl

front : (n : ℕ) (ms ns : List ℕ) → length ms + length ns ≤ n → merged (suc n) (0 ∷ ms) (map suc ns) ≡ 0 ∷ merged n ms (map suc ns)
unfolding merged
front n ms [] le = ap (λ ks. 0 ∷ ks) (sym (merged_left n ms (omega (arith, le))))
front n ms (m ∷ ns) le = ap (λ b. cond b (0 ∷ merged n ms (suc m ∷ map suc ns)) (cond (0 == suc m) (0 ∷ merged n ms (map suc ns)) (suc m ∷ merged n (0 ∷ ms) (map suc ns)))) (lt-ltb 0 (suc m) (omega arith))

behind : (n : ℕ) (ms ns : List ℕ) → length ms + length ns ≤ n → merged (suc n) (map suc ms) (0 ∷ ns) ≡ 0 ∷ merged n (map suc ms) ns
unfolding merged
behind n [] ns le = ap (λ ks. 0 ∷ ks) (sym (merged_right n ns (omega (arith, le))))
behind n (m ∷ ms) ns le =
    ap (λ b. cond b (suc m ∷ merged n (map suc ms) (0 ∷ ns)) (cond (suc m == 0) (suc m ∷ merged n (map suc ms) ns) (0 ∷ merged n (suc m ∷ map suc ms) ns))) (le-ltb (suc m) 0 (omega arith))
    ∙ ap (λ b. cond b (suc m ∷ merged n (map suc ms) ns) (0 ∷ merged n (suc m ∷ map suc ms) ns)) (other (suc m) 0 (λ e. absurd (omega (arith, e))))

both : (n : ℕ) (ms ns : List ℕ) → length ms + length ns ≤ n → merged (suc n) (0 ∷ ms) (0 ∷ ns) ≡ 0 ∷ merged n ms ns
unfolding merged
both n ms ns le = refl

-- what one of two tests passes
pub merged_places : {X : Type 0} (p q : X → Bool) (xs : List X) (n : ℕ) → length (places p xs) + length (places q xs) ≤ n → merged n (places p xs) (places q xs) ≡ places (λ x. p x || q x) xs
unfolding places
merged_places p q [] n le = merged_left n [] (omega arith)
merged_places p q (x ∷ xs) n le = by (p x) (q x) n le (merged_places p q xs) where
  length_suc : (ms : List ℕ) → length (map suc ms) ≡ length ms
  length_suc [] = refl
  length_suc (m ∷ ms) = let more = length_suc ms in omega (arith, more)

  by : (s t : Bool) (n : ℕ) → length (cond s (zero ∷ map suc (places p xs)) (map suc (places p xs))) + length (cond t (zero ∷ map suc (places q xs)) (map suc (places q xs))) ≤ n
      → ((m : ℕ) → length (places p xs) + length (places q xs) ≤ m → merged m (places p xs) (places q xs) ≡ places (λ x. p x || q x) xs)
      → merged n (cond s (zero ∷ map suc (places p xs)) (map suc (places p xs))) (cond t (zero ∷ map suc (places q xs)) (map suc (places q xs))) ≡ cond (s || t) (zero ∷ map suc (places (λ x. p x || q x) xs)) (map suc (places (λ x. p x || q x) xs))
  by false false n le more = merged_suc n (places p xs) (places q xs) ∙ ap (map suc) (more n (omega (arith, le, length_suc (places p xs), length_suc (places q xs))))
  by true false zero le more = absurd (omega (arith, le))
  by true false (suc n) le more =
      let fits : length (places p xs) + length (places q xs) ≤ n = omega (arith, le, length_suc (places p xs), length_suc (places q xs)) in
      front n (map suc (places p xs)) (places q xs) (omega (arith, fits, length_suc (places p xs))) ∙ ap (λ ks. 0 ∷ ks) (merged_suc n (places p xs) (places q xs) ∙ ap (map suc) (more n fits))
  by false true zero le more = absurd (omega (arith, le))
  by false true (suc n) le more =
      let fits : length (places p xs) + length (places q xs) ≤ n = omega (arith, le, length_suc (places p xs), length_suc (places q xs)) in
      behind n (places p xs) (map suc (places q xs)) (omega (arith, fits, length_suc (places q xs))) ∙ ap (λ ks. 0 ∷ ks) (merged_suc n (places p xs) (places q xs) ∙ ap (map suc) (more n fits))
  by true true zero le more = absurd (omega (arith, le))
  by true true (suc n) le more =
      let fits : length (places p xs) + length (places q xs) ≤ n = omega (arith, le, length_suc (places p xs), length_suc (places q xs)) in
      both n (map suc (places p xs)) (map suc (places q xs)) (omega (arith, fits, length_suc (places p xs), length_suc (places q xs))) ∙ ap (λ ks. 0 ∷ ks) (merged_suc n (places p xs) (places q xs) ∙ ap (map suc) (more n fits))

pub places_at : {X : Type 0} (test : X → Bool) (xs : List X) (i : ℕ) (d : X) → i < length xs → places test (take (i + 1) xs) ≡ places test (take i xs) ++ cond (test (get_or xs i d)) (i ∷ []) []
places_at test xs i d less = places_more test xs i (get_or xs i d) less (get_or_default xs i d (get_or xs i d) less)

-- a row more, of the file at this place
pub near_next : (files : List FileFacts) (place : ℕ) (d : FileFacts) (old new : List (List ℕ)) → place < length files → AreNear (take place files) old → IfSome (get_or files place d).home (λ h. h < length old) → Adds (get_or files place d).home place old new → AreNear (take (place + 1) files) new × (length new ≡ length old)
near_next files place d old new less near below adds = subst (λ (fs : List FileFacts). AreNear fs new × (length new ≡ length old)) (sym (take_more files place d less)) (by (get_or files place d).home refl below adds) where
  count : length (take place files) ≡ place
  count = omega (arith, length-take place files, less)

  by : (home : Option ℕ) → (get_or files place d).home ≡ home → IfSome home (λ h. h < length old) → Adds home place old new → AreNear (take place files ++ get_or files place d ∷ []) new × (length new ≡ length old)
  by None e b same = rw same (near_skip (take place files) (get_or files place d) old near e, refl)
  by (Some home) e b put =
      let is : new ≡ set old home (get_or old home [] ++ length (take place files) ∷ []) = put ∙ ap (λ n. set old home (get_or old home [] ++ n ∷ [])) (sym count) in
      rw is (near_put (take place files) (get_or files place d) old home near e b, length-set old home (get_or old home [] ++ length (take place files) ∷ []))

-- ---- one step of the union

module _ (x y : ℕ) (more_xs more_ys xs ys both whole new : List ℕ) (is_x : xs ≡ x ∷ more_xs) (is_y : ys ≡ y ∷ more_ys) where
  pub next_less : x < y → both ++ merged (length xs + length ys) xs ys ≡ whole → new ≡ both ++ x ∷ [] → new ++ merged (length more_xs + length ys) more_xs ys ≡ whole
  next_less less before put =
      ap (λ b. b ++ merged (length more_xs + length ys) more_xs ys) put ∙ append_assoc both (x ∷ []) (merged (length more_xs + length ys) more_xs ys)
      ∙ ap (λ ns. both ++ ns) (ap (λ zs. x ∷ merged (length more_xs + length zs) more_xs zs) is_y ∙ sym (merged_less x y more_xs more_ys less) ∙ sym (rw (is_x, is_y) refl)) ∙ before

  pub next_equal : x ≡ y → both ++ merged (length xs + length ys) xs ys ≡ whole → new ≡ both ++ x ∷ [] → new ++ merged (length more_xs + length more_ys) more_xs more_ys ≡ whole
  next_equal same before put =
      ap (λ b. b ++ merged (length more_xs + length more_ys) more_xs more_ys) put ∙ append_assoc both (x ∷ []) (merged (length more_xs + length more_ys) more_xs more_ys)
      ∙ ap (λ ns. both ++ ns) (sym (merged_equal x y more_xs more_ys same) ∙ sym (rw (is_x, is_y) refl)) ∙ before

  pub next_more : y < x → both ++ merged (length xs + length ys) xs ys ≡ whole → new ≡ both ++ y ∷ [] → new ++ merged (length xs + length more_ys) xs more_ys ≡ whole
  next_more more before put =
      ap (λ b. b ++ merged (length xs + length more_ys) xs more_ys) put ∙ append_assoc both (y ∷ []) (merged (length xs + length more_ys) xs more_ys)
      ∙ ap (λ ns. both ++ ns) (ap (λ zs. y ∷ merged (length zs + length more_ys) zs more_ys) is_x ∙ sym (merged_more x y more_xs more_ys more) ∙ sym (rw (is_x, is_y) refl)) ∙ before

pub rest_left : (xs ys both whole : List ℕ) → length ys ≡ 0 → both ++ merged (length xs + length ys) xs ys ≡ whole → both ++ xs ++ ys ≡ whole
rest_left xs (y ∷ ys) both whole none before = absurd (omega (arith, none))
rest_left xs [] both whole none before = append-nil (both ++ xs) ∙ ap (λ ns. both ++ ns) (sym (merged_left (length xs + length {A = ℕ} []) xs (omega arith))) ∙ before

pub rest_right : (xs ys both whole : List ℕ) → length xs ≡ 0 → both ++ merged (length xs + length ys) xs ys ≡ whole → both ++ xs ++ ys ≡ whole
rest_right (x ∷ xs) ys both whole none before = absurd (omega (arith, none))
rest_right [] ys both whole none before = ap (λ b. b ++ ys) (append-nil both) ∙ ap (λ ns. both ++ ns) (sym (merged_right (length {A = ℕ} [] + length ys) ys (omega arith))) ∙ before

-- what holds of each holds of the one at a place
pub each_at : {X : Type 0} (P : X → Type 0) (xs : List X) (i : ℕ) (d : X) → i < length xs → AllByRecursion P xs → P (get_or xs i d)
each_at P [] i d less all = absurd (omega (arith, less))
each_at P (x ∷ xs) zero d less all = all.0
each_at P (x ∷ xs) (suc i) d less all = each_at P xs i d (omega (arith, less)) all.1

-- what holds of each number of two lists holds of each of both together
pub all_merged : (P : ℕ → Type 0) (n : ℕ) (xs ys : List ℕ) → AllByRecursion P xs → AllByRecursion P ys → AllByRecursion P (merged n xs ys)
unfolding merged
all_merged P zero xs ys a b = tt
all_merged P (suc n) [] ys a b = b
all_merged P (suc n) (x ∷ xs) [] a b = a
all_merged P (suc n) (x ∷ xs) (y ∷ ys) a b = by (nat_lt x y) (x == y) (all_merged P n xs (y ∷ ys) a.1 b) (all_merged P n xs ys a.1 b.1) (all_merged P n (x ∷ xs) ys a b.1) where
  by : (s t : Bool) → AllByRecursion P (merged n xs (y ∷ ys)) → AllByRecursion P (merged n xs ys) → AllByRecursion P (merged n (x ∷ xs) ys) → AllByRecursion P (cond s (x ∷ merged n xs (y ∷ ys)) (cond t (x ∷ merged n xs ys) (y ∷ merged n (x ∷ xs) ys)))
  by true t less same more = (a.0, less)
  by false true less same more = (a.0, same)
  by false false less same more = (b.0, more)

-- nothing passes a test that always fails
pub none_pass : {X : Type 0} (test : X → Bool) (xs : List X) → ((x : X) → test x ≡ false) → places test xs ≡ []
unfolding places
none_pass test [] fails = refl
none_pass test (x ∷ xs) fails = rw (fails x, none_pass test xs fails) refl
