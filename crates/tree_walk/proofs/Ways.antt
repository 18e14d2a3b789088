-- What was found below a folder, name by name.
use Rattle.std.proofs.Common.{◌≡◌, ℕ, zero, suc, ◌+◌, ◌<◌, ◌≤◌, Bool, true, false, cond, ◌||◌, ◌&&◌, List, [], ◌∷◌, ◌++◌, length, get_or, take, length-append, append_assoc, append-nil, ◌⊎◌, inl, inr, refl, sym, ap, subst, ◌∙◌, arith}
use Rattle.std.specs.Prelude.{Option, Some, None, Result, Ok, Err}
use Rattle.std.specs.List.{AllByRecursion}
use Rattle.std.specs.Cmp.{first_so, second_so}
use Rattle.std.proofs.lemmas.Cmp.{nat_list_cmp_total}
use Rattle.std.specs.List.Sorted.{IsStrictlySortedBy}
use Rattle.std.specs.declared.cmp.Ordering.TheVariants.{Less, Equal, Greater}
use Rattle.std.specs.Ordering.{is_lt, ordering_then, ordering_reverse, bool_cmp}
use Rattle.std.proofs.lemmas.Map.Keys.{Less-from_sorted}
use Rattle.std.proofs.lemmas.List.{get_or_default}
use Rattle.rel_path.specs.Paths.{Path, strip, name_eq, name_cmp, path_cmp, path_eq, is_among}
use Rattle.rel_path.specs.Files.{FileMap, has}
use Rattle.rel_path.proofs.PathLaws.{name_cmp_self, path_cmp_below, strip_is, strip_append, strip_with, strip_name, name_same, name_self, path_same, path_self, among_append}
use Rattle.tree_dev.specs.declared.entries.Entry.{Entry}
use Rattle.tree_dev.specs.Names.{first_of, entry_of, entry_cmp, lists, NamesIn}
use Rattle.tree_dev.proofs.NamesOf.{entry_self}
use Rattle.tree_walk.specs.declared.error.WalkErr.{WalkErr}
use Rattle.tree_walk.specs.declared.error.WalkErr.TheVariants.{TooDeep, TooMany, Failed, OutOfMemory}
use Rattle.tree_walk.specs.Traversal.{Entering, Choice, passes, passes_if, reached, is_chosen, IsOnTheWay, is_before, Went, Answers, Adds, Gathered, is_at, is_in, everywhere, stands, IsListed, FirstDeep}
use Rattle.tree_walk.proofs.Order.{rest_of, place_of, Shape, AsFile, AsFolder, shape, Place, Behind, Here, Ahead, place, at_is, at_so, in_is, in_so, in_more, by_false, path_order, take_place}

-- ---- what is reached

reached_file : (enters : Entering) (folder path : Path) (n : List ℕ) → strip folder path ≡ Some (n ∷ []) → reached enters folder path ≡ true
unfolding reached passes_if passes
reached_file enters folder path n s = ap (passes_if enters folder) s

reached_folder : (enters : Entering) (folder path : Path) (n m : List ℕ) (r : Path) → strip folder path ≡ Some (n ∷ m ∷ r)
    → reached enters folder path ≡ (enters folder n && reached enters (folder ++ n ∷ []) path)
unfolding reached passes_if passes
reached_folder enters folder path n m r s =
    let inner : strip (folder ++ n ∷ []) path ≡ Some (m ∷ r) = strip_with folder n path ∙ ap (strip_name n) s ∙ ap (λ b. cond b (Some (m ∷ r)) None) (name_self n) in
    ap (passes_if enters folder) s ∙ ap (λ x. enters folder n && passes_if enters (folder ++ n ∷ []) x) (sym inner)

reached_rest : (enters : Entering) (folder : Path) (n : List ℕ) (o : Option Path) → passes_if enters (folder ++ n ∷ []) (strip_name n o) ≡ true → first_of o ≡ Some (record { name = n; folder = true })
unfolding passes_if passes
reached_rest enters folder n None h = cc
reached_rest enters folder n (Some []) h = cc
reached_rest enters folder n (Some (k ∷ [])) h =
    elim (name_eq n k) as (λ b. passes_if enters (folder ++ n ∷ []) (cond b (Some []) None) ≡ true → first_of (Some (k ∷ [])) ≡ Some (record { name = n; folder = true })) [
      | true ↦ λ g. cc
      | false ↦ λ g. cc
    ] h
reached_rest enters folder n (Some (k ∷ m ∷ r)) h =
    elim (name_eq n k) as (λ b. name_eq n k ≡ b → passes_if enters (folder ++ n ∷ []) (cond b (Some (m ∷ r)) None) ≡ true → first_of (Some (k ∷ m ∷ r)) ≡ Some (record { name = n; folder = true })) [
      | true ↦ λ t g. ap (λ x. Some (record { name = x; folder = true })) (sym (name_same n k t))
      | false ↦ λ t g. cc
    ] refl h

pub reached_inner : (enters : Entering) (folder path : Path) (n : List ℕ) → reached enters (folder ++ n ∷ []) path ≡ true → entry_of folder path ≡ Some (record { name = n; folder = true })
unfolding reached
reached_inner enters folder path n h = reached_rest enters folder n (strip folder path) (ap (passes_if enters (folder ++ n ∷ [])) (sym (strip_with folder n path)) ∙ h)

reached_is : (enters : Entering) (folder path : Path) → reached enters folder path ≡ true → (e : Entry) × (entry_of folder path ≡ Some e)
unfolding reached passes_if passes
reached_is enters folder path h = by_rest (strip folder path) h
  where
    by_rest : (o : Option Path) → passes_if enters folder o ≡ true → (e : Entry) × (first_of o ≡ Some e)
    by_rest None g = cc
    by_rest (Some []) g = cc
    by_rest (Some (k ∷ [])) g = (record { name = k; folder = false }, refl)
    by_rest (Some (k ∷ m ∷ r)) g = (record { name = k; folder = true }, refl)

pub chosen_has : (files : FileMap) (choice : Choice) (folder path : Path) → is_chosen files choice folder path ≡ true → (has files path ≡ true) × (choice.wants path ≡ true) × (reached choice.enters folder path ≡ true)
unfolding is_chosen
chosen_has files choice folder path h =
    let a = first_so (has files path) (choice.wants path && reached choice.enters folder path) h in
    let b = second_so (has files path) (choice.wants path && reached choice.enters folder path) h in
    (a, first_so (choice.wants path) (reached choice.enters folder path) b, second_so (choice.wants path) (reached choice.enters folder path) b)

pub chosen_so : (files : FileMap) (choice : Choice) (folder path : Path) → has files path ≡ true → choice.wants path ≡ true → reached choice.enters folder path ≡ true → is_chosen files choice folder path ≡ true
unfolding is_chosen
chosen_so files choice folder path a b c = λ i. a i && (b i && c i)

-- ---- lists in order

all_more : {A : Type 0} (P : A → Type 0) (xs ys : List A) → AllByRecursion P xs → AllByRecursion P ys → AllByRecursion P (xs ++ ys)
all_more P [] ys a b = b
all_more P (x ∷ xs) ys a b = (a.0, all_more P xs ys a.1 b)

all_among : (P : Path → Type 0) (xs : List Path) → ((p : Path) → is_among xs p ≡ true → P p) → AllByRecursion P xs
all_among P [] f = tt
all_among P (x ∷ xs) f = (f x (ap (λ b. b || is_among xs x) (path_self x)), all_among P xs (λ p h. f p (or_right (path_eq x p) _ h)))
  where
    or_right : (a b : Bool) → b ≡ true → (a || b) ≡ true
    or_right true b e = refl
    or_right false b e = e

pub sorted_append : (xs ys : List Path) → IsStrictlySortedBy path_cmp xs → IsStrictlySortedBy path_cmp ys
    → ((p q : Path) → is_among xs p ≡ true → is_among ys q ≡ true → path_cmp p q ≡ Less) → IsStrictlySortedBy path_cmp (xs ++ ys)
unfolding IsStrictlySortedBy
sorted_append [] ys a b f = b
sorted_append (x ∷ xs) ys a b f = (
  all_more (λ y. path_cmp x y ≡ Less) xs ys a.0 (all_among (λ y. path_cmp x y ≡ Less) ys (λ q h. f x q (ap (λ b. b || is_among xs x) (path_self x)) h)),
  sorted_append xs ys a.1 b (λ p q h g. f p q (or_right (path_eq x p) _ h) g),
)
  where
    or_right : (a b : Bool) → b ≡ true → (a || b) ≡ true
    or_right true b e = refl
    or_right false b e = e

-- ---- booleans

cut_none : (s a b : Bool) → ((s && (a && true)) || (s && (b && true))) ≡ (s && ((a || b) && true))
cut_none true true b = refl
cut_none true false b = refl
cut_none false a b = refl

cut_some : (s a b c : Bool) → (s ≡ true → Place a b c) → ((s && (a && true)) || (s && (b && c))) ≡ (s && (true && c))
cut_some false a b c f = refl
cut_some true a b c f = by_place a b c (f refl)
  where
    by_place : (a b c : Bool) → Place a b c → ((a && true) || (b && c)) ≡ c
    by_place a b c (Behind x y z) = (λ i. (x i && true) || (y i && c)) ∙ sym z
    by_place a b c (Here x y) = λ i. (x i && true) || (y i && c)
    by_place a b c (Ahead x y z) = (λ i. (x i && true) || (y i && c)) ∙ sym z

or_cases : (a b : Bool) → (a || b) ≡ true → (a ≡ true) ⊎ (b ≡ true)
or_cases true b e = inl refl
or_cases false b e = inr e

or_true : (b : Bool) → (b || true) ≡ true
or_true true = refl
or_true false = refl

-- ---- nothing added

pub adds_none : (choice : Choice) (folder : Path) (within : Path → Bool) → Adds choice folder within []
unfolding IsStrictlySortedBy
adds_none choice folder within = record { ascend = tt; inside = λ path h. cc }

module _ {Tells : Type 0} {files : FileMap} {held : Path → Bool} {choice : Choice} {depth most : ℕ} {folder : Path} {within : Path → Bool} where
  pub gone_none : (old : List Path) (result : Result (Unit {0}) WalkErr) → (Tells → Answers files held choice depth most folder within [] (length old) result) → Gathered Tells files held choice depth most folder within old old result
  gone_none old result told = record { more = []; is = sym (append-nil old); adds = adds_none choice folder within; told = told }

-- ---- the loop

pub start : (Tells : Type 0) (files : FileMap) (held : Path → Bool) (choice : Choice) (depth most : ℕ) (folder : Path) (old : List Path) → Gathered Tells files held choice depth most folder (is_in folder []) old old (Ok tt)
start Tells files held choice depth most folder old = gone_none old (Ok tt) (λ t. record {
  exact = λ path. sym (none (is_chosen files choice folder path) (is_in folder [] path) (nowhere path));
  shallow = λ path way h b. let n = nowhere path in cc;
})
  where
    nowhere : (path : Path) → is_in folder [] path ≡ false
    nowhere path = by_false _ (λ h. let r = in_is folder [] path h in let x : false ≡ true = r.2 in cc)

    none : (s a : Bool) → a ≡ false → (s && (a && true)) ≡ false
    none true a e = ap (λ x. x && true) e
    none false a e = refl

joined_adds : (choice : Choice) (folder : Path) (names : List Entry) (i : ℕ) (d : Entry) (xs ys : List Path) → IsStrictlySortedBy entry_cmp names → i < length names
    → Adds choice folder (is_in folder (take i names)) xs → Adds choice folder (is_at folder (get_or names i d)) ys
    → Adds choice folder (is_in folder (take (i + 1) names)) (xs ++ ys)
joined_adds choice folder names i d xs ys sorted lt a b = record {
  ascend = sorted_append xs ys a.ascend b.ascend (λ p q hp hq.
      let x = in_is folder (take i names) p (a.inside p hp).2 in
      let y = at_is folder (get_or names i d) q (b.inside q hq).2 in
      let s = take_place names i x.0 x.2 in
      path_order folder p q x.0 (get_or names i d) x.1 y
      (ap (λ e. entry_cmp e (get_or names i d)) (sym (get_or_default names s.0 d x.0 s.2 ∙ s.3)) ∙ Less-from_sorted entry_cmp names s.0 i d sorted s.1 lt));
  inside = λ p h. cases p (or_cases (is_among xs p) (is_among ys p) (sym (among_append xs ys p) ∙ h));
}
  where
    cases : (p : Path) → (is_among xs p ≡ true) ⊎ (is_among ys p ≡ true) → (reached choice.enters folder p ≡ true) × (choice.wants p ≡ true) × (is_in folder (take (i + 1) names) p ≡ true)
    cases p (inl h) = let x = a.inside p h in (x.0, x.1, in_more folder names i d p lt ∙ ap (λ w. w || is_at folder (get_or names i d) p) x.2)
    cases p (inr h) = let x = b.inside p h in (x.0, x.1, in_more folder names i d p lt ∙ ap (λ w. is_in folder (take i names) p || w) x.2 ∙ or_true (is_in folder (take i names) p))

anywhere : (choice : Choice) (folder : Path) (within : Path → Bool) (xs : List Path) → Adds choice folder within xs → Adds choice folder everywhere xs
anywhere choice folder within xs a = record { ascend = a.ascend; inside = λ p h. let x = a.inside p h in (x.0, x.1, refl) }

-- one more name
pub step : (Tells : Type 0) (files : FileMap) (held : Path → Bool) (choice : Choice) (depth most : ℕ) (folder : Path) (names : List Entry) (i : ℕ) (d : Entry) (old mid new : List Path)
    → IsStrictlySortedBy entry_cmp names → i < length names
    → Gathered Tells files held choice depth most folder (is_in folder (take i names)) old mid (Ok tt)
    → Gathered Tells files held choice depth most folder (is_at folder (get_or names i d)) mid new (Ok tt)
    → Gathered Tells files held choice depth most folder (is_in folder (take (i + 1) names)) old new (Ok tt)
step Tells files held choice depth most folder names i d old mid new sorted lt a b = record {
  more = a.more ++ b.more;
  is = b.is ∙ ap (λ x. x ++ b.more) a.is ∙ append_assoc old a.more b.more;
  adds = joined_adds choice folder names i d a.more b.more sorted lt a.adds b.adds;
  told = λ t. record {
    exact = λ p. among_append a.more b.more p ∙ (λ k. (a.told t).exact p k || (b.told t).exact p k)
        ∙ cut_none (is_chosen files choice folder p) (is_in folder (take i names) p) (is_at folder (get_or names i d) p)
        ∙ ap (λ w. is_chosen files choice folder p && (w && true)) (sym (in_more folder names i d p lt));
    shallow = λ p way h bef. cases t p way (or_cases (is_in folder (take i names) p) (is_at folder (get_or names i d) p) (sym (in_more folder names i d p lt) ∙ h));
  };
}
  where
    cases : (t : Tells) (p : Path) → IsOnTheWay (has files) choice.enters folder p → (is_in folder (take i names) p ≡ true) ⊎ (is_at folder (get_or names i d) p ≡ true) → length p ≤ depth
    cases t p way (inl h) = (a.told t).shallow p way h refl
    cases t p way (inr h) = (b.told t).shallow p way h refl

-- ---- what is on the way is among the names

listed_chosen : (files : FileMap) (held : Path → Bool) (choice : Choice) (folder : Path) (names : List Entry) → NamesIn files held folder names → (p : Path) → is_chosen files choice folder p ≡ true → is_in folder names p ≡ true
listed_chosen files held choice folder names all p h =
    let s = chosen_has files choice folder p h in
    let r = reached_is choice.enters folder p s.2 in
    in_so folder names p r.0 r.1 (all.all p r.0 r.1 s.0)

-- an entry of a folder is named, or it is a name of the folder itself
on_way : (files : FileMap) (held : Path → Bool) (enters : Entering) (folder : Path) (names : List Entry) → NamesIn files held folder names → (p : Path) → IsOnTheWay (has files) enters folder p
    → (length p ≡ length folder + 1) ⊎ (is_in folder names p ≡ true)
on_way files held enters folder names all p way =
    let r = reached_is enters folder p way.reached in by_shape r.0 r.1 (shape folder p r.0 r.1)
  where
    by_shape : (e : Entry) → entry_of folder p ≡ Some e → Shape folder p e → (length p ≡ length folder + 1) ⊎ (is_in folder names p ≡ true)
    by_shape e pe (AsFile s f) = inl (ap length (strip_is folder p (e.name ∷ []) s) ∙ length-append folder (e.name ∷ []))
    by_shape e pe (AsFolder m r s f) =
        let longer : strip folder (p ++ way.rest) ≡ Some (e.name ∷ m ∷ (r ++ way.rest)) =
        ap (λ x. strip folder (x ++ way.rest)) (strip_is folder p (e.name ∷ m ∷ r) s) ∙ ap (strip folder) (append_assoc folder (e.name ∷ m ∷ r) way.rest) ∙ strip_append folder (e.name ∷ m ∷ (r ++ way.rest)) in
        let here : entry_of folder (p ++ way.rest) ≡ Some e = ap first_of longer ∙ (λ k. Some (record { name = e.name; folder = sym f k })) in
        inr (in_so folder names p e pe (all.all (p ++ way.rest) e here way.there))

-- all names
pub finish : (Tells : Type 0) (files : FileMap) (held : Path → Bool) (choice : Choice) (depth most : ℕ) (folder : Path) (names : List Entry) (old new : List Path)
    → (Tells → NamesIn files held folder names) → length folder < depth
    → Gathered Tells files held choice depth most folder (is_in folder names) old new (Ok tt)
    → Gathered Tells files held choice depth most folder everywhere old new (Ok tt)
finish Tells files held choice depth most folder names old new all short a = record {
  more = a.more;
  is = a.is;
  adds = anywhere choice folder _ a.more a.adds;
  told = λ t. record {
    exact = λ p. (a.told t).exact p ∙ whole (is_chosen files choice folder p) (is_in folder names p) (listed_chosen files held choice folder names (all t) p);
    shallow = λ p way h b. cases t p way (on_way files held choice.enters folder names (all t) p way);
  };
}
  where
    whole : (s a : Bool) → (s ≡ true → a ≡ true) → (s && (a && true)) ≡ (s && (true && true))
    whole true a f = ap (λ x. x && true) (f refl)
    whole false a f = refl

    cases : (t : Tells) (p : Path) → IsOnTheWay (has files) choice.enters folder p → (length p ≡ length folder + 1) ⊎ (is_in folder names p ≡ true) → length p ≤ depth
    cases t p way (inl e) = omega arith
    cases t p way (inr h) = (a.told t).shallow p way h refl

-- a stop at a name
pub stops : (Tells : Type 0) (files : FileMap) (held : Path → Bool) (choice : Choice) (depth most : ℕ) (folder : Path) (names : List Entry) (i : ℕ) (d : Entry) (old mid new : List Path) (e : WalkErr)
    → IsStrictlySortedBy entry_cmp names → i < length names → (Tells → NamesIn files held folder names) → length folder < depth
    → Gathered Tells files held choice depth most folder (is_in folder (take i names)) old mid (Ok tt)
    → Gathered Tells files held choice depth most folder (is_at folder (get_or names i d)) mid new (Err e)
    → Gathered Tells files held choice depth most folder everywhere old new (Err e)
stops Tells files held choice depth most folder names i d old mid new e sorted lt all short a b = record {
  more = a.more ++ b.more;
  is = b.is ∙ ap (λ x. x ++ b.more) a.is ∙ append_assoc old a.more b.more;
  adds = anywhere choice folder _ (a.more ++ b.more) (joined_adds choice folder names i d a.more b.more sorted lt a.adds b.adds);
  told = λ t. by_stop e t (b.told t);
}
  where
    cases : (t : Tells) (q p : Path) → entry_of folder q ≡ Some (get_or names i d) → Went files choice depth folder (is_at folder (get_or names i d)) (Some q) b.more
        → IsOnTheWay (has files) choice.enters folder p → is_before (Some q) p ≡ true → (length p ≡ length folder + 1) ⊎ (is_in folder names p ≡ true) → length p ≤ depth
    cases t q p qe w way bef (inl e) = omega arith
    cases t q p qe w way bef (inr h) = by_place (place folder names i d q p sorted lt qe h)
      where
        by_place : Place (is_in folder (take i names) p) (is_at folder (get_or names i d) p) (is_before (Some q) p) → length p ≤ depth
        by_place (Behind x y z) = (a.told t).shallow p way x refl
        by_place (Here x y) = w.shallow p way y bef
        by_place (Ahead x y z) = absurd (let k : false ≡ true = sym z ∙ bef in cc)

    went : (t : Tells) (q : Path) → is_at folder (get_or names i d) q ≡ true → Went files choice depth folder (is_at folder (get_or names i d)) (Some q) b.more → Went files choice depth folder everywhere (Some q) (a.more ++ b.more)
    went t q qa w =
        let qe = at_is folder (get_or names i d) q qa in
        record {
          exact = λ p. among_append a.more b.more p ∙ (λ k. (a.told t).exact p k || w.exact p k)
              ∙ cut_some (is_chosen files choice folder p) (is_in folder (take i names) p) (is_at folder (get_or names i d) p) (is_before (Some q) p)
              (λ s. place folder names i d q p sorted lt qe (listed_chosen files held choice folder names (all t) p s));
          shallow = λ p way h bef. cases t q p qe w way bef (on_way files held choice.enters folder names (all t) p way);
        }

    by_stop : (e : WalkErr) (t : Tells) → Answers files held choice depth most folder (is_at folder (get_or names i d)) b.more (length new) (Err e) → Answers files held choice depth most folder everywhere (a.more ++ b.more) (length new) (Err e)
    by_stop (TooDeep q) t h = record { went = went t q h.inside h.went; way = h.way; inside = refl; deep = h.deep }
    by_stop TooMany t h = ((h.0.0, record { went = went t h.0.0 h.0.1.inside h.0.1.went; chosen = h.0.1.chosen; inside = refl; fine = h.0.1.fine }), h.1)
    by_stop Failed t h = tt
    by_stop OutOfMemory t h = tt

-- ---- a folder at the greatest depth

with_it : (folder : Path) (n : List ℕ) → entry_of folder (folder ++ n ∷ []) ≡ Some (record { name = n; folder = false })
with_it folder n = ap first_of (strip_append folder (n ∷ []))

with_length : (folder : Path) (n : List ℕ) → length (folder ++ n ∷ []) ≡ length folder + 1
with_length folder n = length-append folder (n ∷ [])

nothing_less : (r : Path) → is_lt (path_cmp r []) ≡ false
nothing_less [] = refl
nothing_less (x ∷ r) = refl

not_less : (a b : Entry) → (b ≡ a) ⊎ (entry_cmp a b ≡ Less) → (r : Path) → is_lt (ordering_then (name_cmp b.name a.name) (path_cmp r [])) ≡ false
not_less a b (inl e) r = ap (λ o. is_lt (ordering_then o (path_cmp r []))) (ap (λ x. name_cmp x.name a.name) e ∙ name_cmp_self a.name) ∙ nothing_less r
not_less a b (inr h) r = ap (λ o. is_lt (ordering_then o (path_cmp r []))) (nat_list_cmp_total.antisymm b.name a.name) ∙
    elim (name_cmp a.name b.name) as (λ o. ordering_then o (bool_cmp a.folder b.folder) ≡ Less → is_lt (ordering_then (ordering_reverse o) (path_cmp r [])) ≡ false) [
      | Less ↦ λ k. refl
      | Equal ↦ λ k. nothing_less r
      | Greater ↦ λ k. cc
    ] h

-- no path below a folder stands before the first name
not_before : (folder : Path) (names : List Entry) (e b : Entry) (r : Path) → IsStrictlySortedBy entry_cmp (e ∷ names) → lists (e ∷ names) b ≡ true → is_before (Some (folder ++ e.name ∷ [])) (folder ++ b.name ∷ r) ≡ false
not_before folder names e b r sorted h =
    let s = place_of (e ∷ names) b h in
    ap is_lt (path_cmp_below folder (b.name ∷ r) (e.name ∷ [])) ∙ not_less e b (by_place s.0 s.1 s.2) r
  where
    by_place : (j : ℕ) → j < length (e ∷ names) → get_or (e ∷ names) j b ≡ b → (b ≡ e) ⊎ (entry_cmp e b ≡ Less)
    by_place zero lt is = inl (sym is)
    by_place (suc j) lt is = inr (ap (entry_cmp e) (sym is) ∙ Less-from_sorted entry_cmp (e ∷ names) 0 (suc j) b sorted (omega arith) lt)

-- what is on the way begins with a listed name
way_name : (files : FileMap) (held : Path → Bool) (enters : Entering) (folder : Path) (names : List Entry) → NamesIn files held folder names → (p : Path) → IsOnTheWay (has files) enters folder p
    → (b : Entry) × (r : Path) × (lists names b ≡ true) × (p ≡ folder ++ b.name ∷ r)
way_name files held enters folder names all p way =
    let r = reached_is enters folder p way.reached in
    let x = rest_of folder p r.0 (shape folder p r.0 r.1) in
    let longer : strip folder (p ++ way.rest) ≡ Some (r.0.name ∷ (x.0 ++ way.rest)) = ap (λ y. strip folder (y ++ way.rest)) x.1 ∙ ap (strip folder) (append_assoc folder (r.0.name ∷ x.0) way.rest) ∙ strip_append folder (r.0.name ∷ (x.0 ++ way.rest)) in
    by_rest r.0.name x.0 x.1 (x.0 ++ way.rest) longer
  where
    by_rest : (n : List ℕ) (r : Path) → p ≡ folder ++ n ∷ r → (s : Path) → strip folder (p ++ way.rest) ≡ Some (n ∷ s) → (b : Entry) × (r : Path) × (lists names b ≡ true) × (p ≡ folder ++ b.name ∷ r)
    by_rest n r is [] s = (record { name = n; folder = false }, r, all.all (p ++ way.rest) (record { name = n; folder = false }) (ap first_of s) way.there, is)
    by_rest n r is (m ∷ t) s = (record { name = n; folder = true }, r, all.all (p ++ way.rest) (record { name = n; folder = true }) (ap first_of s) way.there, is)

chosen_name : (files : FileMap) (held : Path → Bool) (choice : Choice) (folder : Path) (names : List Entry) → NamesIn files held folder names → (p : Path) → is_chosen files choice folder p ≡ true
    → (b : Entry) × (r : Path) × (lists names b ≡ true) × (p ≡ folder ++ b.name ∷ r)
chosen_name files held choice folder names all p h =
    let s = chosen_has files choice folder p h in
    way_name files held choice.enters folder names all p (record { reached = s.2; rest = []; there = ap (has files) (append-nil p) ∙ s.0 })

first_way : (files : FileMap) (held : Path → Bool) (enters : Entering) (folder : Path) (names : List Entry) (e : Entry) → NamesIn files held folder names → lists names e ≡ true → IsOnTheWay (stands files held) enters folder (folder ++ e.name ∷ [])
first_way files held enters folder names e all l =
    let w = all.only e l in
    by_shape w.0 w.2 (shape folder w.0 e w.1)
  where
    by_shape : (p : Path) → stands files held p ≡ true → Shape folder p e → IsOnTheWay (stands files held) enters folder (folder ++ e.name ∷ [])
    by_shape p h (AsFile s f) = record {
      reached = reached_file enters folder (folder ++ e.name ∷ []) e.name (strip_append folder (e.name ∷ []));
      rest = [];
      there = ap (stands files held) (append-nil (folder ++ e.name ∷ []) ∙ sym (strip_is folder p (e.name ∷ []) s)) ∙ h;
    }
    by_shape p h (AsFolder m r s f) = record {
      reached = reached_file enters folder (folder ++ e.name ∷ []) e.name (strip_append folder (e.name ∷ []));
      rest = m ∷ r;
      there = ap (stands files held) (append_assoc folder (e.name ∷ []) (m ∷ r) ∙ sym (strip_is folder p (e.name ∷ m ∷ r) s)) ∙ h;
    }

and_false : (s b : Bool) → (s ≡ true → b ≡ false) → false ≡ (s && (true && b))
and_false true b f = sym (f refl)
and_false false b f = refl

pub deep : (Tells : Type 0) (files : FileMap) (held : Path → Bool) (choice : Choice) (depth most : ℕ) (folder : Path) (names : List Entry) (old : List Path) (result : Result (Unit {0}) WalkErr)
    → IsStrictlySortedBy entry_cmp names → (Tells → NamesIn files held folder names) → length folder ≡ depth → FirstDeep folder names result
    → Gathered Tells files held choice depth most folder everywhere old old result
deep Tells files held choice depth most folder [] old (Ok u) sorted all len first = gone_none old (Ok u) (λ t. record {
  exact = λ p. and_false (is_chosen files choice folder p) true (λ h. let x = listed_chosen files held choice folder [] (all t) p h in absurd (nothing p x));
  shallow = λ p way h b. cases t p way (on_way files held choice.enters folder [] (all t) p way);
})
  where
    nothing : (p : Path) → is_in folder [] p ≡ true → ⊥
    nothing p x = let r = in_is folder [] p x in let y : false ≡ true = r.2 in cc

    cases : (t : Tells) (p : Path) → IsOnTheWay (has files) choice.enters folder p → (length p ≡ length folder + 1) ⊎ (is_in folder [] p ≡ true) → length p ≤ depth
    cases t p way (inl e) = absurd (let w = way_name files held choice.enters folder [] (all t) p way in let y : false ≡ true = w.2 in cc)
    cases t p way (inr h) = absurd (nothing p h)
deep Tells files held choice depth most folder [] old (Err e) sorted all len first = absurd first
deep Tells files held choice depth most folder (e ∷ names) old (Ok u) sorted all len first = absurd first
deep Tells files held choice depth most folder (e ∷ names) old (Err (TooDeep q)) sorted all len first = gone_none old (Err (TooDeep q)) (λ t. record {
  went = record {
    exact = λ p. and_false (is_chosen files choice folder p) (is_before (Some q) p) (λ h. before p (chosen_name files held choice folder (e ∷ names) (all t) p h));
    shallow = λ p way h b. absurd (let x = before p (way_name files held choice.enters folder (e ∷ names) (all t) p way) in let y : false ≡ true = sym x ∙ b in cc);
  };
  way = subst (IsOnTheWay (stands files held) choice.enters folder) (sym first) (first_way files held choice.enters folder (e ∷ names) e (all t) (ap (λ b. b || lists names e) (entry_self e)));
  inside = refl;
  deep = ap length first ∙ with_length folder e.name ∙ ap (λ n. n + 1) len;
})
  where
    before : (p : Path) → (b : Entry) × (r : Path) × (lists (e ∷ names) b ≡ true) × (p ≡ folder ++ b.name ∷ r) → is_before (Some q) p ≡ false
    before p (b, r, l, is) = (λ k. is_before (Some (first k)) (is k)) ∙ not_before folder names e b r sorted l
deep Tells files held choice depth most folder (e ∷ names) old (Err TooMany) sorted all len first = absurd first
deep Tells files held choice depth most folder (e ∷ names) old (Err Failed) sorted all len first = absurd first
deep Tells files held choice depth most folder (e ∷ names) old (Err OutOfMemory) sorted all len first = gone_none old (Err OutOfMemory) (λ t. tt)

-- ---- one name

no_path : (s a : Bool) → (s ≡ true → a ≡ true → ⊥) → false ≡ (s && (a && true))
no_path true true f = absurd (f refl refl)
no_path true false f = refl
no_path false a f = refl

file_is : (folder : Path) (e : Entry) (p : Path) → e.folder ≡ false → entry_of folder p ≡ Some e → p ≡ folder ++ e.name ∷ []
file_is folder e p isf pe = by_shape (shape folder p e pe)
  where
    by_shape : Shape folder p e → p ≡ folder ++ e.name ∷ []
    by_shape (AsFile x f) = strip_is folder p (e.name ∷ []) x
    by_shape (AsFolder m r x f) = absurd (let y : true ≡ false = sym f ∙ isf in cc)

file_near : (depth : ℕ) (folder : Path) (e : Entry) (p : Path) → length folder < depth → e.folder ≡ false → entry_of folder p ≡ Some e → length p ≤ depth
file_near depth folder e p short isf pe = let l = ap length (file_is folder e p isf pe) ∙ with_length folder e.name in omega arith

file_at_it : (folder : Path) (e : Entry) → e.folder ≡ false → entry_of folder (folder ++ e.name ∷ []) ≡ Some e
file_at_it folder e isf = with_it folder e.name ∙ (λ k. Some (record { name = e.name; folder = sym isf k }))

file_there : (files : FileMap) (held : Path → Bool) (choice : Choice) (folder : Path) (e : Entry) → IsListed files held folder e → ((p : Path) → choice.wants p ≡ true → held p ≡ false)
    → e.folder ≡ false → choice.wants (folder ++ e.name ∷ []) ≡ true → is_chosen files choice folder (folder ++ e.name ∷ []) ≡ true
file_there files held choice folder e (p, pe, here) free isf wanted =
    let same : p ≡ folder ++ e.name ∷ [] = file_is folder e p isf pe in
    let no : held (folder ++ e.name ∷ []) ≡ false = free (folder ++ e.name ∷ []) wanted in
    chosen_so files choice folder (folder ++ e.name ∷ []) (first_of_or (has files (folder ++ e.name ∷ [])) (held (folder ++ e.name ∷ [])) (ap (λ x. has files x || held x) (sym same) ∙ here) no) wanted
    (reached_file choice.enters folder (folder ++ e.name ∷ []) e.name (strip_append folder (e.name ∷ [])))
  where
    first_of_or : (a b : Bool) → (a || b) ≡ true → b ≡ false → a ≡ true
    first_of_or true b h n = refl
    first_of_or false b h n = absurd (let y : true ≡ false = sym h ∙ n in cc)

-- a folder that is not entered, or a file that is not wanted
pub skipped : (Tells : Type 0) (files : FileMap) (held : Path → Bool) (choice : Choice) (depth most : ℕ) (folder : Path) (e : Entry) (old : List Path) → length folder < depth
    → ((e.folder ≡ true) × (choice.enters folder e.name ≡ false)) ⊎ ((e.folder ≡ false) × (choice.wants (folder ++ e.name ∷ []) ≡ false))
    → Gathered Tells files held choice depth most folder (is_at folder e) old old (Ok tt)
skipped Tells files held choice depth most folder e old short why = gone_none old (Ok tt) (λ t. record {
  exact = λ p. no_path (is_chosen files choice folder p) (is_at folder e p) (λ s a. refuse p s (at_is folder e p a) why);
  shallow = λ p way h b. near p way (at_is folder e p h) why;
})
  where
    refuse : (p : Path) → is_chosen files choice folder p ≡ true → entry_of folder p ≡ Some e → ((e.folder ≡ true) × (choice.enters folder e.name ≡ false)) ⊎ ((e.folder ≡ false) × (choice.wants (folder ++ e.name ∷ []) ≡ false)) → ⊥
    refuse p s pe (inl (isf, bad)) = by_shape (shape folder p e pe)
      where
        by_shape : Shape folder p e → ⊥
        by_shape (AsFile x f) = let y : true ≡ false = sym isf ∙ f in cc
        by_shape (AsFolder m r x f) = let y : true ≡ false = sym (chosen_has files choice folder p s).2 ∙ reached_folder choice.enters folder p e.name m r x ∙ ap (λ b. b && reached choice.enters (folder ++ e.name ∷ []) p) bad in cc
    refuse p s pe (inr (isf, bad)) = by_shape (shape folder p e pe)
      where
        by_shape : Shape folder p e → ⊥
        by_shape (AsFile x f) = let y : true ≡ false = sym (chosen_has files choice folder p s).1 ∙ ap choice.wants (strip_is folder p (e.name ∷ []) x) ∙ bad in cc
        by_shape (AsFolder m r x f) = let y : true ≡ false = sym f ∙ isf in cc

    near : (p : Path) → IsOnTheWay (has files) choice.enters folder p → entry_of folder p ≡ Some e → ((e.folder ≡ true) × (choice.enters folder e.name ≡ false)) ⊎ ((e.folder ≡ false) × (choice.wants (folder ++ e.name ∷ []) ≡ false)) → length p ≤ depth
    near p way pe (inl (isf, bad)) = by_shape (shape folder p e pe)
      where
        by_shape : Shape folder p e → length p ≤ depth
        by_shape (AsFile x f) = let y : true ≡ false = sym isf ∙ f in absurd (let z = y in cc)
        by_shape (AsFolder m r x f) = absurd (let y : true ≡ false = sym way.reached ∙ reached_folder choice.enters folder p e.name m r x ∙ ap (λ b. b && reached choice.enters (folder ++ e.name ∷ []) p) bad in cc)
    near p way pe (inr (isf, bad)) = file_near depth folder e p short isf pe

-- one file too many
pub too_many : (Tells : Type 0) (files : FileMap) (held : Path → Bool) (choice : Choice) (depth most : ℕ) (folder : Path) (e : Entry) (old : List Path) → length folder < depth
    → (Tells → IsListed files held folder e) → (Tells → (p : Path) → choice.wants p ≡ true → held p ≡ false)
    → e.folder ≡ false → choice.wants (folder ++ e.name ∷ []) ≡ true → length old ≡ most
    → Gathered Tells files held choice depth most folder (is_at folder e) old old (Err TooMany)
too_many Tells files held choice depth most folder e old short there free file wanted full = gone_none old (Err TooMany) (λ t. (
  (
    folder ++ e.name ∷ [],
    record {
      went = record {
        exact = λ p. none p (is_chosen files choice folder p) (is_at folder e p) (λ a. itself p (at_is folder e p a));
        shallow = λ p way h b. file_near depth folder e p short file (at_is folder e p h);
      };
      chosen = file_there files held choice folder e (there t) (free t) file wanted;
      inside = at_so folder e (folder ++ e.name ∷ []) (file_at_it folder e file);
      fine = file_near depth folder e (folder ++ e.name ∷ []) short file (file_at_it folder e file);
    },
  ),
  full,
))
  where
    itself : (p : Path) → entry_of folder p ≡ Some e → is_before (Some (folder ++ e.name ∷ [])) p ≡ false
    itself p pe = ap (λ x. is_lt (path_cmp x (folder ++ e.name ∷ []))) (file_is folder e p file pe)
        ∙ ap is_lt (path_cmp_below folder (e.name ∷ []) (e.name ∷ []) ∙ ap (λ o. ordering_then o Equal) (name_cmp_self e.name))

    none : (p : Path) (s a : Bool) → (a ≡ true → is_before (Some (folder ++ e.name ∷ [])) p ≡ false) → false ≡ (s && (a && is_before (Some (folder ++ e.name ∷ [])) p))
    none p true true f = sym (f refl)
    none p true false f = refl
    none p false a f = refl

one_added : (choice : Choice) (folder : Path) (e : Entry) → e.folder ≡ false → choice.wants (folder ++ e.name ∷ []) ≡ true → Adds choice folder (is_at folder e) ((folder ++ e.name ∷ []) ∷ [])
unfolding IsStrictlySortedBy
one_added choice folder e file wanted = record {
  ascend = (tt, tt);
  inside = λ p h.
      let same : folder ++ e.name ∷ [] ≡ p = path_same (folder ++ e.name ∷ []) p (or_false (path_eq (folder ++ e.name ∷ []) p) h) in (
        ap (reached choice.enters folder) (sym same) ∙ reached_file choice.enters folder (folder ++ e.name ∷ []) e.name (strip_append folder (e.name ∷ [])),
        ap choice.wants (sym same) ∙ wanted,
        ap (is_at folder e) (sym same) ∙ at_so folder e (folder ++ e.name ∷ []) (file_at_it folder e file),
      );
}
  where
    or_false : (b : Bool) → (b || false) ≡ true → b ≡ true
    or_false true h = refl
    or_false false h = h

-- one file more
pub one_file : (Tells : Type 0) (files : FileMap) (held : Path → Bool) (choice : Choice) (depth most : ℕ) (folder : Path) (e : Entry) (old : List Path) → length folder < depth
    → (Tells → IsListed files held folder e) → (Tells → (p : Path) → choice.wants p ≡ true → held p ≡ false)
    → e.folder ≡ false → choice.wants (folder ++ e.name ∷ []) ≡ true
    → Gathered Tells files held choice depth most folder (is_at folder e) old (old ++ (folder ++ e.name ∷ []) ∷ []) (Ok tt)
one_file Tells files held choice depth most folder e old short there free file wanted = record {
  more = (folder ++ e.name ∷ []) ∷ [];
  is = refl;
  adds = one_added choice folder e file wanted;
  told = λ t. record {
    exact = λ p. exactly t p (path_eq (folder ++ e.name ∷ []) p) refl;
    shallow = λ p way h b. file_near depth folder e p short file (at_is folder e p h);
  };
}
  where
    exactly : (t : Tells) (p : Path) (b : Bool) → path_eq (folder ++ e.name ∷ []) p ≡ b → (b || false) ≡ (is_chosen files choice folder p && (is_at folder e p && true))
    exactly t p true h =
        let same = path_same (folder ++ e.name ∷ []) p h in
        let good : is_chosen files choice folder p ≡ true = ap (is_chosen files choice folder) (sym same) ∙ file_there files held choice folder e (there t) (free t) file wanted in
        let here : is_at folder e p ≡ true = ap (is_at folder e) (sym same) ∙ at_so folder e (folder ++ e.name ∷ []) (file_at_it folder e file) in
        sym (λ k. good k && (here k && true))
    exactly t p false h = no_path (is_chosen files choice folder p) (is_at folder e p) (λ s a.
        let same = file_is folder e p file (at_is folder e p a) in
        let y : true ≡ false = sym (path_self p) ∙ ap (λ x. path_eq x p) same ∙ h in cc)

-- what is reached below a folder that is entered
module _ (enters : Entering) (folder : Path) (e : Entry) (isf : e.folder ≡ true) (entered : enters folder e.name ≡ true) where
  reached_at : (p : Path) → reached enters (folder ++ e.name ∷ []) p ≡ true → entry_of folder p ≡ Some e
  reached_at p h = reached_inner enters folder p e.name h ∙ (λ k. Some (record { name = e.name; folder = sym isf k }))

  reached_both : (p : Path) → entry_of folder p ≡ Some e → reached enters folder p ≡ reached enters (folder ++ e.name ∷ []) p
  reached_both p pe = by_shape (shape folder p e pe)
    where
      by_shape : Shape folder p e → reached enters folder p ≡ reached enters (folder ++ e.name ∷ []) p
      by_shape (AsFile x f) = absurd (let y : true ≡ false = sym isf ∙ f in cc)
      by_shape (AsFolder m r x f) = reached_folder enters folder p e.name m r x ∙ ap (λ b. b && reached enters (folder ++ e.name ∷ []) p) entered

  reached_up : (p : Path) → reached enters (folder ++ e.name ∷ []) p ≡ true → reached enters folder p ≡ true
  reached_up p h = reached_both p (reached_at p h) ∙ h

and_true : (b : Bool) → (b && true) ≡ b
and_true true = refl
and_true false = refl

and_none : (b : Bool) → (b && false) ≡ false
and_none true = refl
and_none false = refl

chosen_inner : (files : FileMap) (choice : Choice) (folder : Path) (e : Entry) → e.folder ≡ true → choice.enters folder e.name ≡ true → (p : Path)
    → is_chosen files choice (folder ++ e.name ∷ []) p ≡ (is_chosen files choice folder p && is_at folder e p)
unfolding is_chosen
chosen_inner files choice folder e isf entered p = by_at (is_at folder e p) refl
  where
    by_at : (b : Bool) → is_at folder e p ≡ b → is_chosen files choice (folder ++ e.name ∷ []) p ≡ (is_chosen files choice folder p && b)
    by_at true h = (λ k. has files p && (choice.wants p && sym (reached_both choice.enters folder e isf entered p (at_is folder e p h)) k)) ∙ sym (and_true (is_chosen files choice folder p))
    by_at false h = by_false _ (λ s. let x = chosen_has files choice (folder ++ e.name ∷ []) p s in let y : true ≡ false = sym (at_so folder e p (reached_at choice.enters folder e isf entered p x.2)) ∙ h in cc)
        ∙ sym (and_none (is_chosen files choice folder p))

-- a folder of the folder
pub inner : (Tells : Type 0) (files : FileMap) (held : Path → Bool) (choice : Choice) (depth most : ℕ) (folder : Path) (e : Entry) (old new : List Path) (result : Result (Unit {0}) WalkErr)
    → e.folder ≡ true → choice.enters folder e.name ≡ true
    → Gathered Tells files held choice depth most (folder ++ e.name ∷ []) everywhere old new result
    → Gathered Tells files held choice depth most folder (is_at folder e) old new result
inner Tells files held choice depth most folder e old new result isf entered a = record {
  more = a.more;
  is = a.is;
  adds = record {
    ascend = a.adds.ascend;
    inside = λ p h. let x = a.adds.inside p h in (reached_up choice.enters folder e isf entered p x.0, x.1, at_so folder e p (reached_at choice.enters folder e isf entered p x.0));
  };
  told = λ t. by_result result (a.told t);
}
  where
    same : (s a b : Bool) → ((s && a) && (true && b)) ≡ (s && (a && b))
    same true a b = refl
    same false a b = refl

    went : (stop : Option Path) → Went files choice depth (folder ++ e.name ∷ []) everywhere stop a.more → Went files choice depth folder (is_at folder e) stop a.more
    went stop w = record {
      exact = λ p. w.exact p ∙ ap (λ s. s && (true && is_before stop p)) (chosen_inner files choice folder e isf entered p) ∙ same (is_chosen files choice folder p) (is_at folder e p) (is_before stop p);
      shallow = λ p way h b. w.shallow p (record { reached = sym (reached_both choice.enters folder e isf entered p (at_is folder e p h)) ∙ way.reached; rest = way.rest; there = way.there }) refl b;
    }

    by_result : (result : Result (Unit {0}) WalkErr) → Answers files held choice depth most (folder ++ e.name ∷ []) everywhere a.more (length new) result → Answers files held choice depth most folder (is_at folder e) a.more (length new) result
    by_result (Ok u) h = went None h
    by_result (Err (TooDeep q)) h = record {
      went = went (Some q) h.went;
      way = record { reached = reached_up choice.enters folder e isf entered q h.way.reached; rest = h.way.rest; there = h.way.there };
      inside = at_so folder e q (reached_at choice.enters folder e isf entered q h.way.reached);
      deep = h.deep;
    }
    by_result (Err TooMany) h =
        let q = h.0.0 in
        let s : (is_chosen files choice folder q && is_at folder e q) ≡ true = sym (chosen_inner files choice folder e isf entered q) ∙ h.0.1.chosen in (
          (
            q,
            record {
              went = went (Some q) h.0.1.went;
              chosen = first_so (is_chosen files choice folder q) (is_at folder e q) s;
              inside = second_so (is_chosen files choice folder q) (is_at folder e q) s;
              fine = h.0.1.fine;
            },
          ),
          h.1,
        )
    by_result (Err Failed) h = tt
    by_result (Err OutOfMemory) h = tt
