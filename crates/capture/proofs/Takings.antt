-- What is taken out of a tree.
use Rattle.std.proofs.Common.{◌≡◌, ℕ, ◌+◌, ◌<◌, Bool, true, false, cond, ◌||◌, ◌&&◌, List, [], ◌∷◌, length, get_or, drop, ◌⊎◌, inl, inr, refl, sym, ap, subst, ◌∙◌, add-one}
use Rattle.std.proofs.Math.Seq.{drop-cons}
use Rattle.std.specs.Prelude.{Option, Some, None, Result, Ok, Err, is_some}
use Rattle.std.specs.Cmp.{first_so, second_so}
use Rattle.std.specs.List.Sorted.{IsStrictlySortedBy}
use Rattle.std.specs.declared.cmp.Ordering.TheVariants.{Less}
use Rattle.rel_path.specs.Paths.{Path, path_cmp, path_eq, is_among}
use Rattle.rel_path.specs.Files.{FileMap, has}
use Rattle.cache_api.specs.Artifacts.{File}
use Rattle.rel_path.proofs.PathLaws.{path_same, path_self, path_cmp_self}
use Rattle.globs.specs.declared.out_set.OutSet.{OutSet}
use Rattle.globs.specs.Outputs.{takes, shares}
use Rattle.tree_walk.specs.Traversal.{reached, is_chosen, Gathered, everywhere}
use Rattle.capture.specs.declared.error.CapErr.{CapErr}
use Rattle.capture.specs.declared.error.CapErr.TheVariants.{Shared, TooLarge, Failed, OutOfMemory}
use Rattle.capture.specs.Owned.{package_enters, declared_choice, declares, ListsDeclared, first_shared, SharesNone, TakesAll, SharesFirst, LargeFirst, TakesFiles, fits, ReadOk, ReadTooLarge, ReadsAll, IsShared}
use Rattle.capture.proofs.Owns.{owned_reached, shared_reached}
use Rattle.capture.proofs.Readings.{among_less, never}

or_cases : (a b : Bool) → (a || b) ≡ true → (a ≡ true) ⊎ (b ≡ true)
or_cases true b h = inl refl
or_cases false b h = inr h

and_true : (b : Bool) → (b && true) ≡ b
and_true true = refl
and_true false = refl

declared_reached : (outs : OutSet) (path : Path) → declares outs path ≡ true → reached (package_enters outs) outs.folder path ≡ true
declared_reached outs path h = by_cases (or_cases (takes outs path) (shares outs path) h)
  where
    by_cases : (takes outs path ≡ true) ⊎ (shares outs path ≡ true) → reached (package_enters outs) outs.folder path ≡ true
    by_cases (inl t) = owned_reached outs path t
    by_cases (inr s) = shared_reached outs path s

sought_declared : (files : FileMap) (outs : OutSet) (path : Path) → is_chosen files (declared_choice outs) outs.folder path ≡ (has files path && declares outs path)
unfolding is_chosen
sought_declared files outs path = by_declares (declares outs path) refl
  where
    by_declares : (b : Bool) → declares outs path ≡ b → (has files path && (b && reached (package_enters outs) outs.folder path)) ≡ (has files path && b)
    by_declares true h = ap (λ r. has files path && r) (declared_reached outs path h)
    by_declares false h = refl

pub lists_declared : (Tells : Type 0) (files : FileMap) (held : Path → Bool) (outs : OutSet) (depth most : ℕ) (found : List Path) (u : Unit {0})
    → Gathered Tells files held (declared_choice outs) depth most outs.folder everywhere [] found (Ok u) → ListsDeclared Tells files outs found
lists_declared Tells files held outs depth most found u g = subst (ListsDeclared Tells files outs) (sym g.is) (record {
  ascend = g.adds.ascend;
  taken = λ p h. (g.adds.inside p h).1;
  exact = λ t p. (g.told t).exact p ∙ ap (λ s. s && true) (sought_declared files outs p) ∙ and_true (has files p && declares outs p);
})

pub shared_drop : (outs : OutSet) (paths : List Path) (i : ℕ) (d : Path) → i < length paths → first_shared outs (drop i paths) ≡ cond (shares outs (get_or paths i d)) (Some (get_or paths i d)) (first_shared outs (drop (i + 1) paths))
shared_drop outs paths i d lt = rw (drop-cons paths i d lt, add-one) refl

pub none_shared : (outs : OutSet) (paths : List Path) (p : Path) → None ≡ first_shared outs paths → is_among paths p ≡ true → shares outs p ≡ false
none_shared outs [] p e h = absurd (let y : false ≡ true = h in cc)
none_shared outs (x ∷ xs) p e h =
    elim (shares outs x) as (λ b. shares outs x ≡ b → None ≡ cond b (Some x) (first_shared outs xs) → shares outs p ≡ false) [
      | true ↦ λ s k. cc
      | false ↦ λ s k. elim (path_eq x p) as (λ b. path_eq x p ≡ b → (b || is_among xs p) ≡ true → shares outs p ≡ false) [
        | true ↦ λ t g. ap (shares outs) (sym (path_same x p t)) ∙ s
        | false ↦ λ t g. none_shared outs xs p k g
      ] refl h
    ] refl e

pub some_shared : (outs : OutSet) (paths : List Path) (q : Path) → IsStrictlySortedBy path_cmp paths → Some q ≡ first_shared outs paths
    → (is_among paths q ≡ true) × (shares outs q ≡ true) × ((p : Path) → is_among paths p ≡ true → path_cmp p q ≡ Less → shares outs p ≡ false)
unfolding IsStrictlySortedBy
some_shared outs [] q sorted e = cc
some_shared outs (x ∷ xs) q sorted e =
    elim (shares outs x) as (λ b. shares outs x ≡ b → Some q ≡ cond b (Some x) (first_shared outs xs)
    → (is_among (x ∷ xs) q ≡ true) × (shares outs q ≡ true) × ((p : Path) → is_among (x ∷ xs) p ≡ true → path_cmp p q ≡ Less → shares outs p ≡ false)) [
      | true ↦ λ s k. let same : x ≡ q = cc in
          (ap (λ y. path_eq y q || is_among xs q) same ∙ ap (λ b. b || is_among xs q) (path_self q), ap (shares outs) (sym same) ∙ s, λ p h less. absurd (least q same p h less))
      | false ↦ λ s k. let r = some_shared outs xs q sorted.1 k in (
        right (path_eq x q) (is_among xs q) r.0,
        r.1,
        λ p h less. elim (path_eq x p) as (λ b. path_eq x p ≡ b → (b || is_among xs p) ≡ true → shares outs p ≡ false) [
          | true ↦ λ t g. ap (shares outs) (sym (path_same x p t)) ∙ s
          | false ↦ λ t g. r.2 p g less
        ] refl h,
      )
    ] refl e
  where
    right : (a b : Bool) → b ≡ true → (a || b) ≡ true
    right true b h = refl
    right false b h = h

    least : (q : Path) → x ≡ q → (p : Path) → (path_eq x p || is_among xs p) ≡ true → path_cmp p q ≡ Less → ⊥
    least q same p h less = by_eq (path_eq x p) refl h
      where
        by_eq : (b : Bool) → path_eq x p ≡ b → (b || is_among xs p) ≡ true → ⊥
        by_eq true t g = let a : path_cmp p p ≡ Less = ap (path_cmp p) (sym (path_same x p t) ∙ same) ∙ less in let b = path_cmp_self p in cc
        by_eq false t g = never x p (among_less x xs p sorted.0 g) (ap (path_cmp p) same ∙ less)

module _ (files : FileMap) (outs : OutSet) (paths : List Path) (exact : (path : Path) → is_among paths path ≡ (has files path && declares outs path)) where
  there : (p : Path) → has files p ≡ true → declares outs p ≡ true → is_among paths p ≡ true
  there p h d = exact p ∙ (λ k. h k && d k)

  alone : ((p : Path) → is_among paths p ≡ true → shares outs p ≡ false) → SharesNone files outs
  alone none p h = by_shares (shares outs p) refl
    where
      by_shares : (b : Bool) → shares outs p ≡ b → b ≡ false
      by_shares true s = sym s ∙ none p (there p h (ap (λ b. takes outs p || b) s ∙ or_true (takes outs p)))
        where
          or_true : (b : Bool) → (b || true) ≡ true
          or_true true = refl
          or_true false = refl
      by_shares false s = refl

  owns_there : (p : Path) → has files p ≡ true → takes outs p ≡ true → is_among paths p ≡ true
  owns_there p h t = there p h (ap (λ b. b || shares outs p) t)

  not_there : (o : Option (List ℕ)) → is_some o ≡ false → o ≡ None
  not_there None h = refl
  not_there (Some x) h = cc

  takes_ok : (limit : ℕ) (got : List File) → ((p : Path) → is_among paths p ≡ true → shares outs p ≡ false) → ReadOk files limit paths got → TakesAll files outs limit got
  takes_ok limit got none r = record {
    alone = alone none;
    taken_is = λ p. r.read p ∙ ap (λ b. cond b (files p) None) (exact p) ∙ same p (has files p) (takes outs p) (shares outs p) refl refl refl;
    fit = λ p t. by_has p t (has files p) refl;
  }
    where
      same : (p : Path) (h t s : Bool) → has files p ≡ h → takes outs p ≡ t → shares outs p ≡ s → cond (h && (t || s)) (files p) None ≡ cond t (files p) None
      same p true true s eh et es = refl
      same p true false true eh et es = absurd (let y : true ≡ false = sym es ∙ alone none p eh in cc)
      same p true false false eh et es = refl
      same p false true s eh et es = sym (not_there (files p) eh)
      same p false false s eh et es = refl

      by_has : (p : Path) → takes outs p ≡ true → (h : Bool) → has files p ≡ h → fits limit (files p) ≡ true
      by_has p t true h = r.fit p (owns_there p h t)
      by_has p t false h = ap (fits limit) (not_there (files p) h)

  takes_large : (limit : ℕ) (q : Path) → ((p : Path) → is_among paths p ≡ true → shares outs p ≡ false) → ReadTooLarge files limit paths q → LargeFirst files outs limit q
  takes_large limit q none r = record {
    alone = alone none;
    owns = owns (takes outs q) (shares outs q) (second_so (has files q) (declares outs q) (sym (exact q) ∙ r.there)) (none q r.there);
    long = r.long;
    least = λ p t less. by_has p t less (has files p) refl;
  }
    where
      owns : (a b : Bool) → (a || b) ≡ true → b ≡ false → a ≡ true
      owns true b h n = refl
      owns false b h n = absurd (let y : true ≡ false = sym h ∙ n in cc)

      by_has : (p : Path) → takes outs p ≡ true → path_cmp p q ≡ Less → (h : Bool) → has files p ≡ h → fits limit (files p) ≡ true
      by_has p t less true h = r.least p (owns_there p h t) less
      by_has p t less false h = ap (fits limit) (not_there (files p) h)

  pub takes_read : (limit : ℕ) (result : Result (List File) CapErr) → None ≡ first_shared outs paths → ReadsAll files limit paths result → TakesFiles files outs limit result
  takes_read limit (Ok got) e r = takes_ok limit got (λ p. none_shared outs paths p e) r
  takes_read limit (Err (Shared q)) e r = absurd r
  takes_read limit (Err (TooLarge q)) e r = takes_large limit q (λ p. none_shared outs paths p e) r
  takes_read limit (Err Failed) e r = tt
  takes_read limit (Err OutOfMemory) e r = tt

  pub takes_shared : (limit : ℕ) (q : Path) (e : CapErr) → IsStrictlySortedBy path_cmp paths → Some q ≡ first_shared outs paths → IsShared q e → TakesFiles files outs limit (Err e)
  takes_shared limit q (Shared p) sorted is same =
      let s = some_shared outs paths q sorted is in
      subst (λ x. SharesFirst files outs x) (sym same) (record {
        there = first_so (has files q) (declares outs q) (sym (exact q) ∙ s.0);
        is_shared = s.1;
        least = λ o h less. by_shares o h less (shares outs o) refl;
      })
    where
      by_shares : (o : Path) → has files o ≡ true → path_cmp o q ≡ Less → (b : Bool) → shares outs o ≡ b → b ≡ false
      by_shares o h less true t = sym t ∙ (some_shared outs paths q sorted is).2 o (there o h (ap (λ b. takes outs o || b) t ∙ or_true (takes outs o))) less
        where
          or_true : (b : Bool) → (b || true) ≡ true
          or_true true = refl
          or_true false = refl
      by_shares o h less false t = refl
  takes_shared limit q (TooLarge p) sorted is same = absurd same
  takes_shared limit q Failed sorted is same = absurd same
  takes_shared limit q OutOfMemory sorted is same = tt
