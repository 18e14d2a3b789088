-- A repository is pruned, or one reason refuses it.
use Rattle.std.proofs.Common.{◌≡◌, ◌⊎◌, Bool, true, false, List, [], ◌∷◌, ◌++◌, ℕ, inl, inr, refl, sym, ap, ◌∙◌, subst, filter, not}
use Rattle.std.specs.Prelude.{Option, Some, None, Ok, Err, if◌then◌else◌}
use Rattle.std.specs.List.{AllByRecursion}
use Rattle.rel_path.specs.Paths.{Path}
use Rattle.rel_path.specs.Files.{FileMap}
use Rattle.serde_json.specs.Data.{Data}
use Rattle.workspaces.specs.declared.member.Package.{Package}
use Rattle.workspaces.specs.Lists.{Has}
use Rattle.workspaces.specs.Space.{Space, owners, root_package}
use Rattle.task_inputs.specs.Rooted.{ArePicked}
use Rattle.collect.specs.Listings.{ArePaired}
use Rattle.collect.specs.Parts.{Uses, starts_of}
use Rattle.collect.specs.Refusals.{IsMissingOf}
use Rattle.refusals.specs.declared.refusal.Refusal.{Refusal}
use Rattle.refusals.specs.declared.refusal.Refusal.TheVariants.{NoPackage, OutTaken, LockMissing, TooLarge}
use Rattle.repository.specs.Reading.{Contents}
use Rattle.kept_packages.specs.Kept.{IsKept, IsClosed, kept_places}
use Rattle.pruned_files.specs.Pruned.{Pruning, IsPruning, IsPrunedPath}
use Rattle.pruned_files.specs.Cut.{IsCutLock, kept_owners}
use Rattle.plan_laws.specs.Least.{one_least, both_ways}
use Rattle.plan_laws.specs.Installed.{found_or_missing, one_missing}
use Rattle.pruned_files.specs.Lacks.{IsFirstMissing, FindsAll, owners_by_name, is_before_root}
use Rattle.prune.specs.Answers.{CanBegin}
use Rattle.prune.specs.Folders.{first_over}
use Rattle.prune_orders.specs.Asking.{IsUnknown, IsTaken, IsLacking, IsOver, IsRefusedIn}
use Rattle.prune_orders.specs.Laws.{IsPruned}

none_some : {X : Type 0} {x : X} {o : Option X} → o ≡ None → o ≡ Some x → ⊥
none_some none some = cc (none, some)

-- ---- the packages that stay

module _ (contents : Contents) (targets : List (List ℕ)) where
  pub one_kept : (one other : Path → Bool) → IsKept contents targets one → IsKept contents targets other → one ≡ other
  one_kept one other a b = one_least (IsClosed contents targets) one other a b

  -- ---- the files that stay

  pub one_paths : (p q : Pruning) → IsPruning contents targets p → IsPruning contents targets q → p.paths ≡ q.paths
  one_paths p q a b =
      let sets : p.set ≡ q.set = one_kept p.set q.set a.kept b.kept in
      let mine : ArePicked (IsPrunedPath contents q.set) contents.walk p.paths = subst (λ set. ArePicked (IsPrunedPath contents set) contents.walk p.paths) sets a.picked in
      let tests : mine.test ≡ b.picked.test = λ j path. both_ways (mine.test path) (b.picked.test path) (λ is. b.picked.whole path (mine.sound path is)) (λ is. mine.whole path (b.picked.sound path is)) j in
      mine.are ∙ ap (λ test. filter test contents.walk) tests ∙ sym b.picked.are

-- ---- lists

has_append : {X : Type 0} (xs ys : List X) (x : X) → Has (xs ++ ys) x → Has xs x ⊎ Has ys x
has_append [] ys x h = inr h
has_append (y ∷ xs) ys x (inl is) = inl (inl is)
has_append (y ∷ xs) ys x (inr h) = elim (has_append xs ys x h) as (λ _. Has (y ∷ xs) x ⊎ Has ys x) [ inl a ↦ inl (inr a) | inr b ↦ inr b ]

has_front : {X : Type 0} (xs ys : List X) (x : X) → Has xs x → Has (xs ++ ys) x
has_front [] ys x h = absurd h
has_front (y ∷ xs) ys x (inl is) = inl is
has_front (y ∷ xs) ys x (inr h) = inr (has_front xs ys x h)

has_back : {X : Type 0} (xs ys : List X) (x : X) → Has ys x → Has (xs ++ ys) x
has_back [] ys x h = h
has_back (y ∷ xs) ys x h = inr (has_back xs ys x h)

passes_by : {X : Type 0} (test : X → Bool) (y : X) (xs : List X) (x : X) → (Has (filter test xs) x → Has xs x × (test x ≡ true))
    → (b : Bool) → test y ≡ b → Has (if b then y ∷ filter test xs else filter test xs) x → Has (y ∷ xs) x × (test x ≡ true)
passes_by test y xs x later true is (inl same) = (inl same, subst (λ z. test z ≡ true) same is)
passes_by test y xs x later true is (inr h) = let found = later h in (inr found.0, found.1)
passes_by test y xs x later false is h = let found = later h in (inr found.0, found.1)

-- what passes a test is a member, and the test takes it
passes : {X : Type 0} (test : X → Bool) (xs : List X) (x : X) → Has (filter test xs) x → Has xs x × (test x ≡ true)
passes test [] x h = absurd h
passes test (y ∷ xs) x h = passes_by test y xs x (passes test xs x) (test y) refl h

kept_in : {X : Type 0} (test : X → Bool) (xs : List X) (x : X) → Has xs x → test x ≡ true → Has (filter test xs) x
kept_in test [] x h is = absurd h
kept_in test (y ∷ xs) x (inl same) is = rw (same, is) (inl refl)
kept_in test (y ∷ xs) x (inr h) is = by (test y) (kept_in test xs x h is)
  where
    by : (b : Bool) → Has (filter test xs) x → Has (if b then y ∷ filter test xs else filter test xs) x
    by true h = inr h
    by false h = h

heads : {X : Type 0} (x y : X) (xs ys : List X) → x ∷ xs ≡ y ∷ ys → x ≡ y
heads x y xs ys e = cc e

tails : {X : Type 0} (x y : X) (xs ys : List X) → x ∷ xs ≡ y ∷ ys → xs ≡ ys
tails x y xs ys e = cc e

-- two cuts of a list at the first member that is not so
one_first : {X : Type 0} (P : X → Type 0) (a b : List X) (m n : X) (c d : List X) → a ++ m ∷ c ≡ b ++ n ∷ d
    → AllByRecursion P a → AllByRecursion P b → (P m → ⊥) → (P n → ⊥) → m ≡ n
one_first P [] [] m n c d e all also here never = heads m n c d e
one_first P [] (y ∷ b) m n c d e all also here never = absurd (here (subst P (sym (heads m y c (b ++ n ∷ d) e)) also.0))
one_first P (x ∷ a) [] m n c d e all also here never = absurd (never (subst P (heads x n (a ++ m ∷ c) d e) all.0))
one_first P (x ∷ a) (y ∷ b) m n c d e all also here never =
    one_first P a b m n c d (tails x y (a ++ m ∷ c) (b ++ n ∷ d) e) all.1 also.1 here never

-- each has its partner
partner : {X Y : Type 0} (R : X → Y → Type 0) (xs : List X) (ys : List Y) (x : X) → ArePaired R xs ys → Has xs x → (y : Y) × R x y
partner R [] ys x pairs h = absurd h
partner R (w ∷ xs) [] x pairs h = absurd pairs
partner R (w ∷ xs) (y ∷ ys) x pairs (inl same) = (y, subst (λ z. R z y) same pairs.0)
partner R (w ∷ xs) (y ∷ ys) x pairs (inr h) = partner R xs ys x pairs.1 h

-- ---- names that the lockfile lacks

never_finds : (contents : Contents) (p : Package) (from name : List ℕ) → IsMissingOf contents.space contents.lock p from name → FindsAll contents p → ⊥
never_finds contents p from name m (pairs, uses) =
    found_or_missing m.lockfile (starts_of contents.space p) pairs from name (subst (λ lock. Uses contents.space lock p pairs) m.there uses) m.missing

-- an owner by name is an owner
owner_by_name : (space : Space) (p : Package) → Has (owners_by_name space) p → Has (owners space) p
owner_by_name space p h = by (has_append (filter is_before_root space.packages) _ p h)
  where
    by : Has (filter is_before_root space.packages) p ⊎ Has (root_package space.root ∷ filter (λ q. not (is_before_root q)) space.packages) p → Has (owners space) p
    by (inl front) = has_front space.packages _ p (passes is_before_root space.packages p front).0
    by (inr (inl root)) = has_back space.packages _ p (inl root)
    by (inr (inr back)) = has_front space.packages _ p (passes (λ q. not (is_before_root q)) space.packages p back).0

module _ (contents : Contents) where
  -- each owner that stays finds all
  finds_all : (set : Path → Bool) (lock value : Option Data) (text : Option (List ℕ)) → contents.lock ≡ lock → IsCutLock contents set lock value text
      → (p : Package) → Has (kept_owners contents.space set) p → FindsAll contents p
  finds_all set None None None is cut p h = ([], subst (λ l. Uses contents.space l p []) (sym is) refl)
  finds_all set (Some lock) (Some value) (Some text) is cut p h =
      let found = partner (λ q pairs. Uses contents.space (Some lock) q pairs) (kept_owners contents.space set) cut.0.uses p cut.0.each h in
      (found.0, subst (λ l. Uses contents.space l p found.0) (sym is) found.1)
  finds_all set None None (Some text) is cut p h = absurd cut
  finds_all set None (Some value) text is cut p h = absurd cut
  finds_all set (Some lock) None text is cut p h = absurd cut
  finds_all set (Some lock) (Some value) None is cut p h = absurd cut

  -- the member of the first that misses stays
  misser_stays : (set : Path → Bool) (from name : List ℕ) (first : IsFirstMissing contents set from name) → Has (kept_owners contents.space set) first.member
  misser_stays set from name first =
      let there : Has (filter (λ p. set p.folder) (owners_by_name contents.space)) first.member = subst (λ l. Has l first.member) (sym first.stands) (has_back first.earlier _ first.member (inl refl)) in
      let known = passes (λ p. set p.folder) (owners_by_name contents.space) first.member there in
      kept_in (λ p. set p.folder) (owners contents.space) first.member (owner_by_name contents.space first.member known.0) known.1

  one_lack : (set : Path → Bool) (from name from2 name2 : List ℕ) → IsFirstMissing contents set from name → IsFirstMissing contents set from2 name2
      → (from2 ≡ from) × (name2 ≡ name)
  one_lack set from name from2 name2 a b =
      let member : b.member ≡ a.member = one_first (FindsAll contents) b.earlier a.earlier b.member a.member b.later a.later (sym b.stands ∙ a.stands) b.found a.found
      (never_finds contents b.member from2 name2 b.misses) (never_finds contents a.member from name a.misses) in
      let lockfile : b.misses.lockfile ≡ a.misses.lockfile = cc (b.misses.there, a.misses.there) in
      one_missing a.misses.lockfile (starts_of contents.space a.member) from2 name2 from name (rw (member, lockfile) at b.misses.missing) a.misses.missing

  module _ (targets : List (List ℕ)) (files : FileMap) where
    -- a name is lacking, and no pruning cuts the lockfile
    lacks_or_cut : (reason : Refusal) → IsLacking contents targets reason → (p : Pruning) → IsPruning contents targets p → ⊥
    lacks_or_cut reason lacks p are =
        let sets : lacks.set ≡ p.set = one_kept contents targets lacks.set p.set lacks.kept are.kept in
        let first : IsFirstMissing contents p.set lacks.from lacks.name = subst (λ set. IsFirstMissing contents set lacks.from lacks.name) sets lacks.first in
        never_finds contents first.member lacks.from lacks.name first.misses
        (finds_all p.set contents.lock p.lock p.text refl are.cut first.member (misser_stays p.set lacks.from lacks.name first))

    one_taken : (reason other : Refusal) → IsTaken contents targets reason → IsTaken contents targets other → other ≡ reason
    one_taken reason other a b = let same : b.path ≡ a.path = cc (b.first, a.first) in b.is ∙ ap (λ path. OutTaken path) same ∙ sym a.is

    one_unknown : (reason other : Refusal) → IsUnknown contents targets reason → IsUnknown contents targets other → other ≡ reason
    one_unknown reason other a b = let same : b.name ≡ a.name = cc (b.first, a.first) in b.is ∙ ap (λ name. NoPackage name) same ∙ sym a.is

    one_lacking : (reason other : Refusal) → IsLacking contents targets reason → IsLacking contents targets other → other ≡ reason
    one_lacking reason other a b =
        let sets : b.set ≡ a.set = one_kept contents targets b.set a.set b.kept a.kept in
        let same = one_lack a.set a.from a.name b.from b.name a.first (subst (λ set. IsFirstMissing contents set b.from b.name) sets b.first) in
        b.is ∙ ap (λ from. LockMissing from b.name) same.0 ∙ ap (λ name. LockMissing a.from name) same.1 ∙ sym a.is

    one_over : (reason other : Refusal) → IsOver contents targets files reason → IsOver contents targets files other → other ≡ reason
    one_over reason other a b =
        let paths : b.pruning.paths ≡ a.pruning.paths = one_paths contents targets b.pruning a.pruning b.are a.are in
        let same : b.path ≡ a.path = cc (sym b.first ∙ ap (first_over files) paths ∙ a.first) in
        b.is ∙ ap (λ path. TooLarge path) same ∙ sym a.is

    pub never_pruned : (reason : Refusal) → IsPruned contents targets files → IsRefusedIn contents targets files reason → ⊥
    never_pruned reason pruned (inl unknown) = none_some pruned.begins.names unknown.first
    never_pruned reason pruned (inr (inl taken)) = none_some pruned.begins.free taken.first
    never_pruned reason pruned (inr (inr (inl lacks))) = lacks_or_cut reason lacks pruned.pruning pruned.is
    never_pruned reason pruned (inr (inr (inr over))) =
        none_some pruned.small (ap (first_over files) (one_paths contents targets pruned.pruning over.pruning pruned.is over.are) ∙ over.first)

    pub one_reason : (reason other : Refusal) → IsRefusedIn contents targets files reason → IsRefusedIn contents targets files other → other ≡ reason
    one_reason reason other (inl a) (inl b) = one_unknown reason other a b
    one_reason reason other (inl a) (inr (inl b)) = absurd (none_some b.names a.first)
    one_reason reason other (inl a) (inr (inr (inl b))) = absurd (none_some b.begins.names a.first)
    one_reason reason other (inl a) (inr (inr (inr b))) = absurd (none_some b.begins.names a.first)
    one_reason reason other (inr (inl a)) (inl b) = absurd (none_some a.names b.first)
    one_reason reason other (inr (inl a)) (inr (inl b)) = one_taken reason other a b
    one_reason reason other (inr (inl a)) (inr (inr (inl b))) = absurd (none_some b.begins.free a.first)
    one_reason reason other (inr (inl a)) (inr (inr (inr b))) = absurd (none_some b.begins.free a.first)
    one_reason reason other (inr (inr (inl a))) (inl b) = absurd (none_some a.begins.names b.first)
    one_reason reason other (inr (inr (inl a))) (inr (inl b)) = absurd (none_some a.begins.free b.first)
    one_reason reason other (inr (inr (inl a))) (inr (inr (inl b))) = one_lacking reason other a b
    one_reason reason other (inr (inr (inl a))) (inr (inr (inr b))) = absurd (lacks_or_cut reason a b.pruning b.are)
    one_reason reason other (inr (inr (inr a))) (inl b) = absurd (none_some a.begins.names b.first)
    one_reason reason other (inr (inr (inr a))) (inr (inl b)) = absurd (none_some a.begins.free b.first)
    one_reason reason other (inr (inr (inr a))) (inr (inr (inl b))) = absurd (lacks_or_cut other b a.pruning a.are)
    one_reason reason other (inr (inr (inr a))) (inr (inr (inr b))) = one_over reason other a b
