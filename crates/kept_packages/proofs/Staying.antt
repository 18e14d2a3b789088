-- The owners that were reached are those that stay.
use Rattle.std.proofs.Common.{◌≡◌, inl, inr, ◌||◌, ◌&&◌, ℕ, zero, suc, ◌+◌, Bool, true, false, cond, List, [], ◌∷◌, ◌++◌, length, get_or, take, map, refl, sym, ap, ◌∙◌, subst, arith}
use Rattle.std.specs.Prelude.{Some, None, Result, Ok, Err, IfOk}
use Rattle.std.specs.List.{slice_get}
use Rattle.std.proofs.lemmas.Bool.{false≢true, or_cases, or_left, or_right}
use Rattle.std.proofs.lemmas.List.{take_more, take_all, length-take}
use Rattle.rel_path.specs.Paths.{Path, path_eq}
use Rattle.rel_path.proofs.PathLaws.{path_same, path_self}
use Rattle.workspaces.specs.declared.member.Package.{Package}
use Rattle.workspaces.specs.Lists.{Has, places}
use Rattle.workspaces.specs.Marks.{is_marked, itself}
use Rattle.workspaces.specs.Space.{IsProper, owners, root_package}
use Rattle.repository.specs.Reading.{Contents}
use Rattle.kept_packages.specs.declared.error.KeptErr.{KeptErr}
use Rattle.kept_packages.specs.Answers.{AreKept, Keeps, first_unknown}
use Rattle.kept_packages.specs.Kept.{IsClosed, Stays}
use Rattle.kept_packages.specs.Needs.{Gains, IsFirst, Needs, NeedsOne, IsMarked, Holds, Reaches}
use Rattle.kept_packages.specs.Steps.{OnlyMemory}
use Rattle.kept_packages.proofs.Lists.{some_same, has_get, and_both, both_and, places_agree}
use Rattle.kept_packages.proofs.Owners.{one_folder}

-- ---- the folders of the owners that are marked

abbrev has_folder : List Package → List Bool → Path → Bool
has_folder [] marks path = false
has_folder (p ∷ ps) [] path = false
has_folder (p ∷ ps) (m ∷ ms) path = (m && path_eq p.folder path) || has_folder ps ms path

marked_has : (ps : List Package) (ms : List Bool) (n : ℕ) (p : Package) → slice_get ps n ≡ Some p → is_marked ms n ≡ true → has_folder ps ms p.folder ≡ true
marked_has [] ms n p at is = cc
marked_has (q ∷ ps) [] n p at is = absurd (false≢true is)
marked_has (q ∷ ps) (m ∷ ms) zero p at is = or_left (m && path_eq q.folder p.folder) (has_folder ps ms p.folder) (both_and m (path_eq q.folder p.folder) is (ap (λ (x : Package). path_eq x.folder p.folder) (some_same q p at) ∙ path_self p.folder))
marked_has (q ∷ ps) (m ∷ ms) (suc n) p at is = or_right (m && path_eq q.folder p.folder) (has_folder ps ms p.folder) (marked_has ps ms n p at is)

has_marked : (ps : List Package) (ms : List Bool) (path : Path) → has_folder ps ms path ≡ true → (n : ℕ) × (p : Package) × (slice_get ps n ≡ Some p) × (is_marked ms n ≡ true) × (p.folder ≡ path)
has_marked [] ms path e = absurd (false≢true e)
has_marked (p ∷ ps) [] path e = absurd (false≢true e)
has_marked (p ∷ ps) (m ∷ ms) path e = elim (or_cases (m && path_eq p.folder path) (has_folder ps ms path) e) [
  | inl here ↦ let both = and_both m (path_eq p.folder path) here in (0, p, refl, both.0, path_same p.folder path both.1)
  | inr later ↦ let r = has_marked ps ms path later in (suc r.0, r.1, r.2, r.3, r.4)
]

itself_get : (ms : List Bool) (n : ℕ) (m : Bool) → slice_get ms n ≡ Some m → is_marked ms n ≡ m
itself_get [] n m at = cc
itself_get (x ∷ ms) zero m at = some_same x m at
itself_get (x ∷ ms) (suc n) m at = itself_get ms n m at

module _ (contents : Contents) (proper : IsProper contents.space) (targets : List (List ℕ)) (first : List ℕ) (marks : List Bool)
    (gains : Gains contents.space (IsFirst contents.space targets) [] first) (reaches : Reaches contents first marks) where
  abbrev set : Path → Bool
  set path = has_folder (owners contents.space) marks path

  marked_set : (q : Package) → IsMarked contents.space marks q → set q.folder ≡ true
  marked_set q m = marked_has (owners contents.space) marks m.number q m.stands m.marked

  stays_marked : (p : Package) → Stays contents set p → IsMarked contents.space marks p
  stays_marked p s =
      let n = has_get (owners contents.space) p s.owner in
      let m = has_marked (owners contents.space) marks p.folder s.stays in
      let same : n.0 ≡ m.0 = one_folder contents.space proper n.0 m.0 p m.1 n.1 m.2 (sym m.4) in
      record { number = n.0; marked = ap (is_marked marks) same ∙ m.3; stands = n.1 }

  begun : (q : Package) → IsFirst contents.space targets q → set q.folder ≡ true
  begun q f = marked_set q (reaches.begun q (gains.added q f))

  step : (p q : Package) → Stays contents set p → Needs contents p q → set q.folder ≡ true
  step p q s needs = marked_set q (reaches.closed p q (stays_marked p s) needs)

  root_stays : set [] ≡ true → Stays contents set (root_package contents.space.root)
  root_stays e = record { owner = root_has contents.space.packages; stays = e } where
    root_has : (ps : List Package) → Has (ps ++ root_package contents.space.root ∷ []) (root_package contents.space.root)
    root_has [] = inl refl
    root_has (p ∷ ps) = inr (root_has ps)

  closed : IsClosed contents targets set
  closed = record {
    named = λ q inner is. begun q (inl (inner, is));
    rooted = λ q inner is. begun q (inr (inner, is));
    edges = λ p q s inner is. step p q s (inl (inl (inner, is)));
    tasks = λ p q s is. step p q s (inl (inr (inl is)));
    links = λ p q s inner is. step p q s (inl (inr (inr (inl (inner, is)))));
    files = λ has p q s inner is. step p q s (inr (has, (inner, is)));
    all = λ e q inner. step (root_package contents.space.root) q (root_stays e) (inl (inr (inr (inr (refl, inner)))));
  }

  holds : (other : Path → Bool) → IsClosed contents targets other → Holds contents first other
  holds other closed = record {
    begun = λ q a. elim (gains.only a.number a.among) [
      | inl none ↦ absurd none
      | inr of ↦
          let same : of.member ≡ q = some_same of.member q (sym of.stands ∙ a.stands) in
          subst (λ (x : Package). other x.folder ≡ true) same (elim of.is [
            | inl target ↦ closed.named of.member target.0 target.1
            | inr edge ↦ closed.rooted of.member edge.0 edge.1
          ])
    ];
    needs = λ p q s needs. elim needs [
      | inl one ↦ by p q s one
      | inr file ↦ closed.files file.0 p q s file.1.0 file.1.1
    ];
  } where
    by : (p q : Package) → Stays contents other p → NeedsOne contents p q → other q.folder ≡ true
    by p q s (inl edge) = closed.edges p q s edge.0 edge.1
    by p q s (inr (inl task)) = closed.tasks p q s task
    by p q s (inr (inr (inl link))) = closed.links p q s link.0 link.1
    by p q s (inr (inr (inr all))) = closed.all (ap other (sym all.0) ∙ s.stays) q all.1

  least : (other : Path → Bool) → IsClosed contents targets other → (path : Path) → set path ≡ true → other path ≡ true
  least other closed path e =
      let m = has_marked (owners contents.space) marks path e in
      ap other (sym m.4) ∙ reaches.least other (holds other closed) m.1 (record { number = m.0; marked = m.3; stands = m.2 })

  agree : (n : ℕ) (p : Package) (m : Bool) → slice_get (owners contents.space) n ≡ Some p → slice_get marks n ≡ Some m → set p.folder ≡ m
  agree n p true at is = marked_has (owners contents.space) marks n p at (itself_get marks n true is)
  agree n p false at is = by (set p.folder) refl where
    by : (b : Bool) → set p.folder ≡ b → b ≡ false
    by true e =
        let m = has_marked (owners contents.space) marks p.folder e in
        let same : n ≡ m.0 = one_folder contents.space proper n m.0 p m.1 at m.2 (sym m.4) in
        absurd (false≢true (sym (itself_get marks n false is) ∙ ap (is_marked marks) same ∙ m.3))
    by false e = refl

  pub kept_are : AreKept contents targets (places itself marks)
  kept_are = (set, (closed, least), sym (places_agree (λ (p : Package). set p.folder) itself (owners contents.space) marks (sym reaches.size) agree))

-- an answer of those numbers, or want of memory
pub keeps_from : (contents : Contents) (targets : List (List ℕ)) (marks : List Bool) (result : Result (List ℕ) KeptErr) → first_unknown contents targets ≡ None → IfOk result (λ numbers. numbers ≡ places itself marks) → OnlyMemory result
    → AreKept contents targets (places itself marks) → Keeps contents targets result
keeps_from contents targets marks (Ok numbers) known is memory are = (known, subst (AreKept contents targets) (sym is) are)
keeps_from contents targets marks (Err e) known is memory are = subst (λ f. Keeps contents targets (Err f)) (sym memory) tt

-- ---- the places of marks, with one more

places_more : (marks : List Bool) (m : Bool) → places itself (marks ++ m ∷ []) ≡ places itself marks ++ cond m (length marks ∷ []) []
unfolding places
places_more [] m = by m where
  by : (t : Bool) → cond t (zero ∷ []) [] ≡ [] ++ cond t (0 ∷ []) []
  by true = refl
  by false = refl
places_more (x ∷ marks) m = by x (ap (map suc) (places_more marks m) ∙ (map_two (places itself marks) (cond m (length marks ∷ []) []) ∙ ap (λ zs. map suc (places itself marks) ++ zs) (one m))) where
  map_two : (ms ns : List ℕ) → map suc (ms ++ ns) ≡ map suc ms ++ map suc ns
  map_two [] ns = refl
  map_two (k ∷ ms) ns = ap (λ zs. suc k ∷ zs) (map_two ms ns)

  one : (t : Bool) → map suc (cond t (length marks ∷ []) []) ≡ cond t (suc (length marks) ∷ []) []
  one true = refl
  one false = refl

  by : (t : Bool) → map suc (places itself (marks ++ m ∷ [])) ≡ map suc (places itself marks) ++ cond m (suc (length marks) ∷ []) [] → cond t (zero ∷ map suc (places itself (marks ++ m ∷ []))) (map suc (places itself (marks ++ m ∷ []))) ≡ cond t (zero ∷ map suc (places itself marks)) (map suc (places itself marks)) ++ cond m (suc (length marks) ∷ []) []
  by true e = ap (λ zs. 0 ∷ zs) e
  by false e = e

-- the last mark stands behind the others
pub places_last : (marks : List Bool) (n : ℕ) (d : Bool) → length marks ≡ n + 1 → places itself marks ≡ places itself (take n marks) ++ cond (get_or marks n d) (n ∷ []) []
places_last marks n d size =
    let whole : marks ≡ take n marks ++ get_or marks n d ∷ [] = sym (take_all (n + 1) marks (omega (arith, size))) ∙ take_more marks n d (omega (arith, size)) in
    ap (places itself) whole ∙ places_more (take n marks) (get_or marks n d) ∙ ap (λ k. places itself (take n marks) ++ cond (get_or marks n d) (k ∷ []) []) (omega (arith, length-take n marks, size))
