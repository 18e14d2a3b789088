-- Packages, found by their folders.
use Rattle.std.proofs.Common.{◌≡◌, ◌≢◌, ◌⊎◌, inl, inr, ◌&&◌, ℕ, zero, suc, ◌+◌, ◌<◌, ◌≤◌, Bool, true, false, cond, List, [], ◌∷◌, ◌++◌, length, take, drop, map, refl, sym, ap, ◌∙◌, subst, arith}
use Rattle.std.specs.Prelude.{Option, Some, None, Result, Ok, Err, IfOk, OnOk, not}
use Rattle.std.specs.List.{slice_get, HoldsAt, join_with_byte}
use Rattle.std.proofs.Math.ListN.{take-append-drop, length-append}
use Rattle.std.proofs.lemmas.Bool.{false≢true, cases_eq}
use Rattle.std.proofs.lemmas.Option.{slice_get_within}
use Rattle.rel_path.specs.Paths.{Path, AreNames, name_eq, path_eq, strip, parts_of, text_fault, MayRefuse}
use Rattle.rel_path.specs.declared.error.PathErr.{PathErr}
use Rattle.rel_path.specs.declared.error.PathErr.TheVariants.{Empty, DotPart, Slash, OutOfMemory}
use Rattle.rel_path.proofs.PathLaws.{path_same, path_self, name_same, name_self, strip_is, strip_append}
use Rattle.rel_path.proofs.Parts.{parts_of-join, text_fault-join}
use Rattle.workspaces.specs.declared.member.Package.{Package}
use Rattle.workspaces.specs.Space.{Space, IsProper, owners, is_home_of, lies_in_some, lies_below, is_proper}
use Rattle.task_inputs.specs.Folders.{Folders, number_at, IsFound}
use Rattle.task_inputs.specs.Homes.{is_home}
use Rattle.kept_packages.specs.declared.error.KeptErr.{KeptErr}
use Rattle.kept_packages.specs.Steps.{IsIndex, IsNumber, IsWritten}
use Rattle.kept_packages.proofs.Lists.{some_same}
use Rattle.kept_packages.proofs.Gains.{held, there}
use Rattle.kept_packages.proofs.Owners.{inner_slot, lie_apart, below_root, not_root, not_inside}

never : {X : Type 0} (x : X) (o : Option X) → o ≡ None → o ≡ Some x → ⊥
never x o none some = cc

-- ---- the first so many packages

-- each of their folders has its number, and no other folder has one
pub record Indexes (space : Space) (count : ℕ) (folders : Folders) : Type 0 where
  pub sound : (folder : Path) (n : ℕ) → number_at folders folder ≡ Some n → (p : Package) × (n < count) × (slice_get space.packages n ≡ Some p) × (p.folder ≡ folder)
  pub whole : (n : ℕ) (p : Package) → n < count → slice_get space.packages n ≡ Some p → number_at folders p.folder ≡ Some n
  pub names : (n : ℕ) (p : Package) → n < count → slice_get space.packages n ≡ Some p → AreNames p.folder

module _ (space : Space) (proper : IsProper space) (count : ℕ) (folder : Path) (old new : Folders) (p : Package) (at : slice_get space.packages count ≡ Some p) (here : folder ≡ p.folder)
    (put : (other : Path) → number_at new other ≡ cond (path_eq other folder) (Some count) (number_at old other)) (before : Indexes space count old) where
  same_as : (n : ℕ) (q : Package) → n ≡ count → slice_get space.packages n ≡ Some q → folder ≡ q.folder
  same_as n q e at_q = here ∙ ap (λ (m : Package). m.folder) (some_same p q (sym at ∙ ap (slice_get space.packages) (sym e) ∙ at_q))

  sound_more : (other : Path) (n : ℕ) (b : Bool) → path_eq other folder ≡ b → cond b (Some count) (number_at old other) ≡ Some n → (q : Package) × (n < count + 1) × (slice_get space.packages n ≡ Some q) × (q.folder ≡ other)
  sound_more other n true e found =
      let is : count ≡ n = some_same count n found in
      (p, omega (arith, is), ap (slice_get space.packages) (sym is) ∙ at, sym here ∙ sym (path_same other folder e))
  sound_more other n false e found = let s = before.sound other n found in let l : n < count = s.1 in (s.0, omega (arith, l), s.2, s.3)

  apart : (n : ℕ) (q : Package) → n ≢ count → slice_get space.packages n ≡ Some q → (b : Bool) → path_eq q.folder folder ≡ b → b ≡ false
  apart n q ne at_q true f = absurd (not_inside q.folder p.folder (path_same q.folder folder f ∙ here) (lie_apart space proper n count q p ne at_q at).0)
  apart n q ne at_q false f = refl

  whole_more : (n : ℕ) (q : Package) → n < count + 1 → slice_get space.packages n ≡ Some q → (n ≡ count) ⊎ (n ≢ count) → number_at new q.folder ≡ Some n
  whole_more n q below at_q (inl e) = put q.folder ∙ ap (λ b. cond b (Some count) (number_at old q.folder)) (ap (λ f. path_eq f folder) (sym (same_as n q e at_q)) ∙ path_self folder) ∙ ap (λ k. Some k) (sym e)
  whole_more n q below at_q (inr ne) = put q.folder ∙ ap (λ b. cond b (Some count) (number_at old q.folder)) (apart n q ne at_q (path_eq q.folder folder) refl) ∙ before.whole n q (omega (arith, below, ne)) at_q

  pub indexes_next : AreNames folder → Indexes space (count + 1) new
  indexes_next named = record {
    sound = λ other n found. sound_more other n (path_eq other folder) refl (sym (put other) ∙ found);
    whole = λ n q below at_q. whole_more n q below at_q (cases_eq n count);
    names = λ n q below at_q. elim (cases_eq n count) [
      | inl e ↦ subst (λ f. AreNames f) (same_as n q e at_q) named
      | inr ne ↦ before.names n q (omega (arith, below, ne)) at_q
    ];
  }

pub indexes_at : (space : Space) (proper : IsProper space) (count : ℕ) (folder : Path) (old new : Folders) → count < length space.packages → HoldsAt (λ p. folder ≡ p.folder) (owners space) count → AreNames folder
    → ((other : Path) → number_at new other ≡ cond (path_eq other folder) (Some count) (number_at old other)) → Indexes space count old → Indexes space (count + 1) new
indexes_at space proper count folder old new less its named put before =
    let p = there space.packages count less in
    indexes_next space proper count folder old new p.0 p.1 (held (λ (q : Package). folder ≡ q.folder) (owners space) count p.0 its (inner_slot space count p.0 p.1)) put before named

pub indexes_none : (space : Space) (folders : Folders) → ((folder : Path) → number_at folders folder ≡ None) → Indexes space 0 folders
indexes_none space folders none = record {
  sound = λ folder n found. absurd (never n (number_at folders folder) (none folder) found);
  whole = λ n p below at. absurd (omega (arith, below));
  names = λ n p below at. absurd (omega (arith, below));
}

pub indexes_all : (space : Space) (proper : IsProper space) (folders : Folders) → Indexes space (length space.packages) folders → IsIndex space folders
indexes_all space proper folders all = record {
  sound = λ folder n found. let s = all.sound folder n found in (s.0, s.2, s.3);
  whole = λ n p at. all.whole n p (slice_get_within space.packages n p at) at;
  names = λ n p at. all.names n p (slice_get_within space.packages n p at) at;
  inner = λ n p at. below_root space proper n p at;
}

-- ---- by the text of a folder

-- the text of a folder other than the root is that of a path, and of no other one
text_back : (path : Path) → AreNames path → path ≢ [] → (text_fault (join_with_byte 47 path) ≡ None) × (parts_of (join_with_byte 47 path) ≡ path)
text_back [] named inner = absurd (inner refl)
text_back (name ∷ names) named inner = (text_fault-join name names named, parts_of-join name names named)

module _ (space : Space) (folders : Folders) (all : IsIndex space folders) (text : List ℕ) where
  pub by_path : (path : Path) → path ≡ parts_of text → join_with_byte 47 path ≡ text → IsNumber space.packages (IsWritten text) (number_at folders path)
  by_path path parts back = record {
    sound = λ n found. let s = all.sound path n found in (s.0, s.1, ap (join_with_byte 47) s.2 ∙ back);
    whole = λ n p at is.
        let same : p.folder ≡ path = sym (text_back p.folder (all.names n p at) (all.inner n p at)).1 ∙ ap parts_of is ∙ sym parts in
        ap (number_at folders) (sym same) ∙ all.whole n p at;
  }

  pub by_none : (fault : PathErr) → text_fault text ≡ Some fault → IsNumber space.packages (IsWritten text) None
  by_none fault is = record {
    sound = λ n found. cc;
    whole = λ n p at writes. absurd (never fault (text_fault text) (ap text_fault (sym writes) ∙ (text_back p.folder (all.names n p at) (all.inner n p at)).0) is);
  }

-- a fault that is not want of memory is the text's
refused : (fault : Option PathErr) (e : PathErr) → MayRefuse fault e → e ≢ OutOfMemory → fault ≡ Some e
refused fault Empty may ne = may
refused fault DotPart may ne = may
refused fault Slash may ne = may
refused fault OutOfMemory may ne = absurd (ne refl)

pub by_fault : (space : Space) (folders : Folders) (all : IsIndex space folders) (text : List ℕ) (e : PathErr) (result : Result (Option ℕ) KeptErr) → MayRefuse (text_fault text) e → IfOk result (λ number. number ≡ None) → OnOk result (e ≢ OutOfMemory)
    → IfOk result (IsNumber space.packages (IsWritten text))
by_fault space folders all text e (Ok number) may none ne = subst (IsNumber space.packages (IsWritten text)) (sym none) (by_none space folders all text e (refused (text_fault text) e may ne))
by_fault space folders all text e (Err fault) may none ne = tt

-- ---- by a path that lies in the folder

clash : (a b path r s : Path) → strip a path ≡ Some r → strip b path ≡ Some s → strip a b ≡ None → strip b a ≡ None → ⊥
clash [] b path r s ea eb nab nba = never b (Some b) nab refl
clash (x ∷ xs) [] path r s ea eb nab nba = never (x ∷ xs) (Some (x ∷ xs)) nba refl
clash (x ∷ xs) (y ∷ ys) [] r s ea eb nab nba = never r None refl ea
clash (x ∷ xs) (y ∷ ys) (n ∷ ns) r s ea eb nab nba = by (name_eq x n) refl (name_eq y n) refl ea eb (clash xs ys ns r s) where
  by : (t : Bool) → name_eq x n ≡ t → (u : Bool) → name_eq y n ≡ u → cond t (strip xs ns) None ≡ Some r → cond u (strip ys ns) None ≡ Some s → (strip xs ns ≡ Some r → strip ys ns ≡ Some s → strip xs ys ≡ None → strip ys xs ≡ None → ⊥) → ⊥
  by false e u f a b inner = never r None refl a
  by true e false f a b inner = never s None refl b
  by true e true f a b inner =
      let same : x ≡ y = name_same x n e ∙ sym (name_same y n f) in
      let xy : name_eq x y ≡ true = rw (← same) (name_self x) in
      let yx : name_eq y x ≡ true = rw same (name_self y) in
      inner a b (ap (λ v. cond v (strip xs ys) None) (sym xy) ∙ nab) (ap (λ v. cond v (strip ys xs) None) (sym yx) ∙ nba)

below_is : (path folder : Path) → lies_below path folder ≡ true → (name : List ℕ) × (names : Path) × (strip folder path ≡ Some (name ∷ names))
below_is path folder below = by (strip folder path) refl below where
  by : (o : Option Path) → strip folder path ≡ o → is_proper o ≡ true → (name : List ℕ) × (names : Path) × (strip folder path ≡ Some (name ∷ names))
  by None e p = absurd (false≢true p)
  by (Some []) e p = absurd (false≢true p)
  by (Some (name ∷ names)) e p = (name, names, e)

take_front : (front : Path) (rest : Path) → take (length front) (front ++ rest) ≡ front
take_front [] rest = refl
take_front (f ∷ fs) rest = ap (λ ns. f ∷ ns) (take_front fs rest)

length_take_le : (n : ℕ) (ns : Path) → length (take n ns) ≤ n
length_take_le zero ns = omega arith
length_take_le (suc n) [] = omega arith
length_take_le (suc n) (m ∷ ms) = let more = length_take_le n ms in omega (arith, more)

strip_take : (path : Path) (depth : ℕ) → depth < length path → lies_below path (take depth path) ≡ true
strip_take path depth less = by (drop depth path) refl where
  by : (rest : Path) → drop depth path ≡ rest → lies_below path (take depth path) ≡ true
  by [] e = absurd (omega (arith, ap length (sym (take-append-drop depth path)), length-append (take depth path) (drop depth path), ap length e, length_take_le depth path, less))
  by (name ∷ rest) e =
      let whole : path ≡ take depth path ++ (name ∷ rest) = sym (take-append-drop depth path) ∙ ap (λ r. take depth path ++ r) e in
      let cut : strip (take depth path) path ≡ Some (name ∷ rest) = ap (strip (take depth path)) whole ∙ strip_append (take depth path) (name ∷ rest) in
      ap is_proper cut

-- the home of a path, if it is a package, is the one in whose folder the path lies
home_is : (space : Space) (p : Package) (path : Path) → p.folder ≢ [] → is_home (owners space) p path ≡ lies_below path p.folder
unfolding is_home_of
home_is space p path inner = ap (λ b. lies_below path p.folder && not (b && lies_in_some (map (λ (q : Package). q.folder) (owners space)) path)) (not_root p.folder inner) ∙ plain (lies_below path p.folder) where
  plain : (b : Bool) → (b && true) ≡ b
  plain true = refl
  plain false = refl

module _ (space : Space) (proper : IsProper space) (folders : Folders) (all : IsIndex space folders) (path : Path) where
  abbrev Its : Package → Type 0
  Its p = is_home (owners space) p path ≡ true

  lies : (n : ℕ) (p : Package) → slice_get space.packages n ≡ Some p → Its p → lies_below path p.folder ≡ true
  lies n p at is = sym (home_is space p path (all.inner n p at)) ∙ is

  is_here : (n depth : ℕ) → depth < length path → number_at folders (take depth path) ≡ Some n → (p : Package) × (slice_get space.packages n ≡ Some p) × Its p
  is_here n depth less found =
      let s = all.sound (take depth path) n found in
      (s.0, s.1, home_is space s.0 path (all.inner n s.0 s.1) ∙ ap (lies_below path) s.2 ∙ strip_take path depth less)

  -- the folder is one above the path
  above : (n : ℕ) (p : Package) → slice_get space.packages n ≡ Some p → Its p → (depth : ℕ) × (depth < length path) × (number_at folders (take depth path) ≡ Some n)
  above n p at is =
      let b = below_is path p.folder (lies n p at is) in
      let whole : path ≡ p.folder ++ b.0 ∷ b.1 = strip_is p.folder path (b.0 ∷ b.1) b.2 in (
        length p.folder,
        omega (arith, ap length whole, length-append p.folder (b.0 ∷ b.1)),
        ap (number_at folders) (ap (take (length p.folder)) whole ∙ take_front p.folder (b.0 ∷ b.1)) ∙ all.whole n p at,
      )

  one_home : (n m : ℕ) (p q : Package) → slice_get space.packages n ≡ Some p → slice_get space.packages m ≡ Some q → Its p → Its q → n ≡ m
  one_home n m p q at_p at_q is_p is_q = elim (cases_eq n m) [
    | inl e ↦ e
    | inr ne ↦
        let a = below_is path p.folder (lies n p at_p is_p) in
        let b = below_is path q.folder (lies m q at_q is_q) in
        let both = lie_apart space proper n m p q ne at_p at_q in
        absurd (clash p.folder q.folder path (a.0 ∷ a.1) (b.0 ∷ b.1) a.2 b.2 both.0 both.1)
  ]

  pub home_found : (found : Option ℕ) → IsFound folders path found → IsNumber space.packages Its found
  home_found None is = record {
    sound = λ n e. cc;
    whole = λ n p at its. let a = above n p at its in absurd (never n (number_at folders (take a.0 path)) (is a.0 a.1) a.2);
  }
  home_found (Some m) is =
      let q = is_here m is.0 is.1 is.2 in
      record {
        sound = λ n e. let same : m ≡ n = some_same m n e in (q.0, ap (slice_get space.packages) (sym same) ∙ q.1, q.2);
        whole = λ n p at its. ap (λ k. Some k) (one_home m n q.0 p q.1 at q.2 its);
      }
