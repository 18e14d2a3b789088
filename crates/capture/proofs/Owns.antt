-- Owned files, and what is left when they are taken out.
use Rattle.std.proofs.Common.{◌≡◌, ℕ, zero, suc, ◌+◌, ◌<◌, Bool, true, false, not, cond, ◌||◌, ◌&&◌, List, [], ◌∷◌, ◌++◌, length, get_or, take, length-append, refl, sym, ap, subst, ◌∙◌, arith}
use Rattle.std.specs.Prelude.{Option, Some, None, Ok, is_some}
use Rattle.std.proofs.lemmas.List.Folds.{list_any_more, list_any_at}
use Rattle.rel_path.specs.Paths.{Path, strip, path_eq, is_among}
use Rattle.rel_path.specs.Files.{FileMap, has, SameBut}
use Rattle.rel_path.proofs.PathLaws.{path_same, path_self, path_other}
use Rattle.globs.specs.declared.out_set.OutSet.{OutSet}
use Rattle.globs.specs.Outputs.{takes, shares}
use Rattle.tree_walk.specs.Walked.{is_skipped}
use Rattle.globs.specs.OutLaws.{may_take, takes_within, shares_within}
use Rattle.tree_walk.specs.Traversal.{passes, passes_if, reached, is_chosen, Gathered, everywhere}
use Rattle.capture.specs.Owned.{package_enters, own_choice, ListsOwned}
use Rattle.globs.specs.OwnedFiles.{SameOutside}
use Rattle.globs.specs.OwnedFiles.{cleared}

-- below a folder of the package every folder is entered
deeper : (outs : OutSet) (folder rest : Path) (n : List ℕ) → length outs.folder < length folder → passes (package_enters outs) folder (n ∷ rest) ≡ true
unfolding passes
deeper outs folder [] n lt = refl
deeper outs folder (m ∷ rest) n lt =
    let other : path_eq folder outs.folder ≡ false = path_other folder outs.folder (λ e. absurd (omega (arith, ap length e, lt))) in
    ap (λ b. not (b && is_skipped n) && passes (package_enters outs) (folder ++ n ∷ []) (m ∷ rest)) other
    ∙ deeper outs (folder ++ n ∷ []) rest m (omega (arith, lt, length-append folder (n ∷ [])))

package_reached : (outs : OutSet) (path : Path) → may_take (strip outs.folder path) ≡ true → reached (package_enters outs) outs.folder path ≡ true
unfolding reached passes_if passes
package_reached outs path t = by_rest (strip outs.folder path) t
  where
    by_rest : (o : Option Path) → may_take o ≡ true → passes_if (package_enters outs) outs.folder o ≡ true
    by_rest None h = absurd (cc)
    by_rest (Some []) h = absurd (cc)
    by_rest (Some (n ∷ [])) h = refl
    by_rest (Some (n ∷ m ∷ rest)) h =
        let free : is_skipped n ≡ false = flip (is_skipped n) h in
        ap (λ b. not (path_eq outs.folder outs.folder && b) && passes (package_enters outs) (outs.folder ++ n ∷ []) (m ∷ rest)) free
        ∙ ap (λ b. not b && passes (package_enters outs) (outs.folder ++ n ∷ []) (m ∷ rest)) (and_none (path_eq outs.folder outs.folder))
        ∙ deeper outs (outs.folder ++ n ∷ []) rest m (omega (arith, length-append outs.folder (n ∷ [])))
      where
        flip : (b : Bool) → not b ≡ true → b ≡ false
        flip true h = sym h
        flip false h = refl

        and_none : (b : Bool) → (b && false) ≡ false
        and_none true = refl
        and_none false = refl

pub owned_reached : (outs : OutSet) (path : Path) → takes outs path ≡ true → reached (package_enters outs) outs.folder path ≡ true
owned_reached outs path t = package_reached outs path (takes_within outs path t)

pub shared_reached : (outs : OutSet) (path : Path) → shares outs path ≡ true → reached (package_enters outs) outs.folder path ≡ true
shared_reached outs path t = package_reached outs path (shares_within outs path t)

chosen_owned : (files : FileMap) (outs : OutSet) (path : Path) → is_chosen files (own_choice outs) outs.folder path ≡ (has files path && takes outs path)
unfolding is_chosen
chosen_owned files outs path = by_takes (takes outs path) refl
  where
    by_takes : (b : Bool) → takes outs path ≡ b → (has files path && (b && reached (package_enters outs) outs.folder path)) ≡ (has files path && b)
    by_takes true h = ap (λ r. has files path && r) (owned_reached outs path h)
    by_takes false h = refl

pub lists_owned : (Tells : Type 0) (files : FileMap) (held : Path → Bool) (outs : OutSet) (depth most : ℕ) (found : List Path) (u : Unit {0})
    → Gathered Tells files held (own_choice outs) depth most outs.folder everywhere [] found (Ok u) → ListsOwned Tells files outs found
lists_owned Tells files held outs depth most found u g = subst (ListsOwned Tells files outs) (sym g.is) (record {
  ascend = g.adds.ascend;
  taken = λ p h. (g.adds.inside p h).1;
  exact = λ t p. (g.told t).exact p ∙ ap (λ s. s && true) (chosen_owned files outs p) ∙ and_true (has files p && takes outs p);
})
  where
    and_true : (b : Bool) → (b && true) ≡ b
    and_true true = refl
    and_true false = refl

-- ---- the loop that removes

-- what the paths that were gone through leave
pub record Removed (paths : List Path) (old new : FileMap) : Type 0 where
  pub others : (path : Path) → is_among paths path ≡ false → new path ≡ old path
  pub none : (path : Path) → is_among paths path ≡ true → new path ≡ None

among_more : (paths : List Path) (i : ℕ) (d p : Path) → i < length paths → is_among (take (i + 1) paths) p ≡ (is_among (take i paths) p || path_eq (get_or paths i d) p)
among_more paths i d p lt = list_any_more (λ other. path_eq other p) paths i d lt

pub at_place : (paths : List Path) (i : ℕ) (d : Path) → i < length paths → is_among paths (get_or paths i d) ≡ true
at_place paths i d lt = list_any_at (λ other. path_eq other (get_or paths i d)) paths i d lt (path_self (get_or paths i d))

pub removed_none : (files : FileMap) → Removed [] files files
removed_none files = record { others = λ p h. refl; none = λ p h. absurd (let y : false ≡ true = h in cc) }

pub removed_more : (paths : List Path) (i : ℕ) (d : Path) (old mid new : FileMap) → i < length paths → Removed (take i paths) old mid → SameBut (get_or paths i d) mid new → new (get_or paths i d) ≡ None
    → Removed (take (i + 1) paths) old new
removed_more paths i d old mid new lt r same none = record {
  others = λ p h. by_others p (is_among (take i paths) p) (path_eq (get_or paths i d) p) refl refl (sym (among_more paths i d p lt) ∙ h);
  none = λ p h. by_none p (path_eq (get_or paths i d) p) refl (sym (among_more paths i d p lt) ∙ h);
}
  where
    by_others : (p : Path) (a b : Bool) → is_among (take i paths) p ≡ a → path_eq (get_or paths i d) p ≡ b → (a || b) ≡ false → new p ≡ old p
    by_others p true b ea eb h = absurd (let y : true ≡ false = h in cc)
    by_others p false true ea eb h = absurd (let y : true ≡ false = h in cc)
    by_others p false false ea eb h = same p (λ e. absurd (let y : true ≡ false = sym (path_self p) ∙ ap (λ x. path_eq x p) e ∙ eb in cc)) ∙ r.others p ea

    by_none : (p : Path) (b : Bool) → path_eq (get_or paths i d) p ≡ b → (is_among (take i paths) p || path_eq (get_or paths i d) p) ≡ true → new p ≡ None
    by_none p true eb h = ap new (sym (path_same (get_or paths i d) p eb)) ∙ none
    by_none p false eb h = same p (λ e. absurd (let y : true ≡ false = sym (path_self p) ∙ ap (λ x. path_eq x p) e ∙ eb in cc)) ∙ r.none p (left (is_among (take i paths) p) (ap (λ b. is_among (take i paths) p || b) (sym eb) ∙ h))
      where
        left : (a : Bool) → (a || false) ≡ true → a ≡ true
        left true h = refl
        left false h = h

pub removed_all : (Tells : Type 0) (outs : OutSet) (paths : List Path) (old new : FileMap) → Tells → ListsOwned Tells old outs paths → Removed paths old new → new ≡ cleared outs old
removed_all Tells outs paths old new told lists r = λ k path. each path (takes outs path) (is_among paths path) refl refl k
  where
    each : (path : Path) (t a : Bool) → takes outs path ≡ t → is_among paths path ≡ a → new path ≡ cond t None (old path)
    each path true true et ea = r.none path ea
    each path true false et ea = r.others path ea ∙ absent (old path) (sym (and_true (has old path)) ∙ ap (λ b. has old path && b) (sym et) ∙ sym (lists.exact told path) ∙ ea)
      where
        and_true : (b : Bool) → (b && true) ≡ b
        and_true true = refl
        and_true false = refl

        absent : (o : Option (List ℕ)) → is_some o ≡ false → o ≡ None
        absent None h = refl
        absent (Some x) h = absurd (let y : true ≡ false = h in cc)
    each path false true et ea = absurd (let y : true ≡ false = sym (lists.taken path ea) ∙ et in cc)
    each path false false et ea = r.others path ea

pub among_take : (paths : List Path) (i : ℕ) (p : Path) → is_among (take i paths) p ≡ true → is_among paths p ≡ true
among_take [] zero p h = h
among_take [] (suc i) p h = h
among_take (x ∷ xs) zero p h = absurd (let y : false ≡ true = h in cc)
among_take (x ∷ xs) (suc i) p h =
    elim (path_eq x p) as (λ b. (b || is_among (take i xs) p) ≡ true → (b || is_among xs p) ≡ true) [
      | true ↦ λ k. refl
      | false ↦ λ k. among_take xs i p k
    ] h

pub removed_outside : (outs : OutSet) (paths : List Path) (i : ℕ) (old new : FileMap) → ((p : Path) → is_among paths p ≡ true → takes outs p ≡ true) → Removed (take i paths) old new → SameOutside outs old new
removed_outside outs paths i old new taken r path h = r.others path (by_among (is_among (take i paths) path) refl)
  where
    by_among : (a : Bool) → is_among (take i paths) path ≡ a → is_among (take i paths) path ≡ false
    by_among true e = absurd (let y : true ≡ false = sym (taken path (among_take paths i path e)) ∙ h in cc)
    by_among false e = e

-- after a fault too
pub outside_after : (outs : OutSet) (d : Path) (old mid new : FileMap) → takes outs d ≡ true → SameOutside outs old mid → SameBut d mid new → SameOutside outs old new
outside_after outs d old mid new t same but path h = but path (λ e. absurd (let y : true ≡ false = sym t ∙ ap (takes outs) (sym e) ∙ h in cc)) ∙ same path h

pub place_taken : (outs : OutSet) (paths items : List Path) (i : ℕ) (d : Path) → items ≡ paths → i < length items → d ≡ get_or items i d → ((p : Path) → is_among paths p ≡ true → takes outs p ≡ true) → takes outs d ≡ true
place_taken outs paths items i d same lt is taken =
    taken d (ap (λ x. is_among x d) (sym same) ∙ ap (is_among items) is ∙ at_place items i d lt)

-- the loop that removes, at a path
pub same_at : (d e : Path) (old new : FileMap) → d ≡ e → SameBut d old new → SameBut e old new
same_at d e old new is same p apart = same p (λ h. apart (h ∙ is))
