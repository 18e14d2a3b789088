-- What is left of files when those that a hit lacks are removed.
use Rattle.std.proofs.Common.{◌≡◌, ◌≢◌, ℕ, ◌+◌, ◌<◌, Bool, true, false, not, cond, ◌||◌, ◌&&◌, List, length, get_or, take, refl, sym, ap, ◌∙◌}
use Rattle.std.specs.Prelude.{None}
use Rattle.std.proofs.lemmas.List.Folds.{list_any_more}
use Rattle.rel_path.specs.Paths.{Path, path_eq, is_among}
use Rattle.rel_path.specs.Files.{FileMap, SameBut}
use Rattle.rel_path.proofs.PathLaws.{path_same, path_self}
use Rattle.capture.specs.Kept.{is_only_in, without}
use Rattle.capture.proofs.Owns.{at_place, among_take}

either : (a b : Bool) → a ≢ true → a ≡ false
either true b n = absurd (n refl)
either false b n = refl

module _ (paths kept : List Path) (i : ℕ) (d : Path) (lt : i < length paths) where
  abbrev pub here : Path
  here = get_or paths i d

  among_more : (p : Path)
      → is_among (take (i + 1) paths) p ≡ (is_among (take i paths) p || path_eq here p)
  among_more p = list_any_more (λ other. path_eq other p) paths i d lt

  more_kept : (a b k : Bool) → (b ≡ true → k ≡ true) → (a && not k) ≡ ((a || b) && not k)
  more_kept true b k h = refl
  more_kept false true k h = rw (h refl) refl
  more_kept false false k h = refl

  -- a path that is kept
  pub without_kept : (old new : FileMap) → is_among kept here ≡ true
      → ((p : Path) → new p ≡ without (take i paths) kept old p)
      → (p : Path) → new p ≡ without (take (i + 1) paths) kept old p
  without_kept old new k before p =
      before p
      ∙ ap (λ b. cond b None (old p)) (more_kept (is_among (take i paths) p) (path_eq here p)
      (is_among kept p) (λ e. ap (is_among kept) (sym (path_same here p e)) ∙ k))
      ∙ ap (λ b. cond (b && not (is_among kept p)) None (old p)) (sym (among_more p))

  -- one that is removed
  pub without_removed : (old mid new : FileMap) → is_among kept here ≡ false
      → ((p : Path) → mid p ≡ without (take i paths) kept old p)
      → SameBut here mid new → new here ≡ None
      → (p : Path) → new p ≡ without (take (i + 1) paths) kept old p
  without_removed old mid new k before same none p =
      by (path_eq here p) refl
      ∙ ap (λ b. cond (b && not (is_among kept p)) None (old p)) (sym (among_more p))
    where
      all : (a k : Bool) → k ≡ false → None ≡ cond ((a || true) && not k) None (old p)
      all true k e = rw e refl
      all false k e = rw e refl

      rest : (a k : Bool) → cond (a && not k) None (old p) ≡ cond ((a || false) && not k) None (old p)
      rest true k = refl
      rest false k = refl

      by : (b : Bool) → path_eq here p ≡ b
          → new p ≡ cond ((is_among (take i paths) p || path_eq here p) && not (is_among kept p)) None (old p)
      by true e =
          let is = path_same here p e in
          ap new (sym is) ∙ none ∙ all (is_among (take i paths) p) (is_among kept p) (ap (is_among kept) (sym is) ∙ k)
          ∙ ap (λ b. cond ((is_among (take i paths) p || b) && not (is_among kept p)) None (old p)) (sym e)
      by false e =
          same p (λ h. absurd (let y : true ≡ false = sym (path_self p) ∙ ap (λ x. path_eq x p) h ∙ e in cc))
          ∙ before p ∙ rest (is_among (take i paths) p) (is_among kept p)
          ∙ ap (λ b. cond ((is_among (take i paths) p || b) && not (is_among kept p)) None (old p)) (sym e)

  pub goes : is_among kept here ≡ false → is_only_in paths kept here ≡ true
  goes k = rw (at_place paths i d lt, k) refl

  -- after a fault too
  pub kept_after : (old mid new : FileMap) → is_among kept here ≡ false
      → SameBut here mid new → (p : Path) → is_only_in paths kept p ≡ false → mid p ≡ old p → new p ≡ old p
  kept_after old mid new k same p out before =
      same p (λ h. absurd (let y : true ≡ false = sym (goes k) ∙ ap (is_only_in paths kept) (sym h) ∙ out in cc)) ∙ before

-- the other files are as before
pub without_others : (paths kept : List Path) (i : ℕ) (old new : FileMap)
    → ((p : Path) → new p ≡ without (take i paths) kept old p)
    → (p : Path) → is_only_in paths kept p ≡ false → new p ≡ old p
without_others paths kept i old new is p out =
    is p ∙ ap (λ b. cond b None (old p))
    (fewer (is_among (take i paths) p) (is_among paths p) (is_among kept p) (among_take paths i p) out)
  where
    fewer : (a b k : Bool) → (a ≡ true → b ≡ true) → (b && not k) ≡ false → (a && not k) ≡ false
    fewer true b k h e = ap (λ x. x && not k) (sym (h refl)) ∙ e
    fewer false b k h e = refl
