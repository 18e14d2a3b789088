-- Paths that are picked in one pass beside a list of some of them.
use Rattle.std.proofs.Common.{◌≡◌, ◌<◌, ◌+◌, ℕ, Bool, true, false, cond, List, [], ◌∷◌, ◌++◌, length, get_or, take, drop, filter, refl, sym, ap, ◌∙◌}
use Rattle.std.proofs.lemmas.Bool.{false≢true}
use Rattle.std.proofs.lemmas.List.{drop_more}
use Rattle.std.proofs.lemmas.List.Elements.{filter_more}
use Rattle.rel_path.specs.Paths.{Path, path_eq}
use Rattle.rel_path.proofs.PathLaws.{path_same, path_self}
use Rattle.pruned_files.specs.Calls.{is_first, behind}

-- the first of those that are left is one that passes
other_first : (test : Path → Bool) (paths : List Path) (path : Path) → test path ≡ false → is_first (filter test paths) path ≡ false
other_first test [] path e = refl
other_first test (p ∷ paths) path e = by (test p) refl (other_first test paths path e) where
  apart : (b : Bool) → path_eq p path ≡ b → test p ≡ true → b ≡ false
  apart true same t = absurd (false≢true (sym e ∙ ap test (sym (path_same p path same)) ∙ t))
  apart false same t = refl

  by : (b : Bool) → test p ≡ b → is_first (filter test paths) path ≡ false → is_first (cond b (p ∷ filter test paths) (filter test paths)) path ≡ false
  by true t more = apart (path_eq p path) refl t
  by false t more = more

pub first_passes : (test : Path → Bool) (path : Path) (paths : List Path) → is_first (filter test (path ∷ paths)) path ≡ test path
first_passes test path paths = by (test path) refl where
  by : (b : Bool) → test path ≡ b → is_first (cond b (path ∷ filter test paths) (filter test paths)) path ≡ b
  by true t = path_self path
  by false t = other_first test paths path t

behind_other : (list : List Path) (path : Path) → is_first list path ≡ false → behind list path ≡ list
behind_other [] path e = refl
behind_other (p ∷ list) path e = ap (λ b. cond b list (p ∷ list)) e

pub behind_passes : (test : Path → Bool) (path : Path) (paths : List Path) → behind (filter test (path ∷ paths)) path ≡ filter test paths
behind_passes test path paths = by (test path) refl where
  by : (b : Bool) → test path ≡ b → behind (cond b (path ∷ filter test paths) (filter test paths)) path ≡ filter test paths
  by true t = ap (λ b. cond b (filter test paths) (path ∷ filter test paths)) (path_self path)
  by false t = behind_other (filter test paths) path (other_first test paths path t)

-- one path further
pub first_at : (test : Path → Bool) (walk left : List Path) (i : ℕ) (path : Path) → i < length walk → path ≡ get_or walk i path → left ≡ filter test (drop i walk) → is_first left path ≡ test path
first_at test walk left i path lt at are = ap (λ l. is_first l path) (are ∙ ap (filter test) (drop_more walk i path lt ∙ ap (λ p. p ∷ drop (i + 1) walk) (sym at))) ∙ first_passes test path (drop (i + 1) walk)

pub behind_at : (test : Path → Bool) (walk left : List Path) (i : ℕ) (path : Path) → i < length walk → path ≡ get_or walk i path → left ≡ filter test (drop i walk) → behind left path ≡ filter test (drop (i + 1) walk)
behind_at test walk left i path lt at are = ap (λ l. behind l path) (are ∙ ap (filter test) (drop_more walk i path lt ∙ ap (λ p. p ∷ drop (i + 1) walk) (sym at))) ∙ behind_passes test path (drop (i + 1) walk)

pub picked_more : (test : Path → Bool) (walk old new : List Path) (i : ℕ) (path : Path) (stays : Bool) → i < length walk → path ≡ get_or walk i path → stays ≡ test path → old ≡ filter test (take i walk) → new ≡ old ++ cond stays (path ∷ []) [] → new ≡ filter test (take (i + 1) walk)
picked_more test walk old new i path stays lt at is are put =
    put ∙ ap (λ l. l ++ cond stays (path ∷ []) []) are ∙ ap (λ b. filter test (take i walk) ++ cond b (path ∷ []) []) is
    ∙ ap (λ p. filter test (take i walk) ++ cond (test p) (p ∷ []) []) at ∙ sym (filter_more test walk i path lt)
