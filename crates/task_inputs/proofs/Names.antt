-- The last name of a path.
use Rattle.std.proofs.Common.{◌≡◌, ℕ, refl, sym, ◌++◌, List, [], ◌∷◌, ◌∙◌, ap, Bool, true, false}
use Rattle.std.proofs.lemmas.Bool.{false≢true}
use Rattle.rel_path.specs.Paths.{Path, name_eq, path_eq}
use Rattle.rel_path.proofs.PathLaws.{name_same, name_self, path_same, path_self, path_other}

snoc_same : (a b : Path) (x y : List ℕ) → a ++ x ∷ [] ≡ b ++ y ∷ [] → (a ≡ b) × (x ≡ y)
snoc_same [] [] x y e = (refl, cc)
snoc_same [] (b ∷ []) x y e = cc
snoc_same [] (b ∷ c ∷ bs) x y e = cc
snoc_same (a ∷ []) [] x y e = cc
snoc_same (a ∷ c ∷ as_) [] x y e = cc
snoc_same (a ∷ as_) (b ∷ bs) x y e =
    let head : a ≡ b = cc in
    let tail : as_ ++ x ∷ [] ≡ bs ++ y ∷ [] = cc in
    let more = snoc_same as_ bs x y tail in
    (let m = more.0 in cc, more.1)

pub ends_other : (path above folder : Path) (last name : List ℕ) → path ≡ above ++ last ∷ [] → name_eq last name ≡ false → path_eq path (folder ++ name ∷ []) ≡ false
ends_other path above folder last name is other = path_other path (folder ++ name ∷ []) (λ e. false≢true (sym other ∙ ap (name_eq last) (sym (snoc_same above folder last name (sym is ∙ e)).1) ∙ name_self last))

pub ends_same : (path above folder : Path) (last name : List ℕ) → path ≡ above ++ last ∷ [] → name_eq last name ≡ true → path_eq path (folder ++ name ∷ []) ≡ path_eq above folder
ends_same path above folder last name is same = by (path_eq above folder) refl where
  by : (b : Bool) → path_eq above folder ≡ b → path_eq path (folder ++ name ∷ []) ≡ b
  by true e =
      let at : path ≡ folder ++ name ∷ [] = is ∙ ap (λ p. p ++ last ∷ []) (path_same above folder e) ∙ ap (λ n. folder ++ n ∷ []) (name_same last name same) in
      rw at (path_self (folder ++ name ∷ []))
  by false e = path_other path (folder ++ name ∷ []) (λ f. false≢true (sym e ∙ ap (path_eq above) (sym (snoc_same above folder last name (sym is ∙ f)).0) ∙ path_self above))
