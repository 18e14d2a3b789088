use Rattle.std.proofs.Common.{◌≡◌, List, [], ◌∷◌, ◌++◌, append_assoc}
use Rattle.sample_repository.proofs.files.push_package.Goals as goal

-- two that were put behind a list
pushed_twice : {X : Type 0} (xs ys zs : List X) (x y x' y' : X) → ys ≡ xs ++ x ∷ []
    → zs ≡ ys ++ y ∷ [] → x ≡ x' → y ≡ y' → zs ≡ xs ++ x' ∷ y' ∷ []
pushed_twice xs ys zs x y x' y' once twice first second =
    rw (twice, once, first, second) (append_assoc xs (x' ∷ []) (y' ∷ []))

pub returns-clause-pushed : goal.returns-clause-pushed
returns-clause-pushed c = pushed_twice _ _ _ _ _ _ _ c.in_ok-push.ensures.pushed
    c.in_ok-push-2.ensures.pushed c.in_ok-manifest_file.ensures.value
    c.in_ok-source_file.ensures.value
