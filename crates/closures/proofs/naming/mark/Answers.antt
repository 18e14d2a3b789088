use Rattle.std.proofs.Common.{List, ℕ, set, true, ap, ◌∙◌, get_or, [], rules}
use Rattle.std.proofs.lemmas.Fn.{always_returns_same}
use Rattle.rel_path.specs.Paths.{Path, path_cmp}
use Rattle.closures.proofs.Lookup.{searchable, marked_one, marked_none, tied}
use Rattle.closures.proofs.naming.mark.Goals as goal

pub returns-in-Ok-clause-marked : goal.returns-in-Ok-clause-marked
returns-in-Ok-clause-marked c = λ passes old.
    let files = c.args.files.now in
    let path = c.args.path.now in
    let d : Path × List ℕ = ([], []) in
    let found = c.in-Ok.ensures.position (λ (f : Path × List ℕ). path_cmp f.0 path) (always_returns_same _ _ _ (λ a r g h. (search rules, search rules))) in
    ap (λ ms. set ms c.in-Ok.place true) old ∙ marked_one passes files path c.in-Ok.place d c.requires.ascend c.in-Ok.ensures.bound (tied (get_or files c.in-Ok.place d).0 path (found d))

pub returns-in_default-clause-marked : goal.returns-in_default-clause-marked
returns-in_default-clause-marked c = λ passes old.
    let files = c.args.files.now in
    let path = c.args.path.now in
    let parts = c.in_default.ensures.position (λ (f : Path × List ℕ). path_cmp f.0 path) (always_returns_same _ _ _ (λ a r g h. (search rules, search rules))) in
    old ∙ marked_none passes files path c.in_default.field-0 (parts (searchable files path c.requires.ascend))
