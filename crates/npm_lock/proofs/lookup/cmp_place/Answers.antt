use Rattle.std.proofs.Common.{◌≡◌, None, Some, ◌∙◌, ap, sym, ◌++◌, ℕ, List, [], ◌∷◌, codes, refl, length, ◌==◌, false}
use Rattle.std.proofs.lemmas.Bool.Decides.{Decides-eqb}
use Rattle.std.proofs.lemmas.Slice.Eq.{strip_prefix_is}
use Rattle.rel_path.specs.Paths.{name_cmp}
use Rattle.npm_lock.specs.Lookup.{place_in}
use Rattle.npm_lock.proofs.Joined.{cmp_front, cmp_rest}
use Rattle.npm_lock.proofs.lookup.cmp_place.Goals as goal

below : (name folder : List ℕ) → (length folder == 0) ≡ false → folder ++ (codes "/node_modules/" ++ name) ≡ place_in name folder
below name [] e = absurd (cc)
below name (f ∷ fs) e = refl

pub returns-in-None : goal.returns-in-None
returns-in-None c =
    let place = below c.args.name.now c.args.folder.now (sym c.is_empty.ensures ∙ c.if-is_empty.false) in
    c.cmp.ensures ∙ cmp_front c.args.location.now c.args.folder.now _ (strip_prefix_is Decides-eqb c.args.location.now c.args.folder.now None c.in-None.ensures.cases) ∙ ap (name_cmp c.args.location.now) place

pub returns-in-Some : goal.returns-in-Some
returns-in-Some c =
    let place = below c.args.name.now c.args.folder.now (sym c.is_empty.ensures ∙ c.if-is_empty.false) in
    let is = strip_prefix_is Decides-eqb c.args.location.now c.args.folder.now (Some c.in-Some.rest) c.in-Some.ensures.cases in
    c.cmp_joined-in-Some.ensures ∙ cmp_rest c.args.folder.now c.in-Some.rest.now (codes "/node_modules/" ++ c.args.name.now) ∙ ap (λ t. name_cmp t (c.args.folder.now ++ (codes "/node_modules/" ++ c.args.name.now))) (sym is) ∙ ap (name_cmp c.args.location.now) place
