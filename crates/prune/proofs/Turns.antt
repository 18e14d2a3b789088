-- One turn of copying.
use Rattle.std.proofs.Common.{◌≡◌, ◌<◌, ◌+◌, ℕ, true, List, [], ◌∷◌, ◌++◌, length, get_or, take, refl, sym, ap, ◌∙◌, subst, arith}
use Rattle.std.specs.Prelude.{Option, Some, None, Ok, Err}
use Rattle.std.specs.List.{AllByRecursion}
use Rattle.std.specs.List.Sorted.{IsStrictlySortedBy}
use Rattle.std.proofs.lemmas.Bool.{false≢true}
use Rattle.std.proofs.lemmas.List.{take_all}
use Rattle.std.proofs.lemmas.Option.{slice_get-get_or}
use Rattle.rel_path.specs.Paths.{Path, path_cmp}
use Rattle.rel_path.specs.Files.{FileMap, SameBut}
use Rattle.prune.specs.declared.error.PruneErr.{PruneErr}
use Rattle.prune.specs.declared.error.PruneErr.TheVariants.{NoPackage, OutTaken, Missing, TooLarge, TreeFailed, SinkFailed, OutOfMemory}
use Rattle.workspaces.specs.Space.{lies_below}
use Rattle.prune.specs.Folders.{out_folder, is_over, first_over}
use Rattle.prune.specs.Steps.{IsOut, IsOutside, IsSame, source, copied, copied_before, SameElsewhere, Copies, CopiesAll}
use Rattle.collect.proofs.Lists.{found_at, not_at}
use Rattle.prune.proofs.Targets.{below_out}
use Rattle.prune.proofs.Copied.{all_at, all_take, copied_outside, copied_more, copied_ahead, unchanged_at}

module _ (text : Option (List ℕ)) (folder : Path) (paths : List Path) (old : FileMap) (out : IsOut folder) (all : AllByRecursion IsOutside paths) where
  -- elsewhere nothing changed so far
  pub so_far : (i : ℕ) (now : FileMap) → IsSame now (copied text folder (take i paths) old) → SameElsewhere old now
  so_far i now was path outside = was path ∙ copied_outside text folder (take i paths) old path out (all_take IsOutside paths i all) outside

  pub elsewhere : (now : FileMap) → IsSame now (copied text folder paths old) → SameElsewhere old now
  elsewhere now was path outside = was path ∙ copied_outside text folder paths old path out all outside

  pub all_of : (i : ℕ) (now : FileMap) → length paths ≡ i → IsSame now (copied text folder (take i paths) old) → IsSame now (copied text folder paths old)
  all_of i now e was = subst (λ ps. IsSame now (copied text folder ps old)) (take_all i paths (omega (arith, e))) was

  module _ (i : ℕ) (p : Path) (now new : FileMap) (lt : i < length paths) (at : p ≡ get_or paths i p) (was : IsSame now (copied text folder (take i paths) old)) where
    is_below : (q : Path) → IsOutside q → lies_below (folder ++ q) out_folder ≡ true
    is_below [] its = absurd (its.inner refl)
    is_below (name ∷ names) its = below_out folder name names out

    pub still : SameBut (folder ++ p) now new → SameElsewhere old new
    still others path outside = others path (λ is. false≢true (sym outside ∙ ap (λ q. lies_below q out_folder) is ∙ is_below p (all_at IsOutside paths i p lt at all))) ∙ so_far i now was path outside

    over_is : is_over now p ≡ is_over old p
    over_is = unchanged_at text folder paths i p old now out all lt at was

    pub next : {u : Unit {0}} → first_over old (take i paths) ≡ None → Copies folder p (is_over now p) (source text now p) now new (Ok u) → (first_over old (take (i + 1) paths) ≡ None) × IsSame new (copied text folder (take (i + 1) paths) old)
    next none one =
        (not_at (is_over old) paths i p lt none (ap (is_over old) (sym at) ∙ sym over_is ∙ one.0), copied_more text folder paths i p old now new out all lt at was one.1)

    pub stops : (e : PruneErr) → IsStrictlySortedBy path_cmp paths → first_over old (take i paths) ≡ None → Copies folder p (is_over now p) (source text now p) now new (Err e) → CopiesAll text folder paths old new (Err e)
    stops (NoPackage name) up none one = absurd one
    stops (OutTaken path) up none one = absurd one
    stops (Missing from name) up none one = absurd one
    stops (TooLarge stop) up none one = (
      found_at (is_over old) paths i p lt none (ap (is_over old) (sym at) ∙ sym over_is ∙ one.1.0) ∙ slice_get-get_or paths i p lt ∙ ap Some (sym at ∙ sym one.0),
      subst (λ s. IsSame new (copied_before text folder paths s old)) (sym one.0) (subst (λ files. IsSame files (copied_before text folder paths p old)) (sym one.1.1) (copied_ahead text folder paths i p old now up lt at was)),
    )
    stops TreeFailed up none one = tt
    stops SinkFailed up none one = absurd one
    stops OutOfMemory up none one = tt
