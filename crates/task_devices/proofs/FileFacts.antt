-- Files after a log was written.
use Rattle.std.proofs.Common.{◌≡◌, ℕ, List, sym, ap, ◌∙◌, inl, inr, Some}
use mathlib.Core.Path.{fun_ext}
use Rattle.std.proofs.lemmas.Bool.{cases_Bool, true≢false}
use Rattle.rel_path.specs.Paths.{Path, path_eq}
use Rattle.rel_path.specs.Files.{FileMap, SameBut}
use Rattle.rel_path.proofs.PathLaws.{path_same, path_self}
use Rattle.listing.specs.declared.part.Part.{Part}
use Rattle.run_laws.specs.Plans.{log_path}
use Rattle.run_laws.specs.Worlds.{logged}

pub logged_is : (part : Part) (log : List ℕ) (path : Path) (old new : FileMap)
    → path ≡ log_path part → SameBut path old new → new path ≡ Some log → new ≡ logged part log old
logged_is part log path old new is same written = fun_ext (λ q.
    elim (cases_Bool (path_eq q (log_path part))) [
      | inl e ↦ rw e (ap new (path_same q (log_path part) e ∙ sym is) ∙ written)
      | inr d ↦ rw d (same q (λ k. true≢false (sym (path_self q) ∙ ap (path_eq q) (k ∙ is) ∙ d)))
    ])
