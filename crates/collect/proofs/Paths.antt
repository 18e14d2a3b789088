-- Walked paths.
use Rattle.std.proofs.Common.{◌≡◌, ℕ, zero, suc, ◌<◌, Bool, true, false, ◌||◌, ◌&&◌, List, [], ◌∷◌, length, get_or, filter, map, refl, sym, ap, ◌∙◌, arith}
use Rattle.std.specs.Prelude.{not}
use Rattle.rel_path.specs.Paths.{Path, path_eq, is_among}
use Rattle.rel_path.proofs.PathLaws.{path_self}
use Rattle.workspaces.specs.declared.member.Package.{Package}
use Rattle.task_definitions.specs.Setup.{Setup}
use Rattle.task_inputs.specs.Homes.{Home, home_of, declared_in}
use Rattle.task_inputs.specs.Ignores.{is_ignore_file, rule_files}

or_true : (b : Bool) → (b || true) ≡ true
or_true true = refl
or_true false = refl

pub among_at : (paths : List Path) (i : ℕ) (p : Path) → i < length paths → p ≡ get_or paths i p → is_among paths p ≡ true
among_at [] i p lt at = absurd (omega arith)
among_at (x ∷ xs) zero p lt at = ap (λ y. path_eq y p || is_among xs p) (sym at) ∙ ap (λ b. b || is_among xs p) (path_self p)
among_at (x ∷ xs) (suc i) p lt at = ap (λ b. path_eq x p || b) (among_at xs i p (omega arith) at) ∙ or_true (path_eq x p)

pub rules_are : (setup : Setup) (packages : List Package) (walk : List Path) (declared : List Home) → declared ≡ map (home_of setup) packages → filter (λ path. is_ignore_file path && not (declared_in declared path)) walk ≡ rule_files setup packages walk
unfolding rule_files
rules_are setup packages walk declared e = ap (λ homes. filter (λ path. is_ignore_file path && not (declared_in homes path)) walk) e
