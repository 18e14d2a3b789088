-- Sets in folders that go apart, and files that a set doesn't take.
use Rattle.std.proofs.Common.{◌≡◌, ℕ, Bool, true, false, not, cond, ◌&&◌, ◌||◌, List, [], ◌∷◌, ◌++◌, refl, sym, ap, ◌∙◌}
use Rattle.std.specs.Prelude.{Some, None}
use Rattle.std.specs.Cmp.{first_so, second_so}
use Rattle.std.specs.List.{list_all}
use Rattle.rel_path.specs.Paths.{Path, name_eq, path_eq}
use Rattle.rel_path.specs.Files.{file_at}
use Rattle.rel_path.proofs.PathLaws.{name_self, path_same}
use Rattle.globs.specs.declared.out_set.OutSet.{OutSet}
use Rattle.globs.specs.Outputs.{takes}
use Rattle.globs.specs.OutLaws.{takes_within, may_take-below}
use Rattle.spawn_dev.specs.declared.command.Command.{Command}
use Rattle.spawn_dev.specs.Effects.{may_read}
use Rattle.device_tests.specs.Apart.{go_apart}

-- no path lies below both
below_both : (one other path rest more : Path) → go_apart one other ≡ true → path ≡ one ++ rest → path ≡ other ++ more → ⊥
below_both [] other path rest more apart a b = cc
below_both (x ∷ xs) [] path rest more apart a b = cc
below_both (x ∷ xs) (y ∷ ys) path rest more apart a b =
    let heads : x ∷ (xs ++ rest) ≡ y ∷ (ys ++ more) = sym a ∙ b in
    let same : x ≡ y = cc in
    let is = ap (λ z. name_eq x z) (sym same) ∙ name_self x in
    cc

pub none_both : (one other : OutSet) (path : Path) → go_apart one.folder other.folder ≡ true → takes other path ≡ true → takes one path ≡ false
none_both one other path apart other_takes = by (takes one path) refl
  where
    by : (b : Bool) → takes one path ≡ b → b ≡ false
    by true e =
        let (n, ns, a) = may_take-below one.folder path (takes_within one path e) in
        let (m, ms, b) = may_take-below other.folder path (takes_within other path other_takes) in
        absurd (below_both one.folder other.folder path (n ∷ ns) (m ∷ ms) apart a b)
    by false e = refl

pub none_stand : (outs : OutSet) (files : List (Path × List ℕ)) → list_all (λ file. not (takes outs file.0)) files ≡ true → (path : Path) → takes outs path ≡ true → file_at files path ≡ None
none_stand outs [] clear path owned = refl
none_stand outs (f ∷ files) clear path owned =
    elim (path_eq f.0 path) as (λ b. path_eq f.0 path ≡ b → cond b (Some f.1) (file_at files path) ≡ None) [
      | true ↦ λ e. let here : takes outs f.0 ≡ true = ap (takes outs) (path_same f.0 path e) ∙ owned in
          let no = first_so (not (takes outs f.0)) (list_all (λ file. not (takes outs file.0)) files) clear in absurd (cc)
      | false ↦ λ e. none_stand outs files (second_so (not (takes outs f.0)) (list_all (λ file. not (takes outs file.0)) files) clear) path owned
    ] refl

-- a command without inputs may read nothing
pub reads_nothing : (command : Command) (path : Path) → command.above ≡ [] → command.reads ≡ [] → may_read command path ≡ false
reads_nothing command path above reads = rw (above, reads) refl
