-- Lists of files as file maps.
use Rattle.std.proofs.Common.{◌≡◌, ℕ, not, cond, Bool, true, false, List, [], ◌∷◌, ◌++◌, refl, sym, ap, ◌∙◌, inl, inr, Option, None}
use Rattle.std.specs.Prelude.{filter}
use Rattle.std.proofs.lemmas.Bool.{cases_Bool}
use Rattle.rel_path.specs.Paths.{Path, path_eq}
use Rattle.rel_path.specs.Files.{file_at, over}
use Rattle.rel_path.proofs.PathLaws.{path_same}
use Rattle.globs.specs.declared.out_set.OutSet.{OutSet}
use Rattle.globs.specs.Outputs.{takes}
use Rattle.globs.specs.OwnedFiles.{cleared}

abbrev nothing : Option (List ℕ)
nothing = None

none-either : (b : Bool) → nothing ≡ cond b nothing nothing
none-either true = refl
none-either false = refl

pub cleared-is : (outs : OutSet) (files : List (Path × List ℕ)) (path : Path) → file_at (filter (λ f. not (takes outs f.0)) files) path ≡ cleared outs (file_at files) path
cleared-is outs [] path = none-either (takes outs path)
cleared-is outs (f ∷ files) path =
    let more = cleared-is outs files path in
    elim (cases_Bool (path_eq f.0 path)) [
      | inl e ↦
          let same = ap (takes outs) (path_same f.0 path e) in
          elim (cases_Bool (takes outs f.0)) [
            | inl t ↦ let u = sym same ∙ t in rw (t, e, u) (more ∙ rw u refl)
            | inr n ↦ let u = sym same ∙ n in rw (n, e, u) refl
          ]
      | inr d ↦
          elim (cases_Bool (takes outs f.0)) [
            | inl t ↦ rw (t, d) more
            | inr n ↦ rw (n, d) more
          ]
    ]

pub over-append : (above below : List (Path × List ℕ)) (path : Path) → file_at (above ++ below) path ≡ over (file_at below) (file_at above) path
over-append [] below path = refl
over-append (f ∷ above) below path =
    elim (cases_Bool (path_eq f.0 path)) [
      | inl e ↦ rw e refl
      | inr d ↦ rw d (over-append above below path)
    ]
