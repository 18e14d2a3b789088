-- A list of pairs that is walked from its end.
use Rattle.std.proofs.Common.{◌≡◌, List, [], ◌∷◌, ◌++◌, length, drop, sym, ap, ◌∙◌, append_assoc}
use Rattle.std.proofs.Math.Seq.{drop-append_seam}

module _ {X : Type 0} (all rest before : List X) (last : X) where
  whole_of : rest ++ drop (length rest) all ≡ all → rest ≡ before ++ last ∷ [] → before ++ last ∷ drop (length rest) all ≡ all
  whole_of whole is = sym (append_assoc before (last ∷ []) (drop (length rest) all)) ∙ ap (λ r. r ++ drop (length rest) all) (sym is) ∙ whole

  -- what is left behind the front is the last one, and then what was left
  pub drop-before : rest ++ drop (length rest) all ≡ all → rest ≡ before ++ last ∷ [] → drop (length before) all ≡ last ∷ drop (length rest) all
  drop-before whole is = ap (drop (length before)) (sym (whole_of whole is)) ∙ drop-append_seam before (last ∷ drop (length rest) all)

  pub whole-before : rest ++ drop (length rest) all ≡ all → rest ≡ before ++ last ∷ [] → before ++ drop (length before) all ≡ all
  whole-before whole is = ap (λ r. before ++ r) (drop-before whole is) ∙ whole_of whole is
