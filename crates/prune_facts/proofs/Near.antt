-- Whether a path is ignored turns on the rules of the folders above it alone.
use Rattle.std.proofs.Common.{◌≡◌, Bool, false, ◌||◌, List, [], ◌∷◌, ◌++◌, refl, sym, ap, ◌∙◌, append_assoc}
use Rattle.std.specs.Prelude.{ℕ, unwrap_or}
use Rattle.std.specs.Option.{option_or}
use Rattle.rel_path.specs.Paths.{Path}
use Rattle.ignore_rules.specs.declared.rule.Rule.{Rule}
use Rattle.ignore_rules.specs.Ignored.{says, verdict, leaves_out, left_out_below, is_ignored}

-- the same rules in each folder above the path
abbrev pub AgreeAbove : (Path → List Rule) → (Path → List Rule) → Path → Type 0
AgreeAbove rules others path = (folder : Path) (name : List ℕ) (rest : Path) → path ≡ folder ++ name ∷ rest → rules folder ≡ others folder

or_same : (a b c d : Bool) → a ≡ b → c ≡ d → (a || c) ≡ (b || d)
or_same a b c d e f = λ j. e j || f j

module _ (rules others : Path → List Rule) where
  same_verdict : (is_folder : Bool) (above below : Path) → AgreeAbove rules others (above ++ below) → verdict rules is_folder above below ≡ verdict others is_folder above below
  unfolding verdict
  same_verdict is_folder above [] agree = refl
  same_verdict is_folder above (name ∷ below) agree =
      let here = agree above name below refl in
      let further = same_verdict is_folder (above ++ name ∷ []) below (λ folder next rest e. agree folder next rest (sym (append_assoc above (name ∷ []) below) ∙ e)) in
      λ j. option_or (further j) (says is_folder (name ∷ below) (here j))

  same_leaving : (is_folder : Bool) (path : Path) → AgreeAbove rules others path → leaves_out rules is_folder path ≡ leaves_out others is_folder path
  unfolding leaves_out
  same_leaving is_folder path agree = ap (λ o. unwrap_or o false) (same_verdict is_folder [] path agree)

  same_below : (above below : Path) → AgreeAbove rules others (above ++ below) → left_out_below rules above below ≡ left_out_below others above below
  unfolding left_out_below
  same_below above [] agree = refl
  same_below above (name ∷ below) agree =
      let here : (is_folder : Bool) → leaves_out rules is_folder (above ++ name ∷ []) ≡ leaves_out others is_folder (above ++ name ∷ []) =
      λ is_folder. same_leaving is_folder (above ++ name ∷ []) (λ folder next rest e. agree folder next (rest ++ below) (sym (append_assoc above (name ∷ []) below) ∙ ap (λ p. p ++ below) e ∙ append_assoc folder (next ∷ rest) below)) in
      let further = same_below (above ++ name ∷ []) below (λ folder next rest e. agree folder next rest (sym (append_assoc above (name ∷ []) below) ∙ e)) in
      or_same _ _ _ _ (here _) further

  pub same_ignored : (path : Path) → AgreeAbove rules others path → is_ignored rules path ≡ is_ignored others path
  unfolding is_ignored
  same_ignored path agree = same_below [] path agree
