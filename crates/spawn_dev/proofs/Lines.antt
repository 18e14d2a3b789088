-- A text that grows piece by piece, and the lines that it then has.
use Rattle.std.proofs.Common.{◌≡◌, ℕ, ◌<◌, List, [], ◌∷◌, ◌++◌, length, ap, sym, ◌∙◌, append_assoc, codes, refl, arith}
use Rattle.std.specs.List.{join_with_byte}
use Rattle.rel_path.specs.Paths.{Path}
use Rattle.spawn_dev.specs.ShellText.{line, quote, folder_line}

-- three pieces and a newline make a line
pub line-of_three : (text a b c : List ℕ) → ((text ++ a) ++ b) ++ (c ++ 10 ∷ []) ≡ text ++ line (a ++ (b ++ c))
line-of_three text a b c =
    append_assoc (text ++ a) b (c ++ 10 ∷ []) ∙ append_assoc text a (b ++ (c ++ 10 ∷ []))
    ∙ ap (λ x. text ++ (a ++ x)) (sym (append_assoc b c (10 ∷ []))) ∙ ap (λ x. text ++ x) (sym (append_assoc a (b ++ c) (10 ∷ [])))

-- the line of a folder below the root
pub folder_line-below : (folder : Path) → 0 < length folder → folder_line folder ≡ line (codes "cd " ++ (quote (codes "./" ++ join_with_byte 47 folder) ++ codes " || exit 127"))
folder_line-below [] some = absurd (omega (arith, some))
folder_line-below (name ∷ names) some = refl

pub five : (a b c d e : List ℕ) → (((a ++ b) ++ c) ++ d) ++ e ≡ a ++ (b ++ (c ++ (d ++ e)))
five a b c d e = append_assoc ((a ++ b) ++ c) d e ∙ append_assoc (a ++ b) c (d ++ e) ∙ append_assoc a b (c ++ (d ++ e))
