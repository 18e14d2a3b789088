-- Which paths the tasks own and share.
use Rattle.std.proofs.Common.{◌≡◌, ℕ, List, [], ◌∷◌, ◌++◌, Bool, true, false, ◌&&◌, refl, sym, ap, ◌∙◌, subst, inl, inr}
use Rattle.std.specs.Prelude.{Option, Some, None}
use Rattle.std.specs.Str.{chars}
use Rattle.std.proofs.lemmas.Bool.{or_cases, and_parts, false≢true}
use Rattle.rel_path.specs.Paths.{Path, path_eq, is_among, strip}
use Rattle.rel_path.proofs.PathLaws.{path_same, strip_is}
use Rattle.glob_syntax.specs.Reading.{glob_from}
use Rattle.glob_syntax.specs.Match.{spells_name}
use Rattle.globs.specs.Match.{matches}
use Rattle.globs.specs.Lists.{list_takes}
use Rattle.globs.specs.Outputs.{takes, shares, declares_below, declares, any_declares}
use Rattle.run_laws.specs.Closures.{names}
use Rattle.example_run.specs.Example.{ui, web, folder_of, manifest_of, source_of, outs_of, listing}

-- what a task owns lies below its folder
pub owned_below : (name : List ℕ) (path : Path) → takes (outs_of name) path ≡ true
    → (rest : Path) × (path ≡ folder_of name ++ rest)
unfolding takes
owned_below name path owned =
    by (strip (folder_of name) path) refl (and_parts (declares (outs_of name).mine (folder_of name) path) _ owned).0
  where
    by : (o : Option Path) → strip (folder_of name) path ≡ o
        → declares_below (outs_of name).mine o ≡ true → (rest : Path) × (path ≡ folder_of name ++ rest)
    by None e h = absurd (false≢true h)
    by (Some rest) e h = (rest, strip_is (folder_of name) path rest e)

-- in the folder of the other package it owns nothing
other_web : (rest : Path) → takes (outs_of web) (folder_of ui ++ rest) ≡ false
unfolding takes
other_web rest = refl

other_ui : (rest : Path) → takes (outs_of ui) (folder_of web ++ rest) ≡ false
unfolding takes
other_ui rest = refl

pub web_apart : (path : Path) → takes (outs_of ui) path ≡ true → takes (outs_of web) path ≡ false
web_apart path owned =
    let w = owned_below ui path owned in ap (takes (outs_of web)) w.1 ∙ other_web w.0

pub ui_apart : (path : Path) → takes (outs_of web) path ≡ true → takes (outs_of ui) path ≡ false
ui_apart path owned =
    let w = owned_below web path owned in ap (takes (outs_of ui)) w.1 ∙ other_ui w.0

-- no package has another task, and so nothing is shared
pub none_shared : (name : List ℕ) (path : Path) → shares (outs_of name) path ≡ false
unfolding shares any_declares
none_shared name path = none (declares (outs_of name).mine (folder_of name) path)
  where
    none : (b : Bool) → (b && false) ≡ false
    none true = refl
    none false = refl

-- ---- inputs

-- what holds of the four inputs holds of each
pub each_input : (P : Path → Type 0) → P (manifest_of ui) → P (source_of ui) → P (manifest_of web)
    → P (source_of web) → (path : Path) → names listing.parts path ≡ true → P path
each_input P a b c d path named =
    elim (or_cases (is_among (manifest_of ui ∷ source_of ui ∷ []) path) _ named) [
      | inl h ↦ of_two (manifest_of ui) (source_of ui) a b h
      | inr h ↦ elim (or_cases (is_among (manifest_of web ∷ source_of web ∷ []) path) false h) [
        | inl k ↦ of_two (manifest_of web) (source_of web) c d k
        | inr k ↦ absurd (false≢true k)
      ]
    ]
  where
    of_two : (x y : Path) → P x → P y → is_among (x ∷ y ∷ []) path ≡ true → P path
    of_two x y p q among =
        elim (or_cases (path_eq x path) _ among) [
          | inl h ↦ subst P (path_same x path h) p
          | inr h ↦ elim (or_cases (path_eq y path) false h) [
            | inl k ↦ subst P (path_same y path k) q
            | inr k ↦ absurd (false≢true k)
          ]
        ]

input_of_ui : (path : Path) → names listing.parts path ≡ true → takes (outs_of ui) path ≡ false
unfolding takes list_takes chars matches glob_from spells_name any_declares
input_of_ui = each_input (λ path. takes (outs_of ui) path ≡ false) refl refl refl refl

input_of_web : (path : Path) → names listing.parts path ≡ true → takes (outs_of web) path ≡ false
unfolding takes list_takes chars matches glob_from spells_name any_declares
input_of_web = each_input (λ path. takes (outs_of web) path ≡ false) refl refl refl refl

unnamed : (name : List ℕ) → ((path : Path) → names listing.parts path ≡ true → takes (outs_of name) path ≡ false)
    → (path : Path) → takes (outs_of name) path ≡ true → names listing.parts path ≡ false
unnamed name none path owned = by (names listing.parts path) refl
  where
    by : (b : Bool) → names listing.parts path ≡ b → b ≡ false
    by true e = absurd (false≢true (sym (none path e) ∙ owned))
    by false e = refl

-- no task owns an input
pub no_input_ui : (path : Path) → takes (outs_of ui) path ≡ true → names listing.parts path ≡ false
no_input_ui = unnamed ui input_of_ui

pub no_input_web : (path : Path) → takes (outs_of web) path ≡ true → names listing.parts path ≡ false
no_input_web = unnamed web input_of_web
