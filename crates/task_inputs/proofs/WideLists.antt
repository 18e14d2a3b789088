-- Lists of inputs, and the places of what their globs of the root match.
use Rattle.std.proofs.Common.{◌≡◌, ◌&&◌, ◌||◌, Bool, true, false, ℕ, ◌<◌, List, [], ◌∷◌, ◌++◌, length, get_or, refl, sym, ap, ◌∙◌, arith}
use Rattle.std.specs.Prelude.{Option, Some, None, position}
use Rattle.std.specs.List.{slice_get, list_any}
use Rattle.std.proofs.Math.ListN.{length-append}
use Rattle.std.proofs.lemmas.List.Quantifiers.{position-Some}
use Rattle.std.proofs.lemmas.Option.{slice_get-get_or}
use Rattle.rel_path.specs.Paths.{Path}
use Rattle.rel_path.proofs.PathLaws.{path_same}
use Rattle.globs.specs.Match.{matches}
use Rattle.workspaces.specs.Lists.{places}
use Rattle.input_entries.specs.declared.entries.InputGlob.{InputGlob}
use Rattle.input_entries.specs.declared.entries.InputList.{InputList}
use Rattle.task_inputs.specs.declared.wide.Wide.{Wide}
use Rattle.input_entries.specs.Entries.{entries_of, is_wide, any_wide}
use Rattle.task_inputs.specs.Facts.{IsList, is_wide_list}
use Rattle.task_inputs.specs.WideLists.{AreWide, has_inputs, places_of, places_by, wide_by}
use Rattle.task_inputs.proofs.Places.{each_at, none_pass}

get_last : (lists : List Wide) (w : Wide) → slice_get (lists ++ w ∷ []) (length lists) ≡ Some w
get_last [] w = refl
get_last (v ∷ vs) w = get_last vs w

module _ (walk : List Path) where
  abbrev IsRight : Wide → Type 0
  IsRight w = w.places.items ≡ places (any_wide (entries_of w.inputs)) walk

  -- the list that was found has these inputs
  pub known_right : (lists : List Wide) (inputs : List (List ℕ)) (number : ℕ) → AreWide walk lists → position (has_inputs inputs) lists ≡ Some number → (number < length lists) × (places_by lists (Some number) ≡ places (any_wide (entries_of inputs)) walk)
  known_right [] inputs number all e = cc
  known_right (d ∷ ws) inputs number all e =
      let at = position-Some (has_inputs inputs) (d ∷ ws) number d e in
      let less : number < length (d ∷ ws) = at.0 in
      let same : (get_or (d ∷ ws) number d).inputs ≡ inputs = path_same (get_or (d ∷ ws) number d).inputs inputs at.1 in
      (less, ap places_of (slice_get-get_or (d ∷ ws) number d less) ∙ each_at IsRight (d ∷ ws) number d less all ∙ ap (λ (ts : List (List ℕ)). places (any_wide (entries_of ts)) walk) same)

-- the list that was put there comes last
pub put_last : (old new : List Wide) (w : Wide) → new ≡ old ++ w ∷ [] → (length old < length new) × (places_by new (Some (length old)) ≡ w.places.items)
put_last old new w is = (omega (arith, ap length is, length-append old (w ∷ [])), ap (λ (ws : List Wide). places_by ws (Some (length old))) is ∙ ap places_of (get_last old w))

-- ---- lists with no glob of the root

none_wide : (entries : List InputGlob) (path : Path) → list_any is_wide entries ≡ false → any_wide entries path ≡ false
unfolding any_wide
none_wide [] path none = refl
none_wide (entry ∷ entries) path none = by (is_wide entry) (list_any is_wide entries) refl none (none_wide entries path) where
  by : (w more : Bool) → list_any is_wide entries ≡ more → (w || more) ≡ false → (list_any is_wide entries ≡ false → any_wide entries path ≡ false) → ((w && matches entry.glob path) || any_wide entries path) ≡ false
  by true more e f rest = cc
  by false more e f rest = rest (e ∙ f)

-- they match nothing
pub thin_places : (walk : List Path) (read : Option InputList) → is_wide_list read ≡ false → [] ≡ places (wide_by read) walk
thin_places walk read thin = sym (none_pass (wide_by read) walk (λ path. by read path thin)) where
  by : (r : Option InputList) (path : Path) → is_wide_list r ≡ false → wide_by r path ≡ false
  by None path e = refl
  by (Some list) path e = none_wide list.globs.items path e

-- nor does the default set
pub default_places : (walk : List Path) (inputs : Option (List (List ℕ))) (read : Option InputList) → IsList inputs read → inputs ≡ None → [] ≡ places (wide_by read) walk
default_places walk None None list e = thin_places walk None refl
default_places walk None (Some read) list e = absurd list
default_places walk (Some texts) read list e = cc
