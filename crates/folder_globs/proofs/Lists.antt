-- The laws: what one exclusion does, and the exclusions of folders behind a list.
use Rattle.std.proofs.Common.{◌≡◌, ◌+◌, ◌&&◌, ◌||◌, ℕ, Bool, true, false, not, List, [], ◌∷◌, map, refl, sym, ◌∙◌, ap, None}
use Rattle.std.specs.List.{AllByRecursion, list_any}
use Rattle.std.proofs.lemmas.Bool.{and_parts, or_parts, or_from, both_ways, false_from_ne_true, not-true}
use Rattle.std.proofs.lemmas.List.Folds.{list_any-append}
use Rattle.rel_path.specs.Paths.{Path}
use Rattle.glob_syntax.specs.Match.{spells_path}
use Rattle.globs.specs.Match.{matches}
use Rattle.globs.specs.Lists.{begins_excluded, glob_behind, fault_behind, is_excluded, glob_in, fault_in, is_kind, at_index, list_fault, list_matches, list_takes}
use Rattle.folder_globs.specs.Exclusions.{exclusion, lies_below, AreTexts, IsFolder}
use Rattle.folder_globs.specs.Laws.{ExclusionLaw, without, lies_below_any, ListLaw}
use Rattle.folder_globs.proofs.Characters.{chars_exclusion}
use Rattle.folder_globs.proofs.Names.{folder_chars}
use Rattle.folder_globs.proofs.Reading.{folder_parts, read_below, sound_below}
use Rattle.folder_globs.proofs.Matching.{texts_of, below_taken, taken_is_below, matches_folder}

-- ---- one folder
glob_of : (folder : Path) → IsFolder folder → glob_in (exclusion folder) ≡ folder_parts (texts_of folder) ∷ []
glob_of folder h = ap glob_behind (chars_exclusion folder h.texts) ∙ read_below 1 (texts_of folder) (folder_chars folder h.names h.texts)

fault_of : (folder : Path) → IsFolder folder → fault_in (exclusion folder) ≡ None
fault_of folder h = ap fault_behind (chars_exclusion folder h.texts) ∙ sound_below 1 (texts_of folder) (folder_chars folder h.names h.texts)

pub exclusion_law : ExclusionLaw
exclusion_law folder h = record {
  readable = fault_of folder h;
  excludes = ap begins_excluded (chars_exclusion folder h.texts);
  below = λ path e. matched path ∙ below_taken folder path e;
  only = λ path texts. matched path ∙ taken_is_below folder path h.texts texts;
}
  where
    matched : (path : Path) → matches (glob_in (exclusion folder)) path ≡ spells_path (folder_parts (texts_of folder)) path
    matched path = ap (λ glob. matches glob path) (glob_of folder h) ∙ matches_folder (texts_of folder) path

-- ---- a list
fault_without : (index : ℕ) (globs : List (List ℕ)) (folders : List Path) → AllByRecursion IsFolder folders → list_fault index (without globs folders) ≡ list_fault index globs
fault_without index [] [] h = refl
fault_without index [] (folder ∷ folders) h = rw ((exclusion_law folder h.0).readable) (fault_without (index + 1) [] folders h.1)
fault_without index (glob ∷ globs) folders h = ap (at_index index (fault_in glob)) (fault_without (index + 1) globs folders h)

-- the exclusions take no path in
none_takes : (folders : List Path) (path : Path) → AllByRecursion IsFolder folders → list_matches matches false (map exclusion folders) path ≡ false
none_takes [] path h = refl
none_takes (folder ∷ folders) path h = rw ((exclusion_law folder h.0).excludes) (none_takes folders path h.1)

-- one of the exclusions matches
abbrev excluded_by : List Path → Path → Bool
excluded_by folders path = list_any (λ folder. matches (glob_in (exclusion folder)) path) folders

each_excludes : (folders : List Path) (path : Path) → AllByRecursion IsFolder folders → list_matches matches true (map exclusion folders) path ≡ excluded_by folders path
each_excludes [] path h = refl
each_excludes (folder ∷ folders) path h = rw ((exclusion_law folder h.0).excludes, each_excludes folders path h.1) refl

matches_without : (excluded : Bool) (globs : List (List ℕ)) (folders : List Path) (path : Path) → list_matches matches excluded (without globs folders) path ≡ (list_matches matches excluded globs path || list_matches matches excluded (map exclusion folders) path)
matches_without excluded globs folders path = list_any-append (λ text. is_kind (is_excluded text) excluded && matches (glob_in text) path) globs (map exclusion folders)

regroup : (a b c : Bool) → ((a || false) && not (b || c)) ≡ ((a && not b) && not c)
regroup false b c = refl
regroup true true c = refl
regroup true false c = refl

takes_without : (globs : List (List ℕ)) (folders : List Path) (path : Path) → AllByRecursion IsFolder folders → list_takes (without globs folders) path ≡ (list_takes globs path && not (excluded_by folders path))
unfolding list_takes
takes_without globs folders path h =
    rw (matches_without false globs folders path, matches_without true globs folders path, none_takes folders path h, each_excludes folders path h)
    (regroup (list_matches matches false globs path) (list_matches matches true globs path) (excluded_by folders path))

below_none : (folders : List Path) (path : Path) → AllByRecursion IsFolder folders → excluded_by folders path ≡ false → lies_below_any path folders ≡ false
below_none [] path h e = refl
below_none (folder ∷ folders) path h e =
    let both = or_parts (matches (glob_in (exclusion folder)) path) (excluded_by folders path) e in
    or_from (lies_below path folder) (lies_below_any path folders) (false_from_ne_true (lies_below path folder) (λ t. both_ways (matches (glob_in (exclusion folder)) path) both.0 ((exclusion_law folder h.0).below path t))) (below_none folders path h.1 both.1)

below_same : (folders : List Path) (path : Path) → AllByRecursion IsFolder folders → AreTexts path → excluded_by folders path ≡ lies_below_any path folders
below_same [] path h texts = refl
below_same (folder ∷ folders) path h texts = rw ((exclusion_law folder h.0).only path texts, below_same folders path h.1 texts) refl

pub list_law : ListLaw
list_law globs folders h = record {
  fault = fault_without 0 globs folders h;
  taken = λ path e.
      let both = and_parts (list_takes globs path) (not (excluded_by folders path)) (sym (takes_without globs folders path h) ∙ e) in
      (both.0, below_none folders path h (not-true (excluded_by folders path) both.1));
  exactly = λ path texts. takes_without globs folders path h ∙ ap (λ b. list_takes globs path && not b) (below_same folders path h texts);
}
