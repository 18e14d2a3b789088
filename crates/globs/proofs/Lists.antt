-- What a list takes, by its entries, and that the tests decide the relations.
use Rattle.std.proofs.Common.{◌≡◌, ◌↔◌, ◌&&◌, ◌||◌, ℕ, Bool, true, false, not, List, [], ◌∷◌, map, refl, ap, IsTrue}
use Rattle.std.specs.List.{list_any}
use Rattle.rel_path.specs.Paths.{Path}
use Rattle.wildcards.proofs.Decides.{and_decides}
use Rattle.glob_syntax.specs.declared.part.Part.{Part}
use Rattle.globs.specs.Match.{Matches, MatchesWhole, matches, matches_whole}
use Rattle.globs.specs.Lists.{is_excluded, glob_in, is_kind, AnyMatches, Takes, TakesWhole, list_matches, list_takes, list_takes_whole}
use Rattle.globs.specs.Entries.{entry_of, entries_of, match_as, any_matches, takes_entries}
use Rattle.globs.proofs.Decides.{any_decides, matches_decides, matches_whole_decides}

list_any-map : {X Y : Type 0} (p : Y → Bool) (f : X → Y) (xs : List X) → list_any p (map f xs) ≡ list_any (λ x. p (f x)) xs
list_any-map p f [] = refl
list_any-map p f (x ∷ xs) = ap (λ rest. p (f x) || rest) (list_any-map p f xs)

pub takes_entries-list_takes : (texts : List (List ℕ)) (path : Path) → takes_entries false (entries_of texts) path ≡ list_takes texts path
unfolding takes_entries any_matches list_takes
takes_entries-list_takes texts path = rw (list_any-map (λ entry. is_kind entry.excluded false && match_as false entry.glob path) entry_of texts, list_any-map (λ entry. is_kind entry.excluded true && match_as false entry.glob path) entry_of texts) refl

pub takes_entries-list_takes_whole : (texts : List (List ℕ)) (path : Path) → takes_entries true (entries_of texts) path ≡ list_takes_whole texts path
unfolding takes_entries any_matches list_takes_whole
takes_entries-list_takes_whole texts path = rw (list_any-map (λ entry. is_kind entry.excluded false && match_as true entry.glob path) entry_of texts, list_any-map (λ entry. is_kind entry.excluded true && match_as true entry.glob path) entry_of texts) refl

-- ---- the tests decide the relations
kind_decides : (b excluded : Bool) → IsTrue (is_kind b excluded) ↔ (b ≡ excluded)
kind_decides b true = (λ t. t, λ e. e)
kind_decides true false = (λ t. cc, λ e. cc)
kind_decides false false = (λ t. refl, λ e. refl)

pub not_decides : {P : Type 0} (a : Bool) → IsTrue a ↔ P → IsTrue (not a) ↔ (¬ P)
not_decides true f = (λ t. cc, λ never. absurd (never (f.0 refl)))
not_decides false f = (λ t p. absurd (let e = f.1 p in cc), λ never. refl)

matches_list_decides : (match : List (List Part) → Path → Bool) (Match : List (List Part) → Path → Type 0) → ((glob : List (List Part)) (path : Path) → IsTrue (match glob path) ↔ Match glob path) → (excluded : Bool) (texts : List (List ℕ)) (path : Path) → IsTrue (list_matches match excluded texts path) ↔ AnyMatches Match excluded texts path
unfolding AnyMatches
matches_list_decides match Match h excluded texts path =
    any_decides (λ text. is_kind (is_excluded text) excluded && match (glob_in text) path) (λ text. (is_excluded text ≡ excluded) × Match (glob_in text) path)
    (λ text. and_decides (is_kind (is_excluded text) excluded) (match (glob_in text) path) (kind_decides (is_excluded text) excluded) (h (glob_in text) path)) texts

pub list_takes_decides : (texts : List (List ℕ)) (path : Path) → IsTrue (list_takes texts path) ↔ Takes texts path
unfolding list_takes Takes
list_takes_decides texts path =
    and_decides (list_matches matches false texts path) (not (list_matches matches true texts path)) (matches_list_decides matches Matches matches_decides false texts path)
    (not_decides (list_matches matches true texts path) (matches_list_decides matches Matches matches_decides true texts path))

pub list_takes_whole_decides : (texts : List (List ℕ)) (path : Path) → IsTrue (list_takes_whole texts path) ↔ TakesWhole texts path
unfolding list_takes_whole TakesWhole
list_takes_whole_decides texts path =
    and_decides (list_matches matches_whole false texts path) (not (list_matches matches_whole true texts path)) (matches_list_decides matches_whole MatchesWhole matches_whole_decides false texts path)
    (not_decides (list_matches matches_whole true texts path) (matches_list_decides matches_whole MatchesWhole matches_whole_decides true texts path))
