-- Pairs that fit, put one after another.
use Rattle.std.proofs.Common.{◌≡◌, ◌≤◌, ◌<◌, ℕ, ◌-◌, Bool, true, List, [], ◌∷◌, ◌++◌, Some, refl, sym, ◌∙◌, ap, subst, arith, append_assoc}
use Rattle.std.specs.Prelude.{sum_by}
use Rattle.std.proofs.lemmas.Bool.{le-leb, lt-leb}
use Rattle.std.proofs.lemmas.List.{append-nil}
use Rattle.codes.specs.Codes.{Each}
use Rattle.cache_api.specs.Pairs.{Pair}
use Rattle.cache_api.specs.Cache.{ample}
use Rattle.record_log.specs.Kinds.{Entry}
use Rattle.record_log.specs.Texts.{ends_append}
use Rattle.pair_frames.specs.Puts.{put_frames, put_size, fit, added, kept}
use Rattle.pair_frames.specs.Laws.{AreTexts}
use Rattle.pair_frames.proofs.Sizes.{size_ample, sum_cons}
use Rattle.compact.specs.Room.{free_behind, lack, lacking, AllFit}

-- for none of them there is no room
abbrev pub all_true : List Pair → List Bool
all_true [] = []
all_true (pair ∷ pairs) = true ∷ all_true pairs

-- where the room is enough for any form of them
pub ample_fits : (pairs : List Pair) (room : ℕ) (fs : List Entry) → Each AreTexts pairs
    → sum_by ample pairs ≤ room → AllFit room fs pairs
ample_fits [] room fs texts le = tt
ample_fits (pair ∷ pairs) room fs texts le =
    let size = size_ample fs pair texts.0 in
    let sum = sum_cons ample pair pairs in (
      omega (arith, size, sum, le),
      ample_fits pairs (room - put_size fs pair) (fs ++ put_frames fs pair) texts.1 (omega (arith, size, sum, le)),
    )

-- all are put
pub fit_all : (pairs : List Pair) (room : ℕ) (fs : List Entry) → AllFit room fs pairs
    → fit room fs pairs ≡ all_true pairs
fit_all [] room fs fits = refl
fit_all (pair ∷ pairs) room fs fits =
    rw (le-leb (put_size fs pair) room fits.0)
    (ap (λ (l : List Bool). true ∷ l) (fit_all pairs (room - put_size fs pair) (fs ++ put_frames fs pair) fits.1))

pub kept_all : (pairs : List Pair) → kept (all_true pairs) pairs ≡ pairs
kept_all [] = refl
kept_all (pair ∷ pairs) = ap (λ (l : List Pair). pair ∷ l) (kept_all pairs)

-- what is left behind a pair
left_one : (fs : List Entry) (pair : Pair)
    → free_behind fs - put_size fs pair ≡ free_behind (fs ++ put_frames fs pair)
left_one fs pair = omega (arith, ends_append fs (put_frames fs pair))

-- one that fits
pub lacking_fits : (generation : ℕ) (fs : List Entry) (pair : Pair) (pairs : List Pair)
    → put_size fs pair ≤ free_behind fs
    → lacking generation fs (pair ∷ pairs) ≡ lacking generation (fs ++ put_frames fs pair) pairs
lacking_fits generation fs pair pairs fits = rw (le-leb (put_size fs pair) (free_behind fs) fits) refl

-- one that does not
pub lacking_not : (generation : ℕ) (fs : List Entry) (pair : Pair) (pairs : List Pair)
    → free_behind fs < put_size fs pair
    → lacking generation fs (pair ∷ pairs) ≡ Some (lack (put_size fs pair) (free_behind fs))
lacking_not generation fs pair pairs short =
    rw (lt-leb (put_size fs pair) (free_behind fs) short) refl

-- what lacks room behind them lacks it for all
pub lacking_all : (generation : ℕ) (pairs rest : List Pair) (room : ℕ) (fs : List Entry)
    → room ≡ free_behind fs → AllFit room fs pairs
    → lacking generation fs (pairs ++ rest) ≡ lacking generation (fs ++ added room fs pairs) rest
lacking_all generation [] rest room fs is fits =
    ap (λ (l : List Entry). lacking generation l rest) (sym (append-nil fs))
lacking_all generation (pair ∷ pairs) rest room fs is fits =
    let put = put_frames fs pair in
    let less = room - put_size fs pair in
    let left : less ≡ free_behind (fs ++ put) = ap (λ (n : ℕ). n - put_size fs pair) is ∙ left_one fs pair in
    let more = lacking_all generation pairs rest less (fs ++ put) left fits.1 in
    let now : added room fs (pair ∷ pairs) ≡ put ++ added less (fs ++ put) pairs =
    rw (le-leb (put_size fs pair) room fits.0) refl in
    lacking_fits generation fs pair (pairs ++ rest) (subst (λ (n : ℕ). put_size fs pair ≤ n) is fits.0)
    ∙ more
    ∙ ap (λ (l : List Entry). lacking generation l rest)
    (append_assoc fs put (added less (fs ++ put) pairs) ∙ ap (λ (l : List Entry). fs ++ l) (sym now))
