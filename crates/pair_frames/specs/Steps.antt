-- Several pairs one after another: those that are done, and those behind them.
use Rattle.std.proofs.Common.{◌≡◌, ℕ, ◌-◌, ◌≤◌, ◌<◌, Bool, true, false, cond, List, [], ◌∷◌, ◌++◌, length, refl, sym, ◌∙◌, ap, subst, arith, append_assoc, length-append}
use Rattle.std.specs.Prelude.{nat_le}
use Rattle.std.proofs.lemmas.Bool.{le-leb, lt-leb}
use Rattle.std.proofs.lemmas.List.{append-nil}
use Rattle.cache_api.specs.Pairs.{Pair}
use Rattle.record_log.specs.Kinds.{Entry}
use Rattle.record_log.specs.Frames.{opened}
use Rattle.record_log.specs.Texts.{opened_append}
use Rattle.pair_frames.specs.Puts.{put_frames, put_size, fit, added, kept}
use Rattle.pair_frames.specs.Laws.{AllPut}

-- the room that is left behind frames
abbrev pub left_behind : ℕ → List Entry → ℕ
left_behind room gs = room - length (opened gs)

left_none : (room : ℕ) → room ≡ left_behind room []
left_none room = omega arith

left_both : (room : ℕ) (gs hs : List Entry)
    → left_behind (left_behind room gs) hs ≡ left_behind room (gs ++ hs)
left_both room gs hs =
    omega (arith, ap length (opened_append gs hs), length-append (opened gs) (opened hs))

-- ---- pairs behind pairs

-- what is added behind frames that were added, and which pairs fit there
abbrev pub added_behind : ℕ → List Entry → List Entry → List Pair → List Entry
added_behind room fs gs pairs = added (left_behind room gs) (fs ++ gs) pairs

abbrev pub fit_behind : ℕ → List Entry → List Entry → List Pair → List Bool
fit_behind room fs gs pairs = fit (left_behind room gs) (fs ++ gs) pairs

-- what is added for a pair and those behind it, by whether it fits
abbrev pub added_by : Bool → ℕ → List Entry → List Entry → List Pair → List Entry
added_by fits room fs put pairs =
    cond fits (put ++ added_behind room fs put pairs) (added room fs pairs)

abbrev pub fit_by : Bool → ℕ → List Entry → List Entry → List Pair → List Bool
fit_by fits room fs put pairs =
    cond fits (true ∷ fit_behind room fs put pairs) (false ∷ fit room fs pairs)

abbrev pub AddedSplits : ℕ → List Entry → List Pair → List Pair → Type 0
AddedSplits room fs xs ys =
    added room fs (xs ++ ys) ≡ added room fs xs ++ added_behind room fs (added room fs xs) ys

abbrev pub FitSplits : ℕ → List Entry → List Pair → List Pair → Type 0
FitSplits room fs xs ys =
    fit room fs (xs ++ ys) ≡ fit room fs xs ++ fit_behind room fs (added room fs xs) ys

added_one : (fits : Bool) (room : ℕ) (fs put : List Entry) (xs ys : List Pair)
    → AddedSplits (left_behind room put) (fs ++ put) xs ys → AddedSplits room fs xs ys
    → added_by fits room fs put (xs ++ ys)
    ≡ added_by fits room fs put xs ++ added_behind room fs (added_by fits room fs put xs) ys
added_one true room fs put xs ys more rest =
    let now = added_behind room fs put xs in
    ap (λ (l : List Entry). put ++ l) more
    ∙ (λ i. put ++ (now ++ added (left_both room put now i) (append_assoc fs put now i) ys))
    ∙ sym (append_assoc put now (added_behind room fs (put ++ now) ys))
added_one false room fs put xs ys more rest = rest

pub added-append : (room : ℕ) (fs : List Entry) (xs ys : List Pair) → AddedSplits room fs xs ys
added-append room fs [] ys = λ i. added (left_none room i) (sym (append-nil fs) i) ys
added-append room fs (x ∷ xs) ys =
    let put = put_frames fs x in
    added_one (nat_le (put_size fs x) room) room fs put xs ys
    (added-append (left_behind room put) (fs ++ put) xs ys) (added-append room fs xs ys)

fit_one : (fits : Bool) (room : ℕ) (fs put : List Entry) (xs ys : List Pair)
    → FitSplits (left_behind room put) (fs ++ put) xs ys → FitSplits room fs xs ys
    → fit_by fits room fs put (xs ++ ys)
    ≡ fit_by fits room fs put xs ++ fit_behind room fs (added_by fits room fs put xs) ys
fit_one true room fs put xs ys more rest =
    let now = added_behind room fs put xs in
    let first = fit_behind room fs put xs in
    ap (λ (l : List Bool). true ∷ l) more
    ∙ (λ i. true ∷ (first ++ fit (left_both room put now i) (append_assoc fs put now i) ys))
fit_one false room fs put xs ys more rest = ap (λ (l : List Bool). false ∷ l) rest

pub fit-append : (room : ℕ) (fs : List Entry) (xs ys : List Pair) → FitSplits room fs xs ys
fit-append room fs [] ys = λ i. fit (left_none room i) (sym (append-nil fs) i) ys
fit-append room fs (x ∷ xs) ys =
    let put = put_frames fs x in
    fit_one (nat_le (put_size fs x) room) room fs put xs ys
    (fit-append (left_behind room put) (fs ++ put) xs ys) (fit-append room fs xs ys)

pub kept-append : (fits more : List Bool) (xs ys : List Pair) → length fits ≡ length xs
    → kept (fits ++ more) (xs ++ ys) ≡ kept fits xs ++ kept more ys
kept-append [] more [] ys even = refl
kept-append [] more (x ∷ xs) ys even = absurd (omega (arith, even))
kept-append (b ∷ fits) more [] ys even = absurd (omega (arith, even))
kept-append (true ∷ fits) more (x ∷ xs) ys even =
    ap (λ (l : List Pair). x ∷ l) (kept-append fits more xs ys (omega (arith, even)))
kept-append (false ∷ fits) more (x ∷ xs) ys even =
    kept-append fits more xs ys (omega (arith, even))

-- ---- one pair behind those that are done

-- for the pairs that are done these frames were added, and these are whether they fitted
pub record IsDone (room : ℕ) (fs : List Entry) (done : List Pair) (gs : List Entry)
    (fits : List Bool) : Type 0 where
  pub added : gs ≡ added room fs done
  pub fit : fits ≡ fit room fs done

pub done_none : (room : ℕ) (fs : List Entry) → IsDone room fs [] [] []
done_none room fs = record { added = refl; fit = refl }

pub added_step : (room : ℕ) (fs : List Entry) (done : List Pair) (pair : Pair) (gs : List Entry)
    → gs ≡ added room fs done
    → added room fs (done ++ pair ∷ []) ≡ gs ++ added_behind room fs gs (pair ∷ [])
added_step room fs done pair gs is =
    added-append room fs done (pair ∷ [])
    ∙ ap (λ (l : List Entry). l ++ added_behind room fs l (pair ∷ [])) (sym is)

pub fit_step : (room : ℕ) (fs : List Entry) (done : List Pair) (pair : Pair) (gs : List Entry)
    (fits : List Bool) → IsDone room fs done gs fits
    → fit room fs (done ++ pair ∷ []) ≡ fits ++ fit_behind room fs gs (pair ∷ [])
fit_step room fs done pair gs fits x =
    fit-append room fs done (pair ∷ [])
    ∙ (λ i. sym x.fit i ++ fit_behind room fs (sym x.added i) (pair ∷ []))

-- the next pair, by whether it fits in what is left
done_by : (b : Bool) (room : ℕ) (fs : List Entry) (done : List Pair) (pair : Pair) (gs : List Entry)
    (fits : List Bool) → IsDone room fs done gs fits
    → nat_le (put_size (fs ++ gs) pair) (left_behind room gs) ≡ b
    → IsDone room fs (done ++ pair ∷ [])
    (gs ++ cond b (put_frames (fs ++ gs) pair) []) (fits ++ b ∷ [])
done_by true room fs done pair gs fits x is =
    let put = put_frames (fs ++ gs) pair in
    record {
      added = sym (
          added_step room fs done pair gs x.added
          ∙ ap (λ (b : Bool). gs ++ cond b (put ++ []) []) is
          ∙ ap (λ (l : List Entry). gs ++ l) (append-nil put)
          );
      fit = sym (
          fit_step room fs done pair gs fits x
          ∙ ap (λ (b : Bool). fits ++ cond b (true ∷ []) (false ∷ [])) is
          );
    }
done_by false room fs done pair gs fits x is =
    let put = put_frames (fs ++ gs) pair in
    record {
      added = sym (
          added_step room fs done pair gs x.added
          ∙ ap (λ (b : Bool). gs ++ cond b (put ++ []) []) is
          );
      fit = sym (
          fit_step room fs done pair gs fits x
          ∙ ap (λ (b : Bool). fits ++ cond b (true ∷ []) (false ∷ [])) is
          );
    }

pub done_fits : (room : ℕ) (fs : List Entry) (done : List Pair) (pair : Pair) (gs : List Entry)
    (fits : List Bool) → IsDone room fs done gs fits
    → put_size (fs ++ gs) pair ≤ left_behind room gs
    → IsDone room fs (done ++ pair ∷ []) (gs ++ put_frames (fs ++ gs) pair) (fits ++ true ∷ [])
done_fits room fs done pair gs fits x le =
    done_by true room fs done pair gs fits x (le-leb _ _ le)

pub done_full : (room : ℕ) (fs : List Entry) (done : List Pair) (pair : Pair) (gs : List Entry)
    (fits : List Bool) → IsDone room fs done gs fits
    → left_behind room gs < put_size (fs ++ gs) pair
    → IsDone room fs (done ++ pair ∷ []) gs (fits ++ false ∷ [])
done_full room fs done pair gs fits x lt =
    subst (λ (l : List Entry). IsDone room fs (done ++ pair ∷ []) l (fits ++ false ∷ []))
    (append-nil gs)
    (done_by false room fs done pair gs fits x (lt-leb _ _ lt))

-- ---- what is known of the pairs behind them

behind_by : (fits : Bool) (room : ℕ) (fs put : List Entry) (xs ys : List Pair)
    → ((r : ℕ) (es : List Entry) → AllPut r es (xs ++ ys)
    → AllPut (left_behind r (added r es xs)) (es ++ added r es xs) ys)
    → AllPut (cond fits (left_behind room put) room) (cond fits (fs ++ put) fs) (xs ++ ys)
    → AllPut (left_behind room (added_by fits room fs put xs))
    (fs ++ added_by fits room fs put xs) ys
behind_by true room fs put xs ys more all =
    let now = added_behind room fs put xs in
    subst (λ (es : List Entry). AllPut (left_behind room (put ++ now)) es ys)
    (append_assoc fs put now)
    (subst (λ (r : ℕ). AllPut r ((fs ++ put) ++ now) ys) (left_both room put now)
    (more (left_behind room put) (fs ++ put) all))
behind_by false room fs put xs ys more all = more room fs all

AllPut-behind : (xs ys : List Pair) (room : ℕ) (fs : List Entry) → AllPut room fs (xs ++ ys)
    → AllPut (left_behind room (added room fs xs)) (fs ++ added room fs xs) ys
AllPut-behind [] ys room fs all =
    subst (λ (es : List Entry). AllPut (left_behind room []) es ys) (sym (append-nil fs))
    (subst (λ (r : ℕ). AllPut r fs ys) (left_none room) all)
AllPut-behind (x ∷ xs) ys room fs all =
    behind_by (nat_le (put_size fs x) room) room fs (put_frames fs x) xs ys
    (λ r es more. AllPut-behind xs ys r es more) all.2

pub AllPut-next : (room : ℕ) (fs : List Entry) (done more : List Pair) (gs : List Entry)
    → gs ≡ added room fs done → AllPut room fs (done ++ more)
    → AllPut (left_behind room gs) (fs ++ gs) more
AllPut-next room fs done more gs is all =
    subst (λ (l : List Entry). AllPut (left_behind room l) (fs ++ l) more) (sym is)
    (AllPut-behind done more room fs all)
