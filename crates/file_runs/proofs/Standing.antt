-- The pairs that a run sees of a file stand in it in their order.
use Rattle.std.proofs.Common.{◌≡◌, ℕ, suc, ◌+◌, ◌≤◌, Bool, true, false, cond, List, [], ◌∷◌, ◌++◌}
use Rattle.std.proofs.Common.{length, take, drop, Some, refl, sym, ◌∙◌, ap, arith, length-append}
use Rattle.std.proofs.Common.{subst, length-take, take-append-drop}
use Rattle.std.proofs.lemmas.List.{append_cancel_left, take_at}
use Rattle.cache_api.specs.Pairs.{Pair}
use Rattle.record_log.specs.Frames.{frames_of, IsSound}
use Rattle.artifact_store.specs.Laws.{stands_is}
use Rattle.artifact_store.proofs.Looking.{seen_all}
use Rattle.pair_index.specs.declared.seen.SeenPairs.{SeenPairs}
use Rattle.pair_index.specs.Seen.{is_seen, numbered, seen_pairs}
use Rattle.shared_runs.specs.Views.{pairs_at, view_of}
use Rattle.shared_runs.proofs.Seeing.{numbered_both}
use Rattle.file_runs.specs.Standing.{StandIn, HoldsAdded}

-- ---- those with some numbers

behind_one : (part list : List Pair) (x : Pair) → StandIn part list → StandIn part (x ∷ list)
behind_one [] list x stand = tt
behind_one (pair ∷ part) list x (others, rest, is, stand) =
    (x ∷ others, rest, ap (λ (l : List Pair). x ∷ l) is, stand)

stand_by : (b : Bool) (x : Pair) (part list : List Pair) → StandIn part list
    → StandIn (cond b (x ∷ part) part) (x ∷ list)
stand_by true x part list stand = ([], list, refl, stand)
stand_by false x part list stand = behind_one part list x stand

few_by : (b : Bool) (x : Pair) (part list : List Pair) → length part ≤ length list
    → length (cond b (x ∷ part) part) ≤ suc (length list)
few_by true x part list le = omega (arith, le)
few_by false x part list le = omega (arith, le)

module _ (test : ℕ → Bool) where
  numbered_stand : (n : ℕ) (xs : List Pair) → StandIn (numbered test n xs) xs
  numbered_stand n [] = tt
  numbered_stand n (x ∷ xs) =
      stand_by (test n) x (numbered test (n + 1) xs) xs (numbered_stand (n + 1) xs)

  numbered_few : (n : ℕ) (xs : List Pair) → length (numbered test n xs) ≤ length xs
  numbered_few n [] = omega arith
  numbered_few n (x ∷ xs) =
      few_by (test n) x (numbered test (n + 1) xs) xs (numbered_few (n + 1) xs)

-- ---- those that are seen

-- the first ones, and behind them some that stand among the others
view_splits : (seen : SeenPairs) (xs : List Pair) → seen.first ≤ length xs
    → (more : List Pair) × (seen_pairs seen xs ≡ take seen.first xs ++ more)
    × StandIn more (drop seen.first xs)
view_splits seen xs le =
    let k = seen.first in
    let at = 0 + length (take k xs) in (
      numbered (is_seen seen) at (drop k xs),
      ap (numbered (is_seen seen) 0) (sym (take-append-drop k xs))
          ∙ numbered_both (is_seen seen) 0 (take k xs) (drop k xs)
          ∙ ap (λ (l : List Pair). l ++ numbered (is_seen seen) at (drop k xs))
          (seen_all seen (take k xs) (omega (arith, length-take k xs))),
      numbered_stand (is_seen seen) at (drop k xs),
    )

module _ (seen : SeenPairs) (file : List ℕ) (sound : IsSound file) where
  holds_split : (before more : List Pair) → take seen.first (pairs_at file) ≡ before
      → StandIn more (drop seen.first (pairs_at file)) → HoldsAdded before more file
  holds_split before more front stand =
      let xs = pairs_at file in
      record {
        newer = drop seen.first xs;
        pairs_are = stands_is file (frames_of file) sound ∙ ap (λ (l : List Pair). Some l)
            (sym (take-append-drop seen.first xs)
            ∙ ap (λ (l : List Pair). l ++ drop seen.first xs) front);
        stand = stand;
      }

  -- Where the first pairs are known, the others that are seen are what was added.
  pub front_holds : (before : List Pair) → seen.first ≤ length (pairs_at file)
      → take seen.first (pairs_at file) ≡ before
      → (added : List Pair) × (view_of seen file ≡ before ++ added) × HoldsAdded before added file
  front_holds before le front =
      let (more, split, stand) = view_splits seen (pairs_at file) le in (
        more,
        split ∙ ap (λ (l : List Pair). l ++ more) front,
        holds_split before more front stand,
      )

  -- Where it is known what is seen, and how many the first ones are, they stand in the file.
  pub view_holds : (before added : List Pair) → seen.first ≡ length before
      → view_of seen file ≡ before ++ added → HoldsAdded before added file
  view_holds before added first is =
      let xs = pairs_at file in
      let k = seen.first in
      let le : k ≤ length xs = omega (
        arith,
        first,
        numbered_few (is_seen seen) 0 xs,
        ap length is,
        length-append before added,
      ) in
      let (more, split, stand) = view_splits seen xs le in
      let both : take k xs ++ more ≡ before ++ added = sym split ∙ is in
      let front : take k xs ≡ before =
      sym (take_at (take k xs) more k (omega (arith, le, length-take k xs)))
      ∙ ap (take k) both ∙ take_at before added k (omega (arith, first)) in
      let behind : more ≡ added = append_cancel_left before more added
      (ap (λ (l : List Pair). l ++ more) (sym front) ∙ both) in
      holds_split before added front
      (subst (λ (l : List Pair). StandIn l (drop k xs)) behind stand)
