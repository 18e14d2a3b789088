-- The pair with a number, by the frame in which it stands.
use Rattle.std.proofs.Common.{◌≡◌, ℕ, ◌<◌, true, List, [], length, get_or, Some, None, sym, ◌∙◌, ap, subst, arith}
use Rattle.std.specs.Prelude.{slice_get}
use Rattle.std.proofs.lemmas.List.{get_or-map}
use Rattle.std.proofs.lemmas.Option.{get_or_from_slice_get, slice_get-get_or, slice_get_within}
use Rattle.record_log.specs.Kinds.{Entry, entry}
use Rattle.record_log.specs.Frames.{all_formed}
use Rattle.pair_frames.specs.Pairs.{holds_pair, pairs_in}
use Rattle.pair_frames.specs.Reading.{HoldsPair, record_places, length-record_places, pair_place, pair_read}
use Rattle.pair_reader.specs.Frames.{frame_of, pair_at}
use Rattle.pair_index.specs.declared.index.Index.{Index}
use Rattle.pair_index.specs.Costs.{cost_at}
use Rattle.pair_index.specs.Index.{frames_in, IsIndexOf, FramesBelow}

pub frame_below : (index : Index) (n number frame : ℕ) → FramesBelow index n
    → slice_get (frames_in index) number ≡ Some frame → frame < n
frame_below index n number frame below is =
    let lt = slice_get_within (frames_in index) number frame is in
    let same = get_or_from_slice_get (frames_in index) number frame 0 is in
    omega (arith, below number lt, same)

module _ (index : Index) (fs : List Entry) (x : IsIndexOf index fs) (number frame : ℕ)
    (is : slice_get (frames_in index) number ≡ Some frame) where
  place : get_or (record_places 0 fs) number 0 ≡ frame
  place = ap (λ (l : List ℕ). get_or l number 0) (sym x.frames)
      ∙ get_or_from_slice_get (frames_in index) number frame 0 is

  here : HoldsPair fs number frame (entry 0 [] []) ([], [])
  here =
      let lt : number < length (pairs_in fs) =
      omega (arith, slice_get_within (frames_in index) number frame is, ap length x.frames, length-record_places fs) in
      subst (λ (k : ℕ). HoldsPair fs number k (entry 0 [] []) ([], [])) place
      (pair_place fs number (entry 0 [] []) ([], []) lt)

  pub holds_there : holds_pair (frame_of fs frame).kind ≡ true
  holds_there = here.kind

  pub pair_there : all_formed [] fs ≡ true → pair_at fs frame ≡ get_or (pairs_in fs) number ([], [])
  pair_there formed = sym (pair_read fs number frame (entry 0 [] []) ([], []) formed here)

  pub cost_there : (cost : List Entry → ℕ → ℕ) → cost_at cost fs number ≡ cost fs frame
  cost_there cost =
      let lt : number < length (record_places 0 fs) =
      omega (arith, slice_get_within (frames_in index) number frame is, ap length x.frames) in
      get_or-map (cost fs) (record_places 0 fs) number 0 0 lt ∙ ap (cost fs) place

-- there is a frame for each pair
pub no_frame : (index : Index) (fs : List Entry) → IsIndexOf index fs → (number : ℕ)
    → slice_get (frames_in index) number ≡ None → number < length (pairs_in fs) → ⊥
no_frame index fs x number none lt =
    let inside : number < length (frames_in index) =
    omega (arith, lt, ap length x.frames, length-record_places fs) in
    let some = slice_get-get_or (frames_in index) number 0 inside in
    absurd (cc)
