-- The pair of a frame by the pieces that were read of it.
use Rattle.std.proofs.Common.{◌≡◌, ℕ, ◌+◌, ◌*◌, ◌≤◌, ◌<◌, Bool, true, false, cond, List, [], ◌∷◌, length, Option, Some, None, refl, sym, ◌∙◌, ap, arith}
use Rattle.std.specs.Prelude.{◌==◌, max}
use Rattle.std.proofs.lemmas.List.{append-nil, get_or-take, get_or_default, length-map}
use Rattle.store_dev.specs.declared.device.StoreDevice.{Ghosts}
use Rattle.cache_api.specs.Reading.{artifact_in}
use Rattle.record_log.specs.declared.kind.TheConstants.{PAIR}
use Rattle.record_log.specs.declared.log.Log.{Log}
use Rattle.record_log.specs.Kinds.{Entry, entry, width_of}
use Rattle.record_log.specs.Pieces.{Piece, Record, record_of}
use Rattle.record_log.specs.Pieces.Piece.{Literal, Content}
use Rattle.record_log.specs.Frames.{IsAt}
use Rattle.record_log.specs.Log.{frames_in, count_of}
use Rattle.blob_pool.specs.Contents.{contents_of}
use Rattle.blob_pool.specs.Known.{known_in}
use Rattle.pair_frames.specs.Pairs.{joined, joined_pair, pair_in}
use Rattle.pair_reader.specs.declared.piece.PairPieces.{PairPieces}
use Rattle.pair_reader.specs.declared.piece.PieceAt.{PieceAt}
use Rattle.pair_reader.specs.Frames.{frame_of, pair_at, pieces_or_none, cut_in, whole_in, record_in, contents_among, reads_in, reads_of, pieces_in, file_count, cost_of}
use Rattle.pair_reader.specs.Standing.{piece_of, pieces_of, bytes_of}

-- the frame that was read is the one with that number
pub known_frame : {S : Type 0} {G : Ghosts S} (log : Log S G) (number : ℕ) (e : Entry)
    → number < count_of log → IsAt (frames_in log) number e → frame_of (known_in log) number ≡ e
known_frame log number e lt at =
    let d = entry 0 [] [] in
    get_or-take (count_of log) (frames_in log) number d lt
    ∙ get_or_default (frames_in log) number d e at.0 ∙ sym at.1

joined_by : (b : Bool) (contents : List (List ℕ)) (e : Entry) (o : Option Record)
    → cond b (e.key, e.value) (joined_pair contents o)
    ≡ (
      joined contents (cond b (whole_in e) (pieces_or_none o)).0,
      joined contents (cond b (whole_in e) (pieces_or_none o)).1,
    )
joined_by true contents e o = λ i. (sym (append-nil e.key) i, sym (append-nil e.value) i)
joined_by false contents e None = refl
joined_by false contents e (Some r) = refl

pair_joined : (contents : List (List ℕ)) (e : Entry)
    → pair_in contents e ≡ (joined contents (record_in e).0, joined contents (record_in e).1)
unfolding pair_in
pair_joined contents e =
    joined_by (e.kind == PAIR) contents e (record_of (width_of e.kind) e.value)

-- the pieces that were read are those of the frame with that number
pub record IsSeen (fs : List Entry) (number : ℕ) (e : Entry) (p : PairPieces) : Type 0 where
  pub frame : frame_of fs number ≡ e
  pub record_is : (pieces_of p.key.items, pieces_of p.value.items) ≡ record_in e

pub seen_pair : (fs : List Entry) (number : ℕ) (e : Entry) (p : PairPieces)
    → IsSeen fs number e p → pair_at fs number
    ≡ (bytes_of (contents_of fs) p.key.items, bytes_of (contents_of fs) p.value.items)
seen_pair fs number e p seen =
    let contents = contents_of fs in
    ap (pair_in contents) seen.frame ∙ pair_joined contents e
    ∙ ap (λ (r : Record). (joined contents r.0, joined contents r.1)) (sym seen.record_is)

pub seen_reads : (fs : List Entry) (number : ℕ) (e : Entry) (p : PairPieces)
    → IsSeen fs number e p → reads_of fs number
    ≡ 1 + (contents_among (pieces_of p.key.items) + contents_among (pieces_of p.value.items))
seen_reads fs number e p seen =
    ap (λ (x : Entry). reads_in (record_in x)) seen.frame ∙ ap reads_in (sym seen.record_is)

-- ---- what it costs

contents_few : (pieces : List Piece) → contents_among pieces ≤ length pieces
contents_few [] = omega arith
contents_few (Literal bytes ∷ pieces) = omega (arith, contents_few pieces)
contents_few (Content number ∷ pieces) = omega (arith, contents_few pieces)

room_by : (b : Bool) (e : Entry) (r : Record)
    → max 1 (length (cond b (whole_in e) r).1) + reads_in (cond b (whole_in e) r)
    ≤ 2 + 2 * cond b 0 (length r.0 + length r.1)
room_by true e r = omega arith
room_by false e r = omega (arith, contents_few r.0, contents_few r.1)

cost_room : (e : Entry) → max 1 (length (record_in e).1) + reads_in (record_in e)
    ≤ 2 + 2 * pieces_in e
cost_room e = room_by (e.kind == PAIR) e (cut_in e)

pub cost_most : (fs : List Entry) (number old new : ℕ) → new ≤ old + reads_of fs number
    → new ≤ old + cost_of fs number
cost_most fs number old new few = omega (arith, few, cost_room (frame_of fs number))

length-pieces : (pieces : List PieceAt) → length (pieces_of pieces) ≡ length pieces
length-pieces pieces = length-map pieces piece_of

pub cost_hit : (fs : List Entry) (number : ℕ) (e : Entry) (p : PairPieces)
    (old new spans files : ℕ) → IsSeen fs number e p → new ≤ old + reads_of fs number
    → spans ≤ max 1 (length p.value.items) + files
    → files ≡ file_count (artifact_in (pair_at fs number).1)
    → new + spans ≤ old + cost_of fs number
cost_hit fs number e p old new spans files seen few fewer same =
    let value : length p.value.items ≡ length (record_in (frame_of fs number)).1 =
    sym (length-pieces p.value.items)
    ∙ ap (λ (r : Record). length r.1) seen.record_is
    ∙ ap (λ (x : Entry). length (record_in x).1) (sym seen.frame) in
    omega (arith, few, fewer, same, value, cost_room (frame_of fs number))

-- ---- how often was read

module _ (fs : List Entry) (number : ℕ) (e : Entry) (p : PairPieces)
    (seen : IsSeen fs number e p) where
  -- the frame, and contents of the key
  pub reads_key : (old mid new : ℕ) (key : List PieceAt) → mid ≤ old + 1 → key ≡ p.key.items
      → new ≤ mid + contents_among (pieces_of key) → new ≤ old + reads_of fs number
  reads_key old mid new key frame is few =
      let same = ap (λ (l : List PieceAt). contents_among (pieces_of l)) is in
      omega (arith, frame, few, same, seen_reads fs number e p seen)

  -- and those of the value
  pub reads_both : (old mid later new : ℕ) (key value : List PieceAt) → mid ≤ old + 1
      → key ≡ p.key.items → later ≤ mid + contents_among (pieces_of key)
      → value ≡ p.value.items → new ≤ later + contents_among (pieces_of value)
      → new ≤ old + reads_of fs number
  reads_both old mid later new key value frame is few are fewer =
      let same = ap (λ (l : List PieceAt). contents_among (pieces_of l)) is in
      let so = ap (λ (l : List PieceAt). contents_among (pieces_of l)) are in
      omega (arith, frame, few, same, fewer, so, seen_reads fs number e p seen)
