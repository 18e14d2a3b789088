-- Several pairs that were offered, one after another.
use Rattle.std.proofs.Common.{◌≡◌, ℕ, ◌+◌, ◌<◌, ◌≤◌, List, [], ◌∷◌, ◌++◌, length, map, take, drop, get_or, refl, sym, ◌∙◌, ap, arith, length-append}
use Rattle.std.proofs.lemmas.List.{map-append}
use Rattle.rel_path.proofs.Parts.{turn}
use Rattle.codes.specs.Codes.{Each}
use Rattle.cache_api.specs.declared.puts.NewPair.{NewPair}
use Rattle.cache_api.specs.declared.puts.Put.{Put}
use Rattle.cache_api.specs.declared.puts.Put.TheVariants.{Stored, Full}
use Rattle.cache_api.specs.Pairs.{Pair}
use Rattle.cache_api.specs.Keys.{new_pairs}
use Rattle.cache_api.specs.Cache.{ArePut, NoRoomFor}
use Rattle.record_log.specs.Kinds.{Entry}
use Rattle.record_log.specs.Frames.{magic, opened, AtRest}
use Rattle.pair_frames.specs.Puts.{added, fit}
use Rattle.pair_frames.specs.Laws.{AreTexts}
use Rattle.pair_frames.specs.Steps.{fit_behind, added_step, IsDone, fit_step}
use Rattle.pair_writer.specs.declared.staged.Staged.{Staged}
use Rattle.pair_writer.specs.Staged.{entries}
use Rattle.pair_writer.specs.Putting.{put_of, new_pair, IsOffered, IsShortOf}

-- the frames of these pairs are staged where they fit, and the answers say which do
pub record AreOffered (room : ℕ) (fs : List Entry) (staged : Staged) (pairs : List Pair)
    (puts : List Put) : Type 0 where
  pub frames : entries staged ≡ added room fs pairs
  pub answers : puts ≡ map put_of (fit room fs pairs)

pub offered_none : (room : ℕ) (fs : List Entry) (staged : Staged) → entries staged ≡ []
    → AreOffered room fs staged [] []
offered_none room fs staged none = record { frames = none; answers = refl }

pub offered_next : (room : ℕ) (fs : List Entry) (s t : Staged) (pairs : List Pair) (pair : Pair)
    (puts : List Put) (put : Put) → AreOffered room fs s pairs puts
    → IsOffered room fs s t pair put
    → AreOffered room fs t (pairs ++ pair ∷ []) (puts ++ put ∷ [])
offered_next room fs s t pairs pair puts put x y =
    let fits = fit room fs pairs in
    let done : IsDone room fs pairs (entries s) fits = record { added = x.frames; fit = refl } in
    let next = fit_behind room fs (entries s) (pair ∷ []) in
    record {
      frames = y.frames ∙ sym (added_step room fs pairs pair (entries s) x.frames);
      answers =
          (λ i. x.answers i ++ y.answer i)
          ∙ sym (map-append put_of fits next)
          ∙ ap (map put_of) (sym (fit_step room fs pairs pair (entries s) fits done));
    }

-- ---- one pair more

pub pairs_more : (all : List NewPair) (n : ℕ) (pair : NewPair)
    → (n < length all) × (pair ≡ get_or all n pair)
    → new_pairs (take (n + 1) all) ≡ new_pairs (take n all) ++ new_pair pair ∷ []
pairs_more all n pair at =
    ap new_pairs (turn all n pair at).0 ∙ map-append new_pair (take n all) (pair ∷ [])

pub texts_next : (pairs : List Pair) (pair : Pair) → Each AreTexts pairs → AreTexts pair
    → Each AreTexts (pairs ++ pair ∷ [])
texts_next [] pair each one = (one, tt)
texts_next (x ∷ pairs) pair each one = (each.0, texts_next pairs pair each.1 one)

-- ---- no room

full_less : (room less : ℕ) (pairs : List Pair) (puts : List Put) → less ≤ room
    → NoRoomFor room pairs puts → NoRoomFor less pairs puts
full_less room less [] puts le full = tt
full_less room less (pair ∷ pairs) [] le full = tt
full_less room less (pair ∷ pairs) (Stored ∷ puts) le full = full_less room less pairs puts le full
full_less room less (pair ∷ pairs) (Full ∷ puts) le full =
    (omega (arith, full.0), full_less room less pairs puts le full.1)

full_push : (room : ℕ) (pairs : List Pair) (pair : Pair) (puts : List Put) (put : Put)
    → length puts ≡ length pairs → NoRoomFor room pairs puts → IsShortOf put room pair
    → NoRoomFor room (pairs ++ pair ∷ []) (puts ++ put ∷ [])
full_push room [] pair [] Stored even full one = tt
full_push room [] pair [] Full even full one = (one, tt)
full_push room [] pair (p ∷ puts) put even full one = absurd (omega (arith, even))
full_push room (x ∷ pairs) pair [] put even full one = absurd (omega (arith, even))
full_push room (x ∷ pairs) pair (Stored ∷ puts) put even full one =
    full_push room pairs pair puts put (omega (arith, even)) full one
full_push room (x ∷ pairs) pair (Full ∷ puts) put even full one =
    (full.0, full_push room pairs pair puts put (omega (arith, even)) full.1 one)

pub put_next : (room less : ℕ) (pairs : List Pair) (pair : Pair) (puts : List Put) (put : Put)
    → less ≤ room → ArePut room pairs puts → IsShortOf put less pair
    → ArePut less (pairs ++ pair ∷ []) (puts ++ put ∷ [])
put_next room less pairs pair puts put le x one = record {
  even =
      omega (
        arith,
        x.even,
        length-append puts (put ∷ []),
        length-append pairs (pair ∷ []),
      );
  full = full_push less pairs pair puts put x.even (full_less room less pairs puts le x.full) one;
}

pub put_none : (room : ℕ) → ArePut room [] []
put_none room = record { even = refl; full = tt }

-- ---- the frames of a log at rest take no more bytes than there are

pub opened_short : (bytes : List ℕ) (es : List Entry) (end : ℕ) → AtRest bytes es end
    → length (opened es) ≤ length bytes
opened_short bytes es end rest =
    omega (
      arith,
      ap length rest.split,
      length-append magic (opened es ++ drop end bytes),
      length-append (opened es) (drop end bytes),
    )
