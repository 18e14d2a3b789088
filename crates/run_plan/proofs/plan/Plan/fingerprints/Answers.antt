use Rattle.std.proofs.Common.{◌≡◌, ◌+◌, ◌<◌, ◌∷◌, ◌++◌, ◌∙◌, ℕ, List, [], ap, sym, length, map}
use Rattle.std.proofs.Common.{drop, get_or, append_assoc, add-one, drop-cons}
use Rattle.std.proofs.lemmas.List.{map_push}
use Rattle.sha2.specs.Sha256.{sha256}
use Rattle.run_laws.specs.Keys.{key_of}
use Rattle.run_plan.proofs.plan.Plan.fingerprints.Goals as goal
use Rattle.run_plan.proofs.plan.Plan.fingerprints.Goals.{then-held-ge-KEY_BYTES_HELD+in_ok-add_prints, else-held-ge-KEY_BYTES_HELD}

-- a key is held that was still to come
one_more : (f : ℕ → List ℕ) (prints keys : List (List ℕ)) (places : List ℕ) (i : ℕ)
    → i < length places
    → prints ++ (map sha256 (keys ++ f (get_or places i 0) ∷ [])
    ++ map (λ place. sha256 (f place)) (drop (i + 1) places))
    ≡ prints ++ (map sha256 keys ++ map (λ place. sha256 (f place)) (drop i places))
one_more f prints keys places i h =
    let print = λ (place : ℕ). sha256 (f place) in
    let key = f (get_or places i 0) in
    let later = map print (drop (i + 1) places) in
    let next : drop i places ≡ get_or places i 0 ∷ drop (i + 1) places =
    drop-cons places i 0 h ∙ ap (λ n. get_or places i 0 ∷ drop n places) (sym (add-one i)) in
    ap (λ l. prints ++ l) (ap (λ l. l ++ later) (map_push sha256 keys key)
    ∙ append_assoc (map sha256 keys) (sha256 key ∷ []) later
    ∙ ap (λ l. map sha256 keys ++ map print l) (sym next))

pub loop-place-preserved : goal.loop-place-preserved
loop-place-preserved c =
    let key = key_of c.args.self.now.listing in
    let places = c.args.places.now in
    let prints = c.loop-place.prints.items in
    let keys = c.loop-place.keys.items in
    let held = c.push.new.self.items in
    let i = c.loop-place.place-index in
    let later = map (λ (place : ℕ). sha256 (key place)) (drop (i + 1) places) in
    let pushed : held ≡ keys ++ key (get_or places i 0) ∷ [] =
    c.in_ok-push.ensures.items ∙ ap (λ k. keys ++ k ∷ []) c.in_ok-key.ensures.key in
    let all : prints ++ (map sha256 held ++ later) ≡ map (λ place. sha256 (key place)) places =
    ap (λ l. prints ++ (map sha256 l ++ later)) pushed
    ∙ one_more key prints keys places i c.loop-place-test.true ∙ c.loop-place.invariant in
    elim c.if-held-ge-KEY_BYTES_HELD.branch [
      | then-held-ge-KEY_BYTES_HELD+in_ok-add_prints w ↦
          let keys_now = w.as_slice-then-held-ge-KEY_BYTES_HELD.ensures.value in
          let added = ap (λ v. v.items) w.prints-is ∙ w.in_ok-add_prints.ensures.added
          ∙ ap (λ l. prints ++ map sha256 l) keys_now in
          let emptied = ap (λ v. v.items) w.keys-is ∙ w.clear.ensures.items in
          rw (added, emptied) (append_assoc prints (map sha256 held) later ∙ all)
      | else-held-ge-KEY_BYTES_HELD w ↦
          rw (ap (λ v. v.items) w.prints-is, ap (λ v. v.items) w.keys-is) all
    ]
