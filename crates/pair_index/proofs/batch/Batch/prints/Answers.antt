use Rattle.std.proofs.Common.{◌≡◌, ℕ, List, map, sym, ◌∙◌, ap, subst}
use Rattle.std.specs.Prelude.{IfOk}
use Rattle.std.specs.Borrow.{Bor}
use Rattle.std.proofs.lemmas.Simd.{map-map}
use Rattle.sha2.specs.Sha256.{sha256}
use Rattle.pair_index.specs.Batch.{texts_of}
use Rattle.pair_index.proofs.batch.Batch.prints.Goals as goal

pub returns : goal.returns
returns c =
    let hashed : map (λ (text : Bor (List ℕ)). sha256 text.now) c.as_slice-2.result.now
    ≡ map sha256 (texts_of c.args.self.now.keys.items) =
    ap (map (λ (text : Bor (List ℕ)). sha256 text.now)) c.as_slice-2.ensures.value
    ∙ sym (map-map sha256 (λ (text : Bor (List ℕ)). text.now) c.in_ok-texts.texts.items)
    ∙ ap (map sha256) (c.in_ok-texts.ensures ∙ ap texts_of c.as_slice.ensures.value) in
    subst (λ (l : List (List ℕ)). IfOk c.digests.result (λ prints. prints.items ≡ l)) hashed c.digests.ensures
