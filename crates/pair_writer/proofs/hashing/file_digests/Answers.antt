use Rattle.std.proofs.Common.{◌≡◌, List, ℕ, map, length, take, sum, IfOk, ap, subst, ◌∙◌, sym, arith}
use denote.Bor.{Bor}
use Rattle.std.specs.List.{flat_map}
use Rattle.std.proofs.lemmas.List.{length-map, take_all}
use Rattle.std.proofs.lemmas.Simd.{map-map}
use Rattle.sha2.specs.Sha256.{sha256}
use Rattle.cache_api.specs.declared.puts.NewPair.{NewPair}
use Rattle.pair_writer.specs.FileTexts.{file_texts}
use Rattle.pair_writer.specs.Joined.{cut_by}
use Rattle.pair_writer.proofs.Joined.{counts_sum, cut_again}
use Rattle.pair_writer.proofs.hashing.file_digests.Goals as goal

abbrev many : NewPair → ℕ
many pair = length (file_texts pair)

hashed : (texts : List (Bor (List ℕ))) (done all : List NewPair) → done ≡ all
    → map (λ text. text.now) texts ≡ flat_map file_texts done
    → map (λ text. sha256 text.now) texts ≡ map sha256 (flat_map file_texts all)
hashed texts done all whole is =
    sym (map-map sha256 (λ (text : Bor (List ℕ)). text.now) texts)
    ∙ ap (map sha256) (is ∙ ap (flat_map file_texts) whole)

pub cut_by-requires : goal.cut_by-requires
cut_by-requires c =
    let all = c.args.pairs.now in
    let n = c.loop-pair.pair-index in
    let whole : take n all ≡ all = take_all n all (omega arith) in
    let found = hashed c.as_slice.result.now (take n all) all whole (ap (map (λ (text : Bor (List ℕ)). text.now)) c.as_slice.ensures.value ∙ c.loop-pair.invariant.texts) in
    ap sum (c.as_slice-2.ensures.value ∙ c.loop-pair.invariant.counts ∙ ap (map many) whole)
    ∙ counts_sum file_texts all
    ∙ sym (length-map (flat_map file_texts all) sha256)
    ∙ ap length (sym found ∙ sym c.in_ok-found.ensures ∙ sym c.as_slice-3.ensures.value)

pub returns : goal.returns
returns c =
    let all = c.args.pairs.now in
    let n = c.loop-pair.pair-index in
    let whole : take n all ≡ all = take_all n all (omega arith) in
    let found = hashed c.as_slice.result.now (take n all) all whole (ap (map (λ (text : Bor (List ℕ)). text.now)) c.as_slice.ensures.value ∙ c.loop-pair.invariant.texts) in
    let counts = c.as_slice-2.ensures.value ∙ c.loop-pair.invariant.counts ∙ ap (map many) whole in
    let digests = c.as_slice-3.ensures.value ∙ c.in_ok-found.ensures ∙ found in
    subst (λ (l : List (List (List ℕ))). IfOk c.cut_by.result (λ lists. map (λ own. own.items) lists.items ≡ l))
    ((λ i. cut_by (counts i) (digests i)) ∙ cut_again file_texts sha256 all)
    c.cut_by.ensures
