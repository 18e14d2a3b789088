use Rattle.std.proofs.Common.{◌≡◌, ◌≤◌, ◌+◌, ◌++◌, ◌∷◌, [], ℕ, List, length, take, get_or, refl, sym, ◌∙◌, ap, subst, arith, append_assoc}
use Rattle.std.proofs.lemmas.List.{append-nil, length-map, get_or-map}
use Rattle.cache_api.specs.declared.puts.NewPair.{NewPair}
use Rattle.cache_api.specs.declared.puts.Put.TheVariants.{Stored}
use Rattle.cache_api.specs.Artifacts.{artifact}
use Rattle.cache_api.specs.Pairs.{Pair, pair_for, chosen}
use Rattle.cache_api.specs.Keys.{text_of, new_pairs}
use Rattle.pair_index.specs.declared.keys.Keys.{Keys}
use Rattle.pair_index.specs.Keys.{IsKeysOf, key_room}
use Rattle.pair_index.proofs.KeyLaws.{chosen_one, chosen_step, chosen_all}
use Rattle.pair_index.proofs.keys.Keys.learn_all.Goals as goal
use Rattle.pair_index.proofs.keys.Keys.learn_all.Goals.{in-Stored+in_ok-learn-in-Stored, in-Full}

abbrev new_pair : NewPair → Pair
new_pair p = pair_for (text_of p.key) (artifact p.artifact.now)

ap_room : {a b : Keys} (n i : ℕ) → a ≡ b → n ≤ key_room b + i → n ≤ key_room a + i
ap_room n i same le = subst (λ (s : Keys). n ≤ key_room s + i) (sym same) le

pub loop-i-preserved : goal.loop-i-preserved
loop-i-preserved c =
    let news = new_pairs c.args.pairs.now in
    let i = c.loop-i.i in
    let p = c.index-pairs-i.result in
    let at : get_or news i (new_pair p) ≡ new_pair p =
    get_or-map new_pair c.args.pairs.now i p (new_pair p) (omega arith) ∙ ap new_pair (sym c.index-pairs-i.is) in
    let puts = c.args.puts.now in
    let done = chosen (take i news) (take i puts) in
    let step = chosen_step news puts i (new_pair p) Stored (omega (arith, length-map c.args.pairs.now new_pair, c.min-i-end.ensures)) (omega (arith, c.min-i-end.ensures)) in
    elim c.match-puts-i.branch [
      | in-Stored+in_ok-learn-in-Stored w ↦
          let now : chosen (take (i + 1) news) (take (i + 1) puts) ≡ done ++ new_pair p ∷ [] =
          step ∙ (λ j. done ++ chosen_one (w.in-Stored.is j) (at j)) in
          record {
            room = ap_room (length c.args.pairs.now) (i + 1) w.self-is (omega (arith, c.loop-i.invariant.room, w.in_ok-learn-in-Stored.ensures.room));
            keys = λ known x.
                let y = w.in_ok-learn-in-Stored.ensures.keys (known ++ done) (new_pair p) (c.loop-i.invariant.keys known x) refl in
                subst (λ s. IsKeysOf s (known ++ chosen (take (i + 1) news) (take (i + 1) puts))) (sym w.self-is)
                (subst (λ (l : List Pair). IsKeysOf w.learn.new.self l)
                (append_assoc known done (new_pair p ∷ []) ∙ ap (λ (l : List Pair). known ++ l) (sym now)) y);
            lengths = ap (λ s. s.lengths) w.self-is ∙ w.in_ok-learn-in-Stored.ensures.lengths ∙ c.loop-i.invariant.lengths;
          }
      | in-Full w ↦
          let now : chosen (take (i + 1) news) (take (i + 1) puts) ≡ done =
          step ∙ (λ j. done ++ chosen_one (w.in-Full.is j) (at j)) ∙ append-nil done in
          record {
            room = ap_room (length c.args.pairs.now) (i + 1) w.self-is (omega (arith, c.loop-i.invariant.room));
            keys = λ known x.
                subst (λ s. IsKeysOf s (known ++ chosen (take (i + 1) news) (take (i + 1) puts))) (sym w.self-is)
                (subst (λ (l : List Pair). IsKeysOf c.loop-i.self (known ++ l)) (sym now) (c.loop-i.invariant.keys known x));
            lengths = ap (λ s. s.lengths) w.self-is ∙ c.loop-i.invariant.lengths;
          }
    ]

pub returns-clause-keys : goal.returns-clause-keys
returns-clause-keys c known x =
    let news = new_pairs c.args.pairs.now in
    let many : length news ≡ length c.args.pairs.now = length-map c.args.pairs.now new_pair in
    subst (λ (l : List Pair). IsKeysOf c.loop-i.self (known ++ l))
    (chosen_all news c.args.puts.now c.loop-i.i (omega (arith, many, c.min-i-end.ensures)))
    (c.loop-i.invariant.keys known x)
