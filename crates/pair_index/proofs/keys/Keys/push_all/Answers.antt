use Rattle.std.proofs.Common.{◌≡◌, ◌<◌, ◌≤◌, ◌+◌, ◌++◌, [], List, Some, length, take, get_or, sym, ◌∙◌, ap, subst, arith, length-append}
use Rattle.std.proofs.lemmas.List.{length-map, take_all}
use Rattle.cache_api.specs.Pairs.{Pair}
use Rattle.pair_reader.specs.declared.key.KeyText.{KeyText}
use Rattle.pair_index.specs.declared.keys.Keys.{Keys}
use Rattle.pair_index.specs.Keys.{IsKeysOf}
use Rattle.pair_index.specs.Batch.{key_of, text_in, texts_of, listed_text}
use Rattle.pair_index.proofs.BatchLaws.{texts_next, print_there, key_there, print_some, print_none, pairs_next}
use Rattle.pair_index.proofs.keys.Keys.push_all.Goals as goal
use Rattle.pair_index.proofs.keys.Keys.push_all.Goals.{in-Some+in_ok-push-in-Some, in-None+in_ok-push-in-None}

pub bounds-prints-at : goal.bounds-prints-at
bounds-prints-at c =
    (print_there c.args.keys.now c.args.prints.now c.loop-key.key-index c.loop-key.at c.key-item.result _ c.requires c.loop-key.invariant.at c.loop-key-test.true c.key-item.is c.in-Some.is).inside

pub offset_bounds-prints-at : goal.offset_bounds-prints-at
offset_bounds-prints-at c =
    let there = print_there c.args.keys.now c.args.prints.now c.loop-key.key-index c.loop-key.at c.key-item.result _ c.requires c.loop-key.invariant.at c.loop-key-test.true c.key-item.is c.in-Some.is in
    let told = c.told-prints in omega (arith, there.inside)

pub overflow_add-at : goal.overflow_add-at
overflow_add-at c =
    let there = print_there c.args.keys.now c.args.prints.now c.loop-key.key-index c.loop-key.at c.key-item.result _ c.requires c.loop-key.invariant.at c.loop-key-test.true c.key-item.is c.in-Some.is in
    omega (arith, there.inside)

pub loop-key-preserved : goal.loop-key-preserved
loop-key-preserved c =
    let keys = c.args.keys.now in
    let old = c.args.self.now in
    let i = c.loop-key.key-index in
    let key = c.key-item.result in
    let inv = c.loop-key.invariant in
    let lt = c.loop-key-test.true in
    let next = texts_next keys i key lt c.key-item.is in
    elim c.match-key.branch [
      | in-Some+in_ok-push-in-Some w ↦
          let there = print_there keys c.args.prints.now i c.loop-key.at key _ c.requires inv.at lt c.key-item.is w.in-Some.is in
          let grown = w.in_ok-push-in-Some.ensures in
          record {
            at = omega (arith, w.at-is, inv.at, ap length next, length-append (texts_of (take i keys)) (text_in key), ap length (ap listed_text w.in-Some.is));
            keys = λ known pairs x are.
                let pair : Pair = get_or pairs i ([], []) in
                let here : key ≡ key_of old.lengths pair = key_there old.lengths keys pairs i key ([], []) are lt c.key-item.is in
                let inside : i < length pairs = omega (arith, lt, ap length are, length-map pairs (key_of old.lengths)) in
                let more = grown.keys (known ++ take i pairs) pair (inv.keys known pairs x are) (ap (λ (k : KeyText). k.len) here)
                (ap Some (there.print _) ∙ print_some old.lengths c.loop-key.self.lengths pair key _ inv.lengths here w.in-Some.is) in
                subst (λ (k : Keys). IsKeysOf k (known ++ take (i + 1) pairs)) (sym w.self-is)
                (subst (IsKeysOf w.push.new.self) (sym (pairs_next known pairs i ([], []) inside)) more);
            lengths = ap (λ (k : Keys). k.lengths) w.self-is ∙ grown.lengths ∙ inv.lengths;
          }
      | in-None+in_ok-push-in-None w ↦
          let grown = w.in_ok-push-in-None.ensures in
          record {
            at = omega (arith, w.at-is, inv.at, ap length next, length-append (texts_of (take i keys)) (text_in key), ap length (ap listed_text w.in-None.is));
            keys = λ known pairs x are.
                let pair : Pair = get_or pairs i ([], []) in
                let here : key ≡ key_of old.lengths pair = key_there old.lengths keys pairs i key ([], []) are lt c.key-item.is in
                let inside : i < length pairs = omega (arith, lt, ap length are, length-map pairs (key_of old.lengths)) in
                let more = grown.keys (known ++ take i pairs) pair (inv.keys known pairs x are) (ap (λ (k : KeyText). k.len) here)
                (print_none old.lengths c.loop-key.self.lengths pair key inv.lengths here w.in-None.is) in
                subst (λ (k : Keys). IsKeysOf k (known ++ take (i + 1) pairs)) (sym w.self-is)
                (subst (IsKeysOf w.push-in-None.new.self) (sym (pairs_next known pairs i ([], []) inside)) more);
            lengths = ap (λ (k : Keys). k.lengths) w.self-is ∙ grown.lengths ∙ inv.lengths;
          }
    ]

pub returns-clause-keys : goal.returns-clause-keys
returns-clause-keys c known pairs x are =
    let all : length pairs ≤ c.loop-key.key-index =
    omega (arith, c.loop-key-test.false, ap length are, length-map pairs (key_of c.args.self.now.lengths)) in
    subst (λ (l : List Pair). IsKeysOf c.loop-key.self (known ++ l)) (take_all c.loop-key.key-index pairs all)
    (c.loop-key.invariant.keys known pairs x are)
