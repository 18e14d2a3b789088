use Rattle.std.proofs.Common.{◌≡◌, ◌<◌, ◌+◌, ℕ, [], true, false, length, get_or, refl, ◌∙◌, ap, subst, arith}
use Rattle.std.specs.Prelude.{bytes_eq, IfSome}
use Rattle.std.specs.Option.{option_map_or}
use Rattle.artifact_store.specs.Store.{state_of}
use Rattle.artifact_store.proofs.Carry.{reads_both}
use Rattle.compact.specs.Picks.{key_at}
use Rattle.compact.proofs.Keys.{IsLeft, left_first, left_next, next_below, next_inside, next_falls, there, key_found, same_key, other_key, compared}
use Rattle.compact.proofs.Seeking.{reads_none, pairs_read}
use Rattle.compact.proofs.choose.is_picked.Goals as goal

pub loop-next-init : goal.loop-next-init
loop-next-init g c =
    let picks = c.args.picks.now in
    let digests = picks.prints.digests in
    let next = c.last-next.result in
    let below = next_below digests (length digests) c.args.digest.now next c.last-next.ensures.greatest c.last-next.ensures.none in
    record {
      reads = reads_none c.args.from.now;
      faults = refl;
      inside = next_inside digests (length digests) c.args.digest.now next below (omega arith);
      left = λ told. left_first (state_of c.args.from.now).pairs picks.numbers.items digests c.args.digest.now c.args.key.now next (length digests) c.requires.picks.even below;
    }

pub loop-next-smaller : goal.loop-next-smaller
loop-next-smaller g c =
    let digests = c.args.picks.now.prints.digests in
    let place = c.in-Some.place in
    let inside : place < length digests = subst (λ n. IfSome n (λ (p : ℕ). p < length digests)) c.in-Some.is c.loop-next.invariant.inside in
    let print = get_or digests place [] in
    let at = there digests place inside in
    let below = next_below digests place print c.before-next.result (c.before-next.ensures.greatest print at) (c.before-next.ensures.none print at) in
    let falls = next_falls digests place print c.before-next.result below in
    let was : option_map_or (λ (p : ℕ). p + 1) c.loop-next.next 0 ≡ place + 1 = ap (λ n. option_map_or (λ (p : ℕ). p + 1) n 0) c.in-Some.is in
    omega (arith, falls, was)

pub loop-next-preserved : goal.loop-next-preserved
loop-next-preserved g c =
    let x = c.loop-next.invariant in
    let first = c.args.from.now in
    let mid = c.loop-next.from in
    let pairs = (state_of first).pairs in
    let numbers = c.args.picks.now.numbers.items in
    let digests = c.args.picks.now.prints.digests in
    let key = c.args.key.now in
    let digest = c.args.digest.now in
    let place = c.in-Some.place in
    let next = c.before-next.result in
    let inside : place < length digests = subst (λ n. IfSome n (λ (p : ℕ). p < length digests)) c.in-Some.is x.inside in
    let print = get_or digests place [] in
    let at = there digests place inside in
    let below = next_below digests place print next (c.before-next.ensures.greatest print at) (c.before-next.ensures.none print at) in
    record {
      reads = reads_both first mid c.is_key_of.new.from x.reads c.is_key_of.ensures.reads;
      faults = c.in_ok-same.ensures.cause.counted ∙ x.faults;
      inside = next_inside digests place print next below (omega (arith, inside));
      left = λ told.
          let left = subst (λ n. IsLeft pairs numbers digests digest key n) c.in-Some.is (x.left told) in
          let here : bytes_eq (key_at pairs numbers place) key ≡ false =
          compared pairs (state_of mid).pairs numbers place c.index-number.result.now key c.in_ok-same.same (pairs_read first mid x.reads) (omega (arith, inside, c.requires.picks.even)) c.index-number.ensures (c.in_ok-same.ensures.value told)
          ∙ c.if-same.false in
          let now = next_below digests place digest next (c.before-next.ensures.greatest digest left.same) (c.before-next.ensures.none digest left.same) in
          left_next pairs numbers digests digest key next place left
          (other_key (key_at pairs numbers place) key here) now;
    }

pub returns-then-same-clause-found : goal.returns-then-same-clause-found
returns-then-same-clause-found g c told found =
    let x = c.loop-next.invariant in
    let first = c.args.from.now in
    let mid = c.loop-next.from in
    let pairs = (state_of first).pairs in
    let numbers = c.args.picks.now.numbers.items in
    let digests = c.args.picks.now.prints.digests in
    let key = c.args.key.now in
    let place = c.in-Some.place in
    let inside : place < length digests = subst (λ n. IfSome n (λ (p : ℕ). p < length digests)) c.in-Some.is x.inside in
    let there : place < length numbers = omega (arith, inside, c.requires.picks.even) in
    let here : bytes_eq (key_at pairs numbers place) key ≡ true =
    compared pairs (state_of mid).pairs numbers place c.index-number.result.now key c.in_ok-same.same (pairs_read first mid x.reads) there c.index-number.ensures (c.in_ok-same.ensures.value told)
    ∙ c.if-same.true in
    key_found pairs numbers place key there (same_key (key_at pairs numbers place) key here)

pub returns-clause-apart : goal.returns-clause-apart
returns-clause-apart g c told none =
    let picks = c.args.picks.now in
    subst (λ n. IsLeft (state_of c.args.from.now).pairs picks.numbers.items picks.prints.digests c.args.digest.now c.args.key.now n)
    c.in_default.is (c.loop-next.invariant.left told)
