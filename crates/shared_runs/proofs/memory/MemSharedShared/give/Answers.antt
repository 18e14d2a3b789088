use Rattle.std.proofs.Common.{rules, ◌≡◌, inl, inr, ap, arith, Bool, cond, List, []}
use Rattle.store_dev.specs.declared.memory.MemStore.{MemStore}
use Rattle.cache_api.specs.Pairs.{Pair}
use Rattle.record_log.specs.Frames.{frames_of, ends, IsSound}
use Rattle.shared_runs.specs.Frames.{HoldsOn}
use Rattle.shared_runs.specs.Others.{frames_with}
use Rattle.store_dev.specs.MemStore as device
use Rattle.shared_runs.specs.MemShared.{images_of, bytes_of, pairs_coming, puts_at, next_turn}
use Rattle.shared_runs.specs.Turns.{LeftInTurn}
use Rattle.shared_runs.proofs.MemTurns.{goes_next, grows_given, counts_failed, counts_given}
use Rattle.shared_runs.proofs.MemTurns.{left_as}
use Rattle.shared_runs.proofs.memory.MemSharedShared.give.Goals as goal

pub returns-then-next_fails-clause-time : goal.returns-then-next_fails-clause-time
returns-then-next_fails-clause-time c told =
    goes_next c.args.self.now _ c.args.device
    (LeftInTurn (images_of c.args.self.now) (device.images_since_of c.args.device 0))
    (search rules) (search rules) (λ b now. inl now) (λ b now. inr now)

pub returns-clause-time : goal.returns-clause-time
returns-clause-time c told =
    goes_next c.args.self.now _ c.args.device
    (LeftInTurn (images_of c.args.self.now) (device.images_since_of c.args.device 0))
    (search rules) (search rules) (λ b now. inl now) (λ b now. inr now)

pub returns-then-next_fails-clause-grows : goal.returns-then-next_fails-clause-grows
returns-then-next_fails-clause-grows c =
    let m = c.args.self.now in
    let d = c.args.device in
    let pairs : List Pair = puts_at m (next_turn m) in
    let none : pairs_coming m ≡ [] = ap (λ (b : Bool). cond b [] pairs) c.requires.held in
    let kept : (sound : IsSound (bytes_of m)) → HoldsOn (frames_of (bytes_of m))
    (device.bytes_of d) =
    λ sound. c.requires.kept tt sound (device.bytes_of d) (left_as d) in
    omega (
      arith,
      grows_given (bytes_of m) (device.bytes_of d) pairs kept,
      ap (λ (l : List Pair). ends (frames_with (bytes_of m) l)) none,
      ap (λ (f : MemStore). ends (frames_with (device.bytes_of f) pairs))
          c.replace-before.ensures.after,
    )

pub returns-clause-grows : goal.returns-clause-grows
returns-clause-grows c =
    let m = c.args.self.now in
    let d = c.args.device in
    let pairs : List Pair = puts_at m (next_turn m) in
    let none : pairs_coming m ≡ [] = ap (λ (b : Bool). cond b [] pairs) c.requires.held in
    let kept : (sound : IsSound (bytes_of m)) → HoldsOn (frames_of (bytes_of m))
    (device.bytes_of d) =
    λ sound. c.requires.kept tt sound (device.bytes_of d) (left_as d) in
    omega (
      arith,
      grows_given (bytes_of m) (device.bytes_of d) pairs kept,
      ap (λ (l : List Pair). ends (frames_with (bytes_of m) l)) none,
      ap (λ (f : MemStore). ends (frames_with (device.bytes_of f) pairs))
          c.replace-before.ensures.after,
    )

pub returns-then-next_fails-clause-cause : goal.returns-then-next_fails-clause-cause
returns-then-next_fails-clause-cause c =
    counts_failed c.args.self.now c.args.device c.push.new.self.items c.replace-before.new.dest
    c.next_fails.new.faults (search rules) (search rules)
    (c.next_fails.ensures.fails c.if-next_fails.true) c.next_fails.ensures.later

pub returns-clause-cause : goal.returns-clause-cause
returns-clause-cause c =
    counts_given c.args.self.now c.args.device c.push.new.self.items c.replace-before.new.dest
    c.next_fails.new.faults (search rules) (search rules) tt
    (c.next_fails.ensures.passes c.if-next_fails.false)
