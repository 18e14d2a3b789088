use Rattle.std.proofs.Common.{rules, ◌≡◌, inl, refl, sym, ◌∙◌, ap, subst, arith, Bool, cond, List}
use Rattle.std.proofs.Common.{[], ◌∷◌, ◌++◌, length, get_or}
use Rattle.store_dev.specs.declared.memory.MemStore.{MemStore}
use Rattle.store_dev.specs.MemStore as device
use Rattle.record_log.specs.Kinds.{Entry}
use Rattle.record_log.specs.Frames.{ends}
use Rattle.shared_runs.specs.declared.others.OtherPut.{OtherPut}
use Rattle.shared_runs.specs.Frames.{HoldsOneOrMore}
use Rattle.shared_runs.specs.MemShared.{images_of, bytes_of, coming_of, devices_of, puts_at}
use Rattle.shared_runs.specs.MemShared.{next_turn}
use Rattle.shared_runs.specs.MemLaws.{reads_as_image}
use Rattle.shared_runs.specs.History.{LeftSince}
use Rattle.shared_runs.specs.Others.{pairs_of, frames_with}
use Rattle.shared_runs.proofs.MemTurns.{goes_none, goes_next, counts_taken, grows_taken, one_is}
use Rattle.shared_runs.proofs.MemTurns.{fresh_images, reads_as, left_as}
use Rattle.shared_runs.proofs.memory.MemSharedShared.take.Goals as goal

pub returns-then-next_fails-clause-time : goal.returns-then-next_fails-clause-time
returns-then-next_fails-clause-time c told =
    let m = c.args.self.now in
    goes_none m _ (HoldsOneOrMore (images_of m) (bytes_of m) (coming_of m)) refl (λ n b left. left)
    (λ n b left. left)
    (λ b now. inl (b, now, refl))

pub returns-in-Err-Failed-clause-time : goal.returns-in-Err-Failed-clause-time
returns-in-Err-Failed-clause-time c told =
    let m = c.args.self.now in
    goes_none m _ (HoldsOneOrMore (images_of m) (bytes_of m) (coming_of m)) refl (λ n b left. left)
    (λ n b left. left)
    (λ b now. inl (b, now, refl))

pub returns-in-Err-OutOfMemory-clause-time : goal.returns-in-Err-OutOfMemory-clause-time
returns-in-Err-OutOfMemory-clause-time c told =
    let m = c.args.self.now in
    goes_none m _ (HoldsOneOrMore (images_of m) (bytes_of m) (coming_of m)) refl (λ n b left. left)
    (λ n b left. left)
    (λ b now. inl (b, now, refl))

pub returns-in_err-reserve-clause-time : goal.returns-in_err-reserve-clause-time
returns-in_err-reserve-clause-time c told =
    let m = c.args.self.now in
    let items = c.reserve.ensures.items in
    let are : c.reserve.new.self.items ++ m.file ∷ [] ≡ devices_of m =
    ap (λ (l : List MemStore). l ++ m.file ∷ []) items in
    goes_none m _ (HoldsOneOrMore (images_of m) (bytes_of m) (coming_of m)) (ap length items)
    (λ n b left. subst (λ (l : List MemStore). LeftSince l n b) are left)
    (λ n b left. subst (λ (l : List MemStore). LeftSince l n b) (sym are) left)
    (λ b now. inl (b, now, refl))

pub returns-clause-time : goal.returns-clause-time
returns-clause-time c told =
    let m = c.args.self.now in
    let before = bytes_of m in
    let came : List OtherPut = c.puts_at-puts.result.now in
    let coming : frames_with before (pairs_of came) ≡ coming_of m =
    ap (λ (l : List OtherPut). frames_with before (pairs_of l))
    (c.puts_at-puts.ensures ∙ ap (λ (l : List (List OtherPut)). get_or l m.turns [])
    c.deref-2.ensures.value)
    ∙ sym (ap (λ (b : Bool). frames_with before (cond b [] (puts_at m (next_turn m))))
    c.requires) in
    goes_next m _ c.in-Ok.both.0 (HoldsOneOrMore (images_of m) before (coming_of m)) (search rules)
    (search rules)
    (λ b now. inl (b, now, refl))
    (λ b left. one_is (images_of m) before (reads_as_image m) (coming_of m) b
    (subst (λ (l : List Entry). HoldsOneOrMore (λ x. x ≡ before) before l b) coming
    (c.in-Ok.ensures.file.left b left)))

pub returns-clause-file : goal.returns-clause-file
returns-clause-file c told =
    let m = c.args.self.now in
    let before = bytes_of m in
    let came : List OtherPut = c.puts_at-puts.result.now in
    let coming : frames_with before (pairs_of came) ≡ coming_of m =
    ap (λ (l : List OtherPut). frames_with before (pairs_of l))
    (c.puts_at-puts.ensures ∙ ap (λ (l : List (List OtherPut)). get_or l m.turns [])
    c.deref-2.ensures.value)
    ∙ sym (ap (λ (b : Bool). frames_with before (cond b [] (puts_at m (next_turn m))))
    c.requires) in
    let here : HoldsOneOrMore (λ x. x ≡ before) before (frames_with before (pairs_of came))
    (device.bytes_of c.in-Ok.both.0) =
    c.in-Ok.ensures.file.left (device.bytes_of c.in-Ok.both.0) (left_as c.in-Ok.both.0) in
    subst (λ (d : MemStore). HoldsOneOrMore (λ x. x ≡ before) before (coming_of m)
    (device.bytes_of d))
    (sym c.replace-before.ensures.after)
    (subst (λ (l : List Entry). HoldsOneOrMore (λ x. x ≡ before) before l
    (device.bytes_of c.in-Ok.both.0)) coming here)

pub returns-clause-device : goal.returns-clause-device
returns-clause-device c told =
    let file = c.in-Ok.both.0 in
    let d = c.in-Ok.both.1 in
    let fresh = c.in-Ok.ensures.device in
    let after = c.replace-before.ensures.after in
    record {
      same = fresh.bytes_are ∙ ap device.bytes_of (sym after);
      fewer = λ b now. subst (λ (f : MemStore). device.images_of f b) (sym after)
          (subst (device.images_of file) (sym (fresh_images (device.bytes_of file) d fresh b now))
          (reads_as file));
    }

pub returns-clause-grows : goal.returns-clause-grows
returns-clause-grows c =
    let m = c.args.self.now in
    let before = bytes_of m in
    let came : List OtherPut = c.puts_at-puts.result.now in
    let coming : frames_with before (pairs_of came) ≡ coming_of m =
    ap (λ (l : List OtherPut). frames_with before (pairs_of l))
    (c.puts_at-puts.ensures ∙ ap (λ (l : List (List OtherPut)). get_or l m.turns [])
    c.deref-2.ensures.value)
    ∙ sym (ap (λ (b : Bool). frames_with before (cond b [] (puts_at m (next_turn m))))
    c.requires) in
    let file = c.in-Ok.both.0 in
    omega (
      arith,
      grows_taken before (pairs_of came) (device.bytes_of file) c.in-Ok.ensures.file.taken.frames,
      ap ends coming,
      ap (λ (f : MemStore). ends (frames_with (device.bytes_of f) []))
          c.replace-before.ensures.after,
    )

pub returns-clause-cause : goal.returns-clause-cause
returns-clause-cause c =
    counts_taken c.args.self.now c.in-Ok.both.0 c.push.new.self.items c.replace-before.new.dest
    c.next_fails.new.faults (search rules) (search rules) c.in-Ok.both.1
    (c.next_fails.ensures.passes c.if-next_fails.false) c.in-Ok.ensures.file.faults
