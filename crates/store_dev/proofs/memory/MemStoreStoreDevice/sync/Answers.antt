use Rattle.std.proofs.Common.{rules, ◌≡◌, ◌∙◌, ◌∷◌, [], length-append, List, ℕ, length, refl, inl, inr, ⊎_elim, sym, ap, subst, arith}
use Rattle.store_dev.specs.declared.step.Step.TheVariants.{Synced}
use Rattle.store_dev.specs.Memory.{origin, synced, ImagesFrom}
use Rattle.store_dev.specs.Record.{reads_as_one}
use Rattle.store_dev.proofs.Crashed.{synced_sync, only_settled, synced_le}
use Rattle.store_dev.proofs.Pushed.{IsMore, origin_some, origin_push, reads_more, images_more, elapses_more}
use Rattle.store_dev.proofs.memory.MemStoreStoreDevice.sync.Goals as goal

pub invariant_of-self-then-self-len : goal.invariant_of-self-then-self-len
invariant_of-self-then-self-len c =
    let m = c.args.self.now in
    let start = origin m.bytes.items m.first.items m.steps.items in
    let is = c.in_ok-push.ensures.items in
    let same : origin m.bytes.items m.first.items c.push.new.self.items ≡ start = ap (origin m.bytes.items m.first.items) is ∙ origin_push m.bytes.items m.first.items m.steps.items Synced ∙ sym (origin_some m.bytes.items m.first.items m.steps.items (omega arith)) in
    let count : c.len-self.result ≡ length c.push.new.self.items = search rules in
    record {
      fits = m.fits;
      few = m.few;
      replayed = m.replayed ∙ sym (reads_more start m.steps.items Synced _ _ (record { same = same; more = is }));
      last_sync = omega (arith, ap length is, length-append m.steps.items (Synced ∷ []), ap synced is, synced_sync m.steps.items);
      room = λ less. absurd (omega arith);
    }

pub returns-in_ok-push-clause-durable : goal.returns-in_ok-push-clause-durable
returns-in_ok-push-clause-durable c d left =
    let m = c.args.self.now in
    let start = origin m.bytes.items m.first.items m.steps.items in
    let is = c.in_ok-push.ensures.items in
    let same : origin m.bytes.items m.first.items c.push.new.self.items ≡ start = ap (origin m.bytes.items m.first.items) is ∙ origin_push m.bytes.items m.first.items m.steps.items Synced ∙ sym (origin_some m.bytes.items m.first.items m.steps.items (omega arith)) in
    images_more start m.steps.items Synced _ _ (record { same = same; more = is }) d left ∙ sym m.replayed

pub returns-in_ok-push-clause-reads : goal.returns-in_ok-push-clause-reads
returns-in_ok-push-clause-reads c =
    let m = c.args.self.now in
    let start = origin m.bytes.items m.first.items m.steps.items in
    let is = c.in_ok-push.ensures.items in
    let same : origin m.bytes.items m.first.items c.push.new.self.items ≡ start = ap (origin m.bytes.items m.first.items) is ∙ origin_push m.bytes.items m.first.items m.steps.items Synced ∙ sym (origin_some m.bytes.items m.first.items m.steps.items (omega arith)) in
    let more : IsMore start m.steps.items Synced (origin m.bytes.items m.first.items c.push.new.self.items) c.push.new.self.items = record { same = same; more = is } in
    let time = elapses_more start m.steps.items Synced _ _ more in
    let fewer = λ (d : List ℕ) (left : ImagesFrom (origin m.bytes.items m.first.items c.push.new.self.items) c.push.new.self.items d). subst (ImagesFrom start m.steps.items) (sym (images_more start m.steps.items Synced _ _ more d left ∙ sym m.replayed)) (reads_as_one m.bytes.items start m.steps.items m.replayed) in
    record {
      same = refl;
      fewer = fewer;
      time = record {
        later = time.later;
        nothing_else = λ t d le left. ⊎_elim (λ was. inl was) (λ now. inr (fewer d now)) (time.nothing_else t d le left);
        keeps = time.keeps;
      };
    }

pub returns-else-self-len-clause-durable : goal.returns-else-self-len-clause-durable
returns-else-self-len-clause-durable c d left =
    let m = c.args.self.now in
    let start = origin m.bytes.items m.first.items m.steps.items in
    only_settled start m.steps.items d (omega (arith, m.last_sync, synced_le m.steps.items)) left ∙ sym m.replayed
