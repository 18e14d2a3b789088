use Rattle.std.proofs.Common.{rules, ◌≡◌, ◌∙◌, ◌++◌, ◌∷◌, [], List, ℕ, length, refl, sym, ap, subst, arith}
use Rattle.std.proofs.lemmas.Grind.{common_steps}
use Rattle.store_dev.specs.declared.step.Step.TheVariants.{Wrote}
use Rattle.store_dev.specs.Device.{Torn, put_at}
use Rattle.store_dev.specs.Memory.{origin, synced}
use Rattle.store_dev.proofs.Crashed.{synced_write}
use Rattle.store_dev.proofs.Pushed.{IsMore, origin_push, reads_more, images_more, elapses_more}
use Rattle.store_dev.proofs.memory.MemStoreStoreDevice.write_at.Goals as goal

pub invariant_of-self-2 : goal.invariant_of-self-2
invariant_of-self-2 c =
    let m = c.args.self.now in
    let w = c.in_ok-copy.copy in
    let start = origin m.bytes.items m.first.items m.steps.items in
    let pushed : c.push.new.self.items ≡ c.make_room.new.steps.items ++ Wrote c.args.at w ∷ [] = grind (arith, common_steps) in
    let is : c.push.new.self.items ≡ m.steps.items ++ Wrote c.args.at w ∷ [] = pushed ∙ ap (λ l. l ++ Wrote c.args.at w ∷ []) c.in_ok-make_room.ensures.steps in
    let begun : c.make_room.new.first.items ≡ start = c.in_ok-make_room.ensures.begun ∙ ap (λ (b : List ℕ). origin b m.first.items m.steps.items) c.deref-2.ensures.value in
    let same : origin c.overwrite.new.to.items c.make_room.new.first.items c.push.new.self.items ≡ start = ap (origin c.overwrite.new.to.items c.make_room.new.first.items) is ∙ origin_push c.overwrite.new.to.items c.make_room.new.first.items m.steps.items (Wrote c.args.at w) ∙ begun in
    let more : IsMore start m.steps.items (Wrote c.args.at w) (origin c.overwrite.new.to.items c.make_room.new.first.items c.push.new.self.items) c.push.new.self.items = record { same = same; more = is } in
    record {
      fits = c.in_ok-overwrite.ensures.fits;
      few = c.in_ok-overwrite.ensures.few;
      replayed = c.in_ok-overwrite.ensures.put ∙ (λ i. put_at (m.replayed i) c.args.at (sym c.in_ok-copy.ensures.items i)) ∙ sym (reads_more start m.steps.items (Wrote c.args.at w) _ _ more);
      last_sync = m.last_sync ∙ sym (ap synced is ∙ synced_write m.steps.items (Wrote c.args.at w) refl);
      room = λ less. search rules;
    }

pub returns-clause-images : goal.returns-clause-images
returns-clause-images c d left =
    let m = c.args.self.now in
    let w = c.in_ok-copy.copy in
    let start = origin m.bytes.items m.first.items m.steps.items in
    let is : c.push.new.self.items ≡ m.steps.items ++ Wrote c.args.at w ∷ [] = c.in_ok-push.ensures.items ∙ ap (λ l. l ++ Wrote c.args.at w ∷ []) c.in_ok-make_room.ensures.steps in
    let begun : c.make_room.new.first.items ≡ start = c.in_ok-make_room.ensures.begun ∙ ap (λ (b : List ℕ). origin b m.first.items m.steps.items) c.deref-2.ensures.value in
    let same : origin c.overwrite.new.to.items c.make_room.new.first.items c.push.new.self.items ≡ start = ap (origin c.overwrite.new.to.items c.make_room.new.first.items) is ∙ origin_push c.overwrite.new.to.items c.make_room.new.first.items m.steps.items (Wrote c.args.at w) ∙ begun in
    let more : IsMore start m.steps.items (Wrote c.args.at w) (origin c.overwrite.new.to.items c.make_room.new.first.items c.push.new.self.items) c.push.new.self.items = record { same = same; more = is } in
    let found = images_more start m.steps.items (Wrote c.args.at w) _ _ more d left in
    (found.0, found.1, subst (λ (x : List ℕ). Torn c.args.at (length x) found.0 d) c.in_ok-copy.ensures.items found.2)

pub returns-clause-time : goal.returns-clause-time
returns-clause-time c =
    let m = c.args.self.now in
    let w = c.in_ok-copy.copy in
    let start = origin m.bytes.items m.first.items m.steps.items in
    let is : c.push.new.self.items ≡ m.steps.items ++ Wrote c.args.at w ∷ [] = c.in_ok-push.ensures.items ∙ ap (λ l. l ++ Wrote c.args.at w ∷ []) c.in_ok-make_room.ensures.steps in
    let begun : c.make_room.new.first.items ≡ start = c.in_ok-make_room.ensures.begun ∙ ap (λ (b : List ℕ). origin b m.first.items m.steps.items) c.deref-2.ensures.value in
    let same : origin c.overwrite.new.to.items c.make_room.new.first.items c.push.new.self.items ≡ start = ap (origin c.overwrite.new.to.items c.make_room.new.first.items) is ∙ origin_push c.overwrite.new.to.items c.make_room.new.first.items m.steps.items (Wrote c.args.at w) ∙ begun in
    let more : IsMore start m.steps.items (Wrote c.args.at w) (origin c.overwrite.new.to.items c.make_room.new.first.items c.push.new.self.items) c.push.new.self.items = record { same = same; more = is } in
    elapses_more start m.steps.items (Wrote c.args.at w) _ _ more
