use Rattle.std.proofs.Common.{◌≡◌, ap, ◌∙◌, ◌++◌, ◌∷◌, [], cond, sym, append-nil, List, ℕ, map, get_or, codes}
use Rattle.serde_json.specs.Find.{get}
use Rattle.serde_json.specs.View.{view}
use Rattle.lock_entries.specs.declared.entry.Entry.{Entry}
use Rattle.npm_lock.specs.Externals.{entry_text, texts_in}
use Rattle.npm_lock.proofs.Locating.{map_at}
use Rattle.npm_lock.proofs.MembersOf.{member_turn}
use Rattle.npm_lock.proofs.lock.Lock.members.Goals as goal
use Rattle.npm_lock.proofs.lock.Lock.members.Goals.{then-set-i+in_ok-copy+in_ok-copy-2+in_ok-push, else-set-i}

pub loop-i-preserved : goal.loop-i-preserved
loop-i-preserved c =
    let d = view c.args.self.now in
    let es = c.entries-entries.result.now in
    let e = c.index-entries-i.result in
    let text : Entry → List ℕ = λ x. entry_text d x.location in
    let f : Entry → List ℕ × List ℕ = λ x. (x.location, text x) in
    let done = c.loop-i.pairs in
    let texts : c.texts-texts.result.now ≡ map text es = c.texts-texts.ensures ∙ ap (texts_in (get (codes "packages") d)) (sym c.entries-entries.ensures.value) in
    member_turn es c.entries-entries.ensures.ascend c.args.set.now c.loop-i.i e (c.loop-i-test.true, c.index-entries-i.is) f done c.if-set-i.pairs _
    (elim c.if-set-i.branch [
      | then-set-i+in_ok-copy+in_ok-copy-2+in_ok-push w ↦
          let copied : w.in_ok-copy-2.field-0 ≡ text e = w.in_ok-copy-2.ensures.value ∙ w.index-texts-i.is ∙ ap (λ ts. get_or ts c.loop-i.i w.index-texts-i.result) texts
          ∙ map_at text es c.loop-i.i e w.index-texts-i.result c.loop-i-test.true c.index-entries-i.is in
          w.pairs-is ∙ w.in_ok-push.ensures.pushed ∙ ap (λ l. done ++ (l, w.in_ok-copy-2.field-0) ∷ []) w.in_ok-copy.ensures.value
          ∙ ap (λ t. done ++ (e.location, t) ∷ []) copied ∙ ap (λ b. done ++ cond b (f e ∷ []) []) (sym w.if-set-i.true)
      | else-set-i w ↦ w.pairs-is ∙ sym (append-nil done) ∙ ap (λ b. done ++ cond b (f e ∷ []) []) (sym w.if-set-i.false)
    ])
    c.loop-i.invariant
