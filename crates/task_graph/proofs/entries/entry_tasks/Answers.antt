use Rattle.std.proofs.Common.{◌≡◌, ◌∙◌, ◌++◌, ◌∷◌, ◌+◌, ℕ, Bool, true, false, not, List, drop, refl, sym, ap, subst, append_assoc, Result, Ok, Err}
use Rattle.std.specs.Bool.{OnTrue}
use Rattle.task_definitions.specs.Setup.{Setup}
use Rattle.turbo_config.specs.declared.task_id.TaskId.{TaskId}
use Rattle.workspaces.specs.Space.{Space}
use Rattle.task_graph.specs.declared.error.GraphErr.{GraphErr}
use Rattle.task_graph.specs.Entries.{chosen, tasks_by, word_tasks, is_unknown, and_more, entry_tasks}
use Rattle.task_graph.proofs.Loops.{turn}
use Rattle.task_graph.proofs.entries.entry_tasks.Goals as goal

-- one more word, that names these tasks
word_more : (space : Space) (config : Setup) (selected : List ℕ) (all : Bool) (word : List ℕ) (words : List (List ℕ)) (old new : List TaskId)
    → is_unknown space config word ≡ false → new ≡ old ++ tasks_by space config (chosen space selected all) word
    → and_more new (entry_tasks space config selected all words) ≡ and_more old (entry_tasks space config selected all (word ∷ words))
unfolding word_tasks
word_more space config selected all word words old new known added = rw (known, added) (by (entry_tasks space config selected all words)) where
  by : (r : Result (List TaskId) GraphErr) → and_more (old ++ tasks_by space config (chosen space selected all) word) r ≡ and_more old (and_more (tasks_by space config (chosen space selected all) word) r)
  by (Ok more) = ap Ok (append_assoc old (tasks_by space config (chosen space selected all) word) more)
  by (Err fault) = refl

unknown_not : (t : Bool) → not t ≡ true → t ≡ false
unknown_not true e = sym e
unknown_not false e = refl

pub loop-word-preserved : goal.loop-word-preserved
loop-word-preserved c =
    let space = c.args.packages.now in
    let config = c.args.config.now in
    let selected = c.args.selected.now in
    let all = c.args.all in
    let words = c.args.words.now in
    let i = c.loop-word.word-index in
    let word = c.word-item.result in
    let next : drop i words ≡ word ∷ drop (i + 1) words = subst (λ ws. drop i ws ≡ word ∷ drop (i + 1) ws) c.as_slice-word-items.ensures (turn c.as_slice-word-items.result.now i word (c.loop-word-test.true, c.word-item.is)) in
    let found : c.in_ok-add_word.field-0 ≡ true = c.if-not-branch.false in
    let known : is_unknown space config word ≡ false = unknown_not (is_unknown space config word) (sym c.in_ok-add_word.ensures.known ∙ found) in
    let places : c.as_slice-in-loop-word.result.now ≡ chosen space selected all = c.as_slice-in-loop-word.ensures ∙ c.in_ok-places.ensures in
    let told = subst (λ t. OnTrue t (c.add_word.new.tasks.items ≡ c.loop-word.tasks.items ++ tasks_by space config c.as_slice-in-loop-word.result.now word)) found c.in_ok-add_word.ensures.added in
    let added : c.add_word.new.tasks.items ≡ c.loop-word.tasks.items ++ tasks_by space config (chosen space selected all) word = told ∙ ap (λ ps. c.loop-word.tasks.items ++ tasks_by space config ps word) places in
    word_more space config selected all word (drop (i + 1) words) c.loop-word.tasks.items c.add_word.new.tasks.items known added
    ∙ (ap (λ ws. and_more c.loop-word.tasks.items (entry_tasks space config selected all ws)) (sym next) ∙ c.loop-word.invariant)
